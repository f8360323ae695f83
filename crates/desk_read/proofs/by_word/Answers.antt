use mathlib.Core.Path.{refl}
use Rattle.std.proofs.lemmas.Result.{err_from_is_err_and}
use Rattle.text.specs.Bytes.{bytes}
use Rattle.desk_read.proofs.ReadLaws.{unless-no, tested, early-word, exact_word, now-word, drive-word, why-word, other_word}
use Rattle.desk_read.proofs.by_word.Goals as goal

pub returns-in_err-read_word : goal.returns-in_err-read_word
returns-in_err-read_word c =
    let line = c.args.line.now in
    let p = err_from_is_err_and c.from_residual.result c.from_residual.ensures.1 in
    rw (p.1, p.2)
    (early-word _ line (tested line (bytes "early") c.field-word.ensures c.same.ensures c.if-same.true)
    c.in_err-read_word.ensures (unless-no _ _ _))

pub returns-then-same : goal.returns-then-same
returns-then-same c =
    let line = c.args.line.now in
    early-word _ line (tested line (bytes "early") c.field-word.ensures c.same.ensures c.if-same.true)
    c.in_ok-read_word.ensures refl

pub returns-in_err-read_word-2 : goal.returns-in_err-read_word-2
returns-in_err-read_word-2 c =
    let line = c.args.line.now in
    let p = err_from_is_err_and c.from_residual-in_err-read_word-2.result c.from_residual-in_err-read_word-2.ensures.1 in
    rw (p.1, p.2)
    (exact_word _ line (tested line (bytes "early") c.field-word.ensures c.same.ensures c.if-same.false) (tested line (bytes "exact") c.field-word.ensures c.same-2.ensures c.if-same-2.true)
    c.in_err-read_word-2.ensures (unless-no _ _ _))

pub returns-then-same-2 : goal.returns-then-same-2
returns-then-same-2 c =
    let line = c.args.line.now in
    exact_word _ line (tested line (bytes "early") c.field-word.ensures c.same.ensures c.if-same.false) (tested line (bytes "exact") c.field-word.ensures c.same-2.ensures c.if-same-2.true)
    c.in_ok-read_word-2.ensures refl

pub returns-in_err-read_word-3 : goal.returns-in_err-read_word-3
returns-in_err-read_word-3 c =
    let line = c.args.line.now in
    let p = err_from_is_err_and c.from_residual-in_err-read_word-3.result c.from_residual-in_err-read_word-3.ensures.1 in
    rw (p.1, p.2)
    (now-word _ line (tested line (bytes "early") c.field-word.ensures c.same.ensures c.if-same.false) (tested line (bytes "exact") c.field-word.ensures c.same-2.ensures c.if-same-2.false) (tested line (bytes "now") c.field-word.ensures c.same-3.ensures c.if-same-3.true)
    c.in_err-read_word-3.ensures (unless-no _ _ _))

pub returns-then-same-3 : goal.returns-then-same-3
returns-then-same-3 c =
    let line = c.args.line.now in
    now-word _ line (tested line (bytes "early") c.field-word.ensures c.same.ensures c.if-same.false) (tested line (bytes "exact") c.field-word.ensures c.same-2.ensures c.if-same-2.false) (tested line (bytes "now") c.field-word.ensures c.same-3.ensures c.if-same-3.true)
    c.in_ok-read_word-3.ensures refl

pub returns-in_err-drive : goal.returns-in_err-drive
returns-in_err-drive c =
    let line = c.args.line.now in
    let p = err_from_is_err_and c.from_residual-in_err-drive.result c.from_residual-in_err-drive.ensures.1 in
    rw (p.1, p.2)
    (drive-word _ line (tested line (bytes "early") c.field-word.ensures c.same.ensures c.if-same.false) (tested line (bytes "exact") c.field-word.ensures c.same-2.ensures c.if-same-2.false) (tested line (bytes "now") c.field-word.ensures c.same-3.ensures c.if-same-3.false) (tested line (bytes "drive") c.field-word.ensures c.same-4.ensures c.if-same-4.true)
    c.in_err-drive.ensures.fault (unless-no _ _ _))

pub returns-then-same-4 : goal.returns-then-same-4
returns-then-same-4 c =
    let line = c.args.line.now in
    drive-word _ line (tested line (bytes "early") c.field-word.ensures c.same.ensures c.if-same.false) (tested line (bytes "exact") c.field-word.ensures c.same-2.ensures c.if-same-2.false) (tested line (bytes "now") c.field-word.ensures c.same-3.ensures c.if-same-3.false) (tested line (bytes "drive") c.field-word.ensures c.same-4.ensures c.if-same-4.true)
    c.in_ok-drive.ensures.fault (rw c.in_ok-drive.ensures.number)

pub returns-in_err-task : goal.returns-in_err-task
returns-in_err-task c =
    let line = c.args.line.now in
    let p = err_from_is_err_and c.from_residual-in_err-task.result c.from_residual-in_err-task.ensures.1 in
    rw (p.1, p.2)
    (why-word _ line (tested line (bytes "early") c.field-word.ensures c.same.ensures c.if-same.false) (tested line (bytes "exact") c.field-word.ensures c.same-2.ensures c.if-same-2.false) (tested line (bytes "now") c.field-word.ensures c.same-3.ensures c.if-same-3.false) (tested line (bytes "drive") c.field-word.ensures c.same-4.ensures c.if-same-4.false) (tested line (bytes "why") c.field-word.ensures c.same-5.ensures c.if-same-5.true)
    c.in_err-task.ensures.fault (unless-no _ _ _))

pub returns-then-same-5 : goal.returns-then-same-5
returns-then-same-5 c =
    let line = c.args.line.now in
    why-word _ line (tested line (bytes "early") c.field-word.ensures c.same.ensures c.if-same.false) (tested line (bytes "exact") c.field-word.ensures c.same-2.ensures c.if-same-2.false) (tested line (bytes "now") c.field-word.ensures c.same-3.ensures c.if-same-3.false) (tested line (bytes "drive") c.field-word.ensures c.same-4.ensures c.if-same-4.false) (tested line (bytes "why") c.field-word.ensures c.same-5.ensures c.if-same-5.true)
    c.in_ok-task.ensures.fault (rw c.in_ok-task.ensures.number)

pub returns-in_err-entry : goal.returns-in_err-entry
returns-in_err-entry c =
    let line = c.args.line.now in
    let p = err_from_is_err_and c.from_residual-in_err-entry.result c.from_residual-in_err-entry.ensures.1 in
    rw (p.1, p.2)
    (other_word _ line (tested line (bytes "early") c.field-word.ensures c.same.ensures c.if-same.false) (tested line (bytes "exact") c.field-word.ensures c.same-2.ensures c.if-same-2.false) (tested line (bytes "now") c.field-word.ensures c.same-3.ensures c.if-same-3.false) (tested line (bytes "drive") c.field-word.ensures c.same-4.ensures c.if-same-4.false) (tested line (bytes "why") c.field-word.ensures c.same-5.ensures c.if-same-5.false)
    c.in_err-entry.ensures refl)

pub returns : goal.returns
returns c =
    let line = c.args.line.now in
    other_word _ line (tested line (bytes "early") c.field-word.ensures c.same.ensures c.if-same.false) (tested line (bytes "exact") c.field-word.ensures c.same-2.ensures c.if-same-2.false) (tested line (bytes "now") c.field-word.ensures c.same-3.ensures c.if-same-3.false) (tested line (bytes "drive") c.field-word.ensures c.same-4.ensures c.if-same-4.false) (tested line (bytes "why") c.field-word.ensures c.same-5.ensures c.if-same-5.false)
    c.in_ok-entry.ensures refl
