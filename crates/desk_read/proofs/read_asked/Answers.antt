use mathlib.Core.Path.{refl}
use Rattle.log_read.proofs.SaidLaws.{said-unsaid, said-chosen, said-malformed}
use Rattle.desk_read.proofs.ReadLaws.{asked-long, asked-bound, asked-free}
use Rattle.desk_read.proofs.read_asked.Goals as goal

pub returns-then-line-gt-TYPED_MOST : goal.returns-then-line-gt-TYPED_MOST
returns-then-line-gt-TYPED_MOST c = asked-long _ _ c.args.line.now c.if-line-gt-TYPED_MOST.true (rw c.misspelt.ensures)

pub returns-then-not-free : goal.returns-then-not-free
returns-then-not-free c = asked-bound _ _ c.args.line.now c.if-line-gt-TYPED_MOST.false c.if-not-free.true c.by_word.ensures

pub returns-in-Ok-Unsaid : goal.returns-in-Ok-Unsaid
returns-in-Ok-Unsaid c =
    let e = said-unsaid c.in-Ok-Unsaid.is c.in-Ok-Unsaid.field-0-is in
    asked-free _ _ c.args.line.now c.if-line-gt-TYPED_MOST.false c.if-not-free.false c.read_choice.ensures c.by_word-in-Ok-Unsaid.ensures (rw e)

pub returns-in-Ok-Chosen : goal.returns-in-Ok-Chosen
returns-in-Ok-Chosen c =
    let e = said-chosen c.in-Ok-Chosen.is c.in-Ok-Chosen.field-0-is in
    asked-free _ _ c.args.line.now c.if-line-gt-TYPED_MOST.false c.if-not-free.false c.read_choice.ensures refl (rw e)

pub returns-in-Err : goal.returns-in-Err
returns-in-Err c =
    asked-free _ _ c.args.line.now c.if-line-gt-TYPED_MOST.false c.if-not-free.false c.read_choice.ensures refl (rw (said-malformed c.in-Err.is, c.misspelt-in-Err.ensures))
