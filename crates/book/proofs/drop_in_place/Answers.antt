use Prim.Native.Nat.{◌-◌}
use mathlib.Core.Path.{refl, sym}
use Rattle.plan.proofs.RefusalLaws.{has-number}
use Rattle.book.proofs.ReportLaws.{dropped-refused, dropped-granted, dropped-task, dropped-place, dropped-known, dropped-facts}
use Rattle.book.proofs.LaidOut.{dropped-laid}
use Rattle.book.proofs.WaitLaws.{drop-judged}
use borrow.Author.Rules.{rules}
use Rattle.book.proofs.drop_in_place.Goals as goal

pub overflow_sub-k : goal.overflow_sub-k
overflow_sub-k c =
    let a = c.args in
    let code = drop-judged c.view.result c.view.ensures a.task c.in-Ok.ensures refl in
    dropped-task a.book.now a.task code refl

pub bounds-book-k : goal.bounds-book-k
bounds-book-k c =
    let a = c.args in
    let code = drop-judged c.view.result c.view.ensures a.task c.in-Ok.ensures refl in
    dropped-place a.book.now a.task code refl

pub returns-in-Err : goal.returns-in-Err
returns-in-Err c =
    let a = c.args in
    let code = drop-judged c.view.result c.view.ensures a.task c.in-Err.ensures (sym c.number.ensures) in
    sym (dropped-refused a.book.now a.task code c.answer_of.ensures (has-number c.in-Err.refusal c.number.ensures) refl)

pub returns-in-Ok : goal.returns-in-Ok
returns-in-Ok c =
    let a = c.args in
    let code = drop-judged c.view.result c.view.ensures a.task c.in-Ok.ensures refl in
    sym (dropped-granted a.book.now a.task code c.granted.ensures refl
    (dropped-laid a.book.now (dropped-facts a.book.now a.task code refl) (search rules) (a.task - 1) (search rules)
    (search rules) (search rules) (dropped-known a.book.now a.task code refl)))
