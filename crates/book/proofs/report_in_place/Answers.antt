use Prim.Native.Nat.{◌-◌}
use mathlib.Core.Path.{refl, sym}
use Rattle.plan.proofs.RefusalLaws.{has-number}
use Rattle.book.proofs.ReportLaws.{reported-refused, reported-granted, granted-task, granted-place, granted-accepts, granted-facts, its-sound}
use Rattle.book.proofs.Fits.{fit-ended}
use Rattle.book.proofs.LaidOut.{next-laid}
use Rattle.book.proofs.WaitLaws.{its-code, its-sets, good_of, fit-seen, settled-seen}
use borrow.Author.Rules.{rules}
use Rattle.book.proofs.report_in_place.Goals as goal

pub overflow_sub-k : goal.overflow_sub-k
overflow_sub-k c =
    let a = c.args in
    let code = its-code c.view.result c.view.ensures a.task a.tick c.in-Ok.ensures.code refl in
    granted-task a.book.now a.task a.tick code refl

pub ended_at-ended-requires : goal.ended_at-ended-requires
ended_at-ended-requires c =
    let a = c.args in
    let code = its-code c.view.result c.view.ensures a.task a.tick c.in-Ok.ensures.code refl in
    granted-place a.book.now a.task a.tick code refl

pub settle-next-requires : goal.settle-next-requires
settle-next-requires c =
    let a = c.args in
    let code = its-code c.view.result c.view.ensures a.task a.tick c.in-Ok.ensures.code refl in
    fit-seen a.book.now (good_of a.book.now (its-sound a.book.now a.task a.tick code refl))
    (its-sets c.view.result c.view.ensures c.in-Ok.ensures.sets) _
    (fit-ended a.book.now (a.task - 1) a.tick (search rules) (search rules) (granted-place a.book.now a.task a.tick code refl)
    c.ended_at-ended.ensures (granted-facts a.book.now a.task a.tick code refl) (granted-accepts a.book.now a.task a.tick code refl))

pub returns-in-Err : goal.returns-in-Err
returns-in-Err c =
    let a = c.args in
    let code = its-code c.view.result c.view.ensures a.task a.tick c.in-Err.ensures.code (sym c.number.ensures) in
    sym (reported-refused a.book.now a.task a.tick code c.answer_of.ensures (has-number c.in-Err.refusal c.number.ensures) refl)

pub returns-in-Ok : goal.returns-in-Ok
returns-in-Ok c =
    let a = c.args in
    let code = its-code c.view.result c.view.ensures a.task a.tick c.in-Ok.ensures.code refl in
    let known = good_of a.book.now (its-sound a.book.now a.task a.tick code refl) in
    sym (reported-granted a.book.now a.task a.tick code c.granted.ensures refl
    (next-laid a.book.now (granted-facts a.book.now a.task a.tick code refl) (search rules) (a.task - 1) a.tick
    (search rules) (search rules) (granted-place a.book.now a.task a.tick code refl)
    c.ended_at-ended.ensures (settled-seen a.book.now known (its-sets c.view.result c.view.ensures c.in-Ok.ensures.sets) _ c.settle-next.ensures)))
