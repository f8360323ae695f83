use native.Mathlib.Omega.{arith}
use mathlib.Core.Path.{sym, ◌∙◌}
use borrow.Author.Tests.{eqb-true, eqb-false}
use Rattle.log_read.proofs.TextLaws.{stops-code, goes-code}
use Rattle.log_write.proofs.WriteLaws.{wrote-length}
use Rattle.log_run.proofs.ReportLaws.{told_names}
use Rattle.log_run.proofs.EndsLaws.{walk_start, walk-short, walk_end, walk-stops, walk-less, walk-goes}
use Rattle.log_run.proofs.ends.put_ends.Goals as goal

pub loop-rest-init : goal.loop-rest-init
loop-rest-init c = rw c.untold-told.ensures (walk_start c.requires.begun c.requires.sized)

pub put_told-place-requires : goal.put_told-place-requires
put_told-place-requires c =
    let walk = c.loop-rest.invariant in
    (omega (arith, walk.kept, walk.room, c.requires.room), told_names _ _ _ c.tell_in_place.ensures)

pub returns-then-is_err : goal.returns-then-is_err
returns-then-is_err c =
    let walk = c.loop-rest.invariant in
    let n = c.next_entry-entry.ensures in
    walk-stops walk (walk-short walk c.requires.short n) (omega (arith, eqb-false _ 0 (sym c.is_empty.ensures ∙ c.loop-rest-test.true))) c.tell_in_place.ensures c.put_told-place.ensures
    (stops-code _ _ n (sym c.is_err.ensures.value ∙ c.if-is_err.true))

pub shape_of-out-then-is_err : goal.shape_of-out-then-is_err
shape_of-out-then-is_err c = wrote-length (returns-then-is_err c)

pub overflow_add-line : goal.overflow_add-line
overflow_add-line c =
    omega (arith, c.loop-rest.invariant.lines, c.requires.short, eqb-false _ 0 (sym c.is_empty.ensures ∙ c.loop-rest-test.true))

pub loop-rest-smaller : goal.loop-rest-smaller
loop-rest-smaller c =
    walk-less c.loop-rest.invariant (goes-code _ _ c.next_entry-entry.ensures (sym c.is_err.ensures.value ∙ c.if-is_err.false)) c.part_after-rest.ensures

pub loop-rest-preserved : goal.loop-rest-preserved
loop-rest-preserved c =
    let walk = c.loop-rest.invariant in
    let n = c.next_entry-entry.ensures in
    walk-goes walk (walk-short walk c.requires.short n) (omega (arith, eqb-false _ 0 (sym c.is_empty.ensures ∙ c.loop-rest-test.true))) c.tell_in_place.ensures c.put_told-place.ensures
    (goes-code _ _ n (sym c.is_err.ensures.value ∙ c.if-is_err.false)) c.part_after-rest.ensures

pub returns : goal.returns
returns c = walk_end c.loop-rest.invariant (omega (arith, eqb-true _ 0 (sym c.is_empty.ensures ∙ c.loop-rest-test.false)))

pub shape_of-out : goal.shape_of-out
shape_of-out c = wrote-length (returns c)
