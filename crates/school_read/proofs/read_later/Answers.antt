use mathlib.Core.Path.{refl, sym, ◌∙◌}
use native.Mathlib.Omega.{arith}
use borrow.Author.Tests.{eqb-true, eqb-false}
use lib.Seq.{length-take-le}
use Rattle.std.proofs.Common.{rules}
use Rattle.text.proofs.Parts.{found-le}
use Rattle.school_read.proofs.WalkLaws.{rest-less, line-placed, walk_start, walk_room, walk-unended, walk_end, walk-stops, walk-on}
use Rattle.school_read.proofs.NoteLaws.{begun_of}
use Rattle.school_read.proofs.read_later.Goals as goal

pub loop-rest-init : goal.loop-rest-init
loop-rest-init c = walk_start _ _ _ (begun_of c.none.ensures c.none-2.ensures) (search rules)

pub overflow_add-lines : goal.overflow_add-lines
overflow_add-lines c = record { fits = walk_room c.loop-rest.invariant }

pub returns-then-end-rest : goal.returns-then-end-rest
returns-then-end-rest c = walk-unended c.loop-rest.invariant (omega (arith, eqb-false _ 0 (sym c.is_empty.ensures ∙ c.loop-rest-test.true))) c.find-end.ensures c.if-end-rest.true

pub slice_bounds-said-end : goal.slice_bounds-said-end
slice_bounds-said-end c = sym (length-take-le _ _ (found-le _ _ c.find-end.ensures))

pub returns-in_default : goal.returns-in_default
returns-in_default c = walk-stops c.loop-rest.invariant c.find-end.ensures c.if-end-rest.false c.in_default.ensures refl

pub note-requires : goal.note-requires
note-requires c = line-placed _ _ _ c.in-Some.line c.requires c.in-Some.ensures

pub loop-rest-smaller : goal.loop-rest-smaller
loop-rest-smaller c = rest-less _ c.find-end.ensures c.if-end-rest.false c.past-rest.ensures

pub loop-rest-preserved : goal.loop-rest-preserved
loop-rest-preserved c =
    walk-on c.loop-rest.invariant c.find-end.ensures c.if-end-rest.false c.in-Some.line c.in-Some.ensures c.note.ensures c.past-rest.ensures

pub returns : goal.returns
returns c = walk_end c.loop-rest.invariant (omega (arith, eqb-true _ 0 (sym c.is_empty.ensures ∙ c.loop-rest-test.false)))
