use native.Mathlib.Omega.{arith}
use mathlib.Core.Path.{sym, ap, ◌∙◌}
use borrow.Author.Tests.{eqb-true, eqb-false}
use Rattle.engine_read.proofs.NoteLaws.{noted-none}
use Rattle.engine_read.proofs.SaidLaws.{entry-fine, refused-code}
use Rattle.engine_read.proofs.WalkLaws.{after_less, walk_start, walk_end, walk-short, walk-notes, walk-stops, walk-goes}
use Rattle.plan.specs.Answer.{refuse}
use Rattle.plan.specs.declared.Answer.{Answer}
use Rattle.engine_read.proofs.said_lengths.Goals as goal

pub planned-requires : goal.planned-requires
planned-requires c = c.requires.few

pub loop-rest-init : goal.loop-rest-init
loop-rest-init c = walk_start c.requires.begun (noted-none _ c.args.begin.now c.args.finish.now c.planned.ensures)

pub note-requires : goal.note-requires
note-requires c = walk-notes c.loop-rest.invariant c.requires.few c.in-Ok.ensures

pub overflow_cast-fault : goal.overflow_cast-fault
overflow_cast-fault c = record { fits = walk-short c.loop-rest.invariant c.requires.few c.in-Err.ensures c.requires.short }

pub returns-in-Err : goal.returns-in-Err
returns-in-Err c =
    walk-stops c.loop-rest.invariant c.requires.few c.in-Err.ensures (omega (arith, eqb-false _ 0 (sym c.is_empty.ensures ∙ c.loop-rest-test.true))) (refused-code _ _ _ _ c.in-Err.ensures)
    (c.refuse.ensures ∙ ap (λ n. refuse n c.loop-rest.line c.in-Err.fault.column) c.number.ensures)

pub overflow_add-line : goal.overflow_add-line
overflow_add-line c = omega (arith, c.loop-rest.invariant.lines, c.requires.short, eqb-false _ 0 (sym c.is_empty.ensures ∙ c.loop-rest-test.true))

pub loop-rest-smaller : goal.loop-rest-smaller
loop-rest-smaller c = rw c.part_after-rest.ensures (after_less c.loop-rest.rest.now (omega (arith, eqb-false _ 0 (sym c.is_empty.ensures ∙ c.loop-rest-test.true))))

pub loop-rest-preserved : goal.loop-rest-preserved
loop-rest-preserved c = walk-goes c.loop-rest.invariant c.requires.few c.in-Ok.ensures (omega (arith, eqb-false _ 0 (sym c.is_empty.ensures ∙ c.loop-rest-test.true))) (ap (λ (a : Answer). a.code) (entry-fine _ c.in-Ok.entry)) c.note.ensures c.part_after-rest.ensures

pub returns : goal.returns
returns c = walk_end c.loop-rest.invariant (omega (arith, eqb-true _ 0 (sym c.is_empty.ensures ∙ c.loop-rest-test.false)))
