use Rattle.book_view.proofs.Turns.{every-passed}
use Rattle.laws.specs.Every.{every}
use Rattle.laws.proofs.Every.{every-not}
use native.Mathlib.Omega.{arith}
use mathlib.Core.Path.{◌≡◌, refl, sym, ◌∙◌}
use Rattle.book_sound.proofs.tasks_sound.Goals as goal

pub loop-i-init : goal.loop-i-init
unfolding every
loop-i-init c = (omega arith, refl)

pub returns-then-not-task_sound : goal.returns-then-not-task_sound
returns-then-not-task_sound c = sym (every-not _ _ c.loop-i.i (omega arith) (sym c.task_sound.ensures ∙ c.if-not-task_sound.true))

pub loop-i-preserved : goal.loop-i-preserved
loop-i-preserved c = (omega arith, every-passed _ _ (sym c.task_sound.ensures ∙ c.if-not-task_sound.false) c.loop-i.invariant.1)

pub returns : goal.returns
returns c = let e : c.loop-i.i ≡ c.args.book.now.plan.tasks = omega arith in rw e at (sym c.loop-i.invariant.1)
