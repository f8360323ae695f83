use native.Mathlib.Omega.{arith}
use mathlib.Core.Path.{◌≡◌}
use Rattle.laws.specs.Bits.{set_of}
use Rattle.laws.specs.Each.{each}
use Rattle.laws.proofs.Noted.{sets-length, sets_more}
use Rattle.book_waits.proofs.sets.early_sets.Goals as goal

pub loop-j-init : goal.loop-j-init
unfolding each set_of
loop-j-init c = (omega arith, c.requires.1)

pub await_task-requires : goal.await_task-requires
await_task-requires c = (omega arith, sets-length 64 _ _ c.loop-j.invariant.1)

pub loop-j-preserved : goal.loop-j-preserved
loop-j-preserved c = (omega arith, sets_more 64 _ _ c.loop-j.invariant.1 c.await_task.ensures)

pub returns : goal.returns
returns c = let e : c.loop-j.j ≡ c.args.plan.now.tasks = omega arith in rw e at c.loop-j.invariant.1
