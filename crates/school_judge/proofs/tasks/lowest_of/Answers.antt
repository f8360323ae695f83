use native.Mathlib.Omega.{arith}
use mathlib.Core.Path.{sym, ◌∙◌}
use Rattle.theory.proofs.Lowest.{lowest-first, lowest-turn, lowest-hit, lowest-out}
use Rattle.school_judge.proofs.ToldLaws.{some_task, no_task}
use Rattle.school_judge.proofs.tasks.lowest_of.Goals as goal

pub loop-i-init : goal.loop-i-init
loop-i-init g c = λ p h. lowest-first _ _

pub returns-then-test : goal.returns-then-test
returns-then-test g c = λ p h. some_task _ (lowest-hit _ p c.loop-i.i (c.loop-i.invariant p h) (omega arith) (sym (h c.loop-i.i _ (omega arith) c.test.ensures) ∙ c.if-test.true))

pub loop-i-preserved : goal.loop-i-preserved
loop-i-preserved g c = λ p h. lowest-turn _ p c.loop-i.i (c.loop-i.invariant p h) (omega arith) (sym (h c.loop-i.i _ (omega arith) c.test.ensures) ∙ c.if-test.false)

pub returns : goal.returns
returns g c = λ p h. no_task (lowest-out _ p c.loop-i.i (c.loop-i.invariant p h) (omega arith))
