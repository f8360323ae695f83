use native.Mathlib.Omega.{arith}
use mathlib.Core.Bool.{Bool, cond}
use mathlib.Core.Path.{ap, ◌∙◌}
use Rattle.book_view.proofs.Laid.{laid-first, laid_more}
use Rattle.school_judge.proofs.FoundLaws.{byte-of, laid_out}
use Rattle.school_judge.proofs.lay.marked.Goals as goal

pub loop-i-init : goal.loop-i-init
loop-i-init g c = λ p h. laid-first _

pub loop-i-preserved : goal.loop-i-preserved
loop-i-preserved g c =
    λ p h. laid_more _ _ (c.loop-i.invariant p h) (c.from.ensures ∙ byte-of c.test.result ∙ ap (λ (b : Bool). cond b 1 0) (h c.loop-i.i _ (omega arith) c.test.ensures))

pub returns : goal.returns
returns g c = λ p h. laid_out _ c.loop-i.i _ (c.loop-i.invariant p h) (omega arith) (omega arith)
