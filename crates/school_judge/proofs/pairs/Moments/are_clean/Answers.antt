use native.Mathlib.Omega.{arith}
use mathlib.Core.Path.{sym, ap, ◌∙◌}
use mathlib.Core.Bool.{not}
use Rattle.school_judge.proofs.PairLaws.{every-none}
use Rattle.laws.proofs.Every.{every-pass, every-out, every-not}
use Rattle.school_judge.proofs.pairs.Moments.are_clean.Goals as goal

pub loop-j-init : goal.loop-j-init
loop-j-init c = every-none _

pub returns-then-is_preceded : goal.returns-then-is_preceded
returns-then-is_preceded c = let j = c.loop-j.j in sym (every-not _ _ j (omega arith) (ap not (sym c.is_preceded.ensures ∙ c.if-is_preceded.true)))

pub loop-j-preserved : goal.loop-j-preserved
loop-j-preserved c = let j = c.loop-j.j in every-pass j _ c.loop-j.invariant (ap not (sym c.is_preceded.ensures ∙ c.if-is_preceded.false))

pub returns : goal.returns
returns c = every-out _ c.loop-j.j _ c.loop-j.invariant (omega arith)
