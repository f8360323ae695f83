use mathlib.Core.Path.{◌≡◌}
use mathlib.Core.Bool.{true, not}
use Rattle.school_judge.specs.Private.Moments.{is_sooner_in}
use Rattle.laws.specs.Every.{every, any}
use Rattle.school_judge.proofs.pairs.Moments.are_clean.Given as goal

abbrev pub invariant-loop-j : goal.invariant-loop-j
invariant-loop-j l = every l.j (λ k. not (any l.self.tasks (λ i. is_sooner_in l.self i k))) ≡ true
