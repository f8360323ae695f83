-- The number of a pair's fault, 0 for none, tells which it is.
use Prim.Native.Nat.{ℕ}
use mathlib.Core.Path.{◌≡◌, refl, sym, ap, ◌∙◌}
use Rattle.std.specs.Prelude.{Option, Some, None, Result, Ok, Err}
use Rattle.plan.specs.Refusal.{number_in}
use Rattle.plan.specs.declared.Refusal.{Refusal}
use Rattle.plan.proofs.RefusalLaws.{number-whole}
use Rattle.plan_judge.specs.Private.Faults.{code_or_0}

abbrev as-result : Option Refusal → Result (Unit {0}) Refusal
as-result None = Ok tt
as-result (Some fault) = Err fault

abbrev as-option : Result (Unit {0}) Refusal → Option Refusal
as-option (Ok done) = None
as-option (Err fault) = Some fault

back : (r : Option Refusal) → as-option (as-result r) ≡ r
back None = refl
back (Some fault) = refl

same-number : (r : Option Refusal) → number_in (as-result r) ≡ code_or_0 r
same-number None = refl
same-number (Some fault) = refl

pub code-whole : (a b : Option Refusal) → code_or_0 a ≡ code_or_0 b → a ≡ b
code-whole a b e =
    sym (back a)
    ∙ ap as-option (number-whole (as-result a) (as-result b) (same-number a ∙ e ∙ sym (same-number b)))
    ∙ back b
