-- What an answer is, by the result that it gives.
use mathlib.Core.Bool.{Bool, true, false}
use mathlib.Core.Path.{◌≡◌, refl, sym, ap, ◌∙◌}
use Rattle.std.specs.Prelude.{Result, Ok, Err}
use Rattle.laws.proofs.Cases.{by_bool, true-false}
use Rattle.plan.specs.Answer.{granted, is_granted, as_result}
use Rattle.plan.specs.declared.Answer.{Answer}

pub result-granted : (a : Answer) → is_granted a ≡ true → as_result a ≡ Ok tt
unfolding as_result
result-granted a t = rw t

pub result-refused : (a : Answer) → is_granted a ≡ false → as_result a ≡ Err a
unfolding as_result
result-refused a f = rw f

abbrev refuses : Result (Unit {0}) Answer → Bool
refuses (Ok u) = false
refuses (Err a) = true

abbrev refusal : Result (Unit {0}) Answer → Answer
refusal (Ok u) = granted
refusal (Err a) = a

pub is-granted : (a : Answer) → Ok tt ≡ as_result a → is_granted a ≡ true
is-granted a e =
    by_bool (is_granted a) (λ t. t) (λ f. true-false refl (sym (ap refuses (e ∙ result-refused a f))))

pub is-refused : (a : Answer) {x : Answer} → Err x ≡ as_result a → is_granted a ≡ false
is-refused a e =
    by_bool (is_granted a) (λ t. true-false refl (ap refuses (e ∙ result-granted a t))) (λ f. f)

pub its-refusal : (a : Answer) {x : Answer} → Err x ≡ as_result a → x ≡ a
its-refusal a e = ap refusal (e ∙ result-refused a (is-refused a e))
