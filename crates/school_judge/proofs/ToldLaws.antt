-- Answers as results, and tasks of which 0 is none.
use Prim.Native.Nat.{ℕ, zero, suc, ◌+◌}
use native.Mathlib.Omega.{arith}
use native.Mathlib.Numerals.{add-one}
use mathlib.Core.Bool.{Bool, true, false, cond}
use mathlib.Core.Path.{◌≡◌, refl, sym, ap, ◌∙◌}
use mathlib.Core.Logic.{◌≢◌}
use lib.Dec.{eqb}
use borrow.Author.Tests.{ne_eqb}
use Rattle.std.specs.Prelude.{Option, None, Some, Ok, Err}
use Rattle.laws.specs.Private.Nonzero.{nonzero}
use Rattle.laws.proofs.Cases.{by_bool, true-false}
use Rattle.theory.specs.Times.{lowest}
use Rattle.plan.specs.Answer.{refuse, granted, is_granted, or_else, as_result}
use Rattle.plan.proofs.ResultLaws.{result-granted, result-refused, is-granted, is-refused}
use Rattle.plan.specs.declared.Answer.{Answer}
use Rattle.book_view.specs.Faults.{task_fault}
use Rattle.school_judge.specs.Private.ToldOf.{told_of}

-- ---- a task

pub some_task : (i : ℕ) {n : ℕ} → i + 1 ≡ n → Some (i + 1) ≡ nonzero n
some_task i e = ap Some (add-one i) ∙ sym (ap nonzero (add-one i)) ∙ ap nonzero e

pub no_task : {n : ℕ} → 0 ≡ n → None ≡ nonzero n
no_task e = ap nonzero e

-- ---- one answer or the next

or-stop : (a b : Answer) → is_granted a ≡ false → or_else a b ≡ a
or-stop a b f = rw f

or-go : (a b : Answer) → is_granted a ≡ true → or_else a b ≡ b
or-go a b t = rw t

pub told-stop : (a b : Answer) {x : Answer} → Err x ≡ as_result a → Err x ≡ as_result (or_else a b)
told-stop a b e = e ∙ sym (ap as_result (or-stop a b (is-refused a e)))

pub told-go : (a b : Answer) → Ok tt ≡ as_result a → as_result b ≡ as_result (or_else a b)
told-go a b e = sym (ap as_result (or-go a b (is-granted a e)))

-- what grants is the granted answer itself
abbrev pub Plain : Answer → Type 0
Plain a = is_granted a ≡ true → a ≡ granted

pub plain-or : (a b : Answer) → Plain b → Plain (or_else a b)
plain-or a b p h =
    by_bool (is_granted a)
    (λ t. let e = or-go a b t in e ∙ p (ap is_granted (sym e) ∙ h))
    (λ f. let e = or-stop a b f in true-false (ap is_granted (sym e) ∙ h) f)

plain-of : (code n : ℕ) → code ≢ 0 → Plain (cond (eqb n 0) granted (refuse code n 0))
plain-of code n ne h = go (eqb n 0) refl
  where
    go : (b : Bool) → eqb n 0 ≡ b → cond (eqb n 0) granted (refuse code n 0) ≡ granted
    go true t = rw t
    go false f = true-false (rw f at h) (ne_eqb code 0 ne)

pub plain-fault : (code tasks : ℕ) (test : ℕ → Bool) → code ≢ 0 → Plain (task_fault code tasks test)
unfolding task_fault
plain-fault code tasks test ne = plain-of code (lowest tasks test) ne

told-of : (code n : ℕ) → code ≢ 0 → told_of code (nonzero n) ≡ as_result (cond (eqb n 0) granted (refuse code n 0))
told-of code zero ne = sym (result-granted granted refl)
told-of code (suc n) ne =
    rw (ne_eqb (suc n) 0 (λ z. omega arith)) (sym (result-refused (refuse code (suc n) 0) (ne_eqb code 0 ne)))

pub fault-told :
    (code tasks : ℕ) (test : ℕ → Bool) {task : Option ℕ} → code ≢ 0 → task ≡ nonzero (lowest tasks test)
    → told_of code task ≡ as_result (task_fault code tasks test)
unfolding task_fault
fault-told code tasks test ne e = ap (told_of code) e ∙ told-of code (lowest tasks test) ne
