-- When a length is bad, and the first refusal of 22 and 19.
use Prim.Native.Nat.{ℕ, zero, suc, ◌+◌}
use native.Mathlib.Omega.{arith}
use native.Mathlib.Numerals.{add-one}
use Rattle.std.specs.Prelude.{None, Some, Result, Ok, Err}
use mathlib.Core.Bool.{Bool, false, not, ◌&&◌}
use mathlib.Core.Logic.{◌≢◌}
use mathlib.Core.Path.{◌≡◌, refl, sym, ◌∙◌}
use lib.Dec.{eqb}
use borrow.Author.Tests.{eq-eqb, ne_eqb}
use Rattle.theory.specs.Times.{lowest}
use Rattle.plan.specs.Answer.{refuse, granted, as_result}
use Rattle.plan.specs.declared.Answer.{Answer}
use Rattle.book_view.specs.Faults.{task_fault}
use Rattle.laws.specs.Private.Nonzero.{nonzero}
use Rattle.engine.specs.Codes.{lengths_answer}

-- a task's test, where it is dropped and where it is not
pub dropped-bad : (dropped : ℕ) (b : Bool) → dropped ≡ 1 → (not (eqb dropped 1) && b) ≡ false
dropped-bad dropped b e = rw (eq-eqb dropped 1 e)

pub going-bad : (dropped : ℕ) {b outside v : Bool} → dropped ≢ 1 → outside ≡ b → outside ≡ v → (not (eqb dropped 1) && b) ≡ v
going-bad dropped n e o = rw (ne_eqb dropped 1 n, sym e ∙ o)

-- the refusal of one test
module _ (code tasks : ℕ) (test : ℕ → Bool) where
  fault-found : {k : ℕ} → lowest tasks test ≡ k → k ≢ 0 → task_fault code tasks test ≡ refuse code k 0
  unfolding task_fault
  fault-found {k} e ne = rw (e, ne_eqb k 0 ne)

  fault-none : lowest tasks test ≡ 0 → task_fault code tasks test ≡ granted
  unfolding task_fault
  fault-none e = rw e

  fault-same : (other : ℕ → Bool) → lowest tasks test ≡ lowest tasks other → task_fault code tasks test ≡ task_fault code tasks other
  unfolding task_fault
  fault-same other e = rw e

-- and of both
module _ (tasks : ℕ) (bad idle : ℕ → Bool) where
  pub lengths-bad : {k : ℕ} → lowest tasks bad ≡ k → k ≢ 0 → lengths_answer tasks bad idle ≡ refuse 22 k 0
  unfolding lengths_answer
  lengths-bad e ne = rw (fault-found 22 tasks bad e ne)

  pub lengths-idle : {k : ℕ} → lowest tasks bad ≡ 0 → lowest tasks idle ≡ k → k ≢ 0 → lengths_answer tasks bad idle ≡ refuse 19 k 0
  unfolding lengths_answer
  lengths-idle b e ne = rw (fault-none 22 tasks bad b, fault-found 19 tasks idle e ne)

  pub lengths_none : lowest tasks bad ≡ 0 → lowest tasks idle ≡ 0 → lengths_answer tasks bad idle ≡ granted
  unfolding lengths_answer
  lengths_none b e = rw (fault-none 22 tasks bad b, fault-none 19 tasks idle e)

  pub lengths-same :
      (worse idler : ℕ → Bool) → lowest tasks bad ≡ lowest tasks worse → lowest tasks idle ≡ lowest tasks idler
      → lengths_answer tasks bad idle ≡ lengths_answer tasks worse idler
  unfolding lengths_answer
  lengths-same worse idler b e = rw (fault-same 22 tasks bad worse b, fault-same 19 tasks idle idler e)

-- the lowest task, or that there is none
pub found-is : (i : ℕ) {n : ℕ} → i + 1 ≡ n → Some (i + 1) ≡ nonzero n
found-is i e = rw (← e, add-one)

nonzero-some : (n : ℕ) {k : ℕ} → Some k ≡ nonzero n → (n ≡ k) × (k ≢ 0)
nonzero-some zero e = cc
nonzero-some (suc n) {k} e = let q : k ≡ suc n = cc in (sym q, λ z. absurd (omega arith))

nonzero-none : (n : ℕ) → None ≡ nonzero n → n ≡ 0
nonzero-none zero e = refl
nonzero-none (suc n) e = cc

-- the first that is found is said, of as many tasks as there are places
module _ (bad : ℕ → ℕ → Bool) (idle : ℕ → Bool) {n tasks : ℕ} (e : n ≡ tasks) where
  abbrev Says : Result (Unit {0}) Answer → Type 0
  Says r = r ≡ as_result (lengths_answer tasks (bad tasks) idle)

  pub said-bad : {k : ℕ} → Some k ≡ nonzero (lowest n (bad n)) → {a : Answer} → a ≡ refuse 22 k 0 → Says (Err a)
  unfolding as_result
  said-bad {k} b is =
      let f = nonzero-some (lowest tasks (bad tasks)) (rw e at b) in
      rw (is, lengths-bad tasks (bad tasks) idle f.0 f.1)

  module _ (b : None ≡ nonzero (lowest n (bad n))) where
    none : lowest tasks (bad tasks) ≡ 0
    none = nonzero-none (lowest tasks (bad tasks)) (rw e at b)

    pub said-idle : {k : ℕ} → Some k ≡ nonzero (lowest n idle) → {a : Answer} → a ≡ refuse 19 k 0 → Says (Err a)
    unfolding as_result
    said-idle {k} d is =
        let f = nonzero-some (lowest tasks idle) (rw e at d) in
        rw (is, lengths-idle tasks (bad tasks) idle none f.0 f.1)

    pub said-none : None ≡ nonzero (lowest n idle) → Says (Ok tt)
    unfolding as_result
    said-none d = rw (lengths_none tasks (bad tasks) idle none (nonzero-none (lowest tasks idle) (rw e at d)))
