-- The codes in their order.
use Prim.Native.Nat.{ℕ, ◌+◌, ◌<◌}
use mathlib.Core.Bool.{Bool, false}
use mathlib.Core.Path.{◌≡◌, refl, sym, ap, ◌∙◌}
use mathlib.Core.Logic.{◌≢◌}
use borrow.Author.Tests.{ne_eqb}
use Rattle.laws.proofs.Cases.{by-eq}
use Rattle.laws.proofs.Scan.{scan-same}
use Rattle.theory.specs.Times.{lowest}
use Rattle.theory.proofs.Lowest.{lowest-none, lowest-same}
use native.Mathlib.Omega.{arith}
use Rattle.std.specs.Prelude.{Option, unwrap_or, Result, Ok, Err}
use Rattle.std.specs.Result.{result_err}
use Rattle.plan.specs.Answer.{refuse, granted, is_refused, or_else, as_result}
use Rattle.plan.specs.declared.Answer.{Answer}
use Rattle.plan.specs.Pairs.{pairs_fault}
use Rattle.book_view.specs.Faults.{task_fault}
use Rattle.school.specs.Tests.{pair_fault, against_fault}
use Rattle.school_judge.proofs.PairLaws.{row_fault}
use Rattle.school_judge.specs.Tests.{tests_answer}
use Rattle.plan.proofs.ResultLaws.{is-granted, its-refusal}
use Rattle.school_judge.proofs.ToldLaws.{told-stop, told-go, Plain, plain-or, plain-fault}

module _ (wrong mislong : ℕ → Bool) (against : ℕ → ℕ → Bool) (untimely : ℕ → Bool) {n tasks : ℕ} (same : n ≡ tasks) where
  abbrev whole : Result (Unit {0}) Answer
  whole = as_result (tests_answer tasks wrong mislong against untimely)

  abbrev third : Answer
  third = or_else (against_fault n against) (task_fault 27 n untimely)

  abbrev second : Answer
  second = or_else (task_fault 25 n mislong) third

  all-is : as_result (or_else (task_fault 24 n wrong) second) ≡ whole
  unfolding tests_answer
  all-is = ap (λ (k : ℕ). as_result (tests_answer k wrong mislong against untimely)) same

  pub stop-wrong : {x : Answer} → Err x ≡ as_result (task_fault 24 n wrong) → Err x ≡ whole
  stop-wrong e = told-stop (task_fault 24 n wrong) second e ∙ all-is

  module _ (a : Ok tt ≡ as_result (task_fault 24 n wrong)) where
    second-is : as_result second ≡ whole
    second-is = told-go (task_fault 24 n wrong) second a ∙ all-is

    pub stop-mislong : {x : Answer} → Err x ≡ as_result (task_fault 25 n mislong) → Err x ≡ whole
    stop-mislong e = told-stop (task_fault 25 n mislong) third e ∙ second-is

    module _ (b : Ok tt ≡ as_result (task_fault 25 n mislong)) where
      third-is : as_result third ≡ whole
      third-is = told-go (task_fault 25 n mislong) third b ∙ second-is

      pub stop-against : {x : Answer} → Err x ≡ as_result (against_fault n against) → Err x ≡ whole
      stop-against e = told-stop (against_fault n against) (task_fault 27 n untimely) e ∙ third-is

      pub last_told : Ok tt ≡ as_result (against_fault n against) → as_result (task_fault 27 n untimely) ≡ whole
      last_told d = told-go (against_fault n against) (task_fault 27 n untimely) d ∙ third-is

pub plain-tests : (tasks : ℕ) (wrong mislong : ℕ → Bool) (against : ℕ → ℕ → Bool) (untimely : ℕ → Bool) → Plain (tests_answer tasks wrong mislong against untimely)
unfolding tests_answer
plain-tests tasks wrong mislong against untimely =
    let last = task_fault 27 tasks untimely in
    let third = or_else (against_fault tasks against) last in
    let second = or_else (task_fault 25 tasks mislong) third in
    plain-or (task_fault 24 tasks wrong) second
    (plain-or (task_fault 25 tasks mislong) third
    (plain-or (against_fault tasks against) last (plain-fault 27 tasks untimely (λ e. omega arith))))

module _ (tasks : ℕ) (wrong mislong : ℕ → Bool) (against : ℕ → ℕ → Bool) (untimely : ℕ → Bool) {tested : Result (Unit {0}) Answer}
    (e : tested ≡ as_result (tests_answer tasks wrong mislong against untimely)) where
  granted-is : tested ≡ Ok tt → {answer : Answer} → answer ≡ granted → answer ≡ tests_answer tasks wrong mislong against untimely
  granted-is t a =
      a ∙ sym (plain-tests tasks wrong mislong against untimely (is-granted (tests_answer tasks wrong mislong against untimely) (sym t ∙ e)))

  refused-is : {answer : Answer} → tested ≡ Err answer → answer ≡ tests_answer tasks wrong mislong against untimely
  refused-is t = its-refusal (tests_answer tasks wrong mislong against untimely) (sym t ∙ e)

  pub answer-is :
      {refusal : Option Answer} {none answer : Answer} → refusal ≡ result_err tested → none ≡ granted → answer ≡ unwrap_or refusal none
      → answer ≡ tests_answer tasks wrong mislong against untimely
  answer-is {refusal} {none} {answer} r g a = go tested refl (a ∙ ap (λ (o : Option Answer). unwrap_or o none) r)
    where
      go :
          (t : Result (Unit {0}) Answer) → tested ≡ t → answer ≡ unwrap_or (result_err t) none
          → answer ≡ tests_answer tasks wrong mislong against untimely
      go (Ok u) t a = granted-is t (a ∙ g)
      go (Err x) t a = a ∙ refused-is t

-- ---- tests that say the same of the tasks give one answer

module _ (tasks : ℕ) where
  abbrev pub Alike : (ℕ → Bool) → (ℕ → Bool) → Type 0
  Alike test other = (i : ℕ) → i < tasks → test i ≡ other i

  abbrev pub AlikePairs : (ℕ → ℕ → Bool) → (ℕ → ℕ → Bool) → Type 0
  AlikePairs test other = (a b : ℕ) → a < tasks → b < tasks → test a b ≡ other a b

  fault-same : (code : ℕ) (test other : ℕ → Bool) → Alike test other → task_fault code tasks test ≡ task_fault code tasks other
  unfolding task_fault
  fault-same code test other same = rw (lowest-same tasks test other same)

  fault-stop : (code : ℕ) (test : ℕ → Bool) → lowest tasks test ≢ 0 → task_fault code tasks test ≡ refuse code (lowest tasks test) 0
  unfolding task_fault
  fault-stop code test ne = rw (ne_eqb (lowest tasks test) 0 ne)

  pairs-same : (test other : ℕ → ℕ → Bool) → AlikePairs test other → against_fault tasks test ≡ against_fault tasks other
  unfolding against_fault pairs_fault
  pairs-same test other same =
      scan-same is_refused granted (row_fault tasks test) (row_fault tasks other) 0 tasks (λ a h l.
      scan-same is_refused granted (pair_fault test a) (pair_fault other a) (a + 1) tasks (λ b g k.
      let e = same a b l k in
      rw e))

  module _ (wrong wrongly long longer : ℕ → Bool) (against clashing : ℕ → ℕ → Bool) (late later : ℕ → Bool)
      (first : Alike wrong wrongly)
      (next : ((i : ℕ) → i < tasks → wrong i ≡ false) → Alike long longer × AlikePairs against clashing × Alike late later) where
    -- the later tests need say the same only where nobody is wrong
    pub tests_same : tests_answer tasks wrong long against late ≡ tests_answer tasks wrongly longer clashing later
    unfolding tests_answer
    tests_same =
        by-eq (lowest tasks wrong) 0
        (λ z.
        let n = next (lowest-none tasks wrong z) in
        rw (
          fault-same 24 wrong wrongly first,
          fault-same 25 long longer n.0,
          pairs-same against clashing n.1,
          fault-same 27 late later n.2,
        ))
        (λ ne. rw (← fault-same 24 wrong wrongly first, fault-stop 24 wrong ne))
