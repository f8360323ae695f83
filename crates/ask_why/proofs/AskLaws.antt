-- What is asked of a task: 10, 11, or its chain.
use Prim.Native.Nat.{ℕ, ◌+◌, ◌-◌, ◌<◌, ◌≤◌, min}
use native.Mathlib.Omega.{arith}
use mathlib.Core.Bool.{Bool, true, false, ◌||◌}
use mathlib.Core.List.{List, [], map}
use mathlib.Core.Path.{◌≡◌, ap, ◌∙◌}
use mathlib.Core.Logic.{◌≢◌}
use lib.Dec.{eqb, ltb, leb}
use lib.ListN.{length, replicate}
use lib.Seq.{sets}
use borrow.Author.Tests.{eq-eqb, ne_eqb, eqb-false, ltb-true, ltb-false, le-leb, lt-leb}
use Rattle.std.specs.Prelude.{Result, Ok, Err}
use Rattle.laws.proofs.Cases.{by_bool, by-eq, or_no}
use Rattle.theory.specs.Plan.{Plan}
use Rattle.theory.specs.Book as theory-book
use Rattle.theory.specs.Chain.{chain_of}
use Rattle.theory.proofs.Chain.{chain_length}
use Rattle.plan.specs.Answer.{refuse, granted}
use Rattle.plan.specs.Refusal.{refusal_number}
use Rattle.plan.specs.declared.Refusal.{Refusal}
use Rattle.plan.specs.declared.Refusal.TheVariants.{NoTask, NotRunning}
use Rattle.plan.specs.Value.{at}
use Rattle.plan.specs.declared.Answer.{Answer}
use Rattle.book.specs.declared.Book.{Book}
use Rattle.ask_why.specs.Asked.{plan_by, seen_in}
use Rattle.ask_why.specs.Private.Asked.{asked_of}
use Rattle.ask_why.specs.Chained.{why_code, chained, chain_for}
use Rattle.ask_why.specs.declared.Chain.{Chain}

-- not in 1 to n
abbrev missing : ℕ → ℕ → Bool
missing n task = eqb task 0 || ltb n task

pub asked-task : (n task : ℕ) → missing n task ≡ false → (0 < task) × (task - 1 < n)
asked-task n task h =
    let a = or_no (eqb task 0) _ h in
    let z = eqb-false task 0 a.0 in
    let l = ltb-false n task a.1 in
    (omega arith, omega arith)

module _ (plan : Plan) (book : theory-book.Book) (task : ℕ) where
  pub asked-missing : missing plan.tasks task ≡ true → chained (refuse 10 task 0) [] ≡ chain_for plan book task
  unfolding chain_for why_code
  asked-missing h =
      by-eq task 0
      (λ e. rw (eq-eqb task 0 e))
      (λ n.
      let z = ne_eqb task 0 n in
      let l = ltb-true plan.tasks task (rw z at h) in
      rw (z, le-leb plan.tasks (task - 1) (omega arith)))

  module _ (h : missing plan.tasks task ≡ false) where
    known : (eqb task 0 ≡ false) × (leb plan.tasks (task - 1) ≡ false)
    known =
        let t = asked-task plan.tasks task h in
        (ne_eqb task 0 (λ e. absurd (omega arith)), lt-leb plan.tasks (task - 1) t.1)

    pub asked-waiting : book.mark (task - 1) ≡ 0 → chained (refuse 11 task 0) [] ≡ chain_for plan book task
    unfolding chain_for why_code
    asked-waiting m = rw (known.0, known.1, eq-eqb (book.mark (task - 1)) 0 m)

    pub asked-started : book.mark (task - 1) ≢ 0 → chained granted (chain_of plan book (task - 1)) ≡ chain_for plan book task
    unfolding chain_for why_code
    asked-started m = rw (known.0, known.1, ne_eqb (book.mark (task - 1)) 0 m)

-- by a book and wait sets, of which there are 64 places
module _ (book : Book) (waits : List ℕ) (task : ℕ) {n : ℕ} (e : n ≡ min book.tasks 64) where
  abbrev plan : Plan
  plan = plan_by n book waits

  abbrev seen : theory-book.Book
  seen = seen_in book

  abbrev answered : Chain → Type 0
  answered r = r ≡ chain_for (plan_by (min book.tasks 64) book waits) seen task

  pub lent-refused :
      {refusal : Refusal} → Err refusal ≡ asked_of n book.mark task → {r : Chain}
      → r ≡ chained (refuse (refusal_number refusal) task 0) [] → answered r
  lent-refused {refusal} q {r} a =
      by_bool (missing n task)
      (λ t.
      let z : Err refusal ≡ Err NoTask = q ∙ rw t in
      let c : refusal ≡ NoTask = cc in
      a ∙ rw c (rw (← e) (asked-missing plan seen task t)))
      (λ f.
      by-eq (at book.mark (task - 1)) 0
      (λ m.
      let z : Err refusal ≡ Err NotRunning = q ∙ rw (f, eq-eqb _ 0 m) in
      let c : refusal ≡ NotRunning = cc in
      a ∙ rw c (rw (← e) (asked-waiting plan seen task f m)))
      (λ m. let z : Err refusal ≡ Ok (task - 1) = q ∙ rw (f, ne_eqb _ 0 m) in absurd (err-ok z)))
    where
      err-ok : {a : Refusal} {b : ℕ} → ◌≡◌ {A = Result ℕ Refusal} (Err a) (Ok b) → ⊥
      err-ok h = let x : ◌≡◌ {A = ℕ} 0 1 = cc in absurd (omega arith)

  module _ {i : ℕ} (q : Ok i ≡ asked_of n book.mark task) where
    -- what is said of a started task
    facts : (missing n task ≡ false) × (at book.mark (task - 1) ≢ 0) × (i ≡ task - 1)
    facts =
        by_bool (missing n task)
        (λ t. let z : Ok i ≡ Err NoTask = q ∙ rw t in absurd (ok-err z))
        (λ f.
        by-eq (at book.mark (task - 1)) 0
        (λ m. let z : Ok i ≡ Err NotRunning = q ∙ rw (f, eq-eqb _ 0 m) in absurd (ok-err z))
        (λ m. let z : Ok i ≡ Ok (task - 1) = q ∙ rw (f, ne_eqb _ 0 m) in (f, m, cc)))
      where
        ok-err : {a : ℕ} {b : Refusal} → ◌≡◌ {A = Result ℕ Refusal} (Ok a) (Err b) → ⊥
        ok-err h = let x : ◌≡◌ {A = ℕ} 0 1 = cc in absurd (omega arith)

    pub started-low : i < n
    started-low = let f = facts in let t = asked-task n task f.0 in omega (arith, f.2, t.1)

    abbrev links : List ℕ
    links = chain_of plan seen i

    pub lent_fits : 0 + length links ≤ 64
    lent_fits = let l = chain_length n plan seen i in omega arith

    pub lent-started :
        {answer : Answer} {count : ℕ} {places : List ℕ} → answer ≡ granted
        → (count ≡ 0 + length links) × (places ≡ sets (replicate 64 0) 0 (map (λ k. k + 1) links))
        → answered (record { answer = answer; count = count; links = places })
    lent-started {count = count} a w =
        let f = facts in
        let c : count ≡ length links = omega (arith, w.0) in
        rw (a, c, w.1) (ap (λ (k : ℕ). chained granted (chain_of plan seen k)) f.2 ∙ rw (← e) (asked-started plan seen task f.0 f.1))
