-- What is said of a plan that is not accepted or a rule that is none, and what an accepted plan gives.
use Prim.Native.Nat.{ℕ, ◌+◌, ◌<◌, ◌≤◌}
use native.Mathlib.Omega.{arith}
use mathlib.Core.Path.{◌≡◌, sym, ap, ◌∙◌}
use mathlib.Core.Bool.{Bool, true, false, ◌&&◌}
use mathlib.Core.List.{List}
use Rattle.std.specs.Prelude.{Some, None}
use lib.Dec.{leb, ltb}
use borrow.Author.Tests.{leb-true, le-leb, lt-leb, lt-ltb}
use Rattle.laws.proofs.Cases.{by-eq, by_le, and_l, and_r, and_no}
use Rattle.plan.specs.Pairs.{is_listed}
use Rattle.plan.specs.Value.{at, row, items, blank_from, is_accepted, task_at}
use Rattle.plan.specs.declared.Plan.{Plan}
use Rattle.plan.proofs.Judged.{accepted-ranges}
use Rattle.plan.proofs.Drives.{plan-in-range}
use Rattle.plan.proofs.PlanTasks.{ranges-kept}
use Rattle.book_view.proofs.Blank.{blank-at}
use Rattle.book_view.proofs.Accepted.{PlanFacts, plan-facts, keeps-after}
use Rattle.book_waits.specs.Private.Arrays.{Fit}
use Rattle.book_waits.specs.Waits.{sets_by, waits_of}

module _ (rule : ℕ) (plan : Plan) where
  unknown : (is_accepted plan && leb rule 1) ≡ false → None ≡ waits_of rule plan
  unfolding waits_of
  unknown h = rw h

  pub no-rule : 1 < rule → None ≡ waits_of rule plan
  no-rule h = unknown (ap (λ (b : Bool). is_accepted plan && b) (lt-leb rule 1 h) ∙ and_no (is_accepted plan))

  module _ {ok : Bool} (e : ok ≡ is_accepted plan) where
    pub not-accepted : ok ≡ false → None ≡ waits_of rule plan
    not-accepted h = unknown (ap (λ (b : Bool). b && leb rule 1) (sym e ∙ h))

    module _ (yes : ok ≡ true) where
      accepted : is_accepted plan ≡ true
      accepted = sym e ∙ yes

      facts : PlanFacts plan
      facts = plan-facts plan accepted

      -- who is waited for does not come after
      comes-before :
          (i j : ℕ) → i < plan.tasks → j < plan.tasks → leb (at plan.finish j) (at plan.begin i) ≡ true
          → is_listed (items (row 64 plan.after j)) (i + 1) ≡ false
      comes-before i j li lj h =
          let done = leb-true (at plan.finish j) (at plan.begin i) h in
          let late : ltb (at plan.begin j) (at plan.finish i) ≡ true =
          lt-ltb (at plan.begin j) (at plan.finish i) (omega (arith, done, (facts.task i li).lasts, (facts.task j lj).lasts)) in
          by-eq i j (λ e. let own : at plan.finish i ≤ at plan.begin i = rw (sym e) at done in absurd (omega (arith, (facts.task i li).lasts)))
          (λ n.
          by_le i j
          (λ l. passed late (keeps-after (task_at plan) i j n (facts.pair i j l lj)).1)
          (λ l. passed late (keeps-after (task_at plan) j i (λ e. n (sym e)) (facts.pair j i (omega arith) li)).0))
        where
          passed : {late listed : Bool} → late ≡ true → (late && listed) ≡ false → listed ≡ false
          passed t h = rw t at h

      -- places past the last task are planned to start at 0
      begin-past : (i : ℕ) → plan.tasks ≤ i → at plan.begin i ≡ 0
      begin-past i h =
          let past = (ranges-kept plan (accepted-ranges plan accepted)).past in
          let rest = and_r (blank_from plan.tasks plan.ready) _ (and_r (blank_from plan.tasks plan.board) _ past) in
          blank-at plan.tasks plan.begin (and_l (blank_from plan.tasks plan.begin) _ rest) i h

      pub plan-fits : Fit plan
      plan-fits = record {
        range = plan-in-range plan (accepted-ranges plan accepted);
        on = λ k l. let t = facts.task k l in (t.board-from, omega (arith, t.board-to, facts.boards-to));
        before = comes-before;
        past = λ i j h l.
            let zero = begin-past i h in
            lt-leb (at plan.finish j) (at plan.begin i) (omega (arith, zero, (facts.task j l).lasts));
      }

      pub waits-are : {sets : List ℕ} → rule ≤ 1 → sets ≡ sets_by rule plan → Some sets ≡ waits_of rule plan
      unfolding waits_of
      waits-are h s = rw (accepted, le-leb rule 1 h, s)
