-- What is found of each task, and that an accepted log is found as it is.
use Prim.Native.Nat.{ℕ, ◌+◌, ◌≤◌, ◌<◌}
use native.Mathlib.Omega.{arith}
use mathlib.Core.Path.{◌≡◌, refl, sym, ap, ◌∙◌}
use mathlib.Core.Logic.{◌≢◌, ◌⊎◌, inl, inr, ⊎_elim}
use mathlib.Core.Bool.{true, false, cond}
use mathlib.Core.List.{List}
use lib.ListN.{length}
use Rattle.laws.proofs.Cases.{by_bool, by_le}
use Rattle.plan.specs.Answer.{refuse}
use Rattle.plan.specs.Value.{at, is_accepted}
use Rattle.plan.specs.declared.Answer.{Answer}
use Rattle.plan.specs.declared.Plan.{Plan}
use Rattle.book_view.specs.View.{laid}
use Rattle.book_view.proofs.Laid.{length-laid, laid-at, laid-past}
use Rattle.book_view.proofs.Accepted.{plan-facts}
use Rattle.school.specs.Lines.{said_in}
use Rattle.school.specs.Tasks.{is_known, start_in, end_in}
use Rattle.school.specs.Tests.{tasks_fault, unread, found_in, judged_of}
use Rattle.school.specs.Said.{LogLine}
use Rattle.promises_school.specs.Lines.{IsThere, HasForm}
use Rattle.promises_school.specs.Judged.{Unread, Finds}
use Rattle.promises_school.proofs.Tested.{known_is, known_of}
use Rattle.promises_school.proofs.Answered.{Fault, Answered, answered}

-- the code of a fault of tasks is none of 9, 1, 23
fault-read :
    (plan : Plan) (log : List ℕ) (ok : is_accepted plan ≡ true) (short : length log ≤ 32768)
    (forms : (k : ℕ) → IsThere log k → HasForm plan.boards plan.tasks log k) → Fault plan log ok short forms
    → Unread (tasks_fault plan (said_in plan.boards plan.tasks log)) → ⊥
fault-read plan log ok short forms f u = go f
  where
    never : {code first second : ℕ} → 23 < code ⊎ (code ≡ 0) → tasks_fault plan (said_in plan.boards plan.tasks log) ≡ refuse code first second → ⊥
    never {code} c e =
        let q : (tasks_fault plan (said_in plan.boards plan.tasks log)).code ≡ code = ap (λ (r : Answer). r.code) e in
        ⊎_elim (λ x. ⊎_elim (λ d. absurd (omega arith)) (λ d. absurd (omega arith)) c)
        (⊎_elim (λ x. ⊎_elim (λ d. absurd (omega arith)) (λ d. absurd (omega arith)) c)
        (λ x. ⊎_elim (λ d. absurd (omega arith)) (λ d. absurd (omega arith)) c))
        u

    go : Fault plan log ok short forms → ⊥
    go (Fault.fault-24 i l e) = never (inl (omega arith)) e
    go (Fault.fault-25 n24 i l e) = never (inl (omega arith)) e
    go (Fault.fault-26 n24 n25 a b h early e) = never (inl (omega arith)) e
    go (Fault.fault-27 n24 n25 n26 i l e) = never (inl (omega arith)) e
    go (Fault.fine n24 n25 n26 n27 a e) = never (inr refl) e

module _ (plan : Plan) (log : List ℕ) where
  -- nothing is found of a log that is not read
  nothing : (answer : Answer) → Unread answer → Finds plan log (unread answer)
  nothing answer u =
      let zero-at : (i : ℕ) → at (laid 0 (λ j. 0)) i ≡ 0 = λ i. laid-past 0 (λ j. 0) i (omega arith) in
      record {
        known = λ n. absurd (n u);
        told = λ n. absurd (n u);
        zeros = λ i d. (zero-at i, zero-at i, zero-at i);
        unread = λ v i. zero-at i;
        past = λ i l. zero-at i;
        sized = (length-laid 0 _, length-laid 0 _, length-laid 0 _);
      }

  module _ (ok : is_accepted plan ≡ true) (forms : (k : ℕ) → IsThere log k → HasForm plan.boards plan.tasks log k)
      (answer : Answer) (none : Unread answer → ⊥) where
    abbrev lines : List LogLine
    lines = said_in plan.boards plan.tasks log

    abbrev told-by : (ℕ → ℕ) → ℕ → ℕ
    told-by tick i = cond (is_known lines i) (tick i) 0

    few : plan.tasks ≤ 64
    few = (plan-facts plan ok).tasks-to

    here : (tick : ℕ → ℕ) (i : ℕ) → i < plan.tasks → at (laid plan.tasks (told-by tick)) i ≡ told-by tick i
    here tick i l = laid-at plan.tasks (told-by tick) few i l

    is_known_lem : (i : ℕ) → told-by (λ j. 1) i ≡ 1 → is_known lines i ≡ true
    is_known_lem i h = by_bool (is_known lines i) (λ t. t) (λ f. let z : ◌≡◌ {A = ℕ} 0 1 = rw f at h in absurd (omega arith))

    not_known : (i : ℕ) → told-by (λ j. 1) i ≢ 1 → is_known lines i ≡ false
    not_known i h = by_bool (is_known lines i) (λ t. absurd (h (rw t))) (λ f. f)

    found : Finds plan log (found_in plan.tasks answer lines)
    found = record {
      known = λ n i l h.
          let k = is_known_lem i (sym (here (λ j. 1) i l) ∙ h) in
          let s : at (laid plan.tasks (told-by (start_in lines))) i ≡ start_in lines i = here (start_in lines) i l ∙ rw k in
          let e : at (laid plan.tasks (told-by (end_in lines))) i ≡ end_in lines i = here (end_in lines) i l ∙ rw k in
          rw (s, e) (known_is plan log forms i k);
      told = λ n i l s e r. let k = (known_of plan log forms i s e r).0 in here (λ j. 1) i l ∙ rw k;
      zeros = λ i d.
          by_le plan.tasks i
          (λ l. (laid-past plan.tasks _ i l, laid-past plan.tasks _ i l, laid-past plan.tasks _ i l))
          (λ l.
          let k = not_known i (λ q. d (here (λ j. 1) i l ∙ q)) in (
            here (λ j. 1) i l ∙ rw k,
            here (start_in lines) i l ∙ rw k,
            here (end_in lines) i l ∙ rw k,
          ));
      unread = λ v i. absurd (none v);
      past = λ i l. laid-past plan.tasks _ i l;
      sized = (length-laid plan.tasks _, length-laid plan.tasks _, length-laid plan.tasks _);
    }

  pub finds : Finds plan log (judged_of plan log)
  finds = go (answered plan log)
    where
      go : Answered plan log → Finds plan log (judged_of plan log)
      go (Answered.not-accepted out e) = rw e (nothing (refuse 9 0 0) (inl refl))
      go (Answered.too_long ok long e) = rw e (nothing (refuse 1 0 0) (inr (inl refl)))
      go (Answered.not-formed ok short k u early e) = rw e (nothing (refuse 23 (k + 1) 0) (inr (inr refl)))
      go (Answered.read ok short forms f e) = rw e (found ok forms _ (fault-read plan log ok short forms f))
