-- What the engine answers, case by case.
use Prim.Native.Nat.{ℕ, ◌+◌, ◌-◌, ◌<◌}
use native.Mathlib.Omega.{arith}
use mathlib.Core.Path.{◌≡◌, refl, sym, ap, ◌∙◌}
use mathlib.Core.Logic.{◌≢◌, inl, inr, ⊎_elim}
use mathlib.Core.Bool.{Bool, true, false}
use Rattle.laws.proofs.Cases.{by_bool, by_le, true-false}
use Rattle.theory.specs.Plan as theory-plan
use Rattle.theory.specs.Times.{start_time, end_time, bad_length, idle_drop}
use Rattle.theory.proofs.Fits.{Fits}
use Rattle.theory.proofs.Lowest.{Lowest, Nobody, lowest-cases}
use Rattle.theory.proofs.Refused.{bad-is, bad-of, idle-is, idle-of, fits-of}
use Rattle.engine.proofs.LengthLaws.{lengths-bad, lengths-idle, lengths_none}
use Rattle.plan.specs.Answer.{refuse, granted}
use Rattle.plan.specs.Value.{at, is_accepted}
use Rattle.plan.specs.declared.Answer.{Answer}
use Rattle.plan.specs.declared.Plan.{Plan}
use Rattle.book_view.specs.View.{plan_for, laid}
use Rattle.book_view.proofs.Accepted.{plan-facts}
use Rattle.book_view.proofs.Laid.{laid-at, laid-past}
use Rattle.book.specs.Open.{rule_number}
use Rattle.book.specs.declared.Rule.{Rule}
use Rattle.engine.specs.Timetable.{timetable_answer, zero_timetable, filled_timetable, timetable_of}
use Rattle.engine.specs.declared.Lengths.{Lengths}
use Rattle.engine.specs.declared.Timetable.{Timetable}
use Rattle.promises.specs.Ladder.{Ladder}
use Rattle.promises.proofs.Ladder.{First, ladder_of}
use Rattle.promises_engine.specs.Says.{BadLength, IdleDrop, Some, IsLowest, timetable_checks, TimetableSays}

module _ (plan : Plan) (rule : Rule) (given : Lengths) where
  abbrev pub seen : theory-plan.Plan
  seen = plan_for (rule_number rule) plan

  abbrev pub lasts : ℕ → ℕ
  lasts = at given.length

  abbrev pub gone : ℕ → ℕ
  gone = at given.dropped

  abbrev bad : ℕ → Bool
  bad = bad_length seen lasts gone

  abbrev idle : ℕ → Bool
  idle = idle_drop seen gone

  pub data Said : Type 0 where
    not-accepted : is_accepted plan ≡ false → timetable_of plan rule given ≡ zero_timetable (refuse 9 0 0) → Said
    bad-length :
        is_accepted plan ≡ true → (f : Lowest plan.tasks bad)
        → timetable_of plan rule given ≡ zero_timetable (refuse 22 (f.who + 1) 0) → Said
    idle-drop :
        is_accepted plan ≡ true → Nobody plan.tasks bad → (f : Lowest plan.tasks idle)
        → timetable_of plan rule given ≡ zero_timetable (refuse 19 (f.who + 1) 0) → Said
    filled :
        is_accepted plan ≡ true → Nobody plan.tasks bad → Nobody plan.tasks idle
        → timetable_of plan rule given ≡ filled_timetable seen given → Said

  one_more : (n : ℕ) → n + 1 ≢ 0
  one_more n e = absurd (omega arith)

  pub said : Said
  unfolding timetable_of timetable_answer
  said =
      by_bool (is_accepted plan)
      (λ ok.
      ⊎_elim
      (λ f. Said.bad-length ok f (rw (ok, lengths-bad plan.tasks bad idle f.is (one_more f.who))))
      (λ n.
      ⊎_elim
      (λ f. Said.idle-drop ok n f (rw (ok, lengths-idle plan.tasks bad idle n.is f.is (one_more f.who))))
      (λ m. Said.filled ok n m (rw (ok, lengths_none plan.tasks bad idle n.is m.is)))
      (lowest-cases plan.tasks idle))
      (lowest-cases plan.tasks bad))
      (λ no. Said.not-accepted no (rw no))

  -- each test is what it says
  bad-said : (i : ℕ) → bad i ≡ true → BadLength plan given i
  bad-said i h =
      let b = bad-is seen lasts gone i h in (
        b.0,
        by_le 1 (lasts i)
            (λ l. by_le (lasts i) (seen.finish i - seen.begin i) (λ m. absurd (b.1 (l, m))) (λ m. inr m))
            (λ l. inl l),
      )

  said-bad : (i : ℕ) → BadLength plan given i → bad i ≡ true
  said-bad i h =
      bad-of seen lasts gone i h.0
      (λ w. let l = w.0 in let m = w.1 in ⊎_elim (λ a. absurd (omega arith)) (λ a. absurd (omega arith)) h.1)

  lowest-bad : (f : Lowest plan.tasks bad) → IsLowest plan.tasks (BadLength plan given) f.who
  lowest-bad f = record {
    task = f.task;
    so = bad-said f.who f.holds;
    lower = λ j l h. true-false (said-bad j h) (f.lower j l);
  }

  lowest-idle : (f : Lowest plan.tasks idle) → IsLowest plan.tasks (IdleDrop plan rule given) f.who
  lowest-idle f = record {
    task = f.task;
    so = idle-is seen lasts gone f.who f.holds;
    lower = λ j l h. true-false (idle-of seen lasts gone j h.0 h.1) (f.lower j l);
  }

  none-bad : Nobody plan.tasks bad → Some plan.tasks (BadLength plan given) → ⊥
  none-bad n s = true-false (said-bad s.0 s.2) (n.none s.0 s.1)

  none-idle : Nobody plan.tasks idle → Some plan.tasks (IdleDrop plan rule given) → ⊥
  none-idle n s = true-false (idle-of seen lasts gone s.0 s.2.0 s.2.1) (n.none s.0 s.1)

  code-of : {answer : ℕ} {table : Timetable} → table.answer.code ≡ answer → timetable_of plan rule given ≡ table → (timetable_of plan rule given).answer.code ≡ answer
  code-of c e = ap (λ (t : Timetable). t.answer.code) e ∙ c

  first : Said → First (timetable_checks plan rule given) (timetable_of plan rule given).answer.code
  first (Said.not-accepted out e) = First.here out (code-of refl e)
  first (Said.bad-length ok f e) =
      let some : Some plan.tasks (BadLength plan given) = (f.who, f.task, bad-said f.who f.holds) in
      First.past (λ out. true-false ok out) (First.here some (code-of refl e))
  first (Said.idle-drop ok n f e) =
      let some : Some plan.tasks (IdleDrop plan rule given) = (f.who, f.task, idle-is seen lasts gone f.who f.holds) in
      First.past (λ out. true-false ok out) (First.past (none-bad n) (First.here some (code-of refl e)))
  first (Said.filled ok n m e) =
      First.past (λ out. true-false ok out) (First.past (none-bad n) (First.past (none-idle m) (First.end (code-of refl e))))

  pub checks : Ladder (timetable_checks plan rule given) (timetable_of plan rule given).answer.code
  checks = ladder_of (timetable_checks plan rule given) (timetable_of plan rule given).answer.code refl (first said)

  zero-at : (i : ℕ) → at (laid 0 (λ j. 0)) i ≡ 0
  zero-at i = laid-past 0 (λ j. 0) i (omega arith)

  pub says : TimetableSays plan rule given (timetable_of plan rule given)
  says = go said
    where
      go : Said → TimetableSays plan rule given (timetable_of plan rule given)
      go (Said.not-accepted out e) =
          rw e
          (record {
            second = refl;
            said_9 = λ c. refl;
            said_22 = λ c. absurd (omega arith);
            said_19 = λ c. absurd (omega arith);
            zeros = λ c i. (zero-at i, zero-at i);
            past = λ i l. (zero-at i, zero-at i);
          })
      go (Said.bad-length ok f e) =
          rw e
          (record {
            second = refl;
            said_9 = λ c. absurd (omega arith);
            said_22 = λ c. (f.who, lowest-bad f, refl);
            said_19 = λ c. absurd (omega arith);
            zeros = λ c i. (zero-at i, zero-at i);
            past = λ i l. (zero-at i, zero-at i);
          })
      go (Said.idle-drop ok n f e) =
          rw e
          (record {
            second = refl;
            said_9 = λ c. absurd (omega arith);
            said_22 = λ c. absurd (omega arith);
            said_19 = λ c. (f.who, lowest-idle f, refl);
            zeros = λ c i. (zero-at i, zero-at i);
            past = λ i l. (zero-at i, zero-at i);
          })
      go (Said.filled ok n m e) =
          rw e
          (record {
            second = refl;
            said_9 = λ c. absurd (omega arith);
            said_22 = λ c. absurd (omega arith);
            said_19 = λ c. absurd (omega arith);
            zeros = λ c. absurd (c refl);
            past = λ i l. (laid-past plan.tasks _ i l, laid-past plan.tasks _ i l);
          })

  -- a timetable that was given
  pub record Given : Type 0 where
    pub ok : is_accepted plan ≡ true
    pub fits : Fits seen lasts gone
    pub starts : (i : ℕ) → i < plan.tasks → at (timetable_of plan rule given).start i ≡ start_time seen lasts gone i
    pub ends : (i : ℕ) → i < plan.tasks → at (timetable_of plan rule given).end i ≡ end_time seen lasts gone i

  no_code : {table : Timetable} {code : ℕ} → timetable_of plan rule given ≡ table → table.answer.code ≡ code → (timetable_of plan rule given).answer ≡ granted → 0 ≡ code
  no_code e c g = sym (ap (λ (x : Answer). x.code) g) ∙ ap (λ (t : Timetable). t.answer.code) e ∙ c

  pub given-of : (timetable_of plan rule given).answer ≡ granted → Given
  given-of g = go said
    where
      go : Said → Given
      go (Said.not-accepted out e) = let q = no_code {code = 9} e refl g in absurd (omega arith)
      go (Said.bad-length ok f e) = let q = no_code {code = 22} e refl g in absurd (omega arith)
      go (Said.idle-drop ok n f e) = let q = no_code {code = 19} e refl g in absurd (omega arith)
      go (Said.filled ok n m e) = record {
        ok = ok;
        fits = fits-of seen lasts gone n.is m.is;
        starts = λ i l. ap (λ (t : Timetable). at t.start i) e ∙ laid-at plan.tasks _ (plan-facts plan ok).tasks-to i l;
        ends = λ i l. ap (λ (t : Timetable). at t.end i) e ∙ laid-at plan.tasks _ (plan-facts plan ok).tasks-to i l;
      }
