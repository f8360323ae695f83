-- The ways out of the engine: each refusal, and the timetable that was filled.
use Prim.Native.Nat.{ℕ, ◌+◌, ◌≤◌, ◌<◌, min}
use native.Mathlib.Omega.{arith}
use mathlib.Core.Path.{◌≡◌, refl, sym, ap, ◌∙◌}
use mathlib.Core.Logic.{◌≢◌}
use mathlib.Core.Bool.{Bool, true, not, cond, ◌&&◌, and-true}
use mathlib.Core.List.{List, []}
use lib.Dec.{eqb}
use Rattle.std.specs.Prelude.{Ok, Err}
use borrow.Author.Tests.{eq-eqb, ne_eqb, eqb-true, ltb-true}
use Rattle.laws.proofs.Cases.{by_bool, by-eq, true-false, and-of, and_l}
use Rattle.laws.specs.Bits.{has, set_of}
use Rattle.laws.proofs.Bits.{has-set, has-below, has-none, set-none}
use Rattle.laws.specs.Every.{any}
use Rattle.laws.proofs.Every.{any_at, any-not}
use Rattle.theory.specs.Plan as theory-plan
use Rattle.theory.proofs.Facts.{Lawful}
use Rattle.theory.specs.Times.{start_time, end_time, lowest, bad_length, idle_drop}
use Rattle.theory.specs.Words.Lines.{TwoLines}
use Rattle.theory.proofs.Fits.{Fits}
use Rattle.theory.proofs.Lowest.{lowest-same}
use Rattle.theory.proofs.Solved.{solves}
use Rattle.theory.proofs.Bounds.{end_by}
use Rattle.theory.proofs.TimesAlike.{start-time-alike, end-time-alike}
use Rattle.theory.proofs.Refused.{fits-of}
use Rattle.engine.specs.Codes.{lengths_answer}
use Rattle.engine.proofs.LengthLaws.{lengths-bad, lengths-idle, lengths_none, lengths-same}
use Rattle.plan.proofs.ResultLaws.{is-granted, is-refused, its-refusal}
use Rattle.std.proofs.lemmas.Bool.{eqb-false}
use Rattle.plan.specs.Answer.{refuse, is_granted, as_result}
use Rattle.plan.specs.Value.{at, is_accepted}
use Rattle.plan.specs.declared.Answer.{Answer}
use Rattle.plan.specs.declared.Plan.{Plan}
use Rattle.book_view.specs.View.{is_rule, plan_for, plan_seen, laid}
use Rattle.book_view.proofs.Accepted.{plan-facts, plan-lawful}
use Rattle.book_view.proofs.Laid.{laid_same, laid-at}
use Rattle.std.specs.Prelude.{Some, None}
use Rattle.book_waits.specs.Waits.{sets_by, waits_of}
use Rattle.book_sound.proofs.WaitLaws.{none-known, some-known, agree}
use Rattle.book.specs.Open.{rule_number}
use Rattle.book.specs.declared.Rule.{Rule}
use Rattle.engine.specs.Timetable.{timetable_answer, zero_timetable, timetable_of}
use Rattle.engine.specs.Private.Worked.{plan_timed, Solvable}
use Rattle.engine.specs.declared.Lengths.{Lengths}
use Rattle.engine.specs.declared.Timetable.{Timetable}

rule-is : (rule : Rule) → is_rule (rule_number rule) ≡ true
rule-is Rule.EarlyStart = refl
rule-is Rule.Clash = refl

-- no number is said, so nobody was found
codes-none : (tasks : ℕ) (bad idle : ℕ → Bool) → (lengths_answer tasks bad idle).code ≡ 0 → (lowest tasks bad ≡ 0) × (lowest tasks idle ≡ 0)
codes-none tasks bad idle h =
    by-eq (lowest tasks bad) 0
    (λ b.
    by-eq (lowest tasks idle) 0 (λ d. (b, d))
    (λ ne. let q : ◌≡◌ {A = ℕ} 19 0 = rw (lengths-idle tasks bad idle b refl ne) at h in absurd (omega arith)))
    (λ ne. let q : ◌≡◌ {A = ℕ} 22 0 = rw (lengths-bad tasks bad idle refl ne) at h in absurd (omega arith))

-- a set is empty where nobody is in it
empty-is : (n : ℕ) (p : ℕ → Bool) → eqb (set_of n p) 0 ≡ not (any n p)
empty-is n p =
    by_bool (any n p)
    (λ t.
    let r = any_at n p t in
    by-eq (set_of n p) 0
    (λ z. true-false (has-below n p r.0 r.1 ∙ r.2) (ap (λ (s : ℕ). has s r.0) z ∙ has-none r.0))
    (λ ne. rw (t, ne_eqb (set_of n p) 0 ne)))
    (λ f. rw (f, eq-eqb (set_of n p) 0 (set-none n p (any-not n p f))))

module _ (plan : Plan) (rule : Rule) (given : Lengths) where
  abbrev seen : theory-plan.Plan
  seen = plan_for (rule_number rule) plan

  abbrev lasts : ℕ → ℕ
  lasts = at given.length

  abbrev gone : ℕ → ℕ
  gone = at given.dropped

  module _ {number : ℕ} (n : number ≡ rule_number rule) {view : Plan} (v : view ≡ plan) where
    good-is : (is_accepted plan && is_rule number) ≡ is_accepted plan
    good-is = ap (λ (b : Bool). is_accepted plan && b) (ap is_rule n ∙ rule-is rule) ∙ and-true (is_accepted plan)

    good : is_accepted plan ≡ true → (is_accepted plan && is_rule (rule_number rule)) ≡ true
    good ok = and-of ok (rule-is rule)

    pub refused_plan : None ≡ waits_of number view → {r : Timetable} → r ≡ zero_timetable (refuse 9 0 0) → r ≡ timetable_of plan rule given
    unfolding timetable_of timetable_answer
    refused_plan w e =
        let no = sym good-is ∙ none-known number plan (sym (w ∙ ap (λ (p : Plan). waits_of number p) v)) in e ∙ rw no

    module _ {sets : List ℕ} (w : Some sets ≡ waits_of number view) where
      known : ((is_accepted plan && is_rule number) ≡ true) × (sets_by number plan ≡ sets)
      known = some-known number plan (sym (w ∙ ap (λ (p : Plan). waits_of number p) v))

      pub ok : is_accepted plan ≡ true
      ok = sym good-is ∙ known.0

      pub few : plan.tasks ≤ 64
      few = (plan-facts plan ok).tasks-to

      sets-are : sets ≡ sets_by (rule_number rule) plan
      sets-are = sym known.1 ∙ ap (λ (x : ℕ). sets_by x plan) n

      set_at : (i : ℕ) → i < plan.tasks → at sets i ≡ set_of plan.tasks (seen.waits i)
      unfolding sets_by
      set_at i l = ap (λ (s : List ℕ). at s i) sets-are ∙ laid-at plan.tasks (λ k. set_of plan.tasks (seen.waits k)) few i l

      idle-same : (i : ℕ) → i < plan.tasks → (eqb (gone i) 1 && eqb (at sets i) 0) ≡ idle_drop seen gone i
      idle-same i l =
          ap (λ (b : Bool). eqb (gone i) 1 && b) (ap (λ (s : ℕ). eqb s 0) (set_at i l) ∙ empty-is plan.tasks (seen.waits i))

      all-places : min plan.tasks 64 ≡ plan.tasks
      all-places = let f = few in omega arith

      module _ {answer : Answer}
          (a : answer ≡ lengths_answer (min plan.tasks 64) (bad_length (plan_seen (min plan.tasks 64) [] plan.begin plan.finish []) lasts gone) (λ i. eqb (gone i) 1 && eqb (at sets i) 0)) where
        answer-is : answer ≡ lengths_answer plan.tasks (bad_length seen lasts gone) (idle_drop seen gone)
        answer-is =
            a
            ∙ rw all-places
            (lengths-same plan.tasks (bad_length seen lasts gone) (λ i. eqb (gone i) 1 && eqb (at sets i) 0) (bad_length seen lasts gone) (idle_drop seen gone) refl
            (lowest-same plan.tasks (λ i. eqb (gone i) 1 && eqb (at sets i) 0) (idle_drop seen gone) idle-same))

        refused-by : answer.code ≢ 0 → {r : Timetable} → r ≡ zero_timetable answer → r ≡ timetable_of plan rule given
        unfolding timetable_of timetable_answer
        refused-by ne e = e ∙ rw (ok, sym answer-is, ne_eqb answer.code 0 ne)

        module _ (z : answer.code ≡ 0) where
          none-refused : (lowest plan.tasks (bad_length seen lasts gone) ≡ 0) × (lowest plan.tasks (idle_drop seen gone) ≡ 0)
          none-refused = codes-none _ _ _ (sym (ap (λ (x : Answer). x.code) answer-is) ∙ z)

          fits : Fits seen lasts gone
          fits = fits-of seen lasts gone none-refused.0 none-refused.1

          law : Lawful seen
          law = plan-lawful plan ok (rule_number rule)

          abbrev timed : theory-plan.Plan
          timed = plan_timed plan.tasks plan.ready sets

          same : (i j : ℕ) → i < plan.tasks → j < plan.tasks → has (at sets i) j ≡ seen.waits i j
          same = agree (rule_number rule) plan (good ok) sets-are

          start-same : (i : ℕ) → i < plan.tasks → start_time timed lasts gone i ≡ start_time seen lasts gone i
          start-same =
              start-time-alike plan.tasks (at plan.ready) timed.begin timed.finish seen.begin seen.finish timed.waits seen.waits same lasts gone

          end_same : (i : ℕ) → i < plan.tasks → end_time timed lasts gone i ≡ end_time seen lasts gone i
          end_same =
              end-time-alike plan.tasks (at plan.ready) timed.begin timed.finish seen.begin seen.finish timed.waits seen.waits same lasts gone

          lines : TwoLines seen lasts gone (start_time seen lasts gone) (end_time seen lasts gone)
          lines = solves seen law lasts gone

          solvable-by : Solvable plan.tasks plan.ready sets given.length given.dropped
          solvable-by = record {
            few = few;
            lines = record {
              starts = λ i l. refl;
              ends = λ i l.
                  end_same i l ∙ lines.ends i l ∙ ap (λ (x : ℕ). x + cond (eqb (gone i) 1) 0 (lasts i)) (sym (start-same i l));
            };
            small = λ i l.
                let e = end_by seen lasts gone _ _ lines law fits i l in
                let m = ((plan-facts plan ok).task i l).by_most in
                omega (arith, end_same i l);
            within = in-tasks;
            planned = seen.begin;
            sooner = λ i j l lj h.
                let s = law.before i j l lj (sym (same i j l lj) ∙ h) in let p = law.lasts j lj in omega arith;
          }
            where
              in-tasks : (i j : ℕ) → i < plan.tasks → has (at sets i) j ≡ true → j < plan.tasks
              in-tasks i j l h =
                  let e = sym (ap (λ (s : ℕ). has s j) (set_at i l) ∙ has-set plan.tasks (seen.waits i) j) ∙ h in
                  ltb-true j plan.tasks (and_l _ _ e)

          filled-by :
              {start end : List ℕ} → start ≡ laid plan.tasks (start_time timed lasts gone)
              → end ≡ laid plan.tasks (end_time timed lasts gone)
              → ◌≡◌ {A = Timetable} (record { answer = refuse 0 0 0; start = start; end = end }) (timetable_of plan rule given)
          unfolding timetable_of timetable_answer
          filled-by s e =
              rw (ok, lengths_none plan.tasks (bad_length seen lasts gone) (idle_drop seen gone) none-refused.0 none-refused.1, s ∙ laid_same plan.tasks _ _ start-same, e ∙ laid_same plan.tasks _ _ end_same)

      abbrev said : Answer
      said = lengths_answer (min plan.tasks 64) (bad_length (plan_seen (min plan.tasks 64) [] plan.begin plan.finish []) lasts gone) (λ i. eqb (gone i) 1 && eqb (at sets i) 0)

      pub refused-lengths : {e : Answer} → Err e ≡ as_result said → {r : Timetable} → r ≡ zero_timetable e → r ≡ timetable_of plan rule given
      refused-lengths w =
          let same = its-refusal said w in
          refused-by same (eqb-false _ 0 (ap is_granted same ∙ is-refused said w))

      module _ {u : Unit {0}} (fine : Ok u ≡ as_result said) where
        pub solvable : Solvable plan.tasks plan.ready sets given.length given.dropped
        solvable = solvable-by {answer = said} refl (eqb-true _ 0 (is-granted said fine))

        pub filled :
            {answer : Answer} → answer ≡ refuse 0 0 0
            → {start end : List ℕ} → start ≡ laid plan.tasks (start_time (plan_timed plan.tasks plan.ready sets) lasts gone)
            → end ≡ laid plan.tasks (end_time (plan_timed plan.tasks plan.ready sets) lasts gone)
            → ◌≡◌ {A = Timetable} (record { answer = answer; start = start; end = end }) (timetable_of plan rule given)
        filled a s e = rw a (filled-by {answer = said} refl (eqb-true _ 0 (is-granted said fine)) s e)
