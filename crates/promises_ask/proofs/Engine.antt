-- P4's engine takes the full lengths and the book's drops, and its timetable is the one that the figure is of.
use Prim.Native.Nat.{ℕ, zero, suc, ◌+◌, ◌-◌, ◌≤◌, ◌<◌}
use native.Mathlib.Omega.{arith}
use mathlib.Core.Path.{◌≡◌, refl, sym, ap, ◌∙◌}
use mathlib.Core.Bool.{true, cond}
use lib.Dec.{eqb}
use borrow.Author.Tests.{leb-true}
use Rattle.theory.specs.Plan as theory-plan
use Rattle.theory.specs.Book.{is_dropped}
use Rattle.theory.proofs.Facts.{Lawful}
use Rattle.theory.specs.Times.{start_time, end_time, bad_length, idle_drop}
use Rattle.theory.specs.Words.Lines.{TwoLines}
use Rattle.theory.proofs.Fits.{Fits}
use Rattle.theory.proofs.Refused.{none-bad, none-idle}
use Rattle.theory.proofs.Solved.{solves, only-starts, only-ends}
use Rattle.theory.specs.Exact.{full_length, full_start}
use Rattle.theory.proofs.Full.{full_end, full-fits, keeps-starts, keeps-ends}
use Rattle.theory.proofs.Largest.{least-early, met-early}
use Rattle.plan.specs.Answer.{granted}
use Rattle.plan.specs.Value.{at}
use Rattle.book_view.specs.View.{is_rule, plan_for, laid}
use Rattle.book_view.proofs.Accepted.{plan-facts}
use Rattle.book_view.proofs.Laid.{laid-at}
use Rattle.book.specs.View.{plan_in, plan_view, book_view}
use Rattle.book.specs.Sound.{is_sound}
use Rattle.book.specs.Open.{rule_number}
use Rattle.book.specs.declared.Book.{Book}
use Rattle.book.specs.declared.Rule.TheVariants.{EarlyStart, Clash}
use Rattle.engine.specs.Codes.{lengths_answer}
use Rattle.engine.proofs.LengthLaws.{lengths_none}
use Rattle.engine.specs.Timetable.{timetable_answer, filled_timetable, timetable_of}
use Rattle.engine.specs.declared.Timetable.{Timetable}
use Rattle.ask_exact.specs.Figure.{exact_of}
use Rattle.promises.specs.Runs.{NotBegun, Started, Ended, start_of, end_of}
use Rattle.promises_ask.specs.Exact.{full_lengths, rule_of, full_timetable}
use Rattle.promises_ask.proofs.Shown.{not_begun, known-sound, sound-facts, lawful, known_some}

fits-granted :
    (plan : theory-plan.Plan) (length dropped : ℕ → ℕ) → Fits plan length dropped
    → lengths_answer plan.tasks (bad_length plan length dropped) (idle_drop plan dropped) ≡ granted
fits-granted plan length dropped fits = lengths_none _ _ _ (none-bad plan length dropped fits) (none-idle plan length dropped fits)

-- only the lengths of the tasks count
module _ (plan : theory-plan.Plan) (law : Lawful plan) (dropped length other : ℕ → ℕ)
    (same : (i : ℕ) → i < plan.tasks → length i ≡ other i) where
  lines_same : TwoLines plan other dropped (start_time plan length dropped) (end_time plan length dropped)
  lines_same = record {
    starts = λ i l. (solves plan law length dropped).starts i l;
    ends = λ i l.
        (solves plan law length dropped).ends i l
        ∙ ap (λ (x : ℕ). start_time plan length dropped i + cond (is_dropped dropped i) 0 x) (same i l);
  }

  starts-same : (i : ℕ) → i < plan.tasks → start_time plan length dropped i ≡ start_time plan other dropped i
  starts-same = only-starts plan law other dropped _ _ lines_same

  ends_same : (i : ℕ) → i < plan.tasks → end_time plan length dropped i ≡ end_time plan other dropped i
  ends_same = only-ends plan law other dropped _ _ lines_same

  fits-same : Fits plan other dropped → Fits plan length dropped
  fits-same fits = record {
    within = λ i l n. let w = fits.within i l n in let e = same i l in (omega (arith, w.0), omega (arith, w.1));
    waits = fits.waits;
  }

-- the rule of a number that is one
rule-number : (rule : ℕ) → is_rule rule ≡ true → rule_number (cond (eqb rule 0) EarlyStart Clash) ≡ rule
rule-number zero h = refl
rule-number (suc zero) h = refl
rule-number (suc (suc n)) h = absurd (omega (arith, leb-true (suc (suc n)) 1 h))

module _ (book : Book) (sound : is_sound book ≡ true) where
  abbrev plan : theory-plan.Plan
  plan = plan_view book

  abbrev full : ℕ → ℕ
  full = full_length plan (book_view book)

  abbrev handed : ℕ → ℕ
  handed = at (full_lengths book).length

  few : book.tasks ≤ 64
  few = (plan-facts (plan_in book) (sound-facts book sound).accepted).tasks-to

  handed-is : (i : ℕ) → i < book.tasks → handed i ≡ full i
  handed-is i l = laid-at book.tasks full few i l

  by-rule : plan_for (rule_number (rule_of book)) (plan_in book) ≡ plan
  by-rule = ap (λ (n : ℕ). plan_for n (plan_in book)) (rule-number book.rule (sound-facts book sound).rule)

  taken : lengths_answer book.tasks (bad_length plan handed (at book.dropped)) (idle_drop plan (at book.dropped)) ≡ granted
  taken =
      fits-granted plan handed (at book.dropped)
      (fits-same plan (lawful book sound) (at book.dropped) handed full handed-is
      (full-fits plan (lawful book sound) (book_view book) (sound-facts book sound).sound))

  answered : timetable_answer (plan_in book) (rule_of book) (full_lengths book) ≡ granted
  unfolding timetable_answer
  answered =
      rw (sound-facts book sound).accepted
      (ap (λ (p : theory-plan.Plan). lengths_answer book.tasks (bad_length p handed (at book.dropped)) (idle_drop p (at book.dropped))) by-rule ∙ taken)

  -- the engine never refuses these
  filled : full_timetable book ≡ filled_timetable (plan_for (rule_number (rule_of book)) (plan_in book)) (full_lengths book)
  unfolding timetable_of
  filled = rw answered

  pub engine-takes : (full_timetable book).answer ≡ granted
  engine-takes = ap (λ (t : Timetable). t.answer) filled

  pub engine-starts : (i : ℕ) → i < book.tasks → at (full_timetable book).start i ≡ full_start plan (book_view book) i
  engine-starts i l =
      ap (λ (t : Timetable). at t.start i) filled
      ∙ (λ d. at (laid book.tasks (start_time (by-rule d) handed (at book.dropped))) i)
      ∙ laid-at book.tasks (start_time plan handed (at book.dropped)) few i l
      ∙ starts-same plan (lawful book sound) (at book.dropped) handed full handed-is i l

  pub engine-ends : (i : ℕ) → i < book.tasks → at (full_timetable book).end i ≡ full_end plan (book_view book) i
  engine-ends i l =
      ap (λ (t : Timetable). at t.end i) filled
      ∙ (λ d. at (laid book.tasks (end_time (by-rule d) handed (at book.dropped))) i)
      ∙ laid-at book.tasks (end_time plan handed (at book.dropped)) few i l
      ∙ ends_same plan (lawful book sound) (at book.dropped) handed full handed-is i l

  pub starts-kept : (i : ℕ) → i < book.tasks → Started book i → at (full_timetable book).start i ≡ start_of book i
  starts-kept i l s =
      engine-starts i l ∙ keeps-starts plan (lawful book sound) (book_view book) (sound-facts book sound).sound i l s

  pub ends-kept : (i : ℕ) → i < book.tasks → Ended book i → at (full_timetable book).end i ≡ end_of book i
  ends-kept i l e = engine-ends i l ∙ keeps-ends plan (lawful book sound) (book_view book) (sound-facts book sound).sound i l e

-- the figure is the least over the tasks not started at the clock, by that timetable
module _ (book : Book) (known : (exact_of book).known ≡ true) where
  early-by : (i : ℕ) → i < book.tasks → at book.begin i - full_start (plan_view book) (book_view book) i ≡ at book.begin i - at (full_timetable book).start i
  early-by i l = ap (λ (t : ℕ). at book.begin i - t) (sym (engine-starts book (known-sound book known) i l))

  pub exact-under :
      (i : ℕ) → i < book.tasks → NotBegun book i → (exact_of book).early ≤ at book.begin i - at (full_timetable book).start i
  exact-under i l n =
      let u =
      least-early (plan_view book) (lawful book (known-sound book known)) (book_view book) (sound-facts book (known-sound book known)).sound
      (exact_of book).early (known_some book known) i l ((not_begun book i).1 n) in
      omega (arith, early-by i l, u)

  pub exact-met :
      (i : ℕ) × (i < book.tasks) × NotBegun book i × ((exact_of book).early ≡ at book.begin i - at (full_timetable book).start i)
  exact-met =
      let m =
      met-early (plan_view book) (lawful book (known-sound book known)) (book_view book) (sound-facts book (known-sound book known)).sound
      (exact_of book).early (known_some book known) in
      (m.0, m.1, (not_begun book m.0).0 m.2, sym m.3 ∙ early-by m.0 m.1)
