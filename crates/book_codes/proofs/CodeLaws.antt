-- The code of a report by the tests that lead to it.
use Prim.Native.Nat.{ℕ, ◌-◌, ◌≤◌, ◌<◌, min}
use native.Mathlib.Omega.{arith}
use mathlib.Core.Bool.{Bool, true, false, not, ◌||◌}
use mathlib.Core.List.{[]}
use mathlib.Core.Path.{◌≡◌, sym, ap, ◌∙◌}
use mathlib.Core.Logic.{◌≢◌}
use lib.Dec.{leb, eqb}
use lib.ListN.{length}
use borrow.Author.Tests.{eq-eqb, ne_eqb, le-leb, lt-leb, lt-ltb, le-ltb, leb-true, leb-false}
use Rattle.std.specs.Prelude.{Result, Ok, Err}
use Rattle.laws.proofs.Cases.{by_bool}
use Rattle.laws.specs.Every.{implies, every}
use Rattle.theory.specs.Plan.{Plan}
use Rattle.theory.specs.Book.{Book, running, limit}
use Rattle.theory.specs.Report.{none_past, report_code, drop_code, from_one}
use Rattle.plan.specs.Value.{at}
use Rattle.book_view.specs.View.{plan_seen, book_seen}
use Rattle.book_view.specs.Shown.{plan_shown, book_shown}
use Rattle.book_view.specs.declared.BookView.{BookView}
use Rattle.book_view.proofs.Short.{at-past, every-short}
use Rattle.plan.specs.Refusal.{refusal_number, number_in}
use Rattle.book_codes.specs.Private.Place.{place_in}
use Rattle.plan.specs.declared.Refusal.{Refusal}
use Rattle.plan.specs.declared.Refusal.TheVariants.{NoTask}

-- a task's place among those of the plan, or none
module _ (tasks task : ℕ) where
  place-none :
      {refusal : Refusal} → Err refusal ≡ place_in tasks task → {code : ℕ → ℕ} → ((k : ℕ) → tasks ≤ k → 10 ≡ code k)
      → refusal_number refusal ≡ from_one code task
  place-none {refusal} e ten =
      by_bool (eqb task 0)
      (λ z. let no : ◌≡◌ {A = Result ℕ Refusal} (Err refusal) (Err NoTask) = rw z at e in ap number_in no ∙ rw z)
      (λ z.
      by_bool (leb tasks (task - 1))
      (λ q. let no : ◌≡◌ {A = Result ℕ Refusal} (Err refusal) (Err NoTask) = rw (z, q) at e in ap number_in no ∙ rw z (ten (task - 1) (leb-true tasks (task - 1) q)))
      (λ q. let no : ◌≡◌ {A = Result ℕ Refusal} (Err refusal) (Ok (task - 1)) = rw (z, q) at e in cc))

  place-is : {k : ℕ} → Ok k ≡ place_in tasks task → (eqb task 0 ≡ false) × (k ≡ task - 1) × (k < tasks)
  place-is {k} e =
      by_bool (eqb task 0)
      (λ z. let no : ◌≡◌ {A = Result ℕ Refusal} (Ok k) (Err NoTask) = rw z at e in cc)
      (λ z.
      by_bool (leb tasks (task - 1))
      (λ q. let no : ◌≡◌ {A = Result ℕ Refusal} (Ok k) (Err NoTask) = rw (z, q) at e in cc)
      (λ q. let yes : ◌≡◌ {A = Result ℕ Refusal} (Ok k) (Ok (task - 1)) = rw (z, q) at e in
      let same : k ≡ task - 1 = cc in
      (z, same, omega (arith, leb-false tasks (task - 1) q))))

  place-known : {k : ℕ} → Ok k ≡ place_in tasks task → k < tasks
  place-known e = (place-is e).2

  placed : {k : ℕ} → Ok k ≡ place_in tasks task → (code : ℕ → ℕ) {number : ℕ} → number ≡ code k → number ≡ from_one code task
  placed e code q = let p = place-is e in rw p.0 (q ∙ ap code p.1)

module _ (plan : Plan) (book : Book) (k tick : ℕ) where
  pub code-10 : plan.tasks ≤ k → 10 ≡ report_code plan book k tick
  unfolding report_code
  code-10 h = rw (le-leb plan.tasks k h)

  module _ (known : k < plan.tasks) where
    pub code-11 : book.mark k ≢ 1 → 11 ≡ report_code plan book k tick
    unfolding report_code
    code-11 h = rw (lt-leb plan.tasks k known, ne_eqb (book.mark k) 1 h)

    module _ (runs : book.mark k ≡ 1) where
      pub code-12 : tick < book.clock → 12 ≡ report_code plan book k tick
      unfolding report_code
      code-12 h = rw (lt-leb plan.tasks k known, eq-eqb (book.mark k) 1 runs, lt-ltb tick book.clock h)

      module _ (past : book.clock ≤ tick) where
        pub code-13 : tick ≤ book.start k → 13 ≡ report_code plan book k tick
        unfolding report_code
        code-13 h =
            rw (
              lt-leb plan.tasks k known,
              eq-eqb (book.mark k) 1 runs,
              le-ltb tick book.clock past,
              le-leb tick (book.start k) h,
            )

        module _ (after : book.start k < tick) {until when : ℕ} (u : until ≡ limit plan book k) (w : when ≡ tick) where
          pub code-14 : until < when → 14 ≡ report_code plan book k tick
          unfolding report_code
          code-14 h =
              rw (
                lt-leb plan.tasks k known,
                eq-eqb (book.mark k) 1 runs,
                le-ltb tick book.clock past,
                lt-leb tick (book.start k) after,
                lt-ltb (limit plan book k) tick (omega arith),
              )

          module _ (in_time : when ≤ until) {others : Bool} (q : others ≡ none_past plan book tick) where
            pub code-15 : others ≡ false → 15 ≡ report_code plan book k tick
            unfolding report_code
            code-15 h =
                rw (
                  lt-leb plan.tasks k known,
                  eq-eqb (book.mark k) 1 runs,
                  le-ltb tick book.clock past,
                  lt-leb tick (book.start k) after,
                  le-ltb (limit plan book k) tick (omega arith),
                  sym q ∙ h,
                )

            pub code-0 : others ≡ true → 0 ≡ report_code plan book k tick
            unfolding report_code
            code-0 h =
                rw (
                  lt-leb plan.tasks k known,
                  eq-eqb (book.mark k) 1 runs,
                  le-ltb tick book.clock past,
                  lt-leb tick (book.start k) after,
                  le-ltb (limit plan book k) tick (omega arith),
                  sym q ∙ h,
                )

-- and of a drop
module _ (plan : Plan) (book : Book) (k : ℕ) where
  pub drop-10 : plan.tasks ≤ k → 10 ≡ drop_code plan book k
  unfolding drop_code
  drop-10 h = rw (le-leb plan.tasks k h)

  module _ (known : k < plan.tasks) where
    pub drop-19 : (not (eqb (book.mark k) 0) || eqb (book.dropped k) 1) ≡ true → 19 ≡ drop_code plan book k
    unfolding drop_code
    drop-19 h = rw (lt-leb plan.tasks k known, h)

    pub drop-0 : (not (eqb (book.mark k) 0) || eqb (book.dropped k) 1) ≡ false → 0 ≡ drop_code plan book k
    unfolding drop_code
    drop-0 h = rw (lt-leb plan.tasks k known, h)

-- a report or a drop of a task, by its place
module _ (v : BookView) (task : ℕ) where
  module _ {k : ℕ} (e : Ok k ≡ place_in v.plan.tasks task) where
    pub known : k < v.plan.tasks
    known = place-known v.plan.tasks task e

    pub report-placed :
        (tick : ℕ) {number : ℕ} → number ≡ report_code (plan_shown v) (book_shown v) k tick
        → number ≡ from_one (λ k. report_code (plan_shown v) (book_shown v) k tick) task
    report-placed tick q = placed v.plan.tasks task e (λ k. report_code (plan_shown v) (book_shown v) k tick) q

    pub drop-placed :
        {number : ℕ} → number ≡ drop_code (plan_shown v) (book_shown v) k → number ≡ from_one (drop_code (plan_shown v) (book_shown v)) task
    drop-placed q = placed v.plan.tasks task e (drop_code (plan_shown v) (book_shown v)) q

  module _ {refusal : Refusal} (e : Err refusal ≡ place_in v.plan.tasks task) where
    pub report-none : (tick : ℕ) → refusal_number refusal ≡ from_one (λ k. report_code (plan_shown v) (book_shown v) k tick) task
    report-none tick =
        place-none v.plan.tasks task e {code = λ k. report_code (plan_shown v) (book_shown v) k tick}
        (λ k h. code-10 (plan_shown v) (book_shown v) k tick h)

    pub drop-none : refusal_number refusal ≡ from_one (drop_code (plan_shown v) (book_shown v)) task
    drop-none =
        place-none v.plan.tasks task e {code = drop_code (plan_shown v) (book_shown v)}
        (λ k h. drop-10 (plan_shown v) (book_shown v) k h)

-- a task without a place neither runs nor has ended, and is not dropped
module _ (v : BookView) {n : ℕ} (e : n ≡ min v.plan.tasks (length v.mark.now)) where
  abbrev plan : Plan
  plan = plan_shown v

  abbrev book : Book
  book = book_shown v

  no_place : (k : ℕ) → k < v.plan.tasks → n ≤ k → length v.mark.now ≤ k
  no_place k known h = omega arith

  pub not-running : (k : ℕ) → k < v.plan.tasks → n ≤ k → at v.mark.now k ≢ 1
  not-running k known h r = let z = at-past v.mark.now k (no_place k known h) in omega arith

  -- and no limit of its own
  pub none-past-all :
      (tick : ℕ) {none : Bool}
      → none ≡ none_past (plan_seen n [] v.plan.begin.now v.plan.finish.now []) (book_seen v.mark.now v.start.now [] [] 0) tick
      → none ≡ none_past plan book tick
  unfolding none_past
  none-past-all tick h =
      h
      ∙ ap (λ (m : ℕ). every m (λ j. implies (running (at v.mark.now) j) (leb tick (limit plan book j)))) e
      ∙ every-short (length v.mark.now) v.plan.tasks (λ j. implies (running (at v.mark.now) j) (leb tick (limit plan book j)))
      (λ j l. rw (at-past v.mark.now j l))

  pub drop-no-place : length v.dropped.now ≡ length v.mark.now → (k : ℕ) → k < v.plan.tasks → n ≤ k → 0 ≡ drop_code plan book k
  drop-no-place same k known h =
      drop-0 plan book k known
      (rw (at-past v.mark.now k (no_place k known h), at-past v.dropped.now k (omega (arith, same, no_place k known h))))
