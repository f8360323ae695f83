-- `all`, board by board.
use Prim.Native.Nat.{ℕ, suc, ◌+◌, ◌*◌, ◌≤◌, ◌<◌, max, min}
use mathlib.Core.Path.{◌≡◌, refl, sym, ◌∙◌}
use mathlib.Core.Bool.{true}
use mathlib.Core.List.{List}
use native.Mathlib.Omega.{arith}
use native.Mathlib.Numerals.{add-one}
use lib.Dec.{eqb}
use lib.ListN.{length, drop}
use borrow.Author.Tests.{eq-eqb, ne_eqb}
use Rattle.laws.proofs.Cases.{by-eq}
use Rattle.plan.specs.Value.{at}
use Rattle.year_rules.specs.Figures.{sum_of, best_of}
use Rattle.year_rules.specs.Totals.{totals_ok}
use Rattle.year_rules.specs.declared.Tally.{Tally}
use Rattle.year_rules.specs.declared.Totals.{Totals}
use Rattle.year_rules.proofs.FigureLaws.{Picks, max-picks, min-picks, sum-turn, sum-end, best-next}
use Rattle.year_rules.proofs.BoundLaws.{ok-facts}
use Rattle.year_write.specs.Report.{bests_below, all_tally}
use Rattle.year_write.specs.Private.Bests.{best_with, joined}

-- ---- one board more

module _ (all next : Tally) where
  pub joined-none :
      next.ended ≡ 0
      → record { ended = all.ended + next.ended; sum = all.sum + next.sum; greatest = all.greatest; least = all.least } ≡ joined all next
  unfolding best_with
  joined-none z = rw (eq-eqb next.ended 0 z)

  module _ (s : next.ended ≡ 0 → ⊥) where
    pub joined-first :
        all.ended ≡ 0
        → record { ended = all.ended + next.ended; sum = all.sum + next.sum; greatest = next.greatest; least = next.least } ≡ joined all next
    unfolding best_with
    joined-first z = rw (ne_eqb next.ended 0 s, eq-eqb all.ended 0 z)

    pub joined-best :
        (all.ended ≡ 0 → ⊥) → {greatest least : ℕ} → greatest ≡ max all.greatest next.greatest → least ≡ min all.least next.least
        → record { ended = all.ended + next.ended; sum = all.sum + next.sum; greatest = greatest; least = least } ≡ joined all next
    unfolding best_with
    joined-best t g l = rw (ne_eqb next.ended 0 s, ne_eqb all.ended 0 t, g, l)

-- ---- the best of the boards below n

module _ (pick : ℕ → ℕ → ℕ) (laws : Picks pick) (ended best : List ℕ) where
  pub record Best (n seen held : ℕ) : Type 0 where
    pub many : eqb seen 0 ≡ eqb (length (bests_below ended best n)) 0
    pub is : held ≡ best_of pick (bests_below ended best n)

  pub best_none : Best 0 0 0
  unfolding bests_below best_of
  best_none = record { many = refl; is = refl }

  pub best-turn : (n seen held : ℕ) {next : ℕ} → Best n seen held → next ≡ best_with pick seen held (at ended n) (at best n) → Best (n + 1) (seen + at ended n) next
  unfolding bests_below best_with
  best-turn n seen held {next} f e =
      by-eq (at ended n) 0
      (λ z.
      let s : seen + at ended n ≡ seen = omega arith in
      record { many = rw (add-one, eq-eqb (at ended n) 0 z, s) f.many; is = e ∙ (rw (add-one, eq-eqb (at ended n) 0 z) f.is) })
      (λ s.
      let lower = bests_below ended best n in
      record {
        many =
            rw (add-one, ne_eqb (at ended n) 0 s, ne_eqb (seen + at ended n) 0 (λ q. s (omega arith)), ne_eqb (suc (length lower)) 0 (λ q. omega arith));
        is = e ∙ (rw (add-one, ne_eqb (at ended n) 0 s, f.many, f.is) (sym (best-next pick laws (at best n) lower)));
      })

-- ---- all of it

module _ (totals : Totals) where
  pub record Sofar (n ended sum greatest least : ℕ) : Type 0 where
    pub sizes : (length totals.ended ≡ 8) × (length totals.sum ≡ 8)
    pub below : n ≤ 8
    pub ended_is : ended + sum_of (drop n totals.ended) ≡ sum_of totals.ended
    pub sum_is : sum + sum_of (drop n totals.sum) ≡ sum_of totals.sum
    pub bound : sum ≤ 1000000 * ended
    pub greatest-is : Best max max-picks totals.ended totals.greatest n ended greatest
    pub least-is : Best min min-picks totals.ended totals.least n ended least

  pub sofar-none : length totals.ended ≡ 8 → length totals.sum ≡ 8 → Sofar 0 0 0 0 0
  sofar-none e s = record {
    sizes = (e, s);
    below = omega arith;
    ended_is = omega arith;
    sum_is = omega arith;
    bound = omega arith;
    greatest-is = best_none max max-picks totals.ended totals.greatest;
    least-is = best_none min min-picks totals.ended totals.least;
  }

  module _ (n ended sum greatest least : ℕ) (ok : totals_ok totals ≡ true) (f : Sofar n ended sum greatest least) (h : n < 8) where
    in_all : ended + at totals.ended n ≤ sum_of totals.ended
    in_all = let e = f.ended_is in omega (arith, sum-turn totals.ended n (omega (arith, f.sizes.0)))

    pub ended-fits : ended + at totals.ended n ≤ 640000
    ended-fits =
        let facts = ok-facts totals ok in
        let logs = facts.logs in
        let tasks = facts.tasks in
        omega (arith, in_all)

    next-bound : sum + at totals.sum n ≤ 1000000 * (ended + at totals.ended n)
    next-bound = let b = ((ok-facts totals ok).board n h).sum in let a = f.bound in omega arith

    pub sum_fits : sum + at totals.sum n ≤ 640000000000
    sum_fits = omega (arith, next-bound, ended-fits)

    pub sofar-turn :
        {g l : ℕ} → g ≡ best_with max ended greatest (at totals.ended n) (at totals.greatest n)
        → l ≡ best_with min ended least (at totals.ended n) (at totals.least n)
        → Sofar (n + 1) (ended + at totals.ended n) (sum + at totals.sum n) g l
    sofar-turn p q =
        let e = f.ended_is in
        let s = f.sum_is in
        record {
          sizes = f.sizes;
          below = omega arith;
          ended_is = omega (arith, sum-turn totals.ended n (omega (arith, f.sizes.0)));
          sum_is = omega (arith, sum-turn totals.sum n (omega (arith, f.sizes.1)));
          bound = next-bound;
          greatest-is = best-turn max max-picks totals.ended totals.greatest n ended greatest f.greatest-is p;
          least-is = best-turn min min-picks totals.ended totals.least n ended least f.least-is q;
        }

  pub sofar-all :
      (n ended sum greatest least : ℕ) → Sofar n ended sum greatest least → 8 ≤ n
      → record { ended = ended; sum = sum; greatest = greatest; least = least } ≡ all_tally totals
  unfolding all_tally
  sofar-all n ended sum greatest least f h =
      let k = f.below in
      let eight : n ≡ 8 = omega arith in
      let e : ended ≡ sum_of totals.ended = omega (arith, f.ended_is, sum-end totals.ended n (omega (arith, f.sizes.0))) in
      let s : sum ≡ sum_of totals.sum = omega (arith, f.sum_is, sum-end totals.sum n (omega (arith, f.sizes.1))) in
      let g : greatest ≡ best_of max (bests_below totals.ended totals.greatest 8) = f.greatest-is.is ∙ (rw eight) in
      let l : least ≡ best_of min (bests_below totals.ended totals.least 8) = f.least-is.is ∙ (rw eight) in
      λ i. record { ended = e i; sum = s i; greatest = g i; least = l i }
