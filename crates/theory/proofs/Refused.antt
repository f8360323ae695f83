-- Lengths and drops are refused exactly where they do not fit.
use mathlib.Core.Path.{◌≡◌}
use mathlib.Core.Logic.{◌≢◌, ⊎_elim}
use mathlib.Core.Bool.{Bool, true, false, not, ◌&&◌}
use Prim.Native.Nat.{ℕ, ◌-◌, ◌≤◌, ◌<◌}
use lib.Dec.{leb}
use borrow.Author.Tests.{eq-eqb, ne_eqb, eqb-true, eqb-false, leb-true, le-leb, not-true}
use Rattle.laws.proofs.Cases.{by_bool, true-false, and_l, and_r, and-of}
use Rattle.laws.specs.Every.{any}
use Rattle.laws.proofs.Every.{any_at, any_of}
use Rattle.theory.specs.Plan.{Plan}
use Rattle.theory.specs.Book.{is_dropped}
use Rattle.theory.specs.Times.{lowest, bad_length, idle_drop}
use Rattle.theory.proofs.Fits.{Fits}
use Rattle.theory.proofs.Lowest.{lowest-none, lowest-cases}

module _ (plan : Plan) (length dropped : ℕ → ℕ) (i : ℕ) where
  abbrev inside : Bool
  inside = leb 1 (length i) && leb (length i) (plan.finish i - plan.begin i)

  -- it is not dropped, and its length is not 1 up to the planned length
  pub bad-is : bad_length plan length dropped i ≡ true → (dropped i ≢ 1) × ((1 ≤ length i) × (length i ≤ plan.finish i - plan.begin i) → ⊥)
  bad-is h = (
    eqb-false (dropped i) 1 (not-true _ (and_l _ _ h)),
    λ w.
        true-false (and-of (le-leb 1 (length i) w.0) (le-leb (length i) _ w.1))
        (not-true inside (and_r (not (is_dropped dropped i)) _ h)),
  )

  pub bad-of : dropped i ≢ 1 → ((1 ≤ length i) × (length i ≤ plan.finish i - plan.begin i) → ⊥) → bad_length plan length dropped i ≡ true
  bad-of n out =
      by_bool inside
      (λ t. absurd (out (leb-true 1 (length i) (and_l _ _ t), leb-true (length i) _ (and_r (leb 1 (length i)) _ t))))
      (λ f. rw (ne_eqb (dropped i) 1 n, f))

  pub not-bad : bad_length plan length dropped i ≡ false → dropped i ≢ 1 → (1 ≤ length i) × (length i ≤ plan.finish i - plan.begin i)
  not-bad h n =
      by_bool inside
      (λ t. (leb-true 1 (length i) (and_l _ _ t), leb-true (length i) _ (and_r (leb 1 (length i)) _ t)))
      (λ f. true-false (rw (ne_eqb (dropped i) 1 n, f)) h)

  -- it is dropped, and waits for nobody
  pub idle-is : idle_drop plan dropped i ≡ true → (dropped i ≡ 1) × ((j : ℕ) → j < plan.tasks → plan.waits i j ≡ true → ⊥)
  idle-is h = (
    eqb-true (dropped i) 1 (and_l _ _ h),
    λ j l w. true-false (any_of plan.tasks (plan.waits i) j l w) (not-true _ (and_r (is_dropped dropped i) _ h)),
  )

  pub idle-of : dropped i ≡ 1 → ((j : ℕ) → j < plan.tasks → plan.waits i j ≡ true → ⊥) → idle_drop plan dropped i ≡ true
  idle-of d none =
      by_bool (any plan.tasks (plan.waits i))
      (λ t. let r = any_at plan.tasks (plan.waits i) t in absurd (none r.0 r.1 r.2))
      (λ f. rw (eq-eqb (dropped i) 1 d, f))

  pub not-idle : idle_drop plan dropped i ≡ false → dropped i ≡ 1 → (j : ℕ) × (j < plan.tasks) × (plan.waits i j ≡ true)
  not-idle h d =
      by_bool (any plan.tasks (plan.waits i))
      (λ t. any_at plan.tasks (plan.waits i) t)
      (λ f. true-false (rw (eq-eqb (dropped i) 1 d, f)) h)

module _ (plan : Plan) (length dropped : ℕ → ℕ) where
  pub fits-of :
      lowest plan.tasks (bad_length plan length dropped) ≡ 0 → lowest plan.tasks (idle_drop plan dropped) ≡ 0
      → Fits plan length dropped
  fits-of bad idle = record {
    within = λ i l n. not-bad plan length dropped i (lowest-none plan.tasks _ bad i l) n;
    waits = λ i l d. not-idle plan length dropped i (lowest-none plan.tasks _ idle i l) d;
  }

  module _ (fits : Fits plan length dropped) where
    pub none-bad : lowest plan.tasks (bad_length plan length dropped) ≡ 0
    none-bad =
        ⊎_elim
        (λ f. let b = bad-is plan length dropped f.who f.holds in absurd (b.1 (fits.within f.who f.task b.0)))
        (λ n. n.is)
        (lowest-cases plan.tasks (bad_length plan length dropped))

    pub none-idle : lowest plan.tasks (idle_drop plan dropped) ≡ 0
    none-idle =
        ⊎_elim
        (λ f.
        let b = idle-is plan length dropped f.who f.holds in
        let w = fits.waits f.who f.task b.0 in
        absurd (b.1 w.0 w.1 w.2))
        (λ n. n.is)
        (lowest-cases plan.tasks (idle_drop plan dropped))
