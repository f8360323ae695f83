-- The tests of a pair are the rules' words: who clashes, who breaks after, and what a pair is refused by.
use Prim.Native.Nat.{ℕ, ◌+◌}
use mathlib.Core.Path.{◌≡◌, refl, sym, ap, ◌∙◌}
use mathlib.Core.Logic.{◌≢◌, ◌↔◌, inl, inr, ⊎_elim}
use mathlib.Core.Bool.{Bool, true, false, not, ◌&&◌, ◌||◌}
use mathlib.Core.List.Memᴰ
use mathlib.Core.List.{List, [], ◌∷◌, Memᴰ}
use lib.Dec.{eqb, ltb}
use borrow.Author.Tests.{eq-eqb, ne_eqb, eqb-true, eqb-false, lt-ltb, ltb-true, not-true}
use Rattle.laws.specs.Lists.{any_of}
use Rattle.laws.proofs.Cases.{and_l, and_r, and-of, or_at, or_l, or_r, true-false}
use Rattle.text_fields.specs.Items.{drive_of, is_shared}
use Rattle.plan.specs.Task.{Task}
use Rattle.plan.specs.Pairs.{overlap, same_board, holds_clash, clash_by_drive, is_listed, clash, breaks_after, pair_code}
use Rattle.promises.specs.Ladder.{Ladder}
use Rattle.promises.specs.Clashes.{Overlap, CommonDrive, Lists, BreaksAfter, Clashes}
use Rattle.promises.specs.Checks.{pair_checks}
use Rattle.promises.proofs.Ladder.{First, first_by, ladder_of, one_code}

-- a test of some item of a list
some_at : {A : Type 0} (p : A → Bool) (l : List A) → any_of p l ≡ true → (x : A) × Memᴰ x l × (p x ≡ true)
unfolding any_of
some_at p [] h = true-false h refl
some_at p (x ∷ l) h =
    ⊎_elim (λ e. (x, Memᴰ.head refl, e)) (λ e. let r = some_at p l e in (r.0, Memᴰ.tail r.1, r.2)) (or_at (p x) (any_of p l) h)

some_of : {A : Type 0} (p : A → Bool) {x : A} (l : List A) → Memᴰ x l → p x ≡ true → any_of p l ≡ true
unfolding any_of
some_of p [] m h = absurd (Memᴰ.not-nil m)
some_of p (y ∷ l) m h =
    ⊎_elim (λ e. or_l (any_of p l) (ap p (sym e) ∙ h)) (λ t. or_r (p y) (some_of p l t h)) (Memᴰ.cases_cons m)

overlaps : (a b : Task) → (overlap a b ≡ true) ↔ Overlap a b
overlaps a b = (
  λ h. (
    ltb-true a.begin b.finish (and_l (ltb a.begin b.finish) (ltb b.begin a.finish) h),
    ltb-true b.begin a.finish (and_r (ltb a.begin b.finish) (ltb b.begin a.finish) h),
  ),
  λ o. and-of (lt-ltb a.begin b.finish o.0) (lt-ltb b.begin a.finish o.1),
)

drive-there : (these those : List ℕ) → clash_by_drive these those ≡ true → CommonDrive these those
unfolding clash_by_drive
drive-there these those h =
    let r = some_at (λ g. any_of (holds_clash g) those) these h in
    let q = some_at (holds_clash r.0) those r.2 in
    let d = and_l (eqb (drive_of r.0) (drive_of q.0)) (not (is_shared r.0 && is_shared q.0)) q.2 in
    let s = and_r (eqb (drive_of r.0) (drive_of q.0)) (not (is_shared r.0 && is_shared q.0)) q.2 in
    record {
      one = r.0;
      other = q.0;
      here = r.1;
      there = q.1;
      drive = eqb-true (drive_of r.0) (drive_of q.0) d;
      exclusively = λ x y. true-false (and-of x y) (not-true (is_shared r.0 && is_shared q.0) s);
    }

not-both : (a b : Bool) → (a ≡ true → b ≡ true → ⊥) → not (a && b) ≡ true
not-both true true f = absurd (f refl refl)
not-both true false f = refl
not-both false b f = refl

drive-back : (these those : List ℕ) → CommonDrive these those → clash_by_drive these those ≡ true
unfolding clash_by_drive
drive-back these those c =
    some_of (λ g. any_of (holds_clash g) those) these c.here
    (some_of (holds_clash c.one) those c.there
    (and-of (eq-eqb (drive_of c.one) (drive_of c.other) c.drive) (not-both (is_shared c.one) (is_shared c.other) c.exclusively)))

module _ (task : ℕ → Task) where
  listed : (a b : ℕ) → (is_listed (task a).after (b + 1) ≡ true) ↔ Lists task a b
  unfolding is_listed
  listed a b = (
    λ h.
        let r = some_at (eqb (b + 1)) (task a).after h in
        Memᴰ.cast (eqb-true (b + 1) r.0 r.2) r.1,
    λ m. some_of (eqb (b + 1)) (task a).after m (eq-eqb (b + 1) (b + 1) refl),
  )

  breaks : (a b : ℕ) → (breaks_after task a b ≡ true) ↔ BreaksAfter task a b
  breaks a b = (
    λ h. (
      (listed a b).0 (and_r (ltb (task a).begin (task b).finish) (is_listed (task a).after (b + 1)) h),
      ltb-true (task a).begin (task b).finish (and_l (ltb (task a).begin (task b).finish) (is_listed (task a).after (b + 1)) h),
    ),
    λ r. and-of (lt-ltb (task a).begin (task b).finish r.1) ((listed a b).1 r.0),
  )

  module _ (a b : ℕ) where
    -- a clash by the test is one in words
    pub clash-said : clash task a b ≡ true → Clashes task a b
    clash-said h =
        ⊎_elim (λ e. inl (eqb-true (task a).board (task b).board e))
        (λ l.
        inr
        (⊎_elim (λ d. inl (drive-there (task a).holds (task b).holds d))
        (λ m. inr (⊎_elim (λ i. inl ((listed a b).0 i)) (λ i. inr ((listed b a).0 i)) (or_at (is_listed (task a).after (b + 1)) (is_listed (task b).after (a + 1)) m)))
        (or_at (clash_by_drive (task a).holds (task b).holds) _ l)))
        (or_at (same_board (task a) (task b)) _ h)

    pub clash-of : Clashes task a b → clash task a b ≡ true
    clash-of =
        ⊎_elim (λ e. or_l _ (eq-eqb (task a).board (task b).board e))
        (λ l.
        or_r (same_board (task a) (task b))
        (⊎_elim (λ d. or_l _ (drive-back (task a).holds (task b).holds d))
        (λ m.
        or_r (clash_by_drive (task a).holds (task b).holds)
        (⊎_elim (λ i. or_l _ ((listed a b).1 i)) (λ i. or_r (is_listed (task a).after (b + 1)) ((listed b a).1 i)) m))
        l))

    abbrev meet : Bool
    meet = not (eqb a b) && overlap (task a) (task b)

    meets : (meet ≡ true) ↔ ((a ≢ b) × Overlap (task a) (task b))
    meets = (
      λ h. (
        eqb-false a b (not-true (eqb a b) (and_l (not (eqb a b)) (overlap (task a) (task b)) h)),
        (overlaps (task a) (task b)).0 (and_r (not (eqb a b)) (overlap (task a) (task b)) h),
      ),
      λ r. let n : not (eqb a b) ≡ true = rw (ne_eqb a b r.0) in and-of n ((overlaps (task a) (task b)).1 r.1),
    )

    pair-first : First (pair_checks task a b) (pair_code task a b)
    unfolding pair_code
    pair-first =
        first_by (meet && same_board (task a) (task b)) _ _ (
          λ h.
              let m = meets.0 (and_l meet (same_board (task a) (task b)) h) in
              (m.0, eqb-true (task a).board (task b).board (and_r meet (same_board (task a) (task b)) h), m.1),
          λ r. and-of (meets.1 (r.0, r.2)) (eq-eqb (task a).board (task b).board r.1),
        )
        (λ six.
        first_by (meet && clash_by_drive (task a).holds (task b).holds) _ _ (
          λ h.
              let m = meets.0 (and_l meet (clash_by_drive (task a).holds (task b).holds) h) in
              (m.0, m.1, drive-there (task a).holds (task b).holds (and_r meet (clash_by_drive (task a).holds (task b).holds) h)),
          λ r. and-of (meets.1 (r.0, r.1)) (drive-back (task a).holds (task b).holds r.2),
        )
        (λ seven.
        first_by (breaks_after task a b || breaks_after task b a) _ _ (
          λ h. ⊎_elim (λ e. inl ((breaks a b).0 e)) (λ e. inr ((breaks b a).0 e)) (or_at (breaks_after task a b) (breaks_after task b a) h),
          ⊎_elim (λ r. or_l (breaks_after task b a) ((breaks a b).1 r)) (λ r. or_r (breaks_after task a b) ((breaks b a).1 r)),
        )
        (λ eight. First.end refl)))

    pub pair-ladder : Ladder (pair_checks task a b) (pair_code task a b)
    pair-ladder = ladder_of (pair_checks task a b) (pair_code task a b) refl pair-first

    -- where no number is given there is none
    pub pair-zero : Ladder (pair_checks task a b) 0 → pair_code task a b ≡ 0
    pair-zero none = one_code (pair_checks task a b) (pair_code task a b) 0 refl pair-ladder none
