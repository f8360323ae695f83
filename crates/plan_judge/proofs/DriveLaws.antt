-- Two lists of holds compared by the sets of their drives, and the bit of a hold.
use Prim.Native.Nat.{ℕ, ◌+◌, ◌-◌, ◌*◌, ◌%◌, ◌^◌, ◌≤◌, ◌<◌}
use native.Mathlib.Nat.{one-mul}
use mathlib.Core.Path.{◌≡◌, refl, sym, ap, ◌∙◌}
use mathlib.Core.Bool.{Bool, true, false, not, cond, ◌&&◌, ◌||◌, and-true, and-false}
use mathlib.Core.List.{List, [], ◌∷◌}
use mathlib.Core.Logic.{◌≢◌, ⊎_elim}
use native.Mathlib.Omega.{arith}
use lib.Bits.{bit_and}
use lib.Pow.{pow_pos, pow-lt, shl_exact}
use lib.Dec.{eqb, leb, ltb}
use borrow.Author.Tests.{eq-eqb, ne_eqb, eqb-true, leb-true, le-leb, lt-ltb}
use Rattle.laws.proofs.Cases.{by_bool, by-eq, and_l, and_r, and-of, or_at, or_l, or_r, same_test, true-false}
use Rattle.laws.specs.Bits.{has}
use Rattle.laws.specs.Lists.{all_of, any_of}
use Rattle.laws.proofs.Bits.{has-and, has-none, has-bit, some-bit, has-set}
use Rattle.laws.proofs.Gather.{ItsBit}
use Rattle.text_fields.specs.Items.{drive_of, is_shared}
use Rattle.plan.specs.Pairs.{holds_clash, clash_by_drive}
use Rattle.plan.specs.Private.Drives.{is_drive}
use Rattle.plan.proofs.Drives.{drive-from, drive-to, drive-shift}
use Rattle.plan_judge.specs.Private.Drives.{drives_of, exclusive_in, held_in, sets_of}
use Rattle.plan_judge.specs.declared.Sets.{Sets}

pub shifted-bit : (x : ℕ) → is_drive x ≡ true → 1 * 2 ^ (drive_of x - 1) % 4294967296 ≡ cond (is_drive x) (2 ^ (drive_of x - 1)) 0
shifted-bit x r =
    let room : 1 + (drive_of x - 1) ≤ 32 = omega (arith, drive-from x r, drive-to x r) in
    rw r (shl_exact 1 (drive_of x - 1) 32 (omega arith) room ∙ one-mul (2 ^ (drive_of x - 1)))

-- the holds of the 32 drives
pub of-a-drive : (x : ℕ) → (leb 2 x && leb x 65) ≡ is_drive x
of-a-drive x =
    same_test (leb 2 x && leb x 65) (is_drive x)
    (λ t.
    let low = leb-true 2 x (and_l (leb 2 x) (leb x 65) t) in
    let high = leb-true x 65 (and_r (leb 2 x) (leb x 65) t) in
    and-of (le-leb 1 (drive_of x) (omega (arith, low))) (le-leb (drive_of x) 32 (omega (arith, high))))
    (λ t. and-of (le-leb 2 x (omega (arith, drive-from x t))) (le-leb x 65 (omega (arith, drive-to x t))))

-- an item of which p holds; whatever holds of it holds of some item
record Found (p : ℕ → Bool) (l : List ℕ) : Type 0 where
  item : ℕ
  holds : p item ≡ true
  drive : is_drive item ≡ true
  among : (q : ℕ → Bool) → q item ≡ true → any_of q l ≡ true

found : (p : ℕ → Bool) (l : List ℕ) → all_of is_drive l ≡ true → any_of p l ≡ true → Found p l
unfolding any_of all_of
found p [] r h = true-false h refl
found p (x ∷ l) r h =
    by_bool (p x)
    (λ t. record { item = x; holds = t; drive = and_l (is_drive x) (all_of is_drive l) r; among = λ q e. or_l (any_of q l) e })
    (λ f.
    let rest = found p l (and_r (is_drive x) (all_of is_drive l) r) (rw f at h) in
    record { item = rest.item; holds = rest.holds; drive = rest.drive; among = λ q e. or_r (q x) (rest.among q e) })

-- the test for drive d + 1 among the holds of a kind
abbrev pub on_drive : (ℕ → Bool) → ℕ → ℕ → Bool
on_drive kind d h = eqb (drive_of h) (d + 1) && kind h

abbrev pub is_exclusive : ℕ → Bool
is_exclusive h = not (is_shared h)

abbrev pub is_any : ℕ → Bool
is_any h = true

-- two sets have a bit in common
module _ (k m : ℕ → Bool) (these those : List ℕ) where
  abbrev shared : ℕ
  shared = bit_and (drives_of k these) (drives_of m those)

  common : (d : ℕ) → d < 32 → any_of (on_drive k d) these ≡ true → any_of (on_drive m d) those ≡ true → not (eqb shared 0) ≡ true
  common d l p q =
      let below = lt-ltb d 32 l in
      let here = has-set 32 (λ x. any_of (on_drive k x) these) d ∙ and-of below p in
      let there = has-set 32 (λ x. any_of (on_drive m x) those) d ∙ and-of below q in
      ap not (ne_eqb shared 0 (λ z. true-false (has-and (drives_of k these) (drives_of m those) d ∙ and-of here there) (rw z (has-none d))))

  -- and then two holds of one drive, of these kinds
  meet-at : all_of is_drive these ≡ true → all_of is_drive those ≡ true → not (eqb shared 0) ≡ true
      → ((g h : ℕ) → drive_of g ≡ drive_of h → k g ≡ true → m h ≡ true → holds_clash g h ≡ true)
      → clash_by_drive these those ≡ true
  unfolding clash_by_drive
  meet-at rt ro e clash =
      let bit = some-bit shared (λ z. true-false e (ap not (eq-eqb shared 0 z))) in
      let d = bit.0 in
      let both = sym (has-and (drives_of k these) (drives_of m those) d) ∙ bit.1 in
      let here = and_r (ltb d 32) _ (sym (has-set 32 (λ x. any_of (on_drive k x) these) d) ∙ and_l (has (drives_of k these) d) (has (drives_of m those) d) both) in
      let there = and_r (ltb d 32) _ (sym (has-set 32 (λ x. any_of (on_drive m x) those) d) ∙ and_r (has (drives_of k these) d) (has (drives_of m those) d) both) in
      let g = found (on_drive k d) these rt here in
      let h = found (on_drive m d) those ro there in
      let one = eqb-true (drive_of g.item) (d + 1) (and_l (eqb (drive_of g.item) (d + 1)) (k g.item) g.holds) in
      let other = eqb-true (drive_of h.item) (d + 1) (and_l (eqb (drive_of h.item) (d + 1)) (m h.item) h.holds) in
      g.among (λ x. any_of (holds_clash x) those)
      (h.among (holds_clash g.item)
      (clash g.item h.item (one ∙ sym other) (and_r (eqb (drive_of g.item) (d + 1)) (k g.item) g.holds) (and_r (eqb (drive_of h.item) (d + 1)) (m h.item) h.holds)))

-- the two intersections say whether the lists clash
module _ (these those : List ℕ) (rt : all_of is_drive these ≡ true) (ro : all_of is_drive those ≡ true) where
  abbrev one_way : Bool
  one_way = not (eqb (bit_and (exclusive_in these) (held_in those)) 0)

  abbrev other_way : Bool
  other_way = not (eqb (bit_and (held_in these) (exclusive_in those)) 0)

  met : (one_way || other_way) ≡ true → clash_by_drive these those ≡ true
  met e =
      ⊎_elim
      (λ t. meet-at is_exclusive is_any these those rt ro t
      (λ x y d k m. and-of (eq-eqb (drive_of x) (drive_of y) d) (lone-left (is_shared x) (is_shared y) k)))
      (λ t. meet-at is_any is_exclusive these those rt ro t
      (λ x y d k m. and-of (eq-eqb (drive_of x) (drive_of y) d) (lone-right (is_shared x) (is_shared y) m)))
      (or_at one_way other_way e)
    where
      lone-left : (x y : Bool) → not x ≡ true → not (x && y) ≡ true
      lone-left true y k = true-false k refl
      lone-left false y k = refl

      lone-right : (x y : Bool) → not y ≡ true → not (x && y) ≡ true
      lone-right true y k = k
      lone-right false y k = refl

  clashes : clash_by_drive these those ≡ true → (one_way || other_way) ≡ true
  unfolding clash_by_drive
  clashes e =
      let x = found (λ g. any_of (holds_clash g) those) these rt e in
      let y = found (holds_clash x.item) those ro x.holds in
      let d : ℕ = drive_of x.item - 1 in
      let range = drive-shift x.item x.drive in
      let drive : drive_of x.item ≡ d + 1 = omega (arith, range.0) in
      let low : d < 32 = range.1 in
      let alike = eqb-true (drive_of x.item) (drive_of y.item) (and_l (eqb (drive_of x.item) (drive_of y.item)) (not (is_shared x.item && is_shared y.item)) y.holds) in
      let here : eqb (drive_of x.item) (d + 1) ≡ true = eq-eqb (drive_of x.item) (d + 1) drive in
      let there : eqb (drive_of y.item) (d + 1) ≡ true = eq-eqb (drive_of y.item) (d + 1) (sym alike ∙ drive) in
      let lone = and_r (eqb (drive_of x.item) (drive_of y.item)) (not (is_shared x.item && is_shared y.item)) y.holds in
      by_bool (is_shared x.item)
      (λ s.
      or_r one_way
      (common is_any is_exclusive these those d low
      (x.among (on_drive is_any d) (and-of here refl)) (y.among (on_drive is_exclusive d) (and-of there (rw s at lone)))))
      (λ s.
      or_l other_way
      (common is_exclusive is_any these those d low
      (x.among (on_drive is_exclusive d) (and-of here (ap not s))) (y.among (on_drive is_any d) (and-of there refl))))

  pub sets-clash :
      {one other : Sets} → one ≡ sets_of these → other ≡ sets_of those
      → (not (eqb (bit_and one.exclusive other.held) 0) || not (eqb (bit_and one.held other.exclusive) 0)) ≡ clash_by_drive these those
  sets-clash e f = rw (e, f) (same_test (one_way || other_way) (clash_by_drive these those) met clashes)

-- the bit of a hold
module _ (x : ℕ) {bit : ℕ} (e : bit ≡ cond (is_drive x) (2 ^ (drive_of x - 1)) 0) where
  its-bits : (d : ℕ) → d < 32 → has bit d ≡ eqb (drive_of x) (d + 1)
  its-bits d low = ap (λ (b : ℕ). has b d) e ∙ by_bool (is_drive x) (λ r. rw r (has-bit (drive_of x - 1) d ∙ shift (drive-from x r))) (λ r. rw r (has-none d ∙ outside r))
    where
      shift : 1 ≤ drive_of x → eqb (drive_of x - 1) d ≡ eqb (drive_of x) (d + 1)
      shift r =
          by-eq (drive_of x) (d + 1) (λ q. eq-eqb (drive_of x - 1) d (omega arith) ∙ sym (eq-eqb (drive_of x) (d + 1) q))
          (λ n. ne_eqb (drive_of x - 1) d (λ q. n (omega arith)) ∙ sym (ne_eqb (drive_of x) (d + 1) n))

      outside : is_drive x ≡ false → false ≡ eqb (drive_of x) (d + 1)
      outside r =
          by-eq (drive_of x) (d + 1)
          (λ q. true-false (and-of (le-leb 1 (drive_of x) (omega arith)) (le-leb (drive_of x) 32 (omega arith))) r)
          (λ n. sym (ne_eqb (drive_of x) (d + 1) n))

  small-bit : bit < 2 ^ 32
  small-bit = rw e (by_bool (is_drive x) (λ r. rw r (pow-lt (drive-shift x r).1)) (λ r. rw r (pow_pos 32)))

  pub held-bit : ItsBit 32 (on_drive is_any) x bit
  held-bit = record { small = small-bit; bits = λ d l. its-bits d l ∙ sym (and-true (eqb (drive_of x) (d + 1))) }

  -- the bit of an exclusive hold
  pub kept-bit : x % 2 ≢ 1 → ItsBit 32 (on_drive is_exclusive) x bit
  kept-bit n = record {
    small = small-bit;
    bits = λ d l. rw (ne_eqb (x % 2) 1 n) (its-bits d l ∙ sym (and-true (eqb (drive_of x) (d + 1))));
  }

  -- a shared hold has none
  pub no-bit : x % 2 ≡ 1 → ItsBit 32 (on_drive is_exclusive) x 0
  no-bit s = record {
    small = pow_pos 32;
    bits = λ d l. rw (eq-eqb (x % 2) 1 s) (has-none d ∙ sym (and-false (eqb (drive_of x) (d + 1))));
  }
