-- Who is the last of those picked, turn by turn and as a fact.
use Prim.Native.Nat.{ℕ, zero, suc, ◌+◌, ◌-◌, ◌<◌, ◌≤◌}
use native.Mathlib.Numerals.{add-one}
use native.Mathlib.Omega.{arith}
use mathlib.Core.Bool.{Bool, true, false, cond}
use mathlib.Core.Path.{◌≡◌, refl}
use mathlib.Core.Logic.{◌≢◌}
use borrow.Author.Tests.{eq-eqb, ne_eqb, lt-ltb, le-ltb}
use Rattle.laws.specs.Private.Last.{last_of, later_of}
use Rattle.laws.proofs.Cases.{by_bool, by-eq, by_le, true-false}

module _ (f : ℕ → ℕ) (l n : ℕ) where
  pub later_first : l ≡ 0 → n + 1 ≡ later_of f l n
  unfolding later_of
  later_first z = rw (eq-eqb l 0 z)

  pub later_more : l ≢ 0 → f (l - 1) < f n → n + 1 ≡ later_of f l n
  unfolding later_of
  later_more z h = rw (ne_eqb l 0 z, lt-ltb (f (l - 1)) (f n) h)

  pub later-less : l ≢ 0 → f n ≤ f (l - 1) → l ≡ later_of f l n
  unfolding later_of
  later-less z h = rw (ne_eqb l 0 z, le-ltb (f (l - 1)) (f n) h)

module _ (n : ℕ) (w : ℕ → Bool) (f : ℕ → ℕ) where
  pub last_taken : w n ≡ true → last_of (n + 1) w f ≡ later_of f (last_of n w f) n
  unfolding last_of
  last_taken h = rw (add-one, h)

  pub last-passed : w n ≡ false → last_of (n + 1) w f ≡ last_of n w f
  unfolding last_of
  last-passed h = rw (add-one, h)

pub data Last (n : ℕ) (w : ℕ → Bool) (f : ℕ → ℕ) (l : ℕ) : Type 0 where
  nobody : l ≡ 0 → ((k : ℕ) → k < n → w k ≡ false) → Last n w f l
  this :
      l ≢ 0 → l - 1 < n → w (l - 1) ≡ true → ((k : ℕ) → k < n → w k ≡ true → f k ≤ f (l - 1)) → Last n w f l

pub last-is : (n : ℕ) (w : ℕ → Bool) (f : ℕ → ℕ) → Last n w f (last_of n w f)
unfolding last_of
last-is zero w f = Last.nobody refl (λ k l. absurd (omega arith))
last-is (suc n) w f = go (last_of n w f) (last-is n w f)
  where
    back : n + 1 - 1 ≡ n
    back = omega arith

    up :
        (l : ℕ) → n + 1 ≡ later_of f l n → w n ≡ true → ((k : ℕ) → k < n → w k ≡ true → f k ≤ f n)
        → Last (suc n) w f (later_of f l n)
    up l e h top =
        rw (← e)
        (Last.this (omega arith) (omega arith) (rw back h)
        (λ k q v. rw back (by-eq k n (λ z. rw z (omega arith)) (λ z. top k (omega arith) v))))

    taken : (l : ℕ) → Last n w f l → w n ≡ true → Last (suc n) w f (later_of f l n)
    taken l (Last.nobody z none) h = up l (later_first f l n z) h (λ k q v. true-false v (none k q))
    taken l (Last.this z s v top) h =
        by_le (f n) (f (l - 1))
        (λ le.
        rw (← later-less f l n z le)
        (Last.this z (omega arith) v (λ k q u. by-eq k n (λ e. rw e le) (λ e. top k (omega arith) u))))
        (λ gt. up l (later_more f l n z gt) h (λ k q u. let y = top k q u in omega arith))

    passed : (l : ℕ) → Last n w f l → w n ≡ false → Last (suc n) w f l
    passed l (Last.nobody z none) h = Last.nobody z (λ k q. by-eq k n (λ e. rw e h) (λ e. none k (omega arith)))
    passed l (Last.this z s v top) h =
        Last.this z (omega arith) v
        (λ k q u. by-eq k n (λ e. true-false (rw e at u) h) (λ e. top k (omega arith) u))

    go : (l : ℕ) → Last n w f l → Last (suc n) w f (cond (w n) (later_of f l n) l)
    go l r = by_bool (w n) (λ h. rw h (taken l r h)) (λ h. rw h (passed l r h))

pub last-small : (n : ℕ) (w : ℕ → Bool) (f : ℕ → ℕ) → last_of n w f ≤ n
last-small n w f = go (last_of n w f) (last-is n w f)
  where
    go : (l : ℕ) → Last n w f l → l ≤ n
    go l (Last.nobody z none) = omega arith
    go l (Last.this z s v top) = omega arith
