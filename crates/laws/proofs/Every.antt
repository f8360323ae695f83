-- A test of every number below n, and of some number below n.
use mathlib.Core.Path.{◌≡◌, refl, sym, ◌∙◌}
use mathlib.Core.Bool.{Bool, true, false, ◌&&◌, ◌||◌}
use Prim.Native.Nat.{ℕ, zero, suc, ◌+◌, ◌<◌, ◌≤◌}
use native.Mathlib.Numerals.{add-one}
use native.Mathlib.Omega.{arith}
use Rattle.laws.specs.Every.{every, any}
use Rattle.laws.proofs.Cases.{by_bool, by-eq, and_l, and_r, and-of, or_at, or_l, or_r, same_test, true-false}
use mathlib.Core.Logic.{⊎_elim}

pub every-turn : (n : ℕ) (p : ℕ → Bool) → every (n + 1) p ≡ (p n && every n p)
unfolding every
every-turn n p = rw add-one

pub every-at : (n : ℕ) (p : ℕ → Bool) → every n p ≡ true → (j : ℕ) → j < n → p j ≡ true
unfolding every
every-at zero p h j l = absurd (omega arith)
every-at (suc n) p h j l =
    by-eq j n (λ e. rw e (and_l (p n) (every n p) h)) (λ ne. every-at n p (and_r (p n) (every n p) h) j (omega arith))

pub every_of : (n : ℕ) (p : ℕ → Bool) → ((j : ℕ) → j < n → p j ≡ true) → every n p ≡ true
unfolding every
every_of zero p f = refl
every_of (suc n) p f = and-of (f n (omega arith)) (every_of n p (λ j l. f j (omega arith)))

pub every-fails : (n : ℕ) (p : ℕ → Bool) → every n p ≡ false → (j : ℕ) × (j < n) × (p j ≡ false)
unfolding every
every-fails zero p h = true-false refl h
every-fails (suc n) p h =
    by_bool (p n) (λ e. let r = every-fails n p (rw e at h) in (r.0, omega arith, r.2)) (λ e. (n, omega arith, e))

pub every-not : (n : ℕ) (p : ℕ → Bool) (j : ℕ) → j < n → p j ≡ false → every n p ≡ false
every-not n p j l e = by_bool (every n p) (λ h. true-false (every-at n p h j l) e) (λ h. h)

-- a walk that stops where p fails: one place passed, and the end
pub every-pass : (k : ℕ) (p : ℕ → Bool) → every k p ≡ true → p k ≡ true → every (k + 1) p ≡ true
every-pass k p h e = every-turn k p ∙ and-of e h

pub every-out : (n k : ℕ) (p : ℕ → Bool) → every k p ≡ true → n ≤ k → true ≡ every n p
every-out n k p h l = sym (every_of n p (λ j m. every-at k p h j (omega arith)))

pub every-same : (n : ℕ) (p q : ℕ → Bool) → ((j : ℕ) → j < n → p j ≡ q j) → every n p ≡ every n q
every-same n p q f = same_test (every n p) (every n q)
    (λ h. every_of n q (λ j l. sym (f j l) ∙ every-at n p h j l))
    (λ h. every_of n p (λ j l. f j l ∙ every-at n q h j l))

pub any-turn : (n : ℕ) (p : ℕ → Bool) → any (n + 1) p ≡ (p n || any n p)
unfolding any
any-turn n p = rw add-one

pub any_of : (n : ℕ) (p : ℕ → Bool) (j : ℕ) → j < n → p j ≡ true → any n p ≡ true
unfolding any
any_of zero p j l e = absurd (omega arith)
any_of (suc n) p j l e =
    by-eq j n (λ q. or_l (any n p) (rw q at e)) (λ ne. or_r (p n) (any_of n p j (omega arith) e))

pub any_at : (n : ℕ) (p : ℕ → Bool) → any n p ≡ true → (j : ℕ) × (j < n) × (p j ≡ true)
unfolding any
any_at zero p h = true-false h refl
any_at (suc n) p h =
    ⊎_elim (λ e. (n, omega arith, e)) (λ e. let r = any_at n p e in (r.0, omega arith, r.2)) (or_at (p n) (any n p) h)

pub any_same : (n : ℕ) (p q : ℕ → Bool) → ((j : ℕ) → j < n → p j ≡ q j) → any n p ≡ any n q
unfolding any
any_same zero p q f = refl
any_same (suc n) p q f = rw (f n (omega arith), any_same n p q (λ j l. f j (omega arith)))

pub any-not : (n : ℕ) (p : ℕ → Bool) → any n p ≡ false → (j : ℕ) → j < n → p j ≡ false
any-not n p h j l = by_bool (p j) (λ e. true-false (any_of n p j l e) h) (λ e. e)
