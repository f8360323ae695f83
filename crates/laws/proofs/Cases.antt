-- Case splits that keep their equation, and the Boolean connectives as facts.
use mathlib.Core.Path.{◌≡◌, refl}
use mathlib.Core.Logic.{◌⊎◌, inl, inr, ◌≢◌}
use mathlib.Core.Bool.{Bool, true, false, cond, ◌&&◌, ◌||◌}
use Prim.Native.Nat.{ℕ, ◌≤◌, ◌<◌}
use native.Mathlib.Omega.{arith}
use native.Mathlib.Decide.{dec_le, ℕ_discrete}
use Rattle.laws.specs.Every.{implies}

pub by_bool {ℓ} : {C : Type ℓ} (b : Bool) → (b ≡ true → C) → (b ≡ false → C) → C
by_bool true f g = f refl
by_bool false f g = g refl

by-dec {ℓ κ} : {A : Type ℓ} {C : Type κ} → Dec A → (A → C) → ((A → ⊥) → C) → C
by-dec (yes a) f g = f a
by-dec (no n) f g = g n

pub by-eq {κ} : {C : Type κ} (a b : ℕ) → (a ≡ b → C) → (a ≢ b → C) → C
by-eq a b f g = by-dec (ℕ_discrete a b) f g

pub by_le {κ} : {C : Type κ} (a b : ℕ) → (a ≤ b → C) → (b < a → C) → C
by_le a b f g = by-dec (dec_le a b) f (λ n. g (omega arith))

pub true-false {κ} : {C : Type κ} {b : Bool} → b ≡ true → b ≡ false → C
true-false p q = let z : ◌≡◌ {A = ℕ} 0 1 = cc in absurd (omega arith)

-- two tests that hold together are one
pub same_test : (a b : Bool) → (a ≡ true → b ≡ true) → (b ≡ true → a ≡ true) → a ≡ b
same_test true b f g = let h = f refl in cc
same_test false true f g = g refl
same_test false false f g = refl

pub and_l : (a b : Bool) → (a && b) ≡ true → a ≡ true
and_l true b h = refl
and_l false b h = h

pub and_r : (a b : Bool) → (a && b) ≡ true → b ≡ true
and_r true b h = h
and_r false b h = cc

pub and_no : (a : Bool) → (a && false) ≡ false
and_no true = refl
and_no false = refl

pub and-of : {a b : Bool} → a ≡ true → b ≡ true → (a && b) ≡ true
and-of p q = rw (p, q)

pub or_at : (a b : Bool) → (a || b) ≡ true → (a ≡ true) ⊎ (b ≡ true)
or_at true b h = inl refl
or_at false b h = inr h

pub or_no : (a b : Bool) → (a || b) ≡ false → (a ≡ false) × (b ≡ false)
or_no true b h = true-false refl h
or_no false b h = (refl, h)

pub or-false : (a : Bool) → (a || false) ≡ a
or-false true = refl
or-false false = refl

pub or_l : {a : Bool} (b : Bool) → a ≡ true → (a || b) ≡ true
or_l b p = rw p

pub or_r : (a : Bool) {b : Bool} → b ≡ true → (a || b) ≡ true
or_r true q = refl
or_r false q = q

pub implies-at : (a b : Bool) → implies a b ≡ true → a ≡ true → b ≡ true
implies-at a b h e = rw e at h

pub implies-of : (a b : Bool) → (a ≡ true → b ≡ true) → implies a b ≡ true
implies-of true b f = f refl
implies-of false b f = refl

pub implies-fails : (a b : Bool) → implies a b ≡ false → (a ≡ true) × (b ≡ false)
implies-fails true b h = (refl, h)
implies-fails false b h = true-false refl h

-- one refusal of a ladder passed
pub guard_passed : (g : Bool) (c r : ℕ) → 0 < c → cond g c r ≡ 0 → (g ≡ false) × (r ≡ 0)
guard_passed true c r p h = absurd (omega arith)
guard_passed false c r p h = (refl, h)
