-- One turn of a walk that gathers.
use Prim.Native.Nat.{ℕ, ◌+◌, ◌%◌, ◌^◌, ◌<◌, ◌≤◌, min, max}
use native.Mathlib.Omega.{arith}
use native.Mathlib.Nat.{mod-eq_of_lt}
use mathlib.Core.Bool.{Bool, true, false, not, cond, ◌&&◌, ◌||◌}
use mathlib.Core.Path.{◌≡◌, refl, sym, ap, ◌∙◌}
use lib.Bits.{bit_or}
use lib.Dec.{ltb}
use borrow.Author.Tests.{ltb-true, ltb-false}
use Rattle.laws.proofs.Cases.{by_bool, true-false}
use Rattle.laws.specs.Bits.{has, set_of}
use Rattle.laws.proofs.Bits.{set-turn}
use Rattle.laws.specs.Every.{implies, every, any}
use Rattle.laws.proofs.Every.{every-turn, any-turn}
use Rattle.laws.specs.Picked.{latest}
use Rattle.laws.proofs.Latest.{latest-turn}

implies-is : (a b : Bool) → (not a || b) ≡ implies a b
implies-is true b = refl
implies-is false b = refl

module _ (n : ℕ) (p : ℕ → Bool) where
  pub every_more : {x all : Bool} → x ≡ p n → all ≡ every n p → (x && all) ≡ every (n + 1) p
  every_more h k = rw (h, k) (sym (every-turn n p))

  pub every-implies : (a b : Bool) {all : Bool} → p n ≡ implies a b → all ≡ every n p → ((not a || b) && all) ≡ every (n + 1) p
  every-implies a b h k = every_more (implies-is a b ∙ sym h) k

  pub every-passed : p n ≡ true → every n p ≡ true → every (n + 1) p ≡ true
  every-passed h k = every-turn n p ∙ rw (h, k)

pub latest-more :
    (n : ℕ) (w : ℕ → Bool) (e : ℕ → ℕ) {last next : ℕ} → last ≡ latest n w e → next ≡ max last (cond (w n) (e n) 0)
    → next ≡ latest (n + 1) w e
latest-more n w e h k = k ∙ rw h (sym (latest-turn n w e))

pub any-more : (n : ℕ) (p : ℕ → Bool) {some : Bool} → some ≡ any n p → (p n || some) ≡ any (n + 1) p
any-more n p h = rw h (sym (any-turn n p))

-- the bit of task n, which bit_of made of a test, put into the set of those below n
pub set_more :
    (n : ℕ) (p : ℕ → Bool) {b : Bool} {bit set : ℕ} → n < 64 → b ≡ p n → bit ≡ cond b (2 ^ (n % 64)) 0 → set ≡ set_of n p
    → bit_or set bit ≡ set_of (n + 1) p
set_more n p low h e k = rw (e, h, k, mod-eq_of_lt low) (sym (set-turn n p))

-- and looked for
pub bit-seen : (n set : ℕ) {b : Bool} → n < 64 → b ≡ has set (n % 64) → b ≡ has set n
bit-seen n set low h = h ∙ ap (has set) (mod-eq_of_lt low)

-- the later of two ends, where one counts only if picked
module _ (picked : Bool) (end last : ℕ) where
  pub later-taken : (picked && ltb last end) ≡ true → end ≡ max last (cond picked end 0)
  later-taken h =
      by_bool picked
      (λ e. let l = ltb-true last end (rw e at h) in rw e (omega arith))
      (λ e. true-false (rw e at h) refl)

  pub later-kept : (picked && ltb last end) ≡ false → last ≡ max last (cond picked end 0)
  later-kept h =
      by_bool picked
      (λ e. let l = ltb-false last end (rw e at h) in rw e (omega arith))
      (λ e. rw e (omega arith))

-- tasks that all have a place
pub latest-placed :
    (tasks : ℕ) (w : ℕ → Bool) (e : ℕ → ℕ) {last : ℕ} → tasks ≤ 64 → last ≡ latest (min tasks 64) w e → last ≡ latest tasks w e
latest-placed tasks w e few h = let n : min tasks 64 ≡ tasks = omega arith in rw n at h
