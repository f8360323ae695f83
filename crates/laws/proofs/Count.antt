-- How many are picked, compared.
use mathlib.Core.Path.{◌≡◌, refl}
use mathlib.Core.Bool.{Bool, true, false}
use Prim.Native.Nat.{ℕ, zero, suc, ◌≤◌, ◌<◌}
use native.Mathlib.Omega.{arith}
use Rattle.laws.specs.Private.Count.{count}
use Rattle.laws.proofs.Cases.{by_bool, by-eq}

pub count-le :
    (n : ℕ) (w v : ℕ → Bool) → ((j : ℕ) → j < n → v j ≡ true → w j ≡ true) → count n v ≤ count n w
unfolding count
count-le zero w v f = omega arith
count-le (suc n) w v f =
    let r = count-le n w v (λ j l h. f j (omega arith) h) in
    by_bool (v n) (λ h. rw (h, f n (omega arith) h) (omega arith)) (λ h. rw h (omega arith))

pub count-lt :
    (n : ℕ) (w v : ℕ → Bool) → ((j : ℕ) → j < n → v j ≡ true → w j ≡ true) → (k : ℕ) → k < n → w k ≡ true
    → v k ≡ false → count n v < count n w
unfolding count
count-lt zero w v f k l a b = absurd (omega arith)
count-lt (suc n) w v f k l a b =
    by-eq k n
    (λ q.
    let a' : w n ≡ true = rw q at a in
    let b' : v n ≡ false = rw q at b in
    let r = count-le n w v (λ j l' h. f j (omega arith) h) in
    rw (a', b') (omega arith))
    (λ ne.
    let r = count-lt n w v (λ j l' h. f j (omega arith) h) k (omega arith) a b in
    by_bool (v n) (λ h. rw (h, f n (omega arith) h) (omega arith)) (λ h. rw h (omega arith)))

pub count-some : (n : ℕ) (w : ℕ → Bool) (k : ℕ) → k < n → w k ≡ true → 0 < count n w
count-some n w k l h = let r = count-lt n w (λ j. false) (λ j l' q. cc) k l h refl in omega arith

pub count-all : (n : ℕ) (w : ℕ → Bool) → count n w ≤ n
unfolding count
count-all zero w = omega arith
count-all (suc n) w =
    let r = count-all n w in by_bool (w n) (λ h. rw h (omega arith)) (λ h. rw h (omega arith))
