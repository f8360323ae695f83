-- What the latest of those picked is.
use mathlib.Core.Path.{◌≡◌, refl}
use mathlib.Core.Logic.{◌⊎◌, inl, inr}
use mathlib.Core.Bool.{Bool, true, false, cond}
use Prim.Native.Nat.{ℕ, zero, suc, ◌+◌, ◌≤◌, ◌<◌, max}
use native.Mathlib.Numerals.{add-one}
use native.Mathlib.Omega.{arith}
use Rattle.laws.specs.Picked.{latest}
use Rattle.laws.proofs.Cases.{by_bool, by-eq, by_le}

pub latest-turn : (n : ℕ) (w : ℕ → Bool) (e : ℕ → ℕ) → latest (n + 1) w e ≡ max (latest n w e) (cond (w n) (e n) 0)
unfolding latest
latest-turn n w e = rw add-one

-- at least each one picked
pub latest-over : (n : ℕ) (w : ℕ → Bool) (e : ℕ → ℕ) (j : ℕ) → j < n → w j ≡ true → e j ≤ latest n w e
unfolding latest
latest-over zero w e j l h = absurd (omega arith)
latest-over (suc n) w e j l h =
    by-eq j n
    (λ q. rw q (let h' : w n ≡ true = rw q at h in rw h' (omega arith)))
    (λ ne. let r = latest-over n w e j (omega arith) h in omega arith)

-- at most whatever bounds each one picked
pub latest-under :
    (n : ℕ) (w : ℕ → Bool) (e : ℕ → ℕ) (m : ℕ) → ((j : ℕ) → j < n → w j ≡ true → e j ≤ m) → latest n w e ≤ m
unfolding latest
latest-under zero w e m f = omega arith
latest-under (suc n) w e m f =
    let r = latest-under n w e m (λ j l h. f j (omega arith) h) in
    by_bool (w n) (λ h. let q = f n (omega arith) h in rw h (omega arith)) (λ h. rw h (omega arith))

-- one of those picked, unless it is 0
pub latest-met :
    (n : ℕ) (w : ℕ → Bool) (e : ℕ → ℕ)
    → (latest n w e ≡ 0) ⊎ ((j : ℕ) × (j < n) × (w j ≡ true) × (e j ≡ latest n w e))
unfolding latest
latest-met zero w e = inl refl
latest-met (suc n) w e =
    by_bool (w n)
    (λ h.
    by_le (latest n w e) (e n)
    (λ l. inr (n, omega arith, h, rw h (omega arith)))
    (λ l. rw h (keep (e n) (omega arith) (latest-met n w e))))
    (λ h. rw h (keep 0 (omega arith) (latest-met n w e)))
  where
    keep :
        (x : ℕ) → x ≤ latest n w e → (latest n w e ≡ 0) ⊎ ((j : ℕ) × (j < n) × (w j ≡ true) × (e j ≡ latest n w e))
        → (max (latest n w e) x ≡ 0) ⊎ ((j : ℕ) × (j < suc n) × (w j ≡ true) × (e j ≡ max (latest n w e) x))
    keep x l (inl z) = inl (omega arith)
    keep x l (inr r) = let q = r.3 in inr (r.0, omega arith, r.2, omega arith)

pub latest-is :
    (n : ℕ) (w : ℕ → Bool) (e : ℕ → ℕ) (m : ℕ) → ((j : ℕ) → j < n → w j ≡ true → e j ≤ m) → (j : ℕ) → j < n → w j ≡ true
    → e j ≡ m → latest n w e ≡ m
latest-is n w e m f j l h q = let a = latest-over n w e j l h in let b = latest-under n w e m f in omega arith

pub latest-none : (n : ℕ) (w : ℕ → Bool) (e : ℕ → ℕ) → ((j : ℕ) → j < n → w j ≡ true → e j ≡ 0) → latest n w e ≡ 0
latest-none n w e f = let r = latest-under n w e 0 (λ j l h. let q = f j l h in omega arith) in omega arith

pub latest-same :
    (n : ℕ) (w w' : ℕ → Bool) (e e' : ℕ → ℕ) → ((j : ℕ) → j < n → w j ≡ w' j)
    → ((j : ℕ) → j < n → w j ≡ true → e j ≡ e' j) → latest n w e ≡ latest n w' e'
unfolding latest
latest-same zero w w' e e' f g = refl
latest-same (suc n) w w' e e' f g =
    let r = latest-same n w w' e e' (λ j l. f j (omega arith)) (λ j l h. g j (omega arith) h) in
    let q = f n (omega arith) in
    by_bool (w n)
    (λ h. let h' : w' n ≡ true = cc in let s = g n (omega arith) h in rw (h, h') (omega arith))
    (λ h. let h' : w' n ≡ false = cc in rw (h, h') (omega arith))

-- more are picked, and none of them is later
pub latest-more :
    (n : ℕ) (w v : ℕ → Bool) (e f : ℕ → ℕ) → ((j : ℕ) → j < n → w j ≡ true → (v j ≡ true) × (f j ≡ e j))
    → ((j : ℕ) → j < n → v j ≡ true → f j ≤ latest n w e) → latest n w e ≡ latest n v f
latest-more n w v e f stay by =
    let a = latest-under n v f (latest n w e) by in
    let b =
    latest-under n w e (latest n v f) (λ j l h. let q = stay j l h in let o = latest-over n v f j l q.0 in omega (arith, q.1)) in
    omega arith
