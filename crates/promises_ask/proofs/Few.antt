-- Of tasks no two of which share one of m boards there are at most m.
use Prim.Native.Nat.{ℕ, zero, suc, ◌+◌, ◌≤◌, ◌<◌}
use native.Mathlib.Omega.{arith}
use mathlib.Core.Path.{◌≡◌, refl, sym, ap, ◌∙◌}
use mathlib.Core.Bool.{Bool, true, false, not, ◌&&◌}
use mathlib.Core.List.{[], ◌∷◌}
use lib.Dec.{eqb}
use lib.ListN.{length, length-append}
use borrow.Author.Tests.{eqb-true, eqb-false, not-true}
use Rattle.laws.proofs.Cases.{by_bool, and_l, and_r}
use Rattle.ask_sheet.specs.Sheet.{numbers}
use Rattle.ask_sheet.proofs.Numbers.{numbers-none}

abbrev size : ℕ → (ℕ → Bool) → ℕ
size n w = length (numbers n w)

size-taken : (n : ℕ) (w : ℕ → Bool) → w n ≡ true → size (suc n) w ≡ size n w + 1
unfolding numbers
size-taken n w h = rw h (length-append (numbers n w) (suc n ∷ []))

size-passed : (n : ℕ) (w : ℕ → Bool) → w n ≡ false → size (suc n) w ≡ size n w
unfolding numbers
size-passed n w h = rw h

-- those of a kind, and the others
parted : (n : ℕ) (w b : ℕ → Bool) → size n w ≡ size n (λ k. w k && not (b k)) + size n (λ k. w k && b k)
unfolding numbers
parted zero w b = refl
parted (suc n) w b =
    let r = parted n w b in
    by_bool (w n)
    (λ t.
    by_bool (b n)
    (λ q.
    let x = size-taken n w t in
    let y = size-passed n (λ k. w k && not (b k)) (rw (t, q)) in
    let z = size-taken n (λ k. w k && b k) (rw (t, q)) in omega arith)
    (λ q.
    let x = size-taken n w t in
    let y = size-taken n (λ k. w k && not (b k)) (rw (t, q)) in
    let z = size-passed n (λ k. w k && b k) (rw (t, q)) in omega arith))
    (λ t.
    let x = size-passed n w t in
    let y = size-passed n (λ k. w k && not (b k)) (rw t) in
    let z = size-passed n (λ k. w k && b k) (rw t) in omega arith)

none : (n : ℕ) (w : ℕ → Bool) → ((k : ℕ) → k < n → w k ≡ true → ⊥) → size n w ≡ 0
none n w h = ap length (numbers-none n w (λ k l. by_bool (w k) (λ t. absurd (h k l t)) (λ t. t)))

-- at most one
one : (n : ℕ) (w : ℕ → Bool) → ((j k : ℕ) → j < n → k < n → w j ≡ true → w k ≡ true → j ≡ k) → size n w ≤ 1
unfolding numbers
one zero w h = omega arith
one (suc n) w h =
    by_bool (w n)
    (λ t.
    let x = size-taken n w t in
    let z = none n w (λ k l v. let e = h k n (omega arith) (omega arith) v t in omega arith) in omega arith)
    (λ t. let x = size-passed n w t in let r = one n w (λ j k p q. h j k (omega arith) (omega arith)) in omega arith)

pub few :
    (m n : ℕ) (w : ℕ → Bool) (board : ℕ → ℕ) → ((k : ℕ) → k < n → w k ≡ true → (0 < board k) × (board k ≤ m))
    → ((j k : ℕ) → j < n → k < n → w j ≡ true → w k ≡ true → board j ≡ board k → j ≡ k) → length (numbers n w) ≤ m
few zero n w board on apart = let z = none n w (λ k l v. let r = on k l v in omega (arith, r.0, r.1)) in omega arith
few (suc m) n w board on apart =
    let b : ℕ → Bool = λ k. eqb (board k) (suc m) in
    let p = parted n w b in
    let last =
    one n (λ k. w k && b k)
    (λ j k l q u v.
    let e₁ = eqb-true (board j) (suc m) (and_r (w j) (b j) u) in
    let e₂ = eqb-true (board k) (suc m) (and_r (w k) (b k) v) in
    apart j k l q (and_l (w j) (b j) u) (and_l (w k) (b k) v) (e₁ ∙ sym e₂)) in
    let rest =
    few m n (λ k. w k && not (b k)) board
    (λ k l v.
    let r = on k l (and_l (w k) (not (b k)) v) in
    let ne = eqb-false (board k) (suc m) (not-true (b k) (and_r (w k) (not (b k)) v)) in (r.0, omega (arith, r.1, ne)))
    (λ j k l q u v. apart j k l q (and_l (w j) (not (b j)) u) (and_l (w k) (not (b k)) v)) in
    omega arith
