-- The items that a list reader keeps, and how many a list has.
use Prim.Native.Nat.{ℕ, zero, suc, ◌+◌, ◌-◌, ◌≤◌}
use mathlib.Core.Path.{◌≡◌, ap, ◌∙◌}
use mathlib.Core.Bool.{true}
use mathlib.Core.List.{List, ◌++◌}
use native.Mathlib.Omega.{arith}
use lib.ListN.{length, drop, replicate}
use lib.Seq.{sets, sets-eq}
use Rattle.text_fields.specs.Items.{holds_ok, drive_of}
use Rattle.text_fields.proofs.Rise.{fine-count}

drop-replicate : (k n a : ℕ) → drop k (replicate n a) ≡ replicate (n - k) a
drop-replicate zero n a = let e : n - 0 ≡ n = omega arith in rw e
drop-replicate (suc k) zero a = let e : 0 - suc k ≡ 0 = omega arith in rw e
drop-replicate (suc k) (suc n) a = let e : suc n - suc k ≡ n - k = omega arith in rw e (drop-replicate k n a)

-- the items kept, with zeros after them
pub items_kept : (l : List ℕ) → length l ≤ 64 → sets (replicate 64 0) 0 l ≡ l ++ replicate (64 - length l) 0
items_kept l h =
    let e : 0 + length l ≡ length l = omega arith in
    sets-eq l (replicate 64 0) 0 (omega arith)
    ∙ ap (λ (k : ℕ). l ++ drop k (replicate 64 0)) e
    ∙ ap (λ (r : List ℕ). l ++ r) (drop-replicate (length l) 64 0)

pub holds-count : (l : List ℕ) → holds_ok l ≡ true → length l ≤ 32
unfolding holds_ok
holds-count l h = fine-count drive_of 32 l h
