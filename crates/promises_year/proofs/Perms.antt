-- What is counted, added up or picked of figures does not depend on their order.
use Prim.Native.Nat.{ℕ, suc}
use mathlib.Core.Path.{◌≡◌, refl, sym, ap, ◌∙◌}
use mathlib.Core.List.{List, Permᴰ}
use native.Mathlib.Omega.{arith}
use lib.ListN.{length}
use Rattle.year_rules.specs.Figures.{sum_of, best_of}
use Rattle.year_rules.proofs.FigureLaws.{Picks, best-next, best-swap}

pub length-perm : {k l : List ℕ} → Permᴰ k l → length k ≡ length l
length-perm Permᴰ.nil = refl
length-perm (Permᴰ.cons e d) = ap suc (length-perm d)
length-perm (Permᴰ.swap e f) = refl
length-perm (Permᴰ.trans c d) = length-perm c ∙ length-perm d

pub sum-perm : {k l : List ℕ} → Permᴰ k l → sum_of k ≡ sum_of l
unfolding sum_of
sum-perm Permᴰ.nil = refl
sum-perm (Permᴰ.cons e d) = let r = sum-perm d in omega arith
sum-perm (Permᴰ.swap e f) = omega arith
sum-perm (Permᴰ.trans c d) = sum-perm c ∙ sum-perm d

pub best-perm : (pick : ℕ → ℕ → ℕ) → Picks pick → {k l : List ℕ} → Permᴰ k l → best_of pick k ≡ best_of pick l
best-perm pick laws Permᴰ.nil = refl
best-perm pick laws (Permᴰ.cons {a} {b} {l₁} {l₂} e d) =
    best-next pick laws a l₁
    ∙ (rw (length-perm d, best-perm pick laws d, e))
    ∙ sym (best-next pick laws b l₂)
best-perm pick laws (Permᴰ.swap {a} {b} {a'} {b'} {l} e f) = best-swap pick laws a b l ∙ (rw (e, f))
best-perm pick laws (Permᴰ.trans c d) = best-perm pick laws c ∙ best-perm pick laws d
