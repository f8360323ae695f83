-- Another order of the list gives the same totals.
use Prim.Native.Nat.{ℕ, ◌+◌, max, min}
use mathlib.Core.Path.{◌≡◌, refl, ◌∙◌}
use mathlib.Core.Bool.{Bool, not}
use mathlib.Core.List.Permᴰ
use mathlib.Core.List.{List, ◌++◌, append_assoc, Permᴰ}
use native.Mathlib.Omega.{arith}
use lib.ListN.{length}
use Rattle.school.specs.Said.{LogLine}
use Rattle.year_rules.proofs.FigureLaws.{max-picks, min-picks}
use Rattle.year_rules.proofs.BoardLaws.{boards-same}
use Rattle.promises_year.specs.Year.{Morning, is_taken, on_board, figures_of, many_of, year_of}
use Rattle.promises_year.proofs.Perms.{length-perm, sum-perm, best-perm}
use Rattle.promises_year.proofs.Fed.{part, totals-same}

pub swap-parts : (a b l : List ℕ) → Permᴰ (a ++ (b ++ l)) (b ++ (a ++ l))
swap-parts a b l = rw (← append_assoc a b l, ← append_assoc b a l) (Permᴰ.append_right l (Permᴰ.append_comm a b))

many-perm : (test : Morning → Bool) {year other : List Morning} → Permᴰ year other → many_of test year ≡ many_of test other
unfolding many_of
many-perm test Permᴰ.nil = refl
many-perm test (Permᴰ.cons e d) = rw (e, many-perm test d)
many-perm test (Permᴰ.swap e f) = rw (e, f) (omega arith)
many-perm test (Permᴰ.trans c d) = many-perm test c ∙ many-perm test d

pub length-many : {year other : List Morning} → Permᴰ year other → length year ≡ length other
length-many Permᴰ.nil = refl
length-many (Permᴰ.cons e d) = let r = length-many d in omega arith
length-many (Permᴰ.swap e f) = refl
length-many (Permᴰ.trans c d) = length-many c ∙ length-many d

pub figures-order : (which : LogLine → Bool) {year other : List Morning} → Permᴰ year other → Permᴰ (figures_of which year) (figures_of which other)
unfolding figures_of
figures-order which Permᴰ.nil = Permᴰ.nil
figures-order which (Permᴰ.cons {a} {b} e d) = rw e (Permᴰ.append_left (part which b) (figures-order which d))
figures-order which (Permᴰ.swap {a} {b} {a'} {b'} {l} e f) = rw (e, f) (swap-parts (part which b') (part which a') (figures_of which l))
figures-order which (Permᴰ.trans c d) = Permᴰ.trans (figures-order which c) (figures-order which d)

pub year-order : {year other : List Morning} → Permᴰ year other → year_of year ≡ year_of other
unfolding year_of
year-order {year} {other} p =
    let figures : (b : ℕ) → Permᴰ (figures_of (on_board (b + 1)) year) (figures_of (on_board (b + 1)) other) = λ b. figures-order (on_board (b + 1)) p in
    totals-same (year_of year) (year_of other) (many-perm is_taken p) (many-perm (λ m. not (is_taken m)) p)
    (boards-same _ _ (λ b h. length-perm (figures b)))
    (boards-same _ _ (λ b h. sum-perm (figures b)))
    (boards-same _ _ (λ b h. best-perm max max-picks (figures b)))
    (boards-same _ _ (λ b h. best-perm min min-picks (figures b)))
