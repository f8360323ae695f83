-- A planned start that is refused hides what is held against it.
use Prim.Native.Nat.{ℕ, ◌+◌, ◌<◌}
use mathlib.Core.Path.{◌≡◌, refl, sym, ap, ◌∙◌}
use mathlib.Core.Logic.{⊎_elim}
use mathlib.Core.Bool.{Bool, true, false, cond, ◌&&◌}
use mathlib.Core.List.{List, ◌∷◌}
use native.Mathlib.Omega.{arith}
use lib.Dec.{eqb}
use Rattle.std.specs.Prelude.{Result}
use lib.ListN.{length, get_or}
use borrow.Author.Tests.{eq-eqb, ne_eqb}
use Rattle.laws.proofs.Cases.{by_bool, by-eq, by_le}
use Rattle.laws.specs.Lists.{all_of}
use Rattle.laws.specs.Split.{index_of}
use Rattle.laws.proofs.Split.{index-first}
use Rattle.text.specs.Number.{value_of, most}
use Rattle.text.specs.Line.{field}
use Rattle.text_fields.specs.Faults.{Fault, field_code, fault_of}
use Rattle.text_fields.proofs.FaultLaws.{zero-at}
use Rattle.text_fields.proofs.Alike.{Plain, alike-three, alike-four}
use Rattle.text_fields.proofs.RangedLaws.{ranged-value}
use Rattle.plan_read.specs.Private.Fields.{Tail, Line, start_at, line_by}

pub start-value : (line : List ℕ) (n : ℕ) → field_code 0 most (field line n) ≡ 0 → start_at line n ≡ value_of (field line n)
start-value line n z = ranged-value 0 most (field line n) refl z

not-all : (codes : List ℕ) (i : ℕ) → i < length codes → (get_or codes i 0 ≡ 0 → ⊥) → all_of (eqb 0) codes ≡ false
not-all codes i l n = by_bool (all_of (eqb 0) codes) (λ a. absurd (n (zero-at codes a i l))) (λ a. a)

found_at : (c : ℕ) (codes : List ℕ) (i : ℕ) → i < length codes → get_or codes i 0 ≡ c → index_of c codes < length codes
found_at c codes i l e = by_le (length codes) (index_of c codes) (λ m. absurd (index-first c codes 0 i (omega arith) e)) (λ m. m)

-- the first of a code, where it stands at the fifth place, and where the two that differ are not of it
module _ (c w n b r q d x y : ℕ) (rest : List ℕ) (alike : eqb r c ≡ eqb q c) where
  index-there : d ≡ c → index_of c (w ∷ n ∷ b ∷ r ∷ d ∷ x ∷ rest) ≡ index_of c (w ∷ n ∷ b ∷ q ∷ d ∷ y ∷ rest)
  unfolding index_of
  index-there e = rw (alike, eq-eqb d c e)

  index-alike : eqb x c ≡ eqb y c → index_of c (w ∷ n ∷ b ∷ r ∷ d ∷ x ∷ rest) ≡ index_of c (w ∷ n ∷ b ∷ q ∷ d ∷ y ∷ rest)
  unfolding index_of
  index-alike also = rw (alike, also)

module _ (line : List ℕ) (board ready : ℕ) (tail : Tail) where
  abbrev pub By : List ℕ → Result Line Fault
  By codes = line_by line codes board ready tail

  refused-alike :
      (these those : List ℕ) (i : ℕ) → i < length these → i < length those → (get_or these i 0 ≡ 0 → ⊥) → (get_or those i 0 ≡ 0 → ⊥)
      → fault_of line these ≡ fault_of line those → By these ≡ By those
  unfolding line_by
  refused-alike these those i l m n o e = rw (not-all these i l n, not-all those i m o, e)

  -- d is the planned start's code, x and y are the planned finish's
  module _ (w n b d x y : ℕ) (rest : List ℕ) (plain : Plain d) (alike : eqb x 3 ≡ eqb y 3) (same : d ≡ 0 → x ≡ y) where
    pub first_alike : By (w ∷ n ∷ b ∷ d ∷ x ∷ rest) ≡ By (w ∷ n ∷ b ∷ d ∷ y ∷ rest)
    unfolding index_of
    first_alike =
        let these : List ℕ = w ∷ n ∷ b ∷ d ∷ x ∷ rest in
        let those : List ℕ = w ∷ n ∷ b ∷ d ∷ y ∷ rest in
        ⊎_elim (λ z. ap (λ (v : ℕ). By (w ∷ n ∷ b ∷ d ∷ v ∷ rest)) (same z))
        (⊎_elim
        (λ e.
        refused-alike these those 3 (omega arith) (omega arith) (λ z. omega arith) (λ z. omega arith)
        (alike-three line these those refl (rw e) (found_at 3 these 3 (omega arith) e)))
        (λ e.
        refused-alike these those 3 (omega arith) (omega arith) (λ z. omega arith) (λ z. omega arith)
        (alike-four line these those refl (rw (e, alike)) (rw e) (found_at 4 these 3 (omega arith) e))))
        plain

    -- r and q are the ready tick's
    pub second_alike :
        (r q : ℕ) → eqb r 3 ≡ eqb q 3 → eqb r 4 ≡ eqb q 4 → (d ≡ 0 → r ≡ q)
        → By (w ∷ n ∷ b ∷ r ∷ d ∷ x ∷ rest) ≡ By (w ∷ n ∷ b ∷ q ∷ d ∷ y ∷ rest)
    second_alike r q three four ready =
        let these : List ℕ = w ∷ n ∷ b ∷ r ∷ d ∷ x ∷ rest in
        let those : List ℕ = w ∷ n ∷ b ∷ q ∷ d ∷ y ∷ rest in
        ⊎_elim (λ z. λ i. By (w ∷ n ∷ b ∷ ready z i ∷ d ∷ same z i ∷ rest))
        (⊎_elim
        (λ e.
        refused-alike these those 4 (omega arith) (omega arith) (λ z. omega arith) (λ z. omega arith)
        (alike-three line these those refl (index-there 3 w n b r q d x y rest three e) (found_at 3 these 4 (omega arith) e)))
        (λ e.
        refused-alike these those 4 (omega arith) (omega arith) (λ z. omega arith) (λ z. omega arith)
        (alike-four line these those refl (index-alike 3 w n b r q d x y rest three alike) (index-there 4 w n b r q d x y rest four e)
        (found_at 4 these 4 (omega arith) e))))
        plain

-- 18 or not is neither 3 nor 4
pub ready-alike : (c e : ℕ) (p q : Bool) → (0 ≡ e → ⊥) → (18 ≡ e → ⊥) → eqb (cond (eqb c 0 && p) 18 c) e ≡ eqb (cond (eqb c 0 && q) 18 c) e
ready-alike c e p q zero eighteen = by-eq c 0 (λ z. rw z (go p ∙ sym (go q))) (λ n. rw (ne_eqb c 0 n))
  where
    go : (b : Bool) → eqb (cond b 18 0) e ≡ false
    go true = ne_eqb 18 e eighteen
    go false = ne_eqb 0 e zero

-- the planned finish's code by a planned start, as it is read and as it is spelt
abbrev pub finish_by : List ℕ → ℕ → ℕ → ℕ
finish_by line start n = field_code (start + 1) most (field line (n + 1))

pub finish-same : (line : List ℕ) (n : ℕ) → field_code 0 most (field line n) ≡ 0 → finish_by line (start_at line n) n ≡ finish_by line (value_of (field line n)) n
finish-same line n z = ap (λ (v : ℕ). finish_by line v n) (start-value line n z)
