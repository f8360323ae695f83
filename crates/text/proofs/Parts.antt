-- A search for a separator, and a split at it, from a place of the text on.
use Prim.Native.Nat.{ℕ, zero, suc, ◌+◌, ◌-◌, ◌≤◌, ◌<◌}
use mathlib.Core.Path.{◌≡◌, refl, sym, ap, ◌∙◌}
use mathlib.Core.Bool.{cond}
use mathlib.Core.List.{List, [], ◌∷◌}
use native.Mathlib.Omega.{arith}
use native.Mathlib.Numerals.{add-one}
use lib.ListN.{length, take, drop, get_or, length-drop, drop_of_length-le}
use lib.Seq.{take_all, length-take-le}
use lib.Dec.{eqb}
use Rattle.std.specs.List.{count_by}
use Rattle.std.proofs.lemmas.List.Recursion.{is_count_by}
use Rattle.laws.proofs.Cases.{by_bool, by_le}
use Rattle.laws.specs.Split.{index_of, before, after, skip_on, split_on, cons_first}
use Rattle.laws.proofs.Split.{index-le, skip-suc, split-found, split-none}

-- the place of the first c lies within the text
pub found-le : (c : ℕ) (s : List ℕ) {r : ℕ} → r ≡ index_of c s → r ≤ length s
found-le c s e = rw e (index-le c s)

-- ---- parts

pub tail-is : (s : List ℕ) (k : ℕ) → take (length s - k) (drop k s) ≡ drop k s
tail-is s k = take_all (length s - k) (drop k s) (omega (arith, length-drop k s))

pub past-some : (s : List ℕ) (k : ℕ) → take (length s - (k + 1)) (drop (k + 1) s) ≡ drop (suc k) s
past-some s k = tail-is s (k + 1) ∙ rw add-one

pub past-none : (s : List ℕ) (k : ℕ) → length s ≤ k → take (length s - length s) (drop (length s) s) ≡ drop (suc k) s
past-none s k h =
    tail-is s (length s)
    ∙ drop_of_length-le s {i = length s} (omega arith)
    ∙ sym (drop_of_length-le s {i = suc k} (omega arith))

-- the first part, by its length: whether more follow
module _ (c : ℕ) (s p : List ℕ) (e : p ≡ before c s) where
  pub part_length : length p ≡ index_of c s
  part_length = ap length e ∙ length-take-le (index_of c s) s (index-le c s)

  pub part-within : length p ≤ length s
  part-within = omega (arith, part_length, index-le c s)

  pub past-part : (n : List ℕ) → n ≡ drop (suc (length p)) s → n ≡ after c s
  past-part n q = q ∙ ap (λ (k : ℕ). drop (suc k) s) part_length

  pub parts_last : length p ≡ length s → split_on c s ≡ p ∷ []
  parts_last h =
      let g : length s ≤ index_of c s = omega (arith, part_length) in
      split-none c s g ∙ rw (e, take_all (index_of c s) s g)

  pub parts_more : (length p ≡ length s → ⊥) → split_on c s ≡ p ∷ split_on c (after c s)
  parts_more h = split-found c s (omega (arith, part_length, index-le c s, h)) ∙ rw e

  pub after_less : (n : List ℕ) → (length p ≡ length s → ⊥) → n ≡ after c s → length n < length s
  after_less n h q = rw (q, length-drop) (omega (arith, part_length, index-le c s, h))

pub data First (c : ℕ) (s : List ℕ) : Type 0 where
  first : (later : List (List ℕ)) → split_on c s ≡ before c s ∷ later → First c s

pub first_part : (c : ℕ) (s : List ℕ) → First c s
first_part c s =
    by_le (length s) (index_of c s)
    (λ h. first [] (split-none c s h ∙ rw (take_all (index_of c s) s h)))
    (λ h. first (split_on c (after c s)) (split-found c s h))

-- ---- fields

pub field-first : (c : ℕ) (s : List ℕ) → get_or (split_on c s) 0 [] ≡ before c s
field-first c s = go (first_part c s)
  where
    go : First c s → get_or (split_on c s) 0 [] ≡ before c s
    go (first l e) = rw e

none-at : (n : ℕ) → ◌≡◌ {A = List ℕ} (get_or ([] ∷ []) n []) []
none-at zero = refl
none-at (suc n) = refl

pub field-turn :
    (c : ℕ) (s r : List ℕ) (n : ℕ) (x : List ℕ) → 0 < n → r ≡ after c s → get_or (split_on c s) n [] ≡ x
    → get_or (split_on c r) (n - 1) [] ≡ x
unfolding split_on
field-turn c s r zero x h e p = absurd (omega arith)
field-turn c s r (suc n) x h e p =
    let m : suc n - 1 ≡ n = omega arith in
    by_le (length s) (index_of c s)
    (λ g.
    let q : after c s ≡ [] = drop_of_length-le s {i = suc (index_of c s)} (omega arith) in
    rw (m, e, q) (none-at n ∙ (rw (split-none c s g) at p)))
    (λ g. rw (m, e) (rw (split-found c s g) at p))

-- the rest of a line, field by field
pub skip-turn :
    (c : ℕ) (s r : List ℕ) (n i : ℕ) (x : List ℕ) → i < n → r ≡ after c s → skip_on c (n - i) s ≡ x → skip_on c (n - (i + 1)) r ≡ x
unfolding skip_on
skip-turn c s r n i x h e p = let m : n - i ≡ suc (n - (i + 1)) = omega arith in rw e (rw m at p)

pub skip-done : (c : ℕ) (s : List ℕ) (n i : ℕ) (x : List ℕ) → n ≤ i → skip_on c (n - i) s ≡ x → s ≡ x
unfolding skip_on
skip-done c s n i x h p = let m : n - i ≡ 0 = omega arith in rw m at p

pub field_at : (c : ℕ) (s : List ℕ) (n : ℕ) → before c (skip_on c n s) ≡ get_or (split_on c s) n []
unfolding skip_on
field_at c s zero = sym (field-first c s)
field_at c s (suc n) =
    let m : suc n - 1 ≡ n = omega arith in
    field_at c (after c s) n ∙ rw m at (field-turn c s (after c s) (suc n) _ (omega arith) refl refl)

-- fields found one after another: the rest of a line from its field n on
pub record From (c : ℕ) (line : List ℕ) (n : ℕ) (rest : List ℕ) : Type 0 where
  pub at : (m : ℕ) → get_or (split_on c rest) m [] ≡ get_or (split_on c line) (n + m) []

pub from_start : (c : ℕ) (line : List ℕ) → From c line 0 line
from_start c line = record { at = λ m. let e : 0 + m ≡ m = omega arith in rw e }

module _ (c : ℕ) (line : List ℕ) (n : ℕ) (rest part : List ℕ) (f : From c line n rest) (e : part ≡ before c rest) where
  pub from_field : part ≡ get_or (split_on c line) n []
  from_field =
      let z : n + 0 ≡ n = omega arith in
      e ∙ sym (field-first c rest) ∙ f.at 0 ∙ ap (λ (k : ℕ). get_or (split_on c line) k []) z

  pub from_next : (more : List ℕ) → more ≡ drop (suc (length part)) rest → From c line (n + 1) more
  from_next more q = record {
    at = λ m.
        let a : m ≡ suc m - 1 = omega arith in
        let b : n + suc m ≡ n + 1 + m = omega arith in
        ap (λ (k : ℕ). get_or (split_on c more) k []) a
        ∙ field-turn c rest more (suc m) _ (omega arith) (past-part c rest part e more q) (f.at (suc m))
        ∙ ap (λ (k : ℕ). get_or (split_on c line) k []) b;
  }

-- the same by what is left
pub skip-next :
    (c n : ℕ) (line rest part : List ℕ) → rest ≡ skip_on c n line → part ≡ before c rest → {more : List ℕ}
    → more ≡ drop (suc (length part)) rest → more ≡ skip_on c (suc n) line
skip-next c n line rest part r e q = past-part c rest part e _ q ∙ ap (after c) r ∙ sym (skip-suc c n line)

pub from-skip : (c : ℕ) (line : List ℕ) (n : ℕ) → From c line n (skip_on c n line)
unfolding skip_on
from-skip c line zero = from_start c line
from-skip c line (suc n) = record {
  at = λ m.
      let a : m ≡ suc m - 1 = omega arith in
      let b : n + suc m ≡ suc n + m = omega arith in
      let more = after c (skip_on c n line) in
      ap (λ (s : List ℕ). get_or (split_on c s) m []) (skip-suc c n line)
      ∙ ap (λ (k : ℕ). get_or (split_on c more) k []) a
      ∙ field-turn c (skip_on c n line) more (suc m) _ (omega arith) refl ((from-skip c line n).at (suc m))
      ∙ ap (λ (k : ℕ). get_or (split_on c line) k []) b;
}

-- ---- how many parts

split-some : (c : ℕ) (s : List ℕ) → 0 < length (split_on c s)
split-some c s = go (first_part c s)
  where
    go : First c s → 0 < length (split_on c s)
    go (first l e) = rw e (omega arith)

grown-first : (b : ℕ) (l : List (List ℕ)) → 0 < length l → length (cons_first b l) ≡ length l
unfolding cons_first
grown-first b [] h = absurd (omega arith)
grown-first b (f ∷ fs) h = refl

pub parts-count : (c : ℕ) (s : List ℕ) → count_by (λ b. eqb b c) s + 1 ≡ length (split_on c s)
unfolding split_on
parts-count c s = let e = is_count_by (λ l. length (split_on c l) - 1) (λ b. eqb b c) none more s in omega (arith, e, split-some c s)
  where
    none : length (split_on c []) - 1 ≡ 0
    none = refl

    more : (b : ℕ) (s : List ℕ) → length (split_on c (b ∷ s)) - 1 ≡ cond (eqb b c) (1 + (length (split_on c s) - 1)) (length (split_on c s) - 1)
    more b s =
        let some = split-some c s in
        by_bool (eqb b c)
        (λ e. rw e (omega arith))
        (λ e. rw e (ap (λ (n : ℕ). n - 1) (grown-first b (split_on c s) some)))
