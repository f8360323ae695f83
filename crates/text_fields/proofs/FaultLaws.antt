-- The codes of a line's fields, and its fault by them.
use Prim.Native.Nat.{ℕ, suc, ◌+◌, ◌≤◌, ◌<◌}
use mathlib.Core.Path.{◌≡◌, refl, sym, ap, ◌∙◌}
use mathlib.Core.Bool.{Bool, true, false, not, cond, ◌&&◌, ◌||◌}
use mathlib.Core.List.{List, [], ◌∷◌, map}
use native.Mathlib.Omega.{arith}
use lib.Dec.{eqb, leb, ltb}
use lib.ListN.{length, get_or, drop, drop_of_length-le, length-map}
use lib.Seq.{drop-cons}
use native.Mathlib.Numerals.{add-one}
use Rattle.std.specs.Prelude.{Option, Some, None}
use Rattle.std.specs.List.{list_all, position, position_or_len}
use Rattle.std.proofs.lemmas.List.Recursion.{is_position_or_len}
use borrow.Author.Tests.{eq-eqb, ne_eqb, eqb-true, le-leb, lt-leb, leb-true, lt-ltb, le-ltb}
use Rattle.laws.proofs.Cases.{by_bool, by-eq, by_le, and_l, and_r, and_no, and-of, true-false}
use Rattle.laws.specs.Lists.{all_of, any_of, same}
use Rattle.laws.proofs.Lists.{all-at}
use Rattle.laws.specs.Split.{index_of, skip_on}
use Rattle.laws.proofs.Split.{skip-le}
use Rattle.text.specs.Number.{is_number, value_of, most, number_of}
use Rattle.text_fields.specs.Items.{between}
use Rattle.text.specs.Line.{TAB, fields}
use Rattle.text_fields.specs.Faults.{code_for, field_code, word_code, end_code, worst, column_of, fault_of}
use Rattle.text_fields.specs.Said.{fault_number, code_in}
use Rattle.text_fields.proofs.Codes.{codes_in}
use Rattle.text_fields.specs.Private.Place.{place_in}
use Rattle.text_fields.specs.declared.FieldFault.{FieldFault}
use Rattle.text_fields.specs.declared.FieldFault.TheVariants.{Misspelt, OutOfRange, Shared, ReadyLate}

-- ---- words and ends

module _ (word s : List ℕ) where
  pub word-right : true ≡ same s word → 0 ≡ word_code word s
  unfolding word_code
  word-right h = rw (← h)

  pub word-wrong : false ≡ same s word → 3 ≡ word_code word s
  unfolding word_code
  word-wrong h = rw (← h)

module _ (ended : Bool) (n : ℕ) (line : List ℕ) {count : ℕ} (e : count ≡ length (fields line)) where
  pub end-right : ended ≡ true → count ≤ n → 0 ≡ end_code ended n line
  unfolding end_code
  end-right t h = rw (t, le-leb (length (fields line)) n (omega arith))

  pub end-many : n < count → 3 ≡ end_code ended n line
  unfolding end_code
  end-many h = rw (lt-leb (length (fields line)) n (omega arith), and_no ended)

pub end-open : (ended : Bool) (n : ℕ) (line : List ℕ) → ended ≡ false → 3 ≡ end_code ended n line
unfolding end_code
end-open ended n line h = rw h

-- ---- codes

-- a code is 0, 3, 4, 20 or 18
unfoldable pub is_code : ℕ → Bool
is_code c = eqb 0 c || (eqb 3 c || (eqb 4 c || (eqb 20 c || eqb 18 c)))

pub eighteen-is-code : is_code 18 ≡ true
unfolding is_code
eighteen-is-code = refl

pub twenty-is-code : is_code 20 ≡ true
unfolding is_code
twenty-is-code = refl

pub for-code : (a b : Bool) → is_code (code_for a b) ≡ true
unfolding is_code
for-code true true = refl
for-code true false = refl
for-code false b = refl

pub field-is-code : (low high : ℕ) (s : List ℕ) → is_code (field_code low high s) ≡ true
unfolding is_code number_of
field-is-code low high s =
    by_bool (is_number s)
    (λ e.
    by_bool (leb (value_of s) most)
    (λ f. by_bool (between low high (value_of s)) (λ b. rw (e, f, b)) (λ b. rw (e, f, b)))
    (λ f. rw (e, f)))
    (λ e. rw e)

pub word-is-code : (word s : List ℕ) → is_code (word_code word s) ≡ true
unfolding is_code word_code
word-is-code word s = by_bool (same s word) (λ e. rw e) (λ e. rw e)

pub end-is-code : (ended : Bool) (n : ℕ) (line : List ℕ) → is_code (end_code ended n line) ≡ true
unfolding is_code end_code
end-is-code ended n line = by_bool (ended && leb (length (fields line)) n) (λ e. rw e) (λ e. rw e)

-- a line is faultless where all its codes are 0
pub faultless-is : (codes : List ℕ) → all_of is_code codes ≡ true → all_of (eqb 0) codes ≡ eqb (worst codes) 0
unfolding worst all_of any_of is_code
faultless-is [] h = refl
faultless-is (c ∷ l) h =
    let r = faultless-is l (and_r (is_code c) (all_of is_code l) h) in
    by-eq c 0
    (λ z. rw z r)
    (λ n.
    by-eq c 3
    (λ t. rw t)
    (λ m.
    by-eq c 4
    (λ f. rw f (other (any_of (eqb 3) l)))
    (λ q.
    by-eq c 20
    (λ t. rw t (third (any_of (eqb 3) l) (any_of (eqb 4) l)))
    (λ w.
    let f : c ≡ 18 = eighteen c n m q w (and_l (is_code c) (all_of is_code l) h) in
    rw f (last (any_of (eqb 3) l) (any_of (eqb 4) l) (any_of (eqb 20) l))))))
  where
    eighteen : (c : ℕ) → (c ≡ 0 → ⊥) → (c ≡ 3 → ⊥) → (c ≡ 4 → ⊥) → (c ≡ 20 → ⊥) → is_code c ≡ true → c ≡ 18
    eighteen c n m q w h =
        sym
        (eqb-true 18 c
        (rw (
          ne_eqb 0 c (λ e. n (sym e)),
          ne_eqb 3 c (λ e. m (sym e)),
          ne_eqb 4 c (λ e. q (sym e)),
          ne_eqb 20 c (λ e. w (sym e)),
        ) at h))

    other : (b : Bool) → false ≡ eqb (cond {A = ℕ} b 3 4) 0
    other true = refl
    other false = refl

    third : (a b : Bool) → false ≡ eqb (cond {A = ℕ} a 3 (cond b 4 20)) 0
    third true b = refl
    third false true = refl
    third false false = refl

    last : (a b c : Bool) → false ≡ eqb (cond {A = ℕ} a 3 (cond b 4 (cond c 20 18))) 0
    last true b c = refl
    last false true c = refl
    last false false true = refl
    last false false false = refl

-- each fault has one of these codes, and only a right field has 0
pub fault-is-code : (fault : Option FieldFault) → is_code (code_in fault) ≡ true
unfolding is_code
fault-is-code None = refl
fault-is-code (Some Misspelt) = refl
fault-is-code (Some OutOfRange) = refl
fault-is-code (Some Shared) = refl
fault-is-code (Some ReadyLate) = refl

pub faults-are-codes : (faults : List (Option FieldFault)) → all_of is_code (codes_in faults) ≡ true
unfolding all_of
faults-are-codes [] = refl
faults-are-codes (f ∷ l) = and-of (fault-is-code f) (faults-are-codes l)

pub number-some : (kind : FieldFault) → eqb (fault_number kind) 0 ≡ false
number-some Misspelt = refl
number-some OutOfRange = refl
number-some Shared = refl
number-some ReadyLate = refl

-- a code of 0, and what it says
pub for-zero : (spelt fine : Bool) → code_for spelt fine ≡ 0 → (spelt ≡ true) × (fine ≡ true)
for-zero true true z = (refl, refl)
for-zero true false z = absurd (omega arith)
for-zero false fine z = absurd (omega arith)

pub word-zero : (word s : List ℕ) → word_code word s ≡ 0 → same s word ≡ true
unfolding word_code
word-zero word s z = by_bool (same s word) (λ e. e) (λ e. let q : ◌≡◌ {A = ℕ} 3 0 = rw e at z in absurd (omega arith))

pub zero_word : (word s : List ℕ) → same s word ≡ true → word_code word s ≡ 0
unfolding word_code
zero_word word s e = rw e

pub end-zero : (ended : Bool) (n : ℕ) (line : List ℕ) → end_code ended n line ≡ 0 → (ended ≡ true) × (length (fields line) ≤ n)
unfolding end_code
end-zero ended n line z =
    by_bool (ended && leb (length (fields line)) n)
    (λ e. (and_l ended (leb (length (fields line)) n) e, leb-true (length (fields line)) n (and_r ended (leb (length (fields line)) n) e)))
    (λ e. let q : ◌≡◌ {A = ℕ} 3 0 = rw e at z in absurd (omega arith))

pub zero-end : (ended : Bool) (n : ℕ) (line : List ℕ) → ended ≡ true → length (fields line) ≤ n → end_code ended n line ≡ 0
unfolding end_code
zero-end ended n line e few = rw (e, le-leb (length (fields line)) n few)

pub zero-at : (codes : List ℕ) → all_of (eqb 0) codes ≡ true → (i : ℕ) → i < length codes → get_or codes i 0 ≡ 0
zero-at codes all i l = sym (eqb-true 0 (get_or codes i 0) (all-at (eqb 0) codes all i 0 l))

pub no-codes : all_of (eqb 0) [] ≡ true
unfolding all_of
no-codes = refl

pub zeros : (c : ℕ) (codes : List ℕ) → c ≡ 0 → all_of (eqb 0) codes ≡ true → all_of (eqb 0) (c ∷ codes) ≡ true
unfolding all_of
zeros c codes z all = and-of (eq-eqb 0 c (sym z)) all

-- ---- the leftmost field of a code

-- some field has the code where the search for it finds one
pub any_found : (c : ℕ) (codes : List ℕ) → any_of (eqb c) codes ≡ ltb (index_of c codes) (length codes)
unfolding any_of index_of
any_found c [] = sym (le-ltb 0 0 (omega arith))
any_found c (x ∷ l) =
    by-eq x c
    (λ e. rw (eq-eqb x c e, eq-eqb c x (sym e)) (sym (lt-ltb 0 (suc (length l)) (omega arith))))
    (λ n. rw (ne_eqb x c n, ne_eqb c x (λ e. n (sym e))) (any_found c l ∙ more (index_of c l) (length l)))
  where
    more : (a b : ℕ) → ltb a b ≡ ltb (suc a) (suc b)
    more a b =
        by_le b a
        (λ h. rw (le-ltb a b h, le-ltb (suc a) (suc b) (omega arith)))
        (λ h. rw (lt-ltb a b h, lt-ltb (suc a) (suc b) (omega arith)))

-- whatever tells the codes
module _ {A : Type 0} (code : A → ℕ) where
  pub all-zero : (faults : List A) → list_all (λ f. eqb (code f) 0) faults ≡ all_of (eqb 0) (map code faults)
  unfolding all_of
  all-zero [] = refl
  all-zero (f ∷ l) =
      let r = all-zero l in
      by-eq (code f) 0
      (λ e. rw (eq-eqb (code f) 0 e, eq-eqb 0 (code f) (sym e)) r)
      (λ n. rw (ne_eqb (code f) 0 n, ne_eqb 0 (code f) (λ e. n (sym e))))

  pub place-is : (n : ℕ) (faults : List A) → position (λ f. eqb (code f) n) faults ≡ place_in n (map code faults)
  unfolding place_in index_of
  place-is n faults =
      let e : index_of n (map code faults) ≡ position_or_len (λ f. eqb (code f) n) faults =
      is_position_or_len (λ l. index_of n (map code l)) (λ f. eqb (code f) n) refl (λ x xs. by_bool (eqb (code x) n) (λ e. rw e) (λ e. rw e (omega arith))) faults
      in
      rw (any_found n (map code faults), length-map faults code, e)

module _ (n : ℕ) where
  module _ (codes : List ℕ) where
    pub place-none : None ≡ place_in n codes → any_of (eqb n) codes ≡ false
    unfolding place_in
    place-none h = by_bool (any_of (eqb n) codes) (λ e. let q : ◌≡◌ {A = Option ℕ} None (Some (index_of n codes)) = rw e at h in absurd cc) (λ e. e)

    pub place-some : {place : ℕ} → Some place ≡ place_in n codes → (any_of (eqb n) codes ≡ true) × (place ≡ index_of n codes)
    unfolding place_in
    place-some {place} h =
        by_bool (any_of (eqb n) codes)
        (λ e. let q : Some place ≡ Some (index_of n codes) = rw e at h in (e, cc))
        (λ e. let q : Some place ≡ None = rw e at h in absurd cc)

pub rest-short : (line : List ℕ) (place : ℕ) {rest : List ℕ} → rest ≡ skip_on TAB place line → length rest ≤ length line
rest-short line place q = rw q (skip-le TAB place line)

-- the column is in 1 .. line length + 1, and 0 for a faultless line
pub column-most : (line codes : List ℕ) → (fault_of line codes).column ≤ length line + 1
unfolding fault_of
column-most line codes =
    by_bool (eqb (worst codes) 0) (λ e. rw e (omega arith)) (λ e. rw e (omega arith))

-- of some faults, the number of the first that a field has; 0 where none has one
unfoldable pub worst_in : List FieldFault → List ℕ → ℕ
worst_in [] codes = 0
worst_in (kind ∷ l) codes = cond (any_of (eqb (fault_number kind)) codes) (fault_number kind) (worst_in l codes)

-- those from place i on give the worst
pub record WorstFrom (kinds : List FieldFault) (codes : List ℕ) (i : ℕ) : Type 0 where
  pub rest : worst_in (drop i kinds) codes ≡ worst codes

pub worst-start : (codes : List ℕ) → WorstFrom (Misspelt ∷ OutOfRange ∷ Shared ∷ ReadyLate ∷ []) codes 0
unfolding worst worst_in
worst-start codes = record { rest = refl }

-- where all codes are 0, none is another
none-else : (c : ℕ) → eqb c 0 ≡ false → (codes : List ℕ) → all_of (eqb 0) codes ≡ true → any_of (eqb c) codes ≡ false
unfolding all_of any_of
none-else c n [] h = refl
none-else c n (x ∷ l) h =
    let z : 0 ≡ x = eqb-true 0 x (and_l (eqb 0 x) (all_of (eqb 0) l) h) in
    let r = none-else c n l (and_r (eqb 0 x) (all_of (eqb 0) l) h) in
    rw (← z, n) r

module _ (line codes : List ℕ) where
  module _ (kinds : List FieldFault) (i : ℕ) (q : WorstFrom kinds codes i) where
    abbrev kind : FieldFault
    kind = get_or kinds i Misspelt

    worst-here : i < length kinds → worst_in (drop i kinds) codes ≡ cond (any_of (eqb (fault_number kind)) codes) (fault_number kind) (worst_in (drop (suc i) kinds) codes)
    unfolding worst_in
    worst-here h = rw (drop-cons kinds i Misspelt h)

    pub worst-next : i < length kinds → any_of (eqb (fault_number kind)) codes ≡ false → WorstFrom kinds codes (i + 1)
    worst-next h n = record { rest = rw add-one ((rw n at (sym (worst-here h))) ∙ q.rest) }

    pub worst-found :
        {column : ℕ} → i < length kinds → any_of (eqb (fault_number kind)) codes ≡ true → column ≡ column_of line codes (fault_number kind)
        → record { code = fault_number kind; column = column } ≡ fault_of line codes
    unfolding fault_of
    worst-found h n e =
        let w : fault_number kind ≡ worst codes = (rw n at (sym (worst-here h))) ∙ q.rest in
        rw (← w, number-some kind, e)

    pub worst-none : length kinds ≤ i → record { code = 0; column = 0 } ≡ fault_of line codes
    unfolding fault_of worst_in
    worst-none h = let z : 0 ≡ worst codes = rw (drop_of_length-le kinds h) at q.rest in rw (← z)

  -- and a line whose codes are all 0 has none
  pub worst-right : all_of (eqb 0) codes ≡ true → record { code = 0; column = 0 } ≡ fault_of line codes
  unfolding fault_of worst
  worst-right h = rw (none-else 3 refl codes h, none-else 4 refl codes h, none-else 20 refl codes h, none-else 18 refl codes h)
