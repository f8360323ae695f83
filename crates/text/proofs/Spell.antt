-- The readers of numbers: one turn of each loop, and the answer of each return.
use Prim.Native.Nat.{ℕ, ◌+◌, ◌-◌, ◌*◌, ◌/◌, ◌≤◌, ◌<◌, min}
use mathlib.Core.Path.{◌≡◌, refl, sym, ap, ◌∙◌}
use mathlib.Core.Bool.{Bool, true, false, not, ◌&&◌}
use mathlib.Core.List.{List, [], ◌∷◌}
use native.Mathlib.Omega.{arith}
use native.Mathlib.Numerals.{add-one}
use lib.ListN.{length, drop, get_or, drop_of_length-le, length-append}
use lib.Seq.{drop-cons}
use lib.Dec.{eqb, leb, ltb}
use borrow.Author.Tests.{lt-ltb, eq-eqb, ne_eqb, eqb-true, leb-true, le-leb, lt-leb}
use Rattle.laws.proofs.Cases.{by_bool, and_l, and_r, true-false}
use Rattle.laws.specs.Lists.{all_of, first_not}
use Rattle.laws.proofs.Lists.{all-turn, all_end}
use Rattle.laws.specs.Digits.{digits_of, value_after}
use Rattle.laws.proofs.Digits.{digits-small, digits-big}
use Rattle.std.specs.Prelude.{Result, Ok, Err}
use Rattle.text.specs.declared.NumberFault.{NumberFault}
use Rattle.text.specs.declared.NumberFault.TheVariants.{Over, Misspelt}
use Rattle.text.specs.Number.{is_digit, is_number, value_of, number_stop, fault_stop, number_of}
use Rattle.text.specs.Private.Spelling.{starts_well}

-- ---- a test of every item, from a place on

module _ {A : Type 0} (p : A → Bool) (l : List A) (i : ℕ) (d : A) (x : Bool) where
  pub all-stop : i < length l → p (get_or l i d) ≡ false → all_of p (drop i l) ≡ x → false ≡ x
  all-stop h e q = sym (all-turn p l i d h ∙ rw e) ∙ q

  pub all-next : i < length l → p (get_or l i d) ≡ true → all_of p (drop i l) ≡ x → all_of p (drop (i + 1) l) ≡ x
  all-next h e q = sym (all-turn p l i d h ∙ rw e) ∙ q

pub all_done : {A : Type 0} (p : A → Bool) (l : List A) (i : ℕ) (x : Bool) → length l ≤ i → all_of p (drop i l) ≡ x → true ≡ x
all_done p l i x h q = sym (all_end p l i h) ∙ q

-- ---- is it a number

starts_is : (s : List ℕ) → is_number s ≡ (starts_well s && all_of is_digit s)
unfolding is_number starts_well all_of
starts_is [] = refl
starts_is (b ∷ []) = go (is_digit b)
  where
    go : (t : Bool) → t ≡ (t && true)
    go true = refl
    go false = refl
starts_is (b ∷ c ∷ s) =
    rw (ne_eqb (length (b ∷ c ∷ s)) 0 (λ e. omega arith), lt-ltb 1 (length (b ∷ c ∷ s)) (omega arith))

pub starts_none : (s : List ℕ) → length s ≡ 0 → false ≡ starts_well s
unfolding starts_well
starts_none s h = rw (eq-eqb (length s) 0 h)

pub starts-some : (s : List ℕ) → (length s ≡ 0 → ⊥) → not (ltb 1 (length s) && eqb (get_or s 0 0) 48) ≡ starts_well s
unfolding starts_well
starts-some s n = rw (ne_eqb (length s) 0 n)

pub number-no : (s : List ℕ) → starts_well s ≡ false → false ≡ is_number s
number-no s e = sym (starts_is s ∙ rw e)

pub number-rest : (s : List ℕ) → starts_well s ≡ true → all_of is_digit s ≡ is_number s
number-rest s e = sym (starts_is s ∙ rw e)

pub digit-range : (b : ℕ) → is_digit b ≡ true → (48 ≤ b) × (b ≤ 57)
digit-range b d = (
  leb-true 48 b (and_l (leb 48 b) (leb b 57) d),
  leb-true b 57 (and_r (leb 48 b) (leb b 57) d),
)

-- ---- the value, held

abbrev pub held : ℕ → ℕ
held v = min v 1000001

-- a number that is held gives the same, whatever digits follow
held_on : (a : ℕ) (s : List ℕ) → held (value_after (held a) s) ≡ held (value_after a s)
unfolding value_after
held_on a [] = omega arith
held_on a (b ∷ s) =
    let m : held (held a * 10 + (b - 48)) ≡ held (a * 10 + (b - 48)) = omega arith in
    sym (held_on (held a * 10 + (b - 48)) s)
    ∙ ap (λ (n : ℕ). held (value_after n s)) m
    ∙ held_on (a * 10 + (b - 48)) s

value-turn : (v : ℕ) (s : List ℕ) (i : ℕ) → i < length s → value_after v (drop i s) ≡ value_after (v * 10 + (get_or s i 0 - 48)) (drop (i + 1) s)
unfolding value_after
value-turn v s i h = rw (add-one, drop-cons s i 0)

pub held-turn :
    (v w : ℕ) (s : List ℕ) (i x : ℕ) → i < length s → w ≡ held (v * 10 + (get_or s i 0 - 48))
    → held (value_after v (drop i s)) ≡ x → held (value_after w (drop (i + 1) s)) ≡ x
held-turn v w s i x h e p =
    ap (λ (n : ℕ). held (value_after n (drop (i + 1) s))) e
    ∙ held_on (v * 10 + (get_or s i 0 - 48)) (drop (i + 1) s)
    ∙ sym (ap held (value-turn v s i h))
    ∙ p

pub held-end :
    (v : ℕ) (s : List ℕ) (i x : ℕ) → length s ≤ i → v ≤ 1000001 → held (value_after v (drop i s)) ≡ x → v ≡ x
unfolding value_after
held-end v s i x h g p = let p' : held v ≡ x = rw (drop_of_length-le s h) at p in omega arith

-- ---- how far it is spelt

first-le : (p : ℕ → Bool) (l : List ℕ) → first_not p l ≤ length l
unfolding first_not
first-le p [] = omega arith
first-le p (x ∷ l) = let r = first-le p l in by_bool (p x) (λ e. rw e (omega arith)) (λ e. rw e (omega arith))

pub stop_le : (s : List ℕ) → number_stop s ≤ length s
unfolding number_stop
stop_le [] = omega arith
stop_le (b ∷ s) = by_bool (eqb b 48) (λ e. rw e (omega arith)) (λ e. rw e (first-le is_digit (b ∷ s)))

-- a leading zero is itself read
pub stop-zero : (s : List ℕ) → starts_well s ≡ false → min (length s) 1 ≡ number_stop s
unfolding starts_well number_stop
stop-zero [] h = refl
stop-zero (b ∷ []) h = true-false refl h
stop-zero (b ∷ c ∷ s) h =
    let lead : eqb b 48 ≡ true = by_bool (eqb b 48) (λ q. q) (λ q. true-false refl (rw (q, ne_eqb (length (b ∷ c ∷ s)) 0 (λ z. omega arith), lt-ltb 1 (length (b ∷ c ∷ s)) (omega arith)) at h)) in
    rw lead (omega arith)

pub stop-well : (s : List ℕ) → starts_well s ≡ true → first_not is_digit s ≡ number_stop s
unfolding starts_well number_stop first_not
stop-well [] h = true-false h refl
stop-well (b ∷ []) h = by_bool (eqb b 48) (λ q. let z : b ≡ 48 = eqb-true b 48 q in rw z) (λ q. rw q)
stop-well (b ∷ c ∷ s) h =
    by_bool (eqb b 48)
    (λ q. true-false h (rw (q, ne_eqb (length (b ∷ c ∷ s)) 0 (λ z. omega arith), lt-ltb 1 (length (b ∷ c ∷ s)) (omega arith))))
    (λ q. rw q)

-- ---- the answers

module _ (s : List ℕ) {stop : ℕ} (at : stop ≡ number_stop s) where
  pub read-misspelt : false ≡ is_number s → Err (Misspelt stop) ≡ number_of s
  unfolding number_of
  read-misspelt f = rw (← f, at)

  pub read-value : (v : ℕ) → true ≡ is_number s → v ≡ held (value_of s) → v ≤ 1000000 → Ok (v, stop) ≡ number_of s
  unfolding number_of
  read-value v f q h =
      let m : v ≡ value_of s = omega arith in
      rw (← f, ← m, le-leb v 1000000 h, at)

  pub read-over : (v : ℕ) → true ≡ is_number s → v ≡ held (value_of s) → 1000000 < v → Err (Over stop) ≡ number_of s
  unfolding number_of
  read-over v f q h =
      let m : 1000000 < value_of s = omega arith in
      rw (← f, lt-leb (value_of s) 1000000 m, at)

-- whatever it says, it stopped there
abbrev pub stop_of : Result (ℕ × ℕ) NumberFault → ℕ
stop_of (Ok (v, stop)) = stop
stop_of (Err fault) = fault_stop fault

pub stop-at : (s : List ℕ) (r : Result (ℕ × ℕ) NumberFault) → r ≡ number_of s → stop_of r ≡ number_stop s
unfolding number_of
stop-at s r e =
    ap stop_of e
    ∙ by_bool (is_number s)
    (λ a. by_bool (leb (value_of s) 1000000) (λ b. rw (a, b)) (λ b. rw (a, b)))
    (λ a. rw a)

-- ---- how many digits

pub width_small : (n : ℕ) → n < 10 → length (digits_of n) ≡ 1
width_small n h = rw (digits-small n h)

pub width-big : (n : ℕ) → 10 ≤ n → length (digits_of n) ≡ length (digits_of (n / 10)) + 1
width-big n h = rw (digits-big n h, length-append)
