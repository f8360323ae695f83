-- The readers of an item: its letter, its number, and where it stops.
use Prim.Native.Nat.{ℕ, ◌+◌, ◌*◌, ◌≤◌, ◌<◌}
use mathlib.Core.Path.{◌≡◌, refl, sym, ap, ◌∙◌}
use mathlib.Core.Bool.{Bool, true, false, cond, ◌&&◌, ◌||◌}
use mathlib.Core.List.{List, [], ◌∷◌}
use native.Mathlib.Omega.{arith}
use lib.ListN.{length, drop, get_or, length-drop}
use lib.Dec.{eqb, leb}
use borrow.Author.Tests.{eq-eqb, ne_eqb, leb-false}
use Rattle.laws.proofs.Cases.{by_bool, and_l, and_r, and-of, true-false}
use Rattle.laws.specs.Digits.{value_after}
use Rattle.std.specs.Prelude.{Result, Ok, Err}
use Rattle.text.specs.declared.NumberFault.{NumberFault}
use Rattle.text.specs.declared.NumberFault.TheVariants.{Over, Misspelt}
use Rattle.text.specs.Number.{is_number, value_of, number_stop, number_of}
use Rattle.text_fields.specs.Items.{is_hold, hold_of, hold_stop}
use Rattle.text_fields.specs.Private.Lettered.{starts_item, is_item, item_of, item_stop, digits_in, item_number, key_of}
use Rattle.text.proofs.Spell.{stop_le}

-- ---- an item

pub starts-none : (part : List ℕ) → length part ≡ 0 → false ≡ starts_item true part
unfolding starts_item
starts-none [] h = refl
starts-none (b ∷ s) h = absurd (omega arith)

pub starts-letter : (part : List ℕ) → (length part ≡ 0 → ⊥) → (eqb (get_or part 0 0) 101 || eqb (get_or part 0 0) 115) ≡ starts_item true part
unfolding starts_item
starts-letter [] h = absurd (h refl)
starts-letter (b ∷ s) h = refl

pub starts-plain : (part : List ℕ) → true ≡ starts_item false part
unfolding starts_item
starts-plain part = refl

pub digits-plain : (part : List ℕ) → part ≡ digits_in false part
unfolding digits_in
digits-plain part = refl

pub digits-past : (part : List ℕ) {r : List ℕ} → r ≡ drop 1 part → r ≡ digits_in true part
unfolding digits_in
digits-past part e = e

item-is : (lettered : Bool) (part : List ℕ) → is_item lettered part ≡ (starts_item lettered part && is_number (digits_in lettered part))
unfolding is_item is_hold starts_item digits_in
item-is false part = refl
item-is true [] = refl
item-is true (b ∷ s) = refl

stop_is : (lettered : Bool) (part : List ℕ)
    → item_stop lettered part ≡ cond (starts_item lettered part) (number_stop (digits_in lettered part) + cond lettered 1 0) 0
unfolding item_stop hold_stop starts_item digits_in
stop_is false part = omega arith
stop_is true [] = refl
stop_is true (b ∷ s) = refl

module _ (lettered : Bool) (part : List ℕ) where
  pub item-none : false ≡ starts_item lettered part → false ≡ is_item lettered part
  item-none w = rw (item-is lettered part, ← w)

  pub number-none : false ≡ starts_item lettered part → Err (Misspelt 0) ≡ item_number lettered part
  unfolding item_number
  number-none w = rw (← w)

  pub stop-none : false ≡ starts_item lettered part → 0 ≡ item_stop lettered part
  stop-none w = rw (stop_is lettered part, ← w)

  module _ {digits : List ℕ} (w : true ≡ starts_item lettered part) (d : digits ≡ digits_in lettered part) where
    pub item-more : {t : Bool} → t ≡ is_number digits → t ≡ is_item lettered part
    item-more e = rw (item-is lettered part, ← w, e, d)

    pub number-some : {r : Result (ℕ × ℕ) NumberFault} → r ≡ number_of digits → r ≡ item_number lettered part
    unfolding item_number
    number-some e = rw (← w, e, d)

    pub stop-some : {stop : ℕ} → stop ≡ number_stop digits → stop + cond lettered 1 0 ≡ item_stop lettered part
    stop-some e = rw (stop_is lettered part, ← w, e, d)

pub digits-short : (lettered : Bool) (part : List ℕ) {digits : List ℕ} → digits ≡ digits_in lettered part → length digits ≤ length part
unfolding digits_in
digits-short true part d = rw d (omega (arith, length-drop 1 part))
digits-short false part d = rw d (omega arith)

pub item-stop-le : (lettered : Bool) (part : List ℕ) → item_stop lettered part ≤ length part
unfolding item_stop hold_stop
item-stop-le true [] = omega arith
item-stop-le true (b ∷ s) =
    by_bool (eqb b 101 || eqb b 115) (λ e. rw e (omega (arith, stop_le s))) (λ e. rw e (omega arith))
item-stop-le false part = stop_le part

pub item-some : (part : List ℕ) → is_item true part ≡ true → 0 < length part
unfolding is_hold is_item
item-some [] h = true-false h refl
item-some (b ∷ s) h = omega arith

pub item-digits : (lettered : Bool) (part : List ℕ) → is_item lettered part ≡ true → is_number (digits_in lettered part) ≡ true
unfolding is_hold is_item digits_in
item-digits true [] h = true-false h refl
item-digits true (b ∷ s) h = and_r (eqb b 101 || eqb b 115) (is_number s) h
item-digits false part h = h

pub item-plain : (part : List ℕ) (n : ℕ) → n ≡ value_of (digits_in false part) → n ≡ item_of false part
unfolding item_of digits_in
item-plain part n e = e

pub item-shared : (part : List ℕ) (n : ℕ) → n ≡ value_of (digits_in true part) → get_or part 0 0 ≡ 115 → n * 2 + 1 ≡ item_of true part
unfolding hold_of item_of digits_in
item-shared [] n e h = absurd (omega arith)
item-shared (b ∷ s) n e h = let f : n ≡ value_of s = e in rw (eq-eqb b 115 h, f)

pub item-alone : (part : List ℕ) (n : ℕ) → n ≡ value_of (digits_in true part) → (get_or part 0 0 ≡ 115 → ⊥) → n * 2 ≡ item_of true part
unfolding hold_of value_after item_of digits_in
item-alone [] n e h = let f : n ≡ 0 = e in omega arith
item-alone (b ∷ s) n e h =
    let f : n ≡ value_of s = e in let z : n * 2 ≡ n * 2 + 0 = omega arith in rw (ne_eqb b 115 h, ← f) z

-- ---- a part read as an item

pub number-spelt : (lettered : Bool) (part : List ℕ) {r : Result (ℕ × ℕ) NumberFault} → is_item lettered part ≡ true → r ≡ item_number lettered part → r ≡ number_of (digits_in lettered part)
unfolding item_number
number-spelt lettered part a e =
    let f = and_l (starts_item lettered part) (is_number (digits_in lettered part)) (sym (item-is lettered part) ∙ a) in e ∙ rw f

-- what reads as a value is an item
pub value-item : (lettered : Bool) (part : List ℕ) {k j : ℕ} → Ok (k, j) ≡ item_number lettered part → is_item lettered part ≡ true
unfolding item_number number_of
value-item lettered part {k} {j} e =
    by_bool (starts_item lettered part)
    (λ a.
    by_bool (is_number (digits_in lettered part))
    (λ b. item-is lettered part ∙ and-of a b)
    (λ b. let h : Ok (k, j) ≡ Err (Misspelt (number_stop (digits_in lettered part))) = e ∙ rw (a, b) in cc))
    (λ a. let h : Ok (k, j) ≡ Err (Misspelt 0) = e ∙ rw a in cc)

-- an item's key is its number
pub key-item : (lettered : Bool) (part : List ℕ) → key_of lettered (item_of lettered part) ≡ value_of (digits_in lettered part)
unfolding hold_of value_after item_of digits_in key_of
key-item true [] = omega arith
key-item true (b ∷ s) = by_bool (eqb b 115) (λ e. rw e (omega arith)) (λ e. rw e (omega arith))
key-item false part = refl

-- ---- what a part's number says

value-same : {k j v i : ℕ} → ◌≡◌ {A = Result (ℕ × ℕ) NumberFault} (Ok (k, j)) (Ok (v, i)) → k ≡ v
value-same {k} {j} {v} {i} h = ap first h
  where
    first : Result (ℕ × ℕ) NumberFault → ℕ
    first (Ok (a, b)) = a
    first (Err f) = 0

pub value-is : (s : List ℕ) (k j : ℕ) → Ok (k, j) ≡ number_of s → k ≡ value_of s
unfolding number_of
value-is s k j e =
    by_bool (is_number s)
    (λ a.
    by_bool (leb (value_of s) 1000000)
    (λ b. let h : Ok (k, j) ≡ Ok (value_of s, number_stop s) = e ∙ rw (a, b) in value-same h)
    (λ b. let h : Ok (k, j) ≡ Err (Over (number_stop s)) = e ∙ rw (a, b) in cc))
    (λ a. let h : Ok (k, j) ≡ Err (Misspelt (number_stop s)) = e ∙ rw a in cc)

-- a number that is no value is too large
pub over-is : (s : List ℕ) {fault : NumberFault} → is_number s ≡ true → Err fault ≡ number_of s → 1000000 < value_of s
unfolding number_of
over-is s {fault} a e =
    by_bool (leb (value_of s) 1000000)
    (λ b. let h : Err fault ≡ Ok (value_of s, number_stop s) = e ∙ rw (a, b) in cc)
    (λ b. leb-false (value_of s) 1000000 b)
