-- The two list fields of a line.
use Rattle.std.specs.Prelude.{ℕ, ◌+◌, ◌*◌, ◌/◌, ◌%◌, min, Bool, false, not, cond, ◌&&◌, ◌||◌, List, [], ◌∷◌, map, leb, eqb, length, get_or, replicate}
use Rattle.laws.specs.Lists.{all_of, any_of, first_not, rising, same}
use Rattle.laws.specs.Split.{begin_of, split_on, join_on}
use Rattle.laws.specs.Digits.{digits_of}
use Rattle.text.specs.Bytes.{bytes}
use Rattle.text.specs.Number.{is_number, value_of, number_stop}
use Rattle.std.proofs.lemmas.List.Edits.{sets}

abbrev pub between : ℕ → ℕ → ℕ → Bool
between low high n = leb low n && leb n high

abbrev pub COMMA : ℕ
COMMA = 44

-- The mark `-` means none
abbrev pub NONE : List ℕ
NONE = bytes "-"

-- `-` or items joined by commas
unfoldable pub is_list : (List ℕ → Bool) → List ℕ → Bool
is_list is_item s = same s NONE || all_of is_item (split_on COMMA s)

unfoldable pub list_of : (List ℕ → ℕ) → List ℕ → List ℕ
list_of item s = cond (same s NONE) [] (map item (split_on COMMA s))

unfoldable pub list_text : (ℕ → List ℕ) → List ℕ → List ℕ
list_text text [] = NONE
list_text text (x ∷ l) = join_on COMMA (map text (x ∷ l))

-- A hold is one number: 2 d for drive d exclusively, 2 d + 1 for drive d shared
abbrev pub drive_of : ℕ → ℕ
drive_of h = h / 2

abbrev pub is_shared : ℕ → Bool
is_shared h = eqb (h % 2) 1

unfoldable pub has_shared : List ℕ → Bool
has_shared holds = any_of is_shared holds

-- `s` made `e`
abbrev pub exclusive : ℕ → ℕ
exclusive h = drive_of h * 2

-- each `e` (exclusive) or `s` (shared) and a drive number
unfoldable pub is_hold : List ℕ → Bool
is_hold [] = false
is_hold (b ∷ s) = (eqb b 101 || eqb b 115) && is_number s

unfoldable pub hold_of : List ℕ → ℕ
hold_of [] = 0
hold_of (b ∷ s) = value_of s * 2 + cond (eqb b 115) 1 0

abbrev pub hold_text : ℕ → List ℕ
hold_text h = cond (is_shared h) 115 101 ∷ digits_of (drive_of h)

-- Drives numbered 1 to 32, drive numbers strictly rising
unfoldable pub holds_ok : List ℕ → Bool
holds_ok holds = all_of (λ h. between 1 32 (drive_of h)) holds && rising drive_of holds

-- task numbers 1 to T, strictly rising
unfoldable pub after_ok : ℕ → List ℕ → Bool
after_ok tasks after = all_of (between 1 tasks) after && rising (λ n. n) after

-- how far a hold is spelt
unfoldable pub hold_stop : List ℕ → ℕ
hold_stop [] = 0
hold_stop (b ∷ s) = cond (eqb b 101 || eqb b 115) (number_stop s + 1) 0

-- how far a list is spelt: to where its first misspelt item stops, or to its end
unfoldable pub list_stop : (List ℕ → Bool) → (List ℕ → ℕ) → List ℕ → ℕ
list_stop is_item item_stop s =
    let parts = split_on COMMA s in
    let wrong = first_not is_item parts in cond (same s NONE) 1 (begin_of COMMA s wrong + item_stop (get_or parts wrong []))

-- a list field's code, where its reader stopped, and its items
pub record Items : Type 0 where
  pub code : ℕ
  pub stop : ℕ
  pub count : ℕ
  pub items : List ℕ

-- a list reader's answer, with where it stopped: 3 for a misspelt list, 4 for one out of range or not rising, else its items,
-- zeros after them
abbrev pub no_items : ℕ → ℕ → Items
no_items code stop = record { code = code; stop = stop; count = 0; items = replicate 64 0 }

abbrev pub some_items : ℕ → List ℕ → Items
some_items stop l = record { code = 0; stop = stop; count = length l; items = sets (replicate 64 0) 0 l }

abbrev pub items_of : Bool → Bool → ℕ → List ℕ → Items
items_of spelt fine stop l = cond (not spelt) (no_items 3 stop) (cond (not fine) (no_items 4 stop) (some_items stop l))

unfoldable pub holds_read : List ℕ → Items
holds_read s = let l = list_of hold_of s in items_of (is_list is_hold s) (holds_ok l) (list_stop is_hold hold_stop s) l

-- there are never more than 64 tasks to come after
unfoldable pub after_read : List ℕ → ℕ → Items
after_read s tasks =
    let l = list_of value_of s in items_of (is_list is_number s) (after_ok (min tasks 64) l) (list_stop is_number number_stop s) l
