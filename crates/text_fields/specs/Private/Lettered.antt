-- Both list fields by one rule. In a lettered list, that of the holds, a letter stands before an item's number.
use Rattle.std.specs.Prelude.{ℕ, ◌+◌, Bool, true, false, cond, ◌&&◌, ◌||◌, List, [], ◌∷◌, map, eqb, get_or, drop, Result, Err}
use Rattle.laws.specs.Lists.{all_of, first_not, rising}
use Rattle.laws.specs.Split.{split_on, begin_of}
use Rattle.text.specs.Number.{is_number, value_of, number_stop, number_of}
use Rattle.text_fields.specs.Items.{Items, COMMA, between, is_list, list_of, drive_of, is_hold, hold_of, hold_stop, list_stop, items_of}
use Rattle.text.specs.declared.NumberFault.{NumberFault}
use Rattle.text.specs.declared.NumberFault.TheVariants.{Misspelt}
use Rattle.text_fields.specs.declared.Listed.{Listed}
use Rattle.text_fields.specs.declared.Listed.TheVariants.{Holds, Tasks}

abbrev pub lettered : Listed → Bool
lettered Holds = true
lettered Tasks = false

unfoldable pub is_item : Bool → List ℕ → Bool
is_item lettered = cond lettered is_hold is_number

unfoldable pub item_of : Bool → List ℕ → ℕ
item_of lettered = cond lettered hold_of value_of

unfoldable pub item_stop : Bool → List ℕ → ℕ
item_stop lettered = cond lettered hold_stop number_stop

-- a part begins as an item does
unfoldable pub starts_item : Bool → List ℕ → Bool
starts_item false part = true
starts_item true [] = false
starts_item true (b ∷ s) = eqb b 101 || eqb b 115

-- the part of an item that spells its number
unfoldable pub digits_in : Bool → List ℕ → List ℕ
digits_in lettered part = cond lettered (drop 1 part) part

-- what an item's number says, and a part that does not begin as an item does
unfoldable pub item_number : Bool → List ℕ → Result (ℕ × ℕ) NumberFault
item_number lettered part = cond (starts_item lettered part) (number_of (digits_in lettered part)) (Err (Misspelt 0))

-- the number of an item
unfoldable pub key_of : Bool → ℕ → ℕ
key_of lettered = cond lettered drive_of (λ n. n)

-- numbers 1 to high, strictly rising
unfoldable pub list_ok : Bool → ℕ → List ℕ → Bool
list_ok lettered high l = all_of (λ x. between 1 high (key_of lettered x)) l && rising (key_of lettered) l

-- where the first misspelt part between commas stops, or the end
unfoldable pub parts_stop : Bool → List ℕ → ℕ
parts_stop lettered s =
    let parts = split_on COMMA s in
    let wrong = first_not (is_item lettered) parts in begin_of COMMA s wrong + item_stop lettered (get_or parts wrong [])

-- a list reader's answer, by the parts between commas, and by the whole field
unfoldable pub items_read : Bool → ℕ → List ℕ → Items
items_read lettered high s =
    let parts = split_on COMMA s in
    let l = map (item_of lettered) parts in
    items_of (all_of (is_item lettered) parts) (list_ok lettered high l) (parts_stop lettered s) l

unfoldable pub list_read : Bool → ℕ → List ℕ → Items
list_read lettered high s =
    let l = list_of (item_of lettered) s in
    items_of (is_list (is_item lettered) s) (list_ok lettered high l) (list_stop (is_item lettered) (item_stop lettered) s) l
