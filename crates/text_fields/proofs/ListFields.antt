-- The fields holds and after by name.
use Prim.Native.Nat.{ℕ}
use mathlib.Core.Bool.{Bool}
use mathlib.Core.List.{List}
use Rattle.laws.specs.Digits.{digits_of}
use Rattle.text.specs.Number.{is_number, value_of}
use Rattle.text_fields.specs.Items.{is_list, list_of, list_text, is_hold, hold_of, hold_text}

abbrev pub is_holds : List ℕ → Bool
is_holds s = is_list is_hold s

abbrev pub holds_of : List ℕ → List ℕ
holds_of s = list_of hold_of s

abbrev pub holds_text : List ℕ → List ℕ
holds_text l = list_text hold_text l

abbrev pub is_after : List ℕ → Bool
is_after s = is_list is_number s

abbrev pub after_of : List ℕ → List ℕ
after_of s = list_of value_of s

abbrev pub after_text : List ℕ → List ℕ
after_text l = list_text digits_of l
