-- Numbers of a text.
use Rattle.std.specs.Prelude.{ℕ, Bool, false, not, cond, ◌&&◌, List, [], ◌∷◌, leb, eqb, Result, Ok, Err}
use Rattle.laws.specs.Lists.{all_of, first_not}
use Rattle.laws.specs.Digits.{value_after}
use Rattle.text.specs.declared.NumberFault.{NumberFault}
use Rattle.text.specs.declared.NumberFault.TheVariants.{Over, Misspelt}

-- the bytes `0` to `9`
abbrev pub is_digit : ℕ → Bool
is_digit b = leb 48 b && leb b 57

-- Numbers are decimal digits with no leading zero, except the number `0` itself
unfoldable pub is_number : List ℕ → Bool
is_number [] = false
is_number (b ∷ []) = is_digit b
is_number (b ∷ c ∷ s) = not (eqb b 48) && all_of is_digit (b ∷ c ∷ s)

-- the number that digits say, however many there are
abbrev pub value_of : List ℕ → ℕ
value_of s = value_after 0 s

-- Ticks are whole numbers, 0 to 1,000,000; no number of a text is larger
abbrev pub most : ℕ
most = 1000000

-- how far a number is spelt: `0` alone, or digits, up to the first byte that does not go on with it
unfoldable pub number_stop : List ℕ → ℕ
number_stop [] = 0
number_stop (b ∷ s) = cond (eqb b 48) 1 (first_not is_digit (b ∷ s))

-- where the reader of a field that is refused stopped
abbrev pub fault_stop : NumberFault → ℕ
fault_stop (Over stop) = stop
fault_stop (Misspelt stop) = stop

-- the number reader's answer: the value, or why there is none; with where it stopped
unfoldable pub number_of : List ℕ → Result (ℕ × ℕ) NumberFault
number_of s =
    let stop = number_stop s in
    cond (is_number s) (cond (leb (value_of s) most) (Ok (value_of s, stop)) (Err (Over stop))) (Err (Misspelt stop))
