-- Where the readers of a field stop: the place, from 0, of the first byte that no spelling goes on with.
use Rattle.std.specs.Prelude.{ℕ, suc, Bool, ◌&&◌, List, [], ◌∷◌, eqb, Result, Ok, Err}
use Rattle.text.specs.Bytes.{bytes}
use Rattle.text.specs.Number.{most, fault_stop, number_of}
use Rattle.text_fields.specs.Items.{holds_read, after_read}
use Rattle.text.specs.declared.NumberFault.{NumberFault}
use Rattle.text_fields.specs.Faults.{number_code}

-- a field as a number, as holds, and as after among five tasks: what it is refused by, 0 where it is read, and where it stops. A number is
-- asked for up to 1,000,001, so that the refusal of that one is the reader's own
pub data FieldRow : Type 0 where
  number : (text : List ℕ) (code stop : ℕ) → FieldRow
  holds : (text : List ℕ) (code stop : ℕ) → FieldRow
  after : (text : List ℕ) (code stop : ℕ) → FieldRow

abbrev pub stop_of : Result (ℕ × ℕ) NumberFault → ℕ
stop_of (Ok (value, stop)) = stop
stop_of (Err fault) = fault_stop fault

abbrev pub stops_there : FieldRow → Bool
stops_there (number text code stop) = eqb (number_code 0 (suc most) (number_of text)) code && eqb (stop_of (number_of text)) stop
stops_there (holds text code stop) = eqb (holds_read text).code code && eqb (holds_read text).stop stop
stops_there (after text code stop) = eqb (after_read text 5).code code && eqb (after_read text 5).stop stop

abbrev pub stop_rows : List FieldRow
stop_rows =
    -- a number, in range or not: its end
    number (bytes "120") 0 3
    ∷ number (bytes "0") 0 1
    ∷ number (bytes "1000000") 0 7
    ∷ number (bytes "1000001") 4 7
    -- an empty field; a leading zero; a letter; the mark, which is no number
    ∷ number [] 3 0
    ∷ number (bytes "007") 3 1
    ∷ number (bytes "01") 3 1
    ∷ number (bytes "12x4") 3 2
    ∷ number (bytes "-") 3 0
    -- a list in range or not, rising or not, and the mark: its end
    ∷ holds (bytes "e1,s2") 0 5
    ∷ holds (bytes "e1,e1") 4 5
    ∷ holds (bytes "e33") 4 3
    ∷ holds (bytes "-") 0 1
    -- broken in its third item's number, by a wrong letter, with no letter, by an empty item, by a mark that is not alone, by a
    -- leading zero; an empty field
    ∷ holds (bytes "e1,e2,ex") 3 7
    ∷ holds (bytes "e1,q2") 3 3
    ∷ holds (bytes "e1,x") 3 3
    ∷ holds (bytes "e1,,e2") 3 3
    ∷ holds (bytes "-,e1") 3 0
    ∷ holds (bytes "e01") 3 2
    ∷ holds [] 3 0
    -- and the same of after
    ∷ after (bytes "1,3") 0 3
    ∷ after (bytes "3,3") 4 3
    ∷ after (bytes "6") 4 1
    ∷ after (bytes "-") 0 1
    ∷ after (bytes "1,2,x") 3 4
    ∷ after (bytes "1,12x4") 3 4
    ∷ after (bytes "1,,3") 3 2
    ∷ after (bytes "-,1") 3 0
    ∷ after (bytes "01") 3 1
    ∷ after [] 3 0
    ∷ []
