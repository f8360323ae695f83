-- Names for what single functions of the writer say: the parts of a line, and a text measured or written.
use Rattle.std.specs.Prelude.{ℕ, ◌+◌, ◌≤◌, ◌≡◌, cond, List, [], ◌∷◌, ◌++◌, eqb, length}
use Rattle.std.proofs.lemmas.List.Edits.{sets}
use Rattle.laws.specs.Digits.{digits_of}
use Rattle.text_fields.specs.Items.{hold_text, list_text}
use Rattle.text.specs.Line.{TAB}
use Rattle.plan.specs.Task.{Task}
use Rattle.plan.specs.Write.{written_of, buffer_after}
use Rattle.plan.specs.declared.Plan.{Plan}
use Rattle.plan.specs.declared.WriteResult.{WriteResult}
use Rattle.text_fields.specs.declared.Listed.{Listed}
use Rattle.text_fields.specs.declared.Listed.TheVariants.{Holds, Tasks}

-- an item of the holds, which are lettered, or of the after
abbrev pub item_text : Listed → ℕ → List ℕ
item_text Holds = hold_text
item_text Tasks = digits_of

-- a field and the byte that ends it
abbrev pub number_field : ℕ → ℕ → List ℕ
number_field n end = digits_of n ++ (end ∷ [])

abbrev pub list_field : Listed → List ℕ → ℕ → List ℕ
list_field listed items end = list_text (item_text listed) items ++ (end ∷ [])

-- the ready tick is written in edition 2 alone
unfoldable pub ready_field : ℕ → ℕ → List ℕ
ready_field edition ready = cond (eqb edition 2) (number_field ready TAB) []

-- the numbers of a task line
unfoldable pub numbers_text : ℕ → ℕ → Task → List ℕ
numbers_text edition number task =
    number_field number TAB
    ++ (number_field task.board TAB ++ (ready_field edition task.ready ++ (number_field task.begin TAB ++ number_field task.finish TAB)))

-- r is the length of the text, and small enough to be added up
pub record Measured (text : List ℕ) (most r : ℕ) : Type 0 where
  pub is : r ≡ length text
  pub small : r ≤ most

-- there is room for the text from a place on
pub record Room (out : List ℕ) (at : ℕ) (text : List ℕ) : Type 0 where
  pub fits : at + length text ≤ length out

-- the whole text stands in the bytes from a place on, and r is the place after it
pub record Wrote (out : List ℕ) (at : ℕ) (text written : List ℕ) (r : ℕ) : Type 0 where
  pub place : r ≡ at + length text
  pub bytes : written ≡ sets out at text

-- the writer's answer on a plan and a buffer, and the bytes after it
abbrev pub Answered : Plan → List ℕ → WriteResult → List ℕ → Type 0
Answered plan out r written = (r ≡ written_of plan (length out)) × (written ≡ buffer_after plan out)
