-- What is typed at the desk, line by line.
use Rattle.std.specs.Prelude.{ℕ, zero, suc, ◌+◌, ◌≤◌, ◌<◌, ◌≡◌, Bool, cond, List, [], ◌∷◌, ◌++◌, eqb, length}
use Rattle.laws.specs.Split.{before, after}
use Rattle.text.specs.Line.{LF, has_line}
use Rattle.book.specs.View.{plan_in}
use Rattle.book.specs.Open.{opening_of}
use Rattle.book.specs.Report.{reported_of}
use Rattle.book.specs.Drop.{dropped_of}
use Rattle.book.specs.declared.Rule.TheVariants.{Clash}
use Rattle.log_read.specs.Entries.{next_entry, entry_code}
use Rattle.log_read.specs.Said.Entry.{End, Drop}
use Rattle.desk_read.specs.Lines.{asked_of}
use Rattle.desk_read.specs.Asked.{DeskLine}
use Rattle.desk_read.specs.Asked.DeskLine.{Step, Rule, Early, Exact, Now, Drive, Why}
use Rattle.desk_turns.specs.Turns.{turn_of}
use Rattle.desk_turns.specs.declared.Morning.{Morning}

-- what a line asks at that moment of the morning
abbrev pub asked_at : Morning → Bool → List ℕ → DeskLine
asked_at morning ended line = asked_of (eqb morning.kept 0) ended line

pub data Question : DeskLine → Type 0 where
  early : Question Early
  exact : Question Exact
  now : Question Now
  drive : (n : ℕ) → Question (Drive n)
  why : (task : ℕ) → Question (Why task)

-- ends.txt has room for the line and its LF
abbrev pub HasRoom : Morning → List ℕ → Type 0
HasRoom morning line = morning.kept + length line + 1 ≤ 32768

-- the lines that are kept: ends, drops and the rule, where the library accepts them
pub data Accepted (morning : Morning) (ended : Bool) (line : List ℕ) : Type 0 where
  an_end :
      (task tick : ℕ) → asked_at morning ended line ≡ Step (End task tick) → (reported_of morning.book task tick).answer.code ≡ 0
      → HasRoom morning line → Accepted morning ended line
  a_drop :
      (task : ℕ) → asked_at morning ended line ≡ Step (Drop task) → (dropped_of morning.book task).answer.code ≡ 0 → HasRoom morning line
      → Accepted morning ended line
  the_rule :
      asked_at morning ended line ≡ Rule → (opening_of (plan_in morning.book) Clash).answer.code ≡ 0 → HasRoom morning line
      → Accepted morning ended line

-- lines typed one after the other: the morning after them, all that is printed, and the bytes that are kept
pub record Session : Type 0 where
  pub morning : Morning
  pub printed : List ℕ
  pub kept : List ℕ

abbrev pub nothing : Morning → Session
nothing morning = record { morning = morning; printed = []; kept = [] }

-- the lines of a text from line n on
unfoldable pub session_from : ℕ → Morning → ℕ → List ℕ → Session
session_from zero morning n text = nothing morning
session_from (suc fuel) morning n text =
    let turned = turn_of morning n (has_line text) (before LF text) in
    let later = session_from fuel turned.morning (n + 1) (after LF text) in
    cond (eqb (length text) 0) (nothing morning)
    (record {
      morning = later.morning;
      printed = turned.says ++ later.printed;
      kept = cond turned.keeps (before LF text ++ (LF ∷ [])) [] ++ later.kept;
    })

-- standard input as a whole: its lines are no more than its bytes
abbrev pub session_of : Morning → List ℕ → Session
session_of morning text = session_from (length text) morning 1 text

-- a text of ends and drops, none refused by 3 or 4
pub data EndsAndDrops : List ℕ → Type 0 where
  no_more : {text : List ℕ} → length text ≡ 0 → EndsAndDrops text
  next : {text : List ℕ} → 0 < length text → entry_code (next_entry text) ≡ 0 → EndsAndDrops (after LF text) → EndsAndDrops text
