-- THE DESK. A morning is a book and how many bytes ends.txt has; a line is what stands before its LF, and whether it had one.
use Prim.Native.Nat.{ℕ, ◌≤◌}
use mathlib.Core.Path.{◌≡◌}
use mathlib.Core.Logic.{◌↔◌}
use mathlib.Core.Bool.{Bool, true, false}
use mathlib.Core.List.{List, [], ◌++◌}
use lib.ListN.{length}
use Rattle.plan.specs.Read.{reading_of}
use Rattle.book.specs.Sound.{is_sound}
use Rattle.log_run.specs.Log.{log_of}
use Rattle.desk_turns.specs.Turns.{turn_of}
use Rattle.desk_turns.specs.declared.Morning.{Morning}
use Rattle.desk_start.specs.Start.{text_in, start_log, begun_of}
use Rattle.desk_start.specs.declared.Way.TheVariants.{Goes}
use Rattle.promises_desk.specs.Sessions.{asked_at, Question, Accepted, session_of, EndsAndDrops}
use Rattle.promises_desk.proofs.Turns as turns
use Rattle.promises_desk.proofs.ReadLines as lines
use Rattle.promises_desk.proofs.Again as texts

module _ (morning : Morning) (n : ℕ) (ended : Bool) (line : List ℕ) where
  -- questions change nothing, and are not kept
  pub questions-change-nothing :
      Question (asked_at morning ended line)
      → ((turn_of morning n ended line).morning ≡ morning) × ((turn_of morning n ended line).keeps ≡ false)
  questions-change-nothing = turns.questions-quiet morning n ended line

  -- what is kept is exactly the accepted ends, drops and rule
  pub kept-lines : ((turn_of morning n ended line).keeps ≡ true) ↔ Accepted morning ended line
  kept-lines = turns.kept-accepted morning n ended line

  -- a line that is not kept, so a refused one too, changes nothing
  pub unkept-changes-nothing : (turn_of morning n ended line).keeps ≡ false → (turn_of morning n ended line).morning ≡ morning
  unkept-changes-nothing = turns.unkept-unchanged morning n ended line

  -- a sound book stays one, so nothing at the desk is refused by 9
  pub stays-sound : is_sound morning.book ≡ true → is_sound (turn_of morning n ended line).morning.book ≡ true
  stays-sound = turns.turn-sound morning n ended line

-- a desk that goes on begins with a sound book
pub begins-sound : (plan ends : List ℕ) → (begun_of plan ends).way ≡ Goes → is_sound (begun_of plan ends).morning.book ≡ true
begins-sound = texts.start-sound

-- on a folder without ends.txt, and a text of ends and drops none of which is refused by 3 or 4: what the desk prints first and
-- all its answers are the log of that text, byte for byte
pub answers-are-the-log :
    (plan text : List ℕ) → (reading_of plan).answer.code ≡ 0 → length text ≤ 32768 → EndsAndDrops text
    → start_log plan [] ++ (session_of (begun_of plan []).morning text).printed ≡ log_of plan text
answers-are-the-log = lines.whole-log

-- whatever is typed: the lines that were there and those that were kept, read again, give the same morning, and the desk goes on
pub kept-gives-the-same :
    (plan ends text : List ℕ) → (begun_of plan ends).way ≡ Goes
    → ((begun_of plan (text_in ends ++ (session_of (begun_of plan ends).morning text).kept)).way ≡ Goes)
    × ((begun_of plan (text_in ends ++ (session_of (begun_of plan ends).morning text).kept)).morning
    ≡ (session_of (begun_of plan ends).morning text).morning)
kept-gives-the-same = texts.read_again
