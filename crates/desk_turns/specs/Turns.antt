-- One line at the desk: what it does to the morning, what is printed, and whether it is kept in ends.txt.
use Rattle.std.specs.Prelude.{ℕ, ◌+◌, ◌≡◌, Bool, true, false, cond, List, leb, eqb, length}
use Rattle.plan.specs.Answer.{refuse, is_granted}
use Rattle.plan.specs.declared.Answer.{Answer}
use Rattle.book.specs.View.{plan_in}
use Rattle.book.specs.Open.{opening_of}
use Rattle.book.specs.declared.Book.{Book}
use Rattle.book.specs.declared.Rule.TheVariants.{Clash}
use Rattle.log_read.specs.Said.{Entry}
use Rattle.log_write.specs.Lines.{refused_line}
use Rattle.log_write.specs.Answers.{Answered}
use Rattle.log_run.specs.Log.{told_of}
use Rattle.log_run.specs.Answers.{entry_log, opening_log}
use Rattle.desk_read.specs.Lines.{asked_of}
use Rattle.desk_read.specs.Asked.{DeskLine}
use Rattle.desk_read.specs.Asked.DeskLine.{Step, Rule, Early, Exact, Now, Drive, Why}
use Rattle.desk_answers.specs.Answers.{early_answer, exact_answer, now_answer}
use Rattle.desk_answers.specs.Questions.{drive_answer, why_answer}
use Rattle.desk_turns.specs.declared.Morning.{Morning}
use Rattle.desk_turns.specs.declared.Turn.{Turn}

-- the morning after a line, what is printed for it, and whether it is kept
pub record Turned : Type 0 where
  pub morning : Morning
  pub says : List ℕ
  pub keeps : Bool

-- what is asked and what is refused changes nothing and is not kept
abbrev pub saying : Morning → List ℕ → Turned
saying morning text = record { morning = morning; says = text; keeps = false }

-- what is accepted is kept, a line of so many bytes and its LF; 1 where that would take ends.txt past 32,768 bytes
abbrev pub keeping : Morning → ℕ → Book → List ℕ → Turned
keeping morning size book text =
    let kept = morning.kept + size + 1 in
    cond (leb kept 32768) (record { morning = record { book = book; kept = kept }; says = text; keeps = true })
    (saying morning (refused_line (refuse 1 0 0)))

-- by the library's answer: the book after the line, and what is printed for it
unfoldable pub taking : Morning → ℕ → Answer → Book → List ℕ → Turned
taking morning size answer book text = cond (is_granted answer) (keeping morning size book text) (saying morning text)

-- a report, a drop or a refusal, as line n of ends.txt
abbrev pub entry_turn : Morning → ℕ → ℕ → Entry → Turned
entry_turn morning n size entry =
    let told = told_of n morning.book entry in
    taking morning size told.answer told.book (entry_log n morning.book entry)

-- the book opened anew by the clash rule
abbrev pub rule_turn : Morning → ℕ → Turned
rule_turn morning size =
    let plan = plan_in morning.book in
    taking morning size (opening_of plan Clash).answer (opening_of plan Clash).book (opening_log plan Clash)

-- line n of standard input, by what it asks
unfoldable pub turn_by : Morning → ℕ → ℕ → DeskLine → Turned
turn_by morning n size (Step entry) = entry_turn morning n size entry
turn_by morning n size Rule = rule_turn morning size
turn_by morning n size Early = saying morning (early_answer morning.book)
turn_by morning n size Exact = saying morning (exact_answer morning.book)
turn_by morning n size Now = saying morning (now_answer morning.book)
turn_by morning n size (Drive drive) = saying morning (drive_answer morning.book drive)
turn_by morning n size (Why task) = saying morning (why_answer morning.book task)

-- the rule may be chosen while nothing is kept
unfoldable pub turn_of : Morning → ℕ → Bool → List ℕ → Turned
turn_of morning n ended line = turn_by morning n (length line) (asked_of (eqb morning.kept 0) ended line)

-- what a call hands back of it: the answer stands in the buffer, and its length is told
pub record Took (out : List ℕ) (turned : Turned) (written : List ℕ) (r : Turn) : Type 0 where
  pub turn : r ≡ record { morning = turned.morning; length = length turned.says; keeps = turned.keeps }
  pub wrote : Answered out turned.says written r.length
