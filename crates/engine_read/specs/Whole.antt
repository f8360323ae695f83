-- What lengths.txt says as a whole.
use Rattle.std.specs.Prelude.{ℕ, zero, suc, ◌+◌, ◌-◌, min, cond, List, [], ◌∷◌, ltb, eqb, length, replicate}
use Rattle.laws.specs.Lists.{any_of}
use Rattle.laws.specs.Split.{after}
use Rattle.text.specs.Line.{LF}
use Rattle.plan.specs.Answer.{refuse, granted, is_granted}
use Rattle.plan.specs.Value.{at}
use Rattle.plan.specs.declared.Answer.{Answer}
use Rattle.book_view.specs.View.{laid}
use Rattle.book.specs.declared.Rule.{Rule}
use Rattle.book.specs.declared.Rule.TheVariants.{EarlyStart, Clash}
use Rattle.engine.specs.declared.Lengths.{Lengths}
use Rattle.log_read.specs.Rules.{choice_of}
use Rattle.log_read.specs.Said.{Choice}
use Rattle.log_read.specs.Said.Choice.{Unsaid, Chosen, Malformed}
use Rattle.engine_read.specs.Lines.{says_drop, next_said, said_answer}
use Rattle.engine_read.specs.Said.{LengthLine}
use Rattle.engine_read.specs.Said.{Length, Drop, Refused}
use Rattle.engine_read.specs.declared.EngineInput.{EngineInput}

-- what lines say, the last first, and the answer: the first refused line's, or granted
pub record Told : Type 0 where
  pub answer : Answer
  pub said : List LengthLine

-- line by line from line n on, after what the earlier lines say
unfoldable pub told_from : ℕ → ℕ → ℕ → List LengthLine → List ℕ → Told
told_from zero tasks n earlier text = record { answer = granted; said = earlier }
told_from (suc fuel) tasks n earlier text =
    let said = next_said tasks earlier text in
    let later = told_from fuel tasks (n + 1) (said ∷ earlier) (after LF text) in
    cond (eqb (length text) 0) (record { answer = granted; said = earlier })
    (cond (is_granted (said_answer n said)) later (record { answer = said_answer n said; said = earlier }))

-- the lines of a text from line n on: they are no more than its bytes
abbrev pub told_in : ℕ → ℕ → List LengthLine → List ℕ → Told
told_in tasks n earlier text = told_from (length text) tasks n earlier text

-- the ticks that a line gives a task, or else others
abbrev pub ticks_or : ℕ → ℕ → LengthLine → ℕ
ticks_or task other (Length named ticks) = cond (eqb named task) ticks other
ticks_or task other (Drop named) = other
ticks_or task other (Refused code column) = other

-- a task without a `length` line takes its planned length
unfoldable pub ticks_for : ℕ → ℕ → List LengthLine → ℕ
ticks_for task planned [] = planned
ticks_for task planned (line ∷ said) = ticks_or task (ticks_for task planned said) line

-- each task's length, and 1 for each that a `drop` line names; nothing past the last task
unfoldable pub given_of : ℕ → List ℕ → List ℕ → List LengthLine → Lengths
given_of tasks begin finish said = record {
  length = laid tasks (λ i. ticks_for (i + 1) (at finish i - at begin i) said);
  dropped = laid tasks (λ i. cond (any_of (says_drop (i + 1)) said) 1 0);
}

-- a refused text asks nothing of the engine
abbrev pub asked_not : Answer → EngineInput
asked_not answer =
    record { answer = answer; rule = EarlyStart; given = record { length = replicate 64 0; dropped = replicate 64 0 } }

abbrev pub asked_by : Rule → ℕ → List ℕ → List ℕ → Told → EngineInput
asked_by rule tasks begin finish told =
    cond (is_granted told.answer) (record { answer = told.answer; rule = rule; given = given_of tasks begin finish told.said })
    (asked_not told.answer)

-- by the first line: the rule that it chooses and line 2 on; malformed it is 3
unfoldable pub chosen_asked : Choice → ℕ → List ℕ → List ℕ → List ℕ → EngineInput
chosen_asked Unsaid tasks begin finish text = asked_by EarlyStart tasks begin finish (told_in tasks 1 [] text)
chosen_asked Chosen tasks begin finish text = asked_by Clash tasks begin finish (told_in tasks 2 [] (after LF text))
chosen_asked (Malformed column) tasks begin finish text = asked_not (refuse 3 1 column)

-- 1 for a text too long; then its lines. Arrays have places for 64 tasks
unfoldable pub asked_of : ℕ → List ℕ → List ℕ → List ℕ → EngineInput
asked_of tasks begin finish text =
    cond (ltb 32768 (length text)) (asked_not (refuse 1 0 0)) (chosen_asked (choice_of text) (min tasks 64) begin finish text)
