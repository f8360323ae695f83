-- What is printed of a judged log.
use Rattle.std.specs.Prelude.{ℕ, ◌+◌, ◌-◌, cond, List, [], ◌∷◌, ◌++◌, ltb, eqb}
use Rattle.laws.specs.Digits.{digits_of}
use Rattle.text.specs.Bytes.{bytes}
use Rattle.text.specs.Line.{line_text, lines_below}
use Rattle.text.specs.Put.{if_fits}
use Rattle.plan.specs.Answer.{is_granted, is_refused}
use Rattle.plan.specs.Read.{reading_of}
use Rattle.plan.specs.Value.{at}
use Rattle.plan.specs.declared.Answer.{Answer}
use Rattle.plan.specs.declared.Plan.{Plan}
use Rattle.log_write.specs.Lines.{refused_line}
use Rattle.school.specs.Lines.{MINUS}
use Rattle.school.specs.Tests.{judged_of}
use Rattle.school.specs.declared.JudgedLog.{JudgedLog}

-- planned finish − end: `-` before it when late, never `+`
unfoldable pub early_text : ℕ → ℕ → List ℕ
early_text planned tick = cond (ltb planned tick) (MINUS ∷ digits_of (tick - planned)) (digits_of (planned - tick))

-- a task's number and its ticks early
abbrev pub figure_line : Plan → JudgedLog → ℕ → List ℕ
figure_line plan judged i = line_text (digits_of (i + 1) ∷ early_text (at plan.finish i) (at judged.end i) ∷ [])

-- of the tasks below n that have one start and one end, by rising number
abbrev pub figure_lines : Plan → JudgedLog → ℕ → List ℕ
figure_lines plan judged n = lines_below (λ i. cond (eqb (at judged.known i) 1) (figure_line plan judged i) []) n

-- `accepted` alone, or `refused` with code and its two numbers
abbrev pub verdict_line : Answer → List ℕ
verdict_line answer = cond (is_granted answer) (line_text (bytes "accepted" ∷ [])) (refused_line answer)

unfoldable pub judged_text : Plan → JudgedLog → List ℕ
judged_text plan judged = figure_lines plan judged plan.tasks ++ verdict_line judged.answer

-- of a plan text and a log: a refused plan text prints that refusal alone
unfoldable pub judged_log : List ℕ → List ℕ → List ℕ
judged_log plan log =
    let reading = reading_of plan in
    cond (is_refused reading.answer) (refused_line reading.answer) (judged_text reading.plan (judged_of reading.plan log))

-- no such text is longer
abbrev pub judged_most : ℕ
judged_most = 1588

-- what is written into a buffer of so many bytes: nothing where some text would not fit
abbrev pub judged_in : ℕ → List ℕ → List ℕ → List ℕ
judged_in room plan log = if_fits judged_most room (judged_log plan log)
