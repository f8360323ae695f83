-- The text of a timetable, from the two texts.
use Rattle.std.specs.Prelude.{ℕ, cond, List}
use Rattle.text.specs.Put.{if_fits}
use Rattle.plan.specs.Answer.{is_refused}
use Rattle.plan.specs.Read.{reading_of}
use Rattle.plan.specs.declared.Plan.{Plan}
use Rattle.engine.specs.Timetable.{timetable_of}
use Rattle.engine.specs.declared.Timetable.{Timetable}
use Rattle.log_write.specs.Lines.{refused_line}
use Rattle.engine_read.specs.Whole.{asked_of}
use Rattle.engine_read.specs.declared.EngineInput.{EngineInput}
use Rattle.engine_write.specs.Rows.{row_lines, table_most}

-- the engine's refusal as the only line, or a line a task
unfoldable pub times_text : Plan → Timetable → List ℕ
times_text plan table =
    cond (is_refused table.answer) (refused_line table.answer) (row_lines plan.board table.start table.end plan.tasks)

-- the refusal of lengths.txt as the only line, or what the engine answers
unfoldable pub asked_text : Plan → EngineInput → List ℕ
asked_text plan asked =
    cond (is_refused asked.answer) (refused_line asked.answer) (times_text plan (timetable_of plan asked.rule asked.given))

-- the plan's refusal as the only line, or what lengths.txt asks
unfoldable pub table_of : List ℕ → List ℕ → List ℕ
table_of plan lengths =
    let reading = reading_of plan in
    let asked = asked_of reading.plan.tasks reading.plan.begin reading.plan.finish lengths in
    cond (is_refused reading.answer) (refused_line reading.answer) (asked_text reading.plan asked)

-- what is written into a buffer of so many bytes: nothing where some text would not fit
abbrev pub table_in : ℕ → List ℕ → List ℕ → List ℕ
table_in room plan lengths = if_fits table_most room (table_of plan lengths)
