-- The log of edition 1 as it was before edition 2: `crates/log/specs/Log.antt` by the calls of `Edition1.antt`.
use Rattle.std.specs.Prelude.{ℕ, zero, suc, ◌+◌, cond, List, [], ◌++◌, ltb, eqb, length}
use Rattle.laws.specs.Split.{after}
use Rattle.text.specs.Line.{LF}
use Rattle.plan.specs.Answer.{refuse, granted, is_granted, is_refused}
use Rattle.plan.specs.declared.Answer.{Answer}
use Rattle.plan.specs.declared.Plan.{Plan}
use Rattle.book.specs.Open.{rule_number, blank_book}
use Rattle.book.specs.declared.Book.{Book}
use Rattle.book.specs.declared.Rule.{Rule}
use Rattle.book.specs.declared.Rule.TheVariants.{EarlyStart, Clash}
use Rattle.log_read.specs.Entries.{next_entry, entry_code}
use Rattle.log_read.specs.Rules.{choice_of}
use Rattle.log_read.specs.Said.{Choice}
use Rattle.log_read.specs.Said.Choice.{Unsaid, Chosen, Malformed}
use Rattle.log_read.specs.Said.{Entry}
use Rattle.log_read.specs.Said.Entry.{End, Drop, Refused}
use Rattle.log_write.specs.Lines.{refused_line}
use Rattle.log_run.specs.Lines.{run_line, early_line, start_lines}
use Rattle.log_run.specs.Log.{told_log}
use Rattle.log_run.specs.declared.StepOutcome.{StepOutcome}
use Rattle.promises.specs.Edition1.{plain_opening, plain_report, plain_drop, plain_figure, seven_reading}

abbrev pub plain_shown : Answer → Book → StepOutcome
plain_shown answer book = record { answer = answer; book = book; early = cond (is_granted answer) (plain_figure book).early 0 }

unfoldable pub plain_open_log : Plan → Rule → List ℕ
plain_open_log plan rule =
    let book = (plain_opening plan rule).book in
    run_line book ++ (start_lines (blank_book (rule_number rule) plan) book plan.tasks ++ early_line (plain_shown granted book))

unfoldable pub plain_answered : ℕ → Book → Entry → StepOutcome
plain_answered n book (End task tick) = plain_shown (plain_report book task tick).answer (plain_report book task tick).book
plain_answered n book (Drop task) = plain_shown (plain_drop book task).answer (plain_drop book task).book
plain_answered n book (Refused code column) = record { answer = refuse code n column; book = book; early = 0 }

unfoldable pub plain_ends_log : ℕ → Book → ℕ → List ℕ → List ℕ
plain_ends_log zero book n ends = []
plain_ends_log (suc fuel) book n ends =
    let entry = next_entry ends in
    let told = plain_answered n book entry in
    let rest = cond (eqb (entry_code entry) 0) (plain_ends_log fuel told.book (n + 1) (after LF ends)) [] in
    cond (eqb (length ends) 0) [] (told_log book entry told ++ rest)

abbrev pub plain_rest_log : Plan → Rule → ℕ → List ℕ → List ℕ
plain_rest_log plan rule n ends = plain_open_log plan rule ++ plain_ends_log (length ends) (plain_opening plan rule).book n ends

unfoldable pub plain_chosen_log : Choice → Plan → List ℕ → List ℕ
plain_chosen_log Unsaid plan ends = plain_rest_log plan EarlyStart 1 ends
plain_chosen_log Chosen plan ends = plain_rest_log plan Clash 2 (after LF ends)
plain_chosen_log (Malformed column) plan ends = plain_open_log plan EarlyStart ++ refused_line (refuse 3 1 column)

unfoldable pub plain_log : List ℕ → List ℕ → List ℕ
plain_log text ends =
    let read = seven_reading text in
    cond (is_refused read.answer) (refused_line read.answer)
    (cond (ltb 32768 (length ends)) (refused_line (refuse 1 0 0)) (plain_chosen_log (choice_of ends) read.plan ends))
