-- The dialogue is answered as typed, and its lines are kept.
use mathlib.Core.Path.{◌≡◌, refl}
use mathlib.Core.Bool.{true}
use mathlib.Core.List.{[]}
use lib.ListN.{replicate}
use Rattle.text.specs.Bytes.{bytes}
use Rattle.theory.specs.Exact.{exact_early}
use Rattle.ask_exact.specs.Figure.{exact_of}
use Rattle.theory.specs.Times.{ends_by}
use Rattle.ask_sheet.specs.Sheet.{numbers, soonest, sheet_with, sheet_of}
use Rattle.ask_drives.specs.Sheets.{made_of, on_drive_of}
use Rattle.desk_read.specs.Lines.{word_asked, asked_of}
use Rattle.desk_answers.specs.Answers.{lines_each, known_line, early_answer, exact_answer, now_answer}
use Rattle.desk_answers.specs.Questions.{drive_line, drive_answer, why_answer}
use Rattle.desk_turns.specs.Turns.{taking, turn_by, turn_of}
use Rattle.desk_start.specs.Start.{line_end, text_in, walk_from, walked_by, walked_of, way_of, start_log, begun_of}
use Rattle.desk_start.specs.declared.Way.TheVariants.{Refused, Stops, Goes}
use Rattle.tables.specs.PlanA.{text_a}
use Rattle.promises_desk.specs.Sessions.{session_from, session_of}
use Rattle.tables.proofs.Computing.{computing}
use Rattle.tables_desk.specs.Desks.{morning_a, typed, printed, kept, last_fits, last_full, full_refused, typed_to_end, printed_to_end, morning_ahead, typed_ahead, printed_ahead, torn_ends, torn_log}

pub dialogue : (session_of morning_a typed).printed ≡ printed
unfolding
    computing exact_early exact_of ends_by numbers soonest sheet_with sheet_of made_of on_drive_of known_line word_asked asked_of
    lines_each early_answer exact_answer now_answer drive_line drive_answer why_answer taking turn_by turn_of line_end text_in walk_from walked_by walked_of
    begun_of session_from
dialogue = refl

pub dialogue-kept : (session_of morning_a typed).kept ≡ kept
unfolding
    computing exact_early exact_of ends_by numbers soonest sheet_with sheet_of made_of on_drive_of known_line word_asked asked_of
    lines_each early_answer exact_answer now_answer drive_line drive_answer why_answer taking turn_by turn_of line_end text_in walk_from walked_by walked_of
    begun_of session_from
dialogue-kept = refl

pub last_fits_lem : last_fits.keeps ≡ true
unfolding computing word_asked asked_of taking turn_by turn_of line_end text_in walk_from walked_by walked_of begun_of
last_fits_lem = refl

pub last-full : last_full.says ≡ bytes "refused\t1\t0\t0\n"
unfolding computing word_asked asked_of taking turn_by turn_of line_end text_in walk_from walked_by walked_of begun_of
last-full = refl

pub full-refused : full_refused.says ≡ bytes "refused\t10\t6\t0\n"
unfolding computing word_asked asked_of taking turn_by turn_of line_end text_in walk_from walked_by walked_of begun_of
full-refused = refl

pub dialogue-to-end : (session_of morning_a typed_to_end).printed ≡ printed_to_end
unfolding
    computing exact_early exact_of ends_by numbers soonest sheet_with sheet_of made_of on_drive_of known_line word_asked asked_of
    lines_each early_answer exact_answer now_answer drive_line drive_answer why_answer taking turn_by turn_of line_end text_in walk_from walked_by walked_of
    begun_of session_from
dialogue-to-end = refl

pub dialogue-ahead : (session_of morning_ahead typed_ahead).printed ≡ printed_ahead
unfolding
    computing exact_early exact_of ends_by numbers soonest sheet_with sheet_of made_of on_drive_of known_line word_asked asked_of
    lines_each early_answer exact_answer now_answer drive_line drive_answer why_answer taking turn_by turn_of line_end text_in walk_from walked_by walked_of
    begun_of session_from
dialogue-ahead = refl

-- a torn line is left out: 8 bytes are kept, and the log is that of the line before it
pub start-torn :
    ((begun_of text_a torn_ends).way ≡ Goes) × ((begun_of text_a torn_ends).morning.kept ≡ 8) × (start_log text_a torn_ends ≡ torn_log)
unfolding computing line_end text_in walk_from walked_by walked_of way_of begun_of
start-torn = (refl, refl, refl)

-- a line that `runlog` stops at, and a text too long, stop the desk; a refused plan ends it
pub start-stops :
    ((begun_of text_a (bytes "end\t2\n")).way ≡ Stops) × ((begun_of text_a (replicate 32769 10)).way ≡ Stops) × ((begun_of [] []).way ≡ Refused)
unfolding computing line_end text_in walk_from walked_by walked_of way_of begun_of
start-stops = (refl, refl, refl)
