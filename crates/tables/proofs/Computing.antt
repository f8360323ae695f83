-- The one list of definitions that the tables compute with: a proof that says `unfolding computing` unfolds them all.
use mathlib.Core.Bool.{Bool, true}
use Rattle.laws.specs.Digits.{value_after, digits_from, digits_of}
use Rattle.laws.specs.Lists.{all_of, any_of, first_not, rising, same}
use Rattle.laws.specs.Scan.{scan}
use Rattle.laws.specs.Each.{each, rows}
use Rattle.laws.specs.Every.{every, any}
use Rattle.laws.specs.Picked.{latest, least}
use Rattle.laws.specs.Split.{index_of, skip_on, split_on, cons_first, join_on}
use Rattle.text.specs.Line.{lines_below}
use Rattle.text.specs.Number.{is_number, number_stop, number_of}
use Rattle.text_fields.specs.Items.{has_shared, is_list, list_of, list_text, is_hold, hold_of, holds_ok, after_ok, hold_stop, list_stop, holds_read, after_read}
use Rattle.text_fields.specs.Faults.{ranged_read, word_code, end_code, field_codes, worst, fault_of}
use Rattle.plan.specs.Pairs.{clash_by_drive, is_listed, pair_code, pairs_fault, first_fault}
use Rattle.plan.specs.Judged.{tasks_answer}
use Rattle.plan.specs.Value.{plan_of, blank_from, kept_ok, ranges_ok, judged_answer, is_accepted}
use Rattle.plan.specs.Read.{sizes_ok, task_from, line_task, holds_code, codes_from, ready_code, task_codes, line_answer, lines_answer, form_answer, text_answer, read_in}
use Rattle.plan.specs.Write.{sizes_text, task_text, text_of, write_answer}
use Rattle.plan.specs.Convert.{exclusive_plan, converted_of, renewed_of}
use Rattle.plan_convert.specs.Renewed.{renewed_text}
use Rattle.theory.specs.Book.{all_ended, task_test, sound_test}
use Rattle.theory.specs.Report.{none_past, report_code, drop_code, goes, skip_times, next, opened}
use Rattle.theory.specs.Figure.{minimum_early}
use Rattle.theory.specs.Times.{ends_by, lowest}
use Rattle.engine.specs.Codes.{lengths_answer}
use Rattle.engine.specs.Timetable.{timetable_answer, timetable_of}
use Rattle.theory.specs.Chain.{cause, stops_at, chain_to}
use Rattle.theory.specs.Words.Times.{ran_for}
use Rattle.ask_why.specs.Chained.{why_code, chain_for}
use Rattle.ask_why.specs.Why.{why_of}
use Rattle.book_view.specs.Faults.{task_fault}
use Rattle.book_view.specs.View.{laid}
use Rattle.book_sound.specs.Sound.{sound_on}
use Rattle.book.specs.View.{lay_out}
use Rattle.book.specs.Open.{opened_on, opening_of}
use Rattle.book.specs.Report.{code_of, report_answer, next_book, reported_of}
use Rattle.book.specs.Drop.{drop_code_of, drop_answer, dropped_in, dropped_of}
use Rattle.book.specs.Early.{figure_of}
use Rattle.log_read.specs.Entries.{end_codes, drop_codes, entry_of, next_entry}
use Rattle.log_read.specs.Rules.{rule_codes, choice_in, choice_of}
use Rattle.log_write.specs.Lines.{numbers_line, run_by}
use Rattle.log_run.specs.Log.{open_log, told_of, told_log, ends_log, chosen_log, log_of}
use Rattle.engine_read.specs.Lines.{task_code, length_codes, line_said}
use Rattle.engine_read.specs.Lines as length-lines
use Rattle.engine_read.specs.Whole.{told_from, ticks_for, given_of, chosen_asked, asked_of}
use Rattle.engine_write.specs.Table.{times_text, asked_text, table_of}
use Rattle.promises.specs.Runs.{book_after}
use Rattle.tables.specs.PlanA.{plan_a}
use Rattle.tables.specs.Walk.{walk}
use Rattle.tables.specs.Dispatchers.{book_by, start_on, plan_four, start_free}
use Rattle.tables.specs.Weaker.{plan_two}
use Rattle.tables.specs.Ready.{plan_b}
use Rattle.tables.specs.Clash.{plan_c}
use Rattle.tables.specs.Timetables.{plan_turned, all_timed, all_printed, kept_ends, ends_by_number}
use Rattle.tables.specs.Chains.{plan_d, wrong_to, undropped}

-- by crate: laws, text, plan, theory, book with those below it, log with those below it, promises, tables
unfoldable pub computing : Bool
unfolding
    value_after digits_from digits_of all_of any_of first_not rising same scan each rows every any latest least index_of skip_on split_on cons_first
    join_on
    is_number number_stop number_of lines_below has_shared is_list list_of list_text is_hold hold_of holds_ok after_ok hold_stop list_stop holds_read after_read ranged_read word_code end_code field_codes worst fault_of
    clash_by_drive is_listed pair_code pairs_fault first_fault tasks_answer plan_of blank_from kept_ok ranges_ok judged_answer is_accepted
    sizes_ok task_from line_task holds_code codes_from ready_code task_codes line_answer lines_answer form_answer text_answer read_in
    sizes_text task_text text_of write_answer exclusive_plan converted_of renewed_of renewed_text
    all_ended task_test sound_test none_past report_code drop_code goes skip_times next opened minimum_early
    laid sound_on lay_out opened_on opening_of code_of report_answer next_book reported_of
    drop_code_of drop_answer dropped_in dropped_of figure_of
    cause stops_at chain_to ran_for why_code chain_for why_of plan_d wrong_to undropped
    end_codes drop_codes entry_of next_entry rule_codes choice_in choice_of numbers_line run_by open_log told_of told_log ends_log chosen_log log_of
    book_after plan_a walk book_by start_on plan_four start_free plan_two plan_b plan_c
    ends_by lowest task_fault lengths_answer timetable_answer timetable_of plan_turned all_timed kept_ends ends_by_number
    task_code length_codes length-lines.drop_codes line_said told_from ticks_for given_of chosen_asked asked_of times_text asked_text table_of
    all_printed
computing = true
