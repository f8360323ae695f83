-- The one list of definitions that these tables compute with: a proof that says `unfolding computing` unfolds them all.
use mathlib.Core.Bool.{Bool, true}
use Rattle.laws.specs.Digits.{value_after, digits_from, digits_of}
use Rattle.laws.specs.Lists.{all_of, any_of, first_not, rising, same}
use Rattle.laws.specs.Scan.{scan}
use Rattle.laws.specs.Each.{each, rows}
use Rattle.laws.specs.Every.{every, any}
use Rattle.laws.specs.Picked.{latest, least}
use Rattle.laws.specs.Split.{index_of, skip_on, split_on, cons_first, join_on}
use Rattle.text.specs.Line.{lines_below}
use Rattle.text.specs.Number.{is_number, number_stop, number_of}
use Rattle.text_fields.specs.Items.{has_shared, is_list, list_of, list_text, is_hold, hold_of, holds_ok, after_ok, hold_stop, list_stop, holds_read, after_read}
use Rattle.text_fields.specs.Faults.{ranged_read, word_code, end_code, worst, fault_of}
use Rattle.plan.specs.Pairs.{clash_by_drive, is_listed, pair_code, pairs_fault, first_fault}
use Rattle.plan.specs.Judged.{tasks_answer}
use Rattle.plan.specs.Value.{plan_of, blank_from, kept_ok, ranges_ok, judged_answer, is_accepted}
use Rattle.plan.specs.Read.{sizes_ok, task_from, line_task, holds_code, codes_from, ready_code, task_codes, line_answer, lines_answer, form_answer, text_answer, read_in}
use Rattle.theory.specs.Times.{lowest}
use Rattle.book_view.specs.View.{laid}
use Rattle.log_write.specs.Lines.{numbers_line}
use Rattle.school.specs.Lines.{is_earliness, is_run, is_moment, is_remark, later_said, line_said, said_from}
use Rattle.school.specs.Tasks.{how_many, first_of}
use Rattle.book_view.specs.Faults.{task_fault}
use Rattle.school.specs.Tests.{against_fault, tasks_fault, lines_judged, judged_of}
use Rattle.school.specs.Text.{early_text, judged_text, judged_log}
use Rattle.year_rules.specs.Figures.{figures_on, sum_of, best_of, best_after}
use Rattle.year_rules.specs.Totals.{totals_ok, boards, with_figures, with_judged, added_of}
use Rattle.year_write.specs.Report.{bests_below, all_tally, report_of, year_text}
use Rattle.tables_school.specs.Judged.{all_judged}
use Rattle.tables_school.specs.Year.{plan_a, all_added, all_reported}

unfoldable pub computing : Bool
unfolding
    value_after digits_from digits_of all_of any_of first_not rising same scan each rows every any latest least index_of skip_on split_on cons_first
    join_on
    is_number number_stop number_of lines_below has_shared is_list list_of list_text is_hold hold_of holds_ok after_ok hold_stop list_stop holds_read after_read ranged_read word_code end_code worst fault_of
    clash_by_drive is_listed pair_code pairs_fault first_fault tasks_answer plan_of blank_from kept_ok ranges_ok judged_answer is_accepted
    sizes_ok task_from line_task holds_code codes_from ready_code task_codes line_answer lines_answer form_answer text_answer read_in
    lowest laid numbers_line is_earliness is_run is_moment is_remark later_said line_said said_from how_many first_of task_fault against_fault tasks_fault lines_judged judged_of early_text judged_text judged_log all_judged figures_on sum_of best_of best_after totals_ok boards with_figures with_judged added_of bests_below all_tally report_of year_text plan_a
    all_added all_reported
computing = true
