-- Edition 1 as it was before edition 2: the rule without ready ticks on plans and books, and the reader of seven fields.
use Rattle.std.specs.Prelude.{ℕ, zero, suc, ◌+◌, ◌-◌, ◌<◌, ◌≡◌, Bool, not, cond, ◌&&◌, List, [], ◌∷◌, ◌++◌, eqb, ltb, length}
use Rattle.laws.specs.Digits.{digits_of}
use Rattle.laws.specs.Every.{every}
use Rattle.laws.specs.Lists.{any_of, same}
use Rattle.laws.specs.Scan.{scan_to}
use Rattle.text.specs.Bytes.{bytes}
use Rattle.text.specs.Number.{is_number, value_of, most}
use Rattle.text.specs.Line.{has_line, skip, line_at, fields, field, line_text}
use Rattle.text_fields.specs.Items.{between, is_list, list_of, is_hold, hold_of, holds_ok, after_ok}
use Rattle.text_fields.specs.Faults.{Fault, code_for, field_code, word_code, end_code, column_of}
use Rattle.theory.specs.Words.Events.{Event}
use Rattle.theory.specs.Report.{drop_it}
use Rattle.theory.specs.Words.Unready.{plain_opened, plain_next, plain_sound, plain_early}
use Rattle.plan.specs.Answer.{refuse, granted, is_granted, is_refused}
use Rattle.plan.specs.Task.{Task, task_of, task_ok}
use Rattle.plan.specs.Judged.{tasks_answer}
use Rattle.plan.specs.Value.{at, row, is_trimmed, task_at, plan_of, zero_plan, past_blank, is_accepted}
use Rattle.plan.specs.Write.{fields_from}
use Rattle.plan.specs.Read.{ranged, boards_of, tasks_of, read_as}
use Rattle.plan.specs.declared.Answer.{Answer}
use Rattle.plan.specs.declared.Plan.{Plan}
use Rattle.plan.specs.declared.Reading.{Reading}
use Rattle.book_view.specs.View.{is_rule, plan_for}
use Rattle.book_sound.specs.Sound.{nothing_past}
use Rattle.book.specs.View.{plan_in, plan_view, book_view, lay_out}
use Rattle.book.specs.Open.{rule_number, blank_book}
use Rattle.book.specs.Report.{code_of}
use Rattle.book.specs.Drop.{drop_code_of}
use Rattle.book.specs.declared.Book.{Book}
use Rattle.book.specs.declared.BookResult.{BookResult}
use Rattle.book.specs.declared.Figure.{Figure}
use Rattle.book.specs.declared.Rule.{Rule}

-- every ready tick is 0
abbrev pub NoReady : Plan → Type 0
NoReady plan = (i : ℕ) → i < plan.tasks → at plan.ready i ≡ 0

-- ---- the rule: `plain` names it (theory/specs/words/Unready.antt)

abbrev pub plain_opening : Plan → Rule → BookResult
plain_opening plan rule =
    let number = rule_number rule in
    cond (is_accepted plan) (record { answer = granted; book = lay_out number plan (plain_opened (plan_for number plan)) })
    (record { answer = refuse 9 0 0; book = blank_book 0 zero_plan })

abbrev pub plain_is_sound : Book → Bool
plain_is_sound book =
    (is_accepted (plan_in book) && is_rule book.rule)
    && (plain_sound (plan_view book) (book_view book)
    && nothing_past book.tasks book.mark book.start book.end book.dropped)

-- 9, then the code of a report or drop with what it says
abbrev pub plain_answer : Book → ℕ → ℕ → ℕ → Answer
plain_answer book code first second =
    cond (not (plain_is_sound book)) (refuse 9 0 0) (cond (eqb code 0) granted (refuse code first second))

abbrev pub plain_report : Book → ℕ → ℕ → BookResult
plain_report book task tick =
    let answer = plain_answer book (code_of book task tick) task tick in
    let after = lay_out book.rule (plan_in book) (plain_next (plan_view book) (book_view book) (task - 1) tick) in
    record { answer = answer; book = cond (is_granted answer) after book }

abbrev pub plain_drop : Book → ℕ → BookResult
plain_drop book task =
    let answer = plain_answer book (drop_code_of book task) task 0 in
    let after = lay_out book.rule (plan_in book) (drop_it (book_view book) (task - 1)) in
    record { answer = answer; book = cond (is_granted answer) after book }

abbrev pub plain_figure : Book → Figure
plain_figure book =
    cond (plain_is_sound book) (record { answer = granted; early = plain_early (plan_view book) (book_view book) })
    (record { answer = refuse 9 0 0; early = 0 })

abbrev pub plain_told : Book → Event → Book
plain_told book (Event.ends task tick) = (plain_report book task tick).book
plain_told book (Event.drops task) = (plain_drop book task).book

unfoldable pub plain_book_after : Book → List Event → Book
plain_book_after book [] = book
plain_book_after book (event ∷ later) = plain_book_after (plain_told book event) later

-- the book with other ready ticks
abbrev pub with_ready : Book → List ℕ → Book
with_ready book ready = record {
  edition = book.edition;
  boards = book.boards;
  tasks = book.tasks;
  rule = book.rule;
  clock = book.clock;
  board = book.board;
  ready = ready;
  begin = book.begin;
  finish = book.finish;
  start = book.start;
  end = book.end;
  mark = book.mark;
  dropped = book.dropped;
  holds = book.holds;
  after = book.after;
}

-- ---- the reader: `seven` names it

-- First line: `plan`, `1`, boards B, tasks T
unfoldable pub seven_sizes : List ℕ → Bool
seven_sizes line =
    eqb (length (fields line)) 4 && (same (field line 0) (bytes "plan")
    && (same (field line 1) (bytes "1") && (ranged 1 8 (field line 2) && ranged 1 64 (field line 3))))

-- Then T lines: `task`, number, board, planned start, planned finish, holds, after. The k-th task line carries number k
unfoldable pub seven_codes : Bool → ℕ → ℕ → List ℕ → ℕ → List ℕ
seven_codes ended boards tasks line k =
    word_code (bytes "task") (field line 0)
    ∷ field_code k k (field line 1)
    ∷ field_code 1 boards (field line 2)
    ∷ field_code 0 most (field line 3)
    ∷ field_code (value_of (field line 3) + 1) most (field line 4)
    ∷ code_for (is_list is_hold (field line 5)) (holds_ok (list_of hold_of (field line 5)))
    ∷ code_for (is_list is_number (field line 6)) (after_ok tasks (list_of value_of (field line 6)))
    ∷ end_code ended 7 line ∷ []

abbrev pub seven_task : List ℕ → ℕ → Task
seven_task s k =
    let line = line_at s (k + 1) in
    task_of (value_of (field line 2)) 0 (value_of (field line 3)) (value_of (field line 4))
    (list_of hold_of (field line 5)) (list_of value_of (field line 6))

-- 3 before 4
unfoldable pub seven_worst : List ℕ → ℕ
seven_worst codes = cond (any_of (eqb 3) codes) 3 (cond (any_of (eqb 4) codes) 4 0)

abbrev pub seven_fault : List ℕ → List ℕ → Fault
seven_fault line codes =
    let code = seven_worst codes in record { code = code; column = cond (eqb code 0) 0 (column_of line codes code) }

abbrev pub seven_line : List ℕ → ℕ → Answer
seven_line s k =
    let fault = seven_fault (line_at s k) (seven_codes (has_line (skip k s)) (boards_of s) (tasks_of s) (line_at s k) k) in
    refuse fault.code (k + 1) fault.column

abbrev pub seven_lines : List ℕ → Answer
seven_lines s = scan_to is_refused granted (seven_line s) 1 (tasks_of s + 1)

-- Checks: 1; 2; then line by line 3 before 4; 5
unfoldable pub seven_form : List ℕ → Answer
seven_form s =
    cond (ltb 32768 (length s)) (refuse 1 0 0)
    (cond (not (has_line s && seven_sizes (line_at s 0))) (refuse 2 1 0)
    (cond (is_refused (seven_lines s)) (seven_lines s)
    (cond (ltb 0 (length (skip (tasks_of s + 1) s))) (refuse 5 (tasks_of s + 2) 0) granted)))

-- then 17, and pair by pair 6, 7, 8
abbrev pub seven_answer : List ℕ → Answer
seven_answer s = cond (is_refused (seven_form s)) (seven_form s) (tasks_answer (tasks_of s) (seven_task s))

abbrev pub seven_reading : List ℕ → Reading
seven_reading s = read_as (seven_answer s) (plan_of 1 (boards_of s) (tasks_of s) (seven_task s))

-- ---- a plan value and its text

-- no ready tick, and shared holds as they please
abbrev pub seven_kept : Plan → ℕ → Bool
seven_kept plan k =
    task_ok plan.boards plan.tasks (task_at plan k)
    && (eqb (at plan.ready k) 0 && (is_trimmed (row 32 plan.holds k) && is_trimmed (row 64 plan.after k)))

abbrev pub seven_accepted : Plan → Bool
seven_accepted plan =
    (between 1 8 plan.boards && (between 1 64 plan.tasks && (every plan.tasks (seven_kept plan) && past_blank plan)))
    && is_granted (tasks_answer plan.tasks (task_at plan))

-- the lines of the first n tasks
unfoldable pub seven_texts : (ℕ → Task) → ℕ → List ℕ
seven_texts task zero = []
seven_texts task (suc n) =
    seven_texts task n ++ line_text (bytes "task" ∷ digits_of (n + 1) ∷ digits_of (task n).board ∷ fields_from (task n))

abbrev pub seven_text : Plan → List ℕ
seven_text plan =
    line_text (bytes "plan" ∷ bytes "1" ∷ digits_of plan.boards ∷ digits_of plan.tasks ∷ []) ++ seven_texts (task_at plan) plan.tasks
