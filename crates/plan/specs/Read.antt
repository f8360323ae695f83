-- Reading a plan text. A reading that mends is the second call's: it takes edition 2 alone,
-- lets `s` stand, and makes it `e`.
use Rattle.std.specs.Prelude.{ℕ, ◌+◌, Bool, true, false, not, cond, ◌&&◌, List, [], ◌∷◌, ltb, eqb, length}
use Rattle.laws.specs.Lists.{same}
use Rattle.laws.specs.Scan.{scan_to}
use Rattle.text.specs.Bytes.{bytes}
use Rattle.text.specs.Number.{is_number, value_of, most}
use Rattle.text.specs.Line.{has_line, skip, line_at, fields, field}
use Rattle.text_fields.specs.Items.{between, is_list, list_of, is_hold, hold_of, has_shared, holds_ok, after_ok}
use Rattle.text_fields.specs.Faults.{code_for, field_code, word_code, end_code, fault_of}
use Rattle.plan.specs.Answer.{refuse, granted, is_granted, is_refused}
use Rattle.plan.specs.Task.{Task, task_of, exclusive_task}
use Rattle.plan.specs.Judged.{tasks_answer}
use Rattle.plan.specs.Value.{plan_of, zero_plan}
use Rattle.plan.specs.declared.Answer.{Answer}
use Rattle.plan.specs.declared.Plan.{Plan}
use Rattle.plan.specs.declared.Reading.{Reading}

-- a field that is a number in a range
abbrev pub ranged : ℕ → ℕ → List ℕ → Bool
ranged low high s = is_number s && between low high (value_of s)

-- First line: `plan`, edition `1` or `2` (`2` alone where it mends), boards B, tasks T
unfoldable pub sizes_ok : Bool → List ℕ → Bool
sizes_ok mends line =
    eqb (length (fields line)) 4 && (same (field line 0) (bytes "plan")
    && (ranged (cond mends 2 1) 2 (field line 1) && (ranged 1 8 (field line 2) && ranged 1 64 (field line 3))))

abbrev pub edition_of : List ℕ → ℕ
edition_of s = value_of (field (line_at s 0) 1)

abbrev pub boards_of : List ℕ → ℕ
boards_of s = value_of (field (line_at s 0) 2)

abbrev pub tasks_of : List ℕ → ℕ
tasks_of s = value_of (field (line_at s 0) 3)

-- a task whose planned start is field n, followed by planned finish, holds, after
unfoldable pub task_from : List ℕ → ℕ → ℕ → Task
task_from line ready n =
    task_of (value_of (field line 2)) ready (value_of (field line n)) (value_of (field line (n + 1)))
    (list_of hold_of (field line (n + 2))) (list_of value_of (field line (n + 3)))

-- Edition 2 has a ready field between board and planned start, and where it mends `s` is made `e`. Edition 1 is kept as ready 0
unfoldable pub line_task : Bool → ℕ → List ℕ → Task
line_task mends edition line =
    let task = task_from line (value_of (field line 3)) 4 in
    cond (eqb edition 2) (cond mends (exclusive_task task) task) (task_from line 0 3)

-- 3 or 4 as any list; 20, a shared hold where it is retired
unfoldable pub holds_code : Bool → List ℕ → ℕ
holds_code retired s =
    let code = code_for (is_list is_hold s) (holds_ok (list_of hold_of s)) in
    cond (eqb code 0 && (retired && has_shared (list_of hold_of s))) 20 code

-- the codes from the planned start on
unfoldable pub codes_from : Bool → Bool → ℕ → List ℕ → ℕ → List ℕ
codes_from retired ended tasks line n =
    field_code 0 most (field line n)
    ∷ field_code (value_of (field line n) + 1) most (field line (n + 1))
    ∷ holds_code retired (field line (n + 2))
    ∷ code_for (is_list is_number (field line (n + 3))) (after_ok tasks (list_of value_of (field line (n + 3))))
    ∷ end_code ended (n + 4) line ∷ []

-- Ready is a tick; 18, ready after planned start
unfoldable pub ready_code : List ℕ → ℕ
ready_code line =
    let code = field_code 0 most (field line 3) in
    cond (eqb code 0 && ltb (value_of (field line 4)) (value_of (field line 3))) 18 code

-- Then T lines: `task`, number, board, in edition 2 ready, planned start, planned finish, holds, after. The k-th task line
-- carries number k. Edition 2 no longer takes `s`, unless it is mended
unfoldable pub task_codes : Bool → Bool → ℕ → ℕ → ℕ → List ℕ → ℕ → List ℕ
task_codes mends ended edition boards tasks line k =
    word_code (bytes "task") (field line 0)
    ∷ field_code k k (field line 1)
    ∷ field_code 1 boards (field line 2)
    ∷ cond (eqb edition 2) (ready_code line ∷ codes_from (not mends) ended tasks line 4) (codes_from false ended tasks line 3)

-- the k-th task line stands on line k + 1; a missing line is an empty one with no LF
unfoldable pub line_answer : Bool → List ℕ → ℕ → Answer
line_answer mends s k =
    let codes = task_codes mends (has_line (skip k s)) (edition_of s) (boards_of s) (tasks_of s) (line_at s k) k in
    let fault = fault_of (line_at s k) codes in
    refuse fault.code (k + 1) fault.column

-- line by line
unfoldable pub lines_answer : Bool → List ℕ → Answer
lines_answer mends s = scan_to is_refused granted (line_answer mends s) 1 (tasks_of s + 1)

-- the tasks of a text, from 0
abbrev pub text_task : Bool → List ℕ → ℕ → Task
text_task mends s k = line_task mends (edition_of s) (line_at s (k + 1))

-- Checks: 1; 2; then line by line 3, then 4, then 20, then 18; 5
unfoldable pub form_answer : Bool → List ℕ → Answer
form_answer mends s =
    cond (ltb 32768 (length s)) (refuse 1 0 0)
    (cond (not (has_line s && sizes_ok mends (line_at s 0))) (refuse 2 1 0)
    (cond (is_refused (lines_answer mends s)) (lines_answer mends s)
    (cond (ltb 0 (length (skip (tasks_of s + 1) s))) (refuse 5 (tasks_of s + 2) 0) granted)))

-- then 17, and pair by pair 6, 7, 8
unfoldable pub text_answer : Bool → List ℕ → Answer
text_answer mends s =
    cond (is_refused (form_answer mends s)) (form_answer mends s) (tasks_answer (tasks_of s) (text_task mends s))

-- the plan that a text's lines make
abbrev pub text_plan : Bool → List ℕ → Plan
text_plan mends s = plan_of (edition_of s) (boards_of s) (tasks_of s) (text_task mends s)

-- A refused reading gives a plan of zeros
abbrev pub read_as : Answer → Plan → Reading
read_as answer plan = record { answer = answer; plan = cond (is_granted answer) plan zero_plan }

-- the lines of a text, its tasks not yet judged
unfoldable pub lines_of : Bool → List ℕ → Reading
lines_of mends s = read_as (form_answer mends s) (text_plan mends s)

-- reading, and the second call
unfoldable pub read_in : Bool → List ℕ → Reading
read_in mends s = read_as (text_answer mends s) (text_plan mends s)

abbrev pub reading_of : List ℕ → Reading
reading_of s = read_in false s

abbrev pub mended_of : List ℕ → Reading
mended_of s = read_in true s
