-- What the readers of single fields and lines say.
use Rattle.std.specs.Prelude.{ℕ, ◌+◌, ◌*◌, ◌≤◌, ◌<◌, ◌≡◌, Bool, true, cond, ◌&&◌, List, map, ltb, eqb, length, take, set, Option, None, Some, Result, Ok, Err}
use Rattle.std.proofs.lemmas.List.Edits.{sets}
use Rattle.laws.specs.Lists.{all_of}
use Rattle.laws.specs.Split.{before}
use Rattle.text.specs.Number.{value_of, most}
use Rattle.text.specs.Line.{LF, has_line, line_at, field}
use Rattle.text_fields.specs.Items.{Items, no_items, has_shared, exclusive, holds_read, after_read}
use Rattle.text_fields.specs.Faults.{Ranged, Fault, ranged_read, fault_of}
use Rattle.text_fields.specs.Said.{fault_number, ranged_in}
use Rattle.text_fields.specs.declared.Items as list
use Rattle.text_fields.specs.declared.Fault as fault
use Rattle.text_fields.specs.declared.FieldFault.{FieldFault}
use Rattle.plan.specs.Answer.{granted}
use Rattle.plan.specs.Value.{zero_plan}
use Rattle.plan.specs.declared.Answer.{Answer}
use Rattle.plan.specs.declared.Plan.{Plan}
use Rattle.plan.specs.declared.Reading.{Reading}
use Rattle.plan.specs.Read.{ranged, sizes_ok, edition_of, boards_of, tasks_of, task_codes}
use Rattle.plan_read.specs.Private.Editions.{edition_by, is_mended, is_strict}
use Rattle.plan_read.specs.declared.Edition.{Edition}
use Rattle.plan_read.specs.declared.Sizes.{Sizes}
use Rattle.plan_read.specs.declared.Tail as tail
use Rattle.plan_read.specs.declared.Line as line

-- a number of the first line, if it is one in its range
abbrev pub size_read : ℕ → ℕ → List ℕ → Option ℕ
size_read low high s = cond (ranged low high s) (Some (value_of s)) None

-- the edition of the first line
abbrev pub edition_read : Bool → List ℕ → Option Edition
edition_read mends s = cond (ranged (cond mends 2 1) 2 s) (Some (edition_by mends (value_of s))) None

-- what the first line says, if it says sizes
unfoldable pub sizes_read : Bool → List ℕ → Option Sizes
sizes_read mends line =
    cond (sizes_ok mends line)
    (Some (record {
      edition = edition_by mends (value_of (field line 1));
      boards = value_of (field line 2);
      tasks = value_of (field line 3);
    }))
    None

-- the planned start that is field n, as it is read: 0 where it is refused by itself
abbrev pub start_at : List ℕ → ℕ → ℕ
start_at line n = (ranged_read 0 most (field line n)).value

-- the ready tick by the planned start: 18 where it is after it
unfoldable pub ready_by : ℕ → List ℕ → Ranged
ready_by begin s =
    let ready = ranged_read 0 most s in cond (eqb ready.code 0 && ltb begin ready.value) (record { code = 18; value = 0 }) ready

-- a list that is refused keeps its code alone
abbrev pub right_list : ℕ → Items → Items
right_list code list = cond (eqb code 0) list (no_items code 0)

-- `s` made `e`
abbrev pub items_mended : Bool → Items → Items
items_mended mended list =
    cond mended (record { code = list.code; stop = list.stop; count = list.count; items = map exclusive list.items }) list

-- the holds as an edition reads them: 20, a shared hold where it refuses it
unfoldable pub holds_in : Bool → Items → ℕ
holds_in strict list = cond (eqb list.code 0 && (strict && has_shared list.items)) 20 list.code

unfoldable pub holds_by : Edition → List ℕ → Items
holds_by edition s =
    let list = holds_read s in right_list (holds_in (is_strict edition) list) (items_mended (is_mended edition) list)

-- the tasks to come after
unfoldable pub after_by : ℕ → List ℕ → Items
after_by tasks s = let list = after_read s tasks in right_list list.code list

-- the fields from the planned start on, each read by itself
pub record Tail : Type 0 where
  pub begin : Ranged
  pub finish : Ranged
  pub holds : Items
  pub after : Items

-- the first of them is field n
unfoldable pub tail_by : Edition → ℕ → List ℕ → ℕ → Tail
tail_by edition tasks line n = record {
  begin = ranged_read 0 most (field line n);
  finish = ranged_read (start_at line n + 1) most (field line (n + 1));
  holds = holds_by edition (field line (n + 2));
  after = after_by tasks (field line (n + 3));
}

pub record TailRight (tail : Tail) : Type 0 where
  pub begin : tail.begin.code ≡ 0
  pub finish : tail.finish.code ≡ 0
  pub holds : tail.holds.code ≡ 0
  pub after : tail.after.code ≡ 0

-- the ready tick of edition 2
abbrev pub ready_at : List ℕ → ℕ
ready_at line = (ready_by (start_at line 4) (field line 3)).value

-- what a line says
pub record Line : Type 0 where
  pub board : ℕ
  pub ready : ℕ
  pub begin : ℕ
  pub finish : ℕ
  pub holds : Items
  pub after : Items

-- what a line without a fault says
abbrev pub line_made : ℕ → ℕ → Tail → Line
line_made board ready tail = record {
  board = board;
  ready = ready;
  begin = tail.begin.value;
  finish = tail.finish.value;
  holds = tail.holds;
  after = tail.after;
}

-- what a line says by the codes of its fields, or its fault
unfoldable pub line_by : List ℕ → List ℕ → ℕ → ℕ → Tail → Result Line Fault
line_by line codes board ready tail = cond (all_of (eqb 0) codes) (Ok (line_made board ready tail)) (Err (fault_of line codes))

unfoldable pub line_read : Bool → Bool → ℕ → ℕ → ℕ → List ℕ → ℕ → Result Line Fault
line_read mends ended edition boards tasks line k =
    let board = (ranged_read 1 boards (field line 2)).value in
    let codes = task_codes mends ended edition boards tasks line k in
    cond (eqb edition 2) (line_by line codes board (ready_at line) (tail_by (edition_by mends 2) tasks line 4))
    (line_by line codes board 0 (tail_by Edition.First tasks line 3))

-- the line that begins the text
unfoldable pub next_line : Bool → ℕ → ℕ → ℕ → List ℕ → ℕ → Result Line Fault
next_line mends edition boards tasks s k = line_read mends (has_line s) edition boards tasks (before LF s) k

-- what the readers answer, in the same words
abbrev pub list_said : list.Items → Items
list_said l = record { code = 0; stop = l.stop; count = l.count; items = l.items }

abbrev pub list_in : Result list.Items FieldFault → Items
list_in (Ok l) = list_said l
list_in (Err fault) = no_items (fault_number fault) 0

abbrev pub tail_in : tail.Tail → Tail
tail_in t = record { begin = ranged_in t.begin; finish = ranged_in t.finish; holds = list_in t.holds; after = list_in t.after }

abbrev pub line_said : line.Line → Line
line_said l = record {
  board = l.board;
  ready = l.ready;
  begin = l.begin;
  finish = l.finish;
  holds = list_said l.holds;
  after = list_said l.after;
}

abbrev pub line_in : Result line.Line fault.Fault → Result Line Fault
line_in (Ok l) = Ok (line_said l)
line_in (Err f) = Err (record { code = fault_number f.kind; column = f.column })

-- the first line is read: the edition, B and T are what it says
pub record FirstRead (mends : Bool) (s : List ℕ) (edition boards tasks : ℕ) : Type 0 where
  pub has_line : has_line s ≡ true
  pub sizes : sizes_ok mends (line_at s 0) ≡ true
  pub edition_is : edition ≡ edition_of s
  pub boards_are : boards ≡ boards_of s
  pub tasks_are : tasks ≡ tasks_of s
  pub two : edition ≤ 2
  pub few_boards : boards ≤ 8
  pub few_tasks : tasks ≤ 64
  pub short : length s ≤ 32768

-- a list's items fit into the list's own places and into the buffer
pub record ListFits (out : List ℕ) (at count : ℕ) : Type 0 where
  pub few : count ≤ 64
  pub fits : at + count ≤ length out

-- a line is small enough to be the i-th task, from 0
pub record LineFits (i : ℕ) (line : Line) : Type 0 where
  pub place : i < 64
  pub board : line.board < 256
  pub holds : line.holds.count ≤ 32
  pub after : line.after.count ≤ 64

-- a plan with what a line says as its i-th task
abbrev pub with_line : Plan → ℕ → Line → Plan
with_line plan i line = record {
  edition = plan.edition;
  boards = plan.boards;
  tasks = plan.tasks;
  board = set plan.board i line.board;
  ready = set plan.ready i line.ready;
  begin = set plan.begin i line.begin;
  finish = set plan.finish i line.finish;
  holds = sets plan.holds (32 * i) (take line.holds.count line.holds.items);
  after = sets plan.after (64 * i) (take line.after.count line.after.items);
}

-- a plan is a reading's, or the reading is refused, whatever the plan then holds
abbrev pub LinesMade : Reading → Plan → Result (Unit {0}) Answer → Type 0
LinesMade reading plan (Ok done) = ◌≡◌ {A = Reading} (record { answer = granted; plan = plan }) reading
LinesMade reading plan (Err answer) = ◌≡◌ {A = Reading} (record { answer = answer; plan = zero_plan }) reading
