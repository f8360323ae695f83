-- The task lines read one after another: what each adds, the first refusal, the end.
use Prim.Native.Nat.{ℕ, suc, ◌+◌, ◌-◌, ◌*◌, ◌≤◌, ◌<◌}
use mathlib.Core.Path.{◌≡◌, refl, sym, ap, ◌∙◌}
use mathlib.Core.Logic.{◌≢◌}
use mathlib.Core.Bool.{Bool, true, false, cond}
use mathlib.Core.List.{List}
use native.Mathlib.Omega.{arith}
use lib.Dec.{ltb, leb}
use Rattle.std.specs.Prelude.{Result, Ok, Err}
use lib.ListN.{length, take, drop, set, replicate, length-take}
use lib.Seq.{sets, take_at, length-take-le}
use borrow.Author.Tests.{le-ltb, lt-ltb, le-leb, ne_eqb}
use Rattle.laws.specs.Each.{each, rows}
use Rattle.laws.proofs.Each.{each_turn, rows-turn}
use Rattle.laws.specs.Scan.{scan_to}
use Rattle.laws.proofs.Scan.{scan-turn, scan-hit, scan-end}
use Rattle.laws.specs.Split
use Rattle.laws.specs.Split.{index_of, skip_on}
use Rattle.laws.proofs.Split.{index-le, skip-le}
use Rattle.text.specs.Line.{LF, has_line, skip, line_at}
use Rattle.text_fields.specs.Items.{Items, some_items}
use Rattle.text_fields.specs.Faults.{Fault, fault_of}
use Rattle.text_fields.proofs.Answers.{items_kept}
use Rattle.text_fields.proofs.FaultLaws.{column-most}
use Rattle.plan.specs.Answer.{refuse, granted, is_refused}
use Rattle.plan.specs.declared.Answer.{Answer}
use Rattle.plan.specs.Task.{Task}
use Rattle.plan.specs.Value.{plan_of, zero_plan}
use Rattle.plan.specs.declared.Plan.{Plan}
use Rattle.plan.specs.Read.{edition_of, boards_of, tasks_of, task_codes, line_answer, lines_answer, text_task, form_answer, lines_of}
use Rattle.plan.proofs.PlanTasks.{TaskFits, task-fits}
use Rattle.plan.proofs.LineCodes.{fine-task}
use Rattle.plan.proofs.TextLines.{skip-turn}
use Rattle.plan.proofs.ReadOk.{LineOk, line_ok}
use Rattle.plan.specs.declared.Reading.{Reading}
use Rattle.plan_read.specs.Private.Fields.{Line, next_line, FirstRead, ListFits, LineFits}
use Rattle.plan_read.proofs.FormLaws.{refused_reading, reading-refused, answer-lines}
use Rattle.plan_read.proofs.SaysLaws.{LineSays, ListSays, next-err, next-ok, read-says}

-- a column of 64 numbers and a grid of rows, the first n made, the rest 0
unfoldable pub column : (ℕ → ℕ) → ℕ → List ℕ
column f n = each n f (replicate 64 0)

unfoldable pub grid : ℕ → ℕ → (ℕ → List ℕ) → ℕ → List ℕ
grid width places f n = rows width n f (replicate places 0)

pub column-start : (f : ℕ → ℕ) → replicate 64 0 ≡ column f 0
unfolding column each
column-start f = refl

pub column-turn : (f : ℕ → ℕ) (n v : ℕ) → v ≡ f n → set (column f n) n v ≡ column f (n + 1)
unfolding column
column-turn f n v e = ap (set (each n f (replicate 64 0)) n) e ∙ sym (each_turn n f (replicate 64 0))

pub grid-start : (width places : ℕ) (f : ℕ → List ℕ) → replicate places 0 ≡ grid width places f 0
unfolding grid rows
grid-start width places f = refl

pub grid-turn : (width places : ℕ) (f : ℕ → List ℕ) (n : ℕ) (row : List ℕ) → row ≡ f n
    → sets (grid width places f n) (width * n) row ≡ grid width places f (n + 1)
unfolding grid
grid-turn width places f n row e =
    ap (sets (rows width n f (replicate places 0)) (width * n)) e ∙ sym (rows-turn width n f (replicate places 0))

pub plan-made : (edition boards tasks : ℕ) (task : ℕ → Task)
    → plan_of edition boards tasks task
    ≡ record {
      edition = edition;
      boards = boards;
      tasks = tasks;
      board = column (λ k. (task k).board) tasks;
      ready = column (λ k. (task k).ready) tasks;
      begin = column (λ k. (task k).begin) tasks;
      finish = column (λ k. (task k).finish) tasks;
      holds = grid 32 2048 (λ k. (task k).holds) tasks;
      after = grid 64 4096 (λ k. (task k).after) tasks;
    }
unfolding plan_of column grid
plan-made edition boards tasks task = refl

pub past-line : (s : List ℕ) {r : ℕ} {more : List ℕ} → r ≡ index_of LF s → more ≡ drop (suc r) s → more ≡ Split.after LF s
past-line s p q = q ∙ ap (λ (n : ℕ). drop (suc n) s) p

-- the items of a list that has at most 64 are what is taken of its places
pub items_back : (stop : ℕ) (l : List ℕ) → length l ≤ 64 → take (some_items stop l).count (some_items stop l).items ≡ l
items_back stop l h = ap (take (length l)) (items_kept l h) ∙ take_at l (replicate (64 - length l) 0) (length l) refl

-- a list put where it fits
pub list_put : (out : List ℕ) (at count : ℕ) (items : List ℕ) {written : List ℕ} → ListFits out at count → length items ≡ 64
    → written ≡ cond (leb (at + length (take count items)) (length out)) (sets out at (take count items)) out
    → written ≡ sets out at (take count items)
list_put out at count items f l e =
    let n : length (take count items) ≡ count = length-take-le count items (omega (arith, f.few)) in
    e ∙ rw (le-leb (at + length (take count items)) (length out) (omega (arith, f.fits)))

-- k lines are read: what is known of them, and of the rest
pub record Going (mends : Bool) (s : List ℕ) (k : ℕ) (board ready begin finish holds after rest : List ℕ) : Type 0 where
  pub rest-is : rest ≡ skip (k + 1) s
  pub passed : lines_answer mends s ≡ scan_to is_refused granted (line_answer mends s) (k + 1) (tasks_of s + 1)
  pub board-is : board ≡ column (λ i. (text_task mends s i).board) k
  pub ready-is : ready ≡ column (λ i. (text_task mends s i).ready) k
  pub begin-is : begin ≡ column (λ i. (text_task mends s i).begin) k
  pub finish-is : finish ≡ column (λ i. (text_task mends s i).finish) k
  pub holds-is : holds ≡ grid 32 2048 (λ i. (text_task mends s i).holds) k
  pub after_is : after ≡ grid 64 4096 (λ i. (text_task mends s i).after) k

pub going_start : (mends : Bool) (s : List ℕ) {plan : Plan} {rest : List ℕ} → plan ≡ zero_plan → rest ≡ Split.after LF s
    → Going mends s 0 plan.board plan.ready plan.begin plan.finish plan.holds plan.after rest
unfolding skip_on lines_answer plan_of each rows
going_start mends s p e =
    rw p
    (record {
      rest-is = e;
      passed = refl;
      board-is = column-start _;
      ready-is = column-start _;
      begin-is = column-start _;
      finish-is = column-start _;
      holds-is = grid-start 32 2048 _;
      after_is = grid-start 64 4096 _;
    })

module _ (mends : Bool) (s : List ℕ) (k : ℕ) {board ready begin finish holds after rest : List ℕ} (g : Going mends s k board ready begin finish holds after rest) where
  module _ {edition boards tasks : ℕ} (first : FirstRead mends s edition boards tasks) (e : k ≡ tasks) where
    all : k ≡ tasks_of s
    all = e ∙ first.tasks_are

    faultless : lines_answer mends s ≡ granted
    faultless = g.passed ∙ scan-end _ _ _ (k + 1) (tasks_of s + 1) (omega (arith, all))

    rest_end : rest ≡ skip (tasks_of s + 1) s
    rest_end = g.rest-is ∙ ap (λ (n : ℕ). skip (n + 1) s) all

    pub going_more : length rest ≢ 0 → refused_reading (refuse 5 (tasks + 2) 0) ≡ lines_of mends s
    going_more n =
        let left : length rest ≡ length (skip (tasks_of s + 1) s) = ap length rest_end in
        let more : ltb 0 (length (skip (tasks_of s + 1) s)) ≡ true = lt-ltb 0 (length (skip (tasks_of s + 1) s)) (omega (arith, left, n)) in
        let t = first.tasks_are in
        reading-refused mends s (answer-lines mends s first ∙ rw (faultless, more, t)) (omega arith)

    pub going_end :
        length rest ≡ 0
        → ◌≡◌ {A = Reading} (record {
          answer = granted;
          plan = record { edition = edition; boards = boards; tasks = tasks; board = board; ready = ready; begin = begin; finish = finish; holds = holds; after = after };
        }) (lines_of mends s)
    unfolding lines_of
    going_end z =
        let left : length rest ≡ length (skip (tasks_of s + 1) s) = ap length rest_end in
        let done : ltb 0 (length (skip (tasks_of s + 1) s)) ≡ false = le-ltb 0 (length (skip (tasks_of s + 1) s)) (omega (arith, left)) in
        let answer : form_answer mends s ≡ granted = answer-lines mends s first ∙ rw (faultless, done) in
        rw (answer, plan-made (edition_of s) (boards_of s) (tasks_of s) (text_task mends s))
        (λ i. record {
          answer = granted;
          plan = record {
            edition = first.edition_is i;
            boards = first.boards_are i;
            tasks = first.tasks_are i;
            board = (g.board-is ∙ ap (column (λ j. (text_task mends s j).board)) all) i;
            ready = (g.ready-is ∙ ap (column (λ j. (text_task mends s j).ready)) all) i;
            begin = (g.begin-is ∙ ap (column (λ j. (text_task mends s j).begin)) all) i;
            finish = (g.finish-is ∙ ap (column (λ j. (text_task mends s j).finish)) all) i;
            holds = (g.holds-is ∙ ap (grid 32 2048 (λ j. (text_task mends s j).holds)) all) i;
            after = (g.after_is ∙ ap (grid 64 4096 (λ j. (text_task mends s j).after)) all) i;
          };
        })

  module _ {edition boards tasks : ℕ} (first : FirstRead mends s edition boards tasks) (before_last : k < tasks) where
    below : k < tasks_of s
    below = omega (arith, first.tasks_are)

    few : (boards_of s ≤ 1000000) × (k + 1 ≤ 1000000)
    few = (omega (arith, first.few_boards, first.boards_are), omega (arith, first.few_tasks, before_last))

    abbrev next : Result Line Fault
    next = next_line mends edition boards tasks rest (k + 1)

    next-is : next ≡ next_line mends (edition_of s) (boards_of s) (tasks_of s) (skip (k + 1) s) (k + 1)
    next-is = rw (first.edition_is, first.boards_are, first.tasks_are, g.rest-is)

    abbrev the-fault : Fault
    the-fault = fault_of (line_at s (k + 1)) (task_codes mends (has_line (skip (k + 1) s)) (edition_of s) (boards_of s) (tasks_of s) (line_at s (k + 1)) (k + 1))

    the-answer : line_answer mends s (k + 1) ≡ refuse the-fault.code (k + 2) the-fault.column
    unfolding line_answer
    the-answer = let e : k + 1 + 1 ≡ k + 2 = omega arith in rw e

    module _ {fault : Fault} (said : Err fault ≡ next) where
      err : (fault ≡ the-fault) × (fault.code ≢ 0)
      err = next-err mends (edition_of s) (boards_of s) (tasks_of s) (skip (k + 1) s) (k + 1) few.0 few.1 (said ∙ next-is)

      -- the column is no larger than the text
      pub column-small : fault.column < 4294967296
      column-small =
          let c = column-most (line_at s (k + 1)) (task_codes mends (has_line (skip (k + 1) s)) (edition_of s) (boards_of s) (tasks_of s) (line_at s (k + 1)) (k + 1)) in
          let e : fault.column ≡ _ = ap (λ (x : Fault). x.column) err.0 in
          omega (arith, c, e, index-le LF (skip (k + 1) s), length-take (index_of LF (skip (k + 1) s)) (skip (k + 1) s), skip-le LF (k + 1) s, first.short)

      pub going-refused : refused_reading (refuse fault.code (k + 2) fault.column) ≡ lines_of mends s
      going-refused =
          let answer : line_answer mends s (k + 1) ≡ refuse fault.code (k + 2) fault.column = rw err.0 the-answer in
          let stops : is_refused (line_answer mends s (k + 1)) ≡ true = rw (answer, ne_eqb fault.code 0 err.1) in
          let hit : lines_answer mends s ≡ refuse fault.code (k + 2) fault.column =
          g.passed ∙ scan-hit _ _ _ (k + 1) (tasks_of s + 1) (omega (arith, below)) stops ∙ answer in
          reading-refused mends s (answer-lines mends s first ∙ rw (hit, ne_eqb fault.code 0 err.1)) err.1

    module _ {line : Line} (said : Ok line ≡ next) where
      z : the-fault.code ≡ 0
      z = next-ok mends (edition_of s) (boards_of s) (tasks_of s) (skip (k + 1) s) (k + 1) few.0 few.1 (said ∙ next-is)

      line-there : LineOk mends s k
      line-there = line_ok mends s first.sizes k below (ap (λ (x : Answer). x.code) the-answer ∙ z)

      says : LineSays line (text_task mends s k)
      unfolding next_line
      says =
          read-says mends (has_line (skip (k + 1) s)) (edition_of s) (boards_of s) (tasks_of s) (line_at s (k + 1)) (k + 1) few.0 few.1 (omega (arith, first.few_tasks, first.tasks_are))
          line-there.there line-there.fine (said ∙ next-is)

      fits : TaskFits (boards_of s) (tasks_of s) (text_task mends s k)
      fits = task-fits (boards_of s) (tasks_of s) (text_task mends s k) (fine-task mends (edition_of s) (boards_of s) (tasks_of s) (line_at s (k + 1)) (k + 1) line-there.fine)

      pub line-fits : LineFits k line
      line-fits =
          let n : line.holds.count ≡ length (text_task mends s k).holds = says.holds.count in
          let m : line.after.count ≡ length (text_task mends s k).after = says.after.count in
          record {
            place = omega (arith, first.few_tasks);
            board = omega (arith, says.board, fits.board.1, first.few_boards, first.boards_are);
            holds = omega (arith, fits.holds.room);
            after = omega (arith, fits.after.room, first.few_tasks, first.tasks_are);
          }

      list_back : {list : Items} {l : List ℕ} → ListSays list l → length l ≤ 64 → take list.count list.items ≡ l
      list_back {l = l} e h = (λ i. take (e.count i) (e.items i)) ∙ items_back 0 l h

      pub going-turn : {rest2 : List ℕ} → rest2 ≡ Split.after LF rest
          → Going mends s (k + 1) (set board k line.board) (set ready k line.ready) (set begin k line.begin) (set finish k line.finish)
          (sets holds (32 * k) (take line.holds.count line.holds.items)) (sets after (64 * k) (take line.after.count line.after.items)) rest2
      going-turn r = record {
        rest-is = r ∙ ap (Split.after LF) g.rest-is ∙ sym (skip-turn (k + 1) s);
        passed = g.passed ∙ scan-turn _ _ _ (k + 1) (tasks_of s + 1) (omega (arith, below)) (rw (the-answer, z));
        board-is = ap (λ (x : List ℕ). set x k line.board) g.board-is ∙ column-turn _ k line.board says.board;
        ready-is = ap (λ (x : List ℕ). set x k line.ready) g.ready-is ∙ column-turn _ k line.ready says.ready;
        begin-is = ap (λ (x : List ℕ). set x k line.begin) g.begin-is ∙ column-turn _ k line.begin says.begin;
        finish-is = ap (λ (x : List ℕ). set x k line.finish) g.finish-is ∙ column-turn _ k line.finish says.finish;
        holds-is =
            ap (λ (x : List ℕ). sets x (32 * k) (take line.holds.count line.holds.items)) g.holds-is
            ∙ grid-turn 32 2048 _ k _ (list_back says.holds (omega (arith, fits.holds.room)));
        after_is =
            ap (λ (x : List ℕ). sets x (64 * k) (take line.after.count line.after.items)) g.after_is
            ∙ grid-turn 64 4096 _ k _ (list_back says.after (omega (arith, fits.after.room, first.few_tasks, first.tasks_are)));
      }
