-- What a task line says: its fault, or the text's task.
use Prim.Native.Nat.{ℕ, ◌+◌, ◌≤◌, min}
use mathlib.Core.Path.{◌≡◌, refl, sym, ap, ◌∙◌, subst}
use mathlib.Core.Logic.{◌≢◌}
use mathlib.Core.Bool.{Bool, true, false, not, cond, ◌&&◌}
use mathlib.Core.List.{List, map}
use native.Mathlib.Omega.{arith}
use lib.Dec.{ltb, eqb}
use Rattle.std.specs.Prelude.{Ok, Err}
use lib.ListN.{length, take, replicate}
use lib.Seq.{sets}
use borrow.Author.Tests.{eqb-true, eq-eqb, le-ltb}
use Rattle.laws.proofs.Cases.{by_bool, and-of, true-false}
use Rattle.laws.specs.Lists.{all_of}
use Rattle.laws.specs.Split.{index_of, before}
use Rattle.text.specs.Number.{is_number, number_stop, value_of, most}
use Rattle.text.specs.Line.{LF, has_line, field}
use Rattle.text_fields.specs.Items.{Items, is_hold, hold_stop, list_stop, has_shared, exclusive, holds_ok, after_ok, some_items, items_of, holds_read, after_read}
use Rattle.text_fields.proofs.Answers.{holds-count}
use Rattle.text_fields.proofs.Shared.{length-map, exclusive-kept, shared_kept}
use Rattle.text_fields.proofs.ListFields.{is_holds, holds_of, is_after, after_of}
use Rattle.text_fields.specs.Faults.{Fault, ranged_read, worst, fault_of}
use Rattle.text_fields.proofs.RangedLaws.{InRange, zero_field, ranged-value}
use Rattle.text_fields.proofs.FaultLaws.{faultless-is}
use Rattle.plan.specs.Task.{Task, exclusive_task}
use Rattle.plan.specs.Read.{task_codes, task_from, line_task}
use Rattle.plan.proofs.LineCodes.{TimesOk, ReadyOk, LineFine, fine-line, task-kinds}
use Rattle.plan_read.specs.Private.Editions.{edition_by, is_mended, is_strict}
use Rattle.plan_read.specs.declared.Edition.{Edition}
use Rattle.plan_read.specs.Private.Fields.{Tail, Line, start_at, tail_by, ready_at, holds_by, after_by, items_mended, line_made, line_by, line_read, next_line}
use Rattle.plan_read.proofs.TailLaws.{ready-value, holds-is, after-is}

-- the line that begins the text
pub next-is :
    (mends : Bool) (edition boards tasks : ℕ) (s : List ℕ) (k : ℕ) {r : ℕ} → r ≡ index_of LF s
    → line_read mends (ltb r (length s)) edition boards tasks (take r s) k ≡ next_line mends edition boards tasks s k
unfolding next_line
next-is mends edition boards tasks s k p = rw p

-- a line by its codes: its fault, or what it says
module _ (line codes : List ℕ) (board ready : ℕ) (tail : Tail) where
  by-err :
      all_of (eqb 0) codes ≡ eqb (worst codes) 0 → {fault : Fault} → Err fault ≡ line_by line codes board ready tail
      → (fault ≡ fault_of line codes) × (fault.code ≢ 0)
  unfolding line_by fault_of
  by-err clean {fault} h =
      by_bool (all_of (eqb 0) codes)
      (λ a. let q : Err fault ≡ Ok _ = rw a at h in cc)
      (λ a.
      let q = rw a at h in
      let is : fault ≡ fault_of line codes = cc in
      (is, rw is (λ z. true-false (eq-eqb (worst codes) 0 z) (sym clean ∙ a))))

  by-made : {l : Line} → all_of (eqb 0) codes ≡ true → Ok l ≡ line_by line codes board ready tail → l ≡ line_made board ready tail
  unfolding line_by
  by-made a h = let q = rw a at h in cc

  by-ok :
      all_of (eqb 0) codes ≡ eqb (worst codes) 0 → {l : Line} → Ok l ≡ line_by line codes board ready tail → (fault_of line codes).code ≡ 0
  unfolding line_by fault_of
  by-ok clean {l} h =
      by_bool (all_of (eqb 0) codes)
      (λ a. eqb-true (worst codes) 0 (sym clean ∙ a))
      (λ a. let q : Ok l ≡ Err _ = rw a at h in cc)

-- the fault that is read is the one defined
module _ (mends ended : Bool) (edition boards tasks : ℕ) (line : List ℕ) (k : ℕ) (few_boards : boards ≤ most) (few : k ≤ most) where
  abbrev codes : List ℕ
  codes = task_codes mends ended edition boards tasks line k

  clean : all_of (eqb 0) codes ≡ eqb (worst codes) 0
  clean = faultless-is codes (task-kinds mends ended edition boards tasks line k few_boards few)

  pub line-err :
      {fault : Fault} → Err fault ≡ line_read mends ended edition boards tasks line k → (fault ≡ fault_of line codes) × (fault.code ≢ 0)
  unfolding line_read
  line-err h =
      by_bool (eqb edition 2) (λ e. by-err line codes _ _ _ clean (rw e at h)) (λ e. by-err line codes _ _ _ clean (rw e at h))

  pub line-ok : {l : Line} → Ok l ≡ line_read mends ended edition boards tasks line k → (fault_of line codes).code ≡ 0
  unfolding line_read
  line-ok h =
      by_bool (eqb edition 2) (λ e. by-ok line codes _ _ _ clean (rw e at h)) (λ e. by-ok line codes _ _ _ clean (rw e at h))

module _ (mends : Bool) (edition boards tasks : ℕ) (s : List ℕ) (k : ℕ) (few_boards : boards ≤ most) (few : k ≤ most) where
  abbrev next_fault : Fault
  next_fault = fault_of (before LF s) (task_codes mends (has_line s) edition boards tasks (before LF s) k)

  pub next-err : {fault : Fault} → Err fault ≡ next_line mends edition boards tasks s k → (fault ≡ next_fault) × (fault.code ≢ 0)
  unfolding next_line
  next-err h = line-err mends (has_line s) edition boards tasks (before LF s) k few_boards few h

  pub next-ok : {l : Line} → Ok l ≡ next_line mends edition boards tasks s k → next_fault.code ≡ 0
  unfolding next_line
  next-ok h = line-ok mends (has_line s) edition boards tasks (before LF s) k few_boards few h

-- ---- what a list of no fault says

pub record ListSays (list : Items) (l : List ℕ) : Type 0 where
  pub count : list.count ≡ length l
  pub items : list.items ≡ sets (replicate 64 0) 0 l

items-say : (spelt fine : Bool) (stop : ℕ) (l : List ℕ) → (spelt && fine) ≡ true → items_of spelt fine stop l ≡ some_items stop l
items-say true true stop l h = refl
items-say true false stop l h = true-false h refl
items-say false fine stop l h = true-false h refl

list-says : {list : Items} (stop : ℕ) (l : List ℕ) → list ≡ some_items stop l → ListSays list l
list-says stop l e = record { count = ap (λ (x : Items). x.count) e; items = ap (λ (x : Items). x.items) e }

mended-says : (mended : Bool) (list : Items) (l : List ℕ) → length l ≤ 64 → ListSays list l → ListSays (items_mended mended list) (cond mended (map exclusive l) l)
mended-says false list l few says = says
mended-says true list l few says =
    record { count = says.count ∙ sym (length-map l); items = ap (map exclusive) says.items ∙ exclusive-kept l few }

module _ (edition : Edition) (s : List ℕ) (spelt : is_holds s ≡ true) (fine : holds_ok (holds_of s) ≡ true) (own : is_strict edition ≡ true → has_shared (holds_of s) ≡ false) where
  few : length (holds_of s) ≤ 64
  few = omega (arith, holds-count (holds_of s) fine)

  holds-read : holds_read s ≡ some_items (list_stop is_hold hold_stop s) (holds_of s)
  unfolding holds_read
  holds-read = items-say (is_holds s) (holds_ok (holds_of s)) _ (holds_of s) (and-of spelt fine)

  holds-kept : holds_by edition s ≡ items_mended (is_mended edition) (holds_read s)
  holds-kept =
      sym
      (holds-is s {list = holds_read s} refl edition (ap (λ (x : Items). x.code) holds-read)
      (λ t. ap (λ (x : Items). has_shared x.items) holds-read ∙ shared_kept (holds_of s) few ∙ own t))

  holds-say : ListSays (holds_by edition s) (cond (is_mended edition) (map exclusive (holds_of s)) (holds_of s))
  holds-say = rw holds-kept (mended-says (is_mended edition) (holds_read s) (holds_of s) few (list-says _ (holds_of s) holds-read))

after-read : (s : List ℕ) (tasks : ℕ) → (is_after s && after_ok (min tasks 64) (after_of s)) ≡ true → after_read s tasks ≡ some_items (list_stop is_number number_stop s) (after_of s)
unfolding after_read
after-read s tasks h = items-say (is_after s) (after_ok (min tasks 64) (after_of s)) _ (after_of s) h

after-say : (s : List ℕ) (tasks : ℕ) → (is_after s && after_ok (min tasks 64) (after_of s)) ≡ true → ListSays (after_by tasks s) (after_of s)
after-say s tasks h =
    let e = after-read s tasks h in
    list-says _ (after_of s) (sym (after-is tasks s {list = after_read s tasks} refl (ap (λ (x : Items). x.code) e)) ∙ e)

-- ---- what a granted line says is the text's task

pub record LineSays (line : Line) (task : Task) : Type 0 where
  pub board : line.board ≡ task.board
  pub ready : line.ready ≡ task.ready
  pub begin : line.begin ≡ task.begin
  pub finish : line.finish ≡ task.finish
  pub holds : ListSays line.holds task.holds
  pub after : ListSays line.after task.after

value-of : (low high : ℕ) (s : List ℕ) → high ≤ most → InRange low high s → (ranged_read low high s).value ≡ value_of s
value-of low high s h r = ranged-value low high s refl (zero_field low high s h r)

start-spelt : (retired : Bool) (tasks : ℕ) (line : List ℕ) (n : ℕ) → TimesOk retired tasks line n → start_at line n ≡ value_of (field line n)
start-spelt retired tasks line n t =
    value-of 0 most (field line n) (omega arith) (record { spelt = t.begin; from = omega arith; to = omega (arith, t.lasts, t.to) })

-- its holds mended or not
mended-task :
    (mended : Bool) (line : Line) (task : Task) → line.board ≡ task.board → line.ready ≡ task.ready → line.begin ≡ task.begin → line.finish ≡ task.finish
    → ListSays line.holds (cond mended (map exclusive task.holds) task.holds) → ListSays line.after task.after
    → LineSays line (cond mended (exclusive_task task) task)
mended-task false line task b r s f h a = record { board = b; ready = r; begin = s; finish = f; holds = h; after = a }
mended-task true line task b r s f h a = record { board = b; ready = r; begin = s; finish = f; holds = h; after = a }

-- what a line without a fault says
module _ (boards tasks : ℕ) (line : List ℕ) (few_boards : boards ≤ most) (few : tasks ≤ 64) (board-in : InRange 1 boards (field line 2)) where
  by_said :
      (edition : Edition) (ready n : ℕ) {said : ℕ} → TimesOk (is_strict edition) tasks line n → said ≡ ready
      → LineSays (line_made (ranged_read 1 boards (field line 2)).value said (tail_by edition tasks line n))
      (cond (is_mended edition) (exclusive_task (task_from line ready n)) (task_from line ready n))
  unfolding tail_by task_from
  by_said edition ready n t r =
      let m : min tasks 64 ≡ tasks = omega arith in
      let b = start-spelt (is_strict edition) tasks line n t in
      mended-task (is_mended edition) _ (task_from line ready n)
      (value-of 1 boards (field line 2) few_boards board-in)
      r
      b
      (value-of (start_at line n + 1) most (field line (n + 1)) (omega arith) (record { spelt = t.finish; from = omega (arith, t.lasts, b); to = t.to }))
      (holds-say edition (field line (n + 2)) t.holds t.drives t.exclusive)
      (after-say (field line (n + 3)) tasks (and-of t.after (rw m t.order)))

strict-second : (mends : Bool) → is_strict (edition_by mends 2) ≡ not mends
strict-second true = refl
strict-second false = refl

mended-second : (mends : Bool) → is_mended (edition_by mends 2) ≡ mends
mended-second true = refl
mended-second false = refl

-- the ready tick of a line without a fault
ready-said : (retired : Bool) (tasks : ℕ) (line : List ℕ) → TimesOk retired tasks line 4 → ReadyOk line → ready_at line ≡ value_of (field line 3)
ready-said retired tasks line t r =
    let b = start-spelt retired tasks line 4 t in
    ready-value (start_at line 4) (field line 3)
    (zero_field 0 most (field line 3) (omega arith) (record { spelt = r.0; from = omega arith; to = omega (arith, r.1, t.lasts, t.to) }))
    (le-ltb (start_at line 4) (value_of (field line 3)) (omega (arith, b, r.1)))

pub read-says :
    (mends ended : Bool) (edition boards tasks : ℕ) (line : List ℕ) (k : ℕ) → boards ≤ most → k ≤ most → tasks ≤ 64 → ended ≡ true
    → LineFine mends edition boards tasks line k → {l : Line} → Ok l ≡ line_read mends ended edition boards tasks line k → LineSays l (line_task mends edition line)
unfolding line_read line_task
read-says mends ended edition boards tasks line k few_boards few-k few there f h =
    let codes = task_codes mends ended edition boards tasks line k in
    let all = fine-line mends ended edition boards tasks line k few_boards few-k there f in
    by_bool (eqb edition 2)
    (λ e.
    let t : TimesOk (not mends) tasks line 4 = rw e at f.times in
    let made = by-made line codes _ _ _ all (rw e at h) in
    let task : Task = task_from line (value_of (field line 3)) 4 in
    let says = by_said boards tasks line few_boards few f.head.board (edition_by mends 2) (value_of (field line 3)) 4 (rw (strict-second mends) t) (ready-said (not mends) tasks line t (f.ready e)) in
    rw (e, made)
    (subst (λ (m : Bool). LineSays (line_made (ranged_read 1 boards (field line 2)).value (ready_at line) (tail_by (edition_by mends 2) tasks line 4)) (cond m (exclusive_task task) task)) (mended-second mends) says))
    (λ e.
    let made = by-made line codes _ _ _ all (rw e at h) in
    rw (e, made) (by_said boards tasks line few_boards few f.head.board Edition.First 0 3 (rw e at f.times) refl))
