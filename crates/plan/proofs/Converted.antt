-- A plan with each shared hold made exclusive: its tasks, its ranges, and what the converter says of it.
use Prim.Native.Nat.{ℕ, zero, suc, ◌*◌, ◌<◌}
use mathlib.Core.Path.{◌≡◌, refl, sym, ap, ◌∙◌}
use mathlib.Core.Bool.{Bool, true, false, not, ◌&&◌}
use mathlib.Core.List.{List, [], ◌∷◌, map}
use mathlib.Core.Logic.{◌≢◌}
use native.Mathlib.Omega.{arith}
use lib.Dec.{eqb}
use lib.ListN.{take, drop}
use borrow.Author.Tests.{eqb-true, eq-eqb, ne_eqb}
use Rattle.laws.proofs.Cases.{by_bool, by-eq, and_l, and_r, and-of}
use Rattle.laws.proofs.Conj.{conj-at}
use Rattle.laws.proofs.Every.{every_of}
use Rattle.laws.specs.Lists.{all_of}
use Rattle.laws.specs.Split.{index_of}
use Rattle.text_fields.specs.Items.{between, drive_of, has_shared, exclusive, holds_ok, after_ok}
use Rattle.text_fields.proofs.Shared.{length-map, none-shared}
use Rattle.plan.specs.Answer.{refuse}
use Rattle.plan.specs.Task.{Task, numbers_ok, task_ok, exclusive_task}
use Rattle.plan.specs.Judged.{tasks_answer}
use Rattle.plan.specs.Value.{row, items, blank_from, is_trimmed, task_at, kept_ok, past_blank, ranges_ok, judged_answer, is_accepted, zero_plan}
use Rattle.plan.specs.Convert.{exclusive_plan, converted_of}
use Rattle.plan.specs.declared.Plan.{Plan}
use Rattle.plan.specs.declared.Reading.{Reading}
use Rattle.plan.proofs.Judged.{tasks-same}
use Rattle.plan.proofs.PlanTasks.{SizedPlan, RangesKept, ranges-kept, TaskKept, task-kept, between-facts, between-of, exclusive-ok}

-- ---- lists

map-take : (n : ℕ) (l : List ℕ) → take n (map exclusive l) ≡ map exclusive (take n l)
map-take zero l = refl
map-take (suc n) [] = refl
map-take (suc n) (h ∷ l) = ap (λ (r : List ℕ). exclusive h ∷ r) (map-take n l)

map-drop : (n : ℕ) (l : List ℕ) → drop n (map exclusive l) ≡ map exclusive (drop n l)
map-drop zero l = refl
map-drop (suc n) [] = refl
map-drop (suc n) (h ∷ l) = map-drop n l

blank-own : (l : List ℕ) → all_of (eqb 0) l ≡ true → map exclusive l ≡ l
unfolding all_of
blank-own [] h = refl
blank-own (x ∷ l) h =
    let z : 0 ≡ x = eqb-true 0 x (and_l (eqb 0 x) (all_of (eqb 0) l) h) in
    let e : exclusive x ≡ x = omega arith in
    let r = blank-own l (and_r (eqb 0 x) (all_of (eqb 0) l) h) in
    λ i. e i ∷ r i

row_made : (l : List ℕ) (k : ℕ) → row 32 (map exclusive l) k ≡ map exclusive (row 32 l k)
row_made l k = ap (take 32) (map-drop (32 * k) l) ∙ map-take 32 (drop (32 * k) l)

blank-made : (n : ℕ) (l : List ℕ) → blank_from n l ≡ true → blank_from n (map exclusive l) ≡ true
unfolding blank_from
blank-made n l h = ap (all_of (eqb 0)) (map-drop n l ∙ blank-own (drop n l) h) ∙ h

-- no drive of the items is 0, so the same places keep something
index-made : (l : List ℕ) → all_of (λ h. between 1 32 (drive_of h)) (items l) ≡ true → index_of 0 (map exclusive l) ≡ index_of 0 l
unfolding index_of all_of
index-made [] h = refl
index-made (x ∷ l) h =
    by-eq x 0
    (λ z. let y : exclusive x ≡ 0 = omega arith in rw (eq-eqb x 0 z, eq-eqb (exclusive x) 0 y))
    (λ n.
    let h' : (between 1 32 (drive_of x) && all_of (λ h. between 1 32 (drive_of h)) (items l)) ≡ true = rw (ne_eqb x 0 n) at h in
    let d = (between-facts 1 32 (drive_of x) (and_l (between 1 32 (drive_of x)) _ h')).0 in
    rw (ne_eqb x 0 n, ne_eqb (exclusive x) 0 (λ y. omega arith))
    (ap suc (index-made l (and_r (between 1 32 (drive_of x)) _ h'))))

module _ (l : List ℕ) (fine : holds_ok (items l) ≡ true) where
  its-drives : all_of (λ h. between 1 32 (drive_of h)) (items l) ≡ true
  unfolding holds_ok
  its-drives = and_l (all_of (λ h. between 1 32 (drive_of h)) (items l)) _ fine

  items-made : items (map exclusive l) ≡ map exclusive (items l)
  items-made = ap (λ (n : ℕ). take n (map exclusive l)) (index-made l its-drives) ∙ map-take (index_of 0 l) l

  trimmed-made : is_trimmed l ≡ true → is_trimmed (map exclusive l) ≡ true
  trimmed-made t =
      ap (λ (n : ℕ). blank_from n (map exclusive l)) (index-made l its-drives) ∙ blank-made (index_of 0 l) l t

-- ---- a plan that keeps the ranges

module _ (plan : Plan) (ranges : ranges_ok plan ≡ true) where
  abbrev made : Plan
  made = exclusive_plan plan

  kept : RangesKept plan
  kept = ranges-kept plan ranges

  task : (k : ℕ) → k < plan.tasks → TaskKept plan k
  task k l = task-kept plan k (kept.kept k l)

  its-holds : (k : ℕ) → k < plan.tasks → holds_ok (task_at plan k).holds ≡ true
  its-holds k l =
      let t = task_at plan k in
      conj-at (numbers_ok plan.boards t ∷ holds_ok t.holds ∷ after_ok plan.tasks t.after ∷ []) (task k l).task 1 (omega arith)

  -- its tasks are those of the plan, each shared hold exclusive
  pub exclusive-task : (k : ℕ) → k < plan.tasks → task_at made k ≡ exclusive_task (task_at plan k)
  unfolding exclusive_plan
  exclusive-task k l =
      let h : items (row 32 (map exclusive plan.holds) k) ≡ map exclusive (items (row 32 plan.holds k)) =
      ap items (row_made plan.holds k) ∙ items-made (row 32 plan.holds k) (its-holds k l) in
      let t = task_at plan k in
      λ i. record { board = t.board; ready = t.ready; begin = t.begin; finish = t.finish; holds = h i; after = t.after }

  kept-made : (k : ℕ) → k < plan.tasks → kept_ok made k ≡ true
  unfolding kept_ok exclusive_plan
  kept-made k l =
      and-of (ap (task_ok plan.boards plan.tasks) (exclusive-task k l) ∙ exclusive-ok plan.boards plan.tasks (task_at plan k) (task k l).task)
      (and-of (ap (λ (t : Task). not (has_shared t.holds)) (exclusive-task k l) ∙ ap not (none-shared (task_at plan k).holds))
      (and-of (ap is_trimmed (row_made plan.holds k) ∙ trimmed-made (row 32 plan.holds k) (its-holds k l) (task k l).holds) (task k l).after))

  past-made : past_blank made ≡ true
  unfolding exclusive_plan
  past-made =
      let n : ℕ = plan.tasks in
      let past =
      conj-at
      (blank_from n plan.board
      ∷ blank_from n plan.ready
      ∷ blank_from n plan.begin
      ∷ blank_from n plan.finish
      ∷ blank_from (32 * n) plan.holds
      ∷ blank_from (64 * n) plan.after
      ∷ []) kept.past in
      and-of (past 0 (omega arith))
      (and-of (past 1 (omega arith))
      (and-of (past 2 (omega arith))
      (and-of (past 3 (omega arith)) (and-of (blank-made (32 * n) plan.holds (past 4 (omega arith))) (past 5 (omega arith))))))

  pub exclusive-ranges : ranges_ok made ≡ true
  unfolding ranges_ok exclusive_plan
  exclusive-ranges =
      and-of (between-of 1 2 2 (omega arith) (omega arith))
      (and-of (between-of 1 8 plan.boards kept.boards.0 kept.boards.1)
      (and-of (between-of 1 64 plan.tasks kept.tasks.0 kept.tasks.1)
      (and-of (every_of plan.tasks (kept_ok made) kept-made) past-made)))

  -- judged anew: by its tasks
  pub judged-anew : judged_answer made ≡ tasks_answer plan.tasks (λ k. exclusive_task (task_at plan k))
  unfolding judged_answer exclusive_plan
  judged-anew = rw exclusive-ranges (tasks-anew)
    where
      tasks-anew : tasks_answer made.tasks (task_at made) ≡ tasks_answer plan.tasks (λ k. exclusive_task (task_at plan k))
      tasks-anew = tasks-same plan.tasks (task_at made) (λ k. exclusive_task (task_at plan k)) exclusive-task

pub exclusive-sized : (plan : Plan) → SizedPlan plan → SizedPlan (exclusive_plan plan)
unfolding exclusive_plan
exclusive-sized plan size = record {
  board = size.board;
  ready = size.ready;
  begin = size.begin;
  finish = size.finish;
  holds = length-map plan.holds ∙ size.holds;
  after = size.after;
}

-- ---- the converter

module _ (plan : Plan) where
  abbrev pub may : Bool
  may = is_accepted plan && eqb plan.edition 1

  pub converted-refused : may ≡ false → converted_of plan ≡ record { answer = refuse 9 0 0; plan = zero_plan }
  unfolding converted_of
  converted-refused n = rw n

  module _ (yes : may ≡ true) where
    pub converted-faulty :
        (judged_answer (exclusive_plan plan)).code ≢ 0
        → converted_of plan ≡ record { answer = judged_answer (exclusive_plan plan); plan = zero_plan }
    unfolding converted_of
    converted-faulty n = rw (yes, ne_eqb (judged_answer (exclusive_plan plan)).code 0 n)

    pub converted-made :
        (judged_answer (exclusive_plan plan)).code ≡ 0
        → converted_of plan ≡ record { answer = judged_answer (exclusive_plan plan); plan = exclusive_plan plan }
    unfolding converted_of
    converted-made z = rw (yes, eq-eqb (judged_answer (exclusive_plan plan)).code 0 z)

  -- an accepted result
  module _ (z : (converted_of plan).answer.code ≡ 0) where
    pub converted-may : may ≡ true
    converted-may =
        by_bool may (λ y. y)
        (λ n. let q = sym (ap (λ (r : Reading). r.answer.code) (converted-refused n)) ∙ z in absurd (omega arith))

    pub converted-anew : (judged_answer (exclusive_plan plan)).code ≡ 0
    converted-anew =
        by-eq (judged_answer (exclusive_plan plan)).code 0 (λ e. e)
        (λ n. absurd (n (sym (ap (λ (r : Reading). r.answer.code) (converted-faulty converted-may n)) ∙ z)))

    pub converted-plan : (converted_of plan).plan ≡ exclusive_plan plan
    converted-plan = ap (λ (r : Reading). r.plan) (converted-made converted-may converted-anew)

    pub converted-accepted : is_accepted (converted_of plan).plan ≡ true
    unfolding is_accepted
    converted-accepted = rw (converted-plan, converted-anew)
