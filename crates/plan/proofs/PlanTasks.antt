-- The tasks of a made plan are those that it was made of, and a plan that keeps the ranges is made of its tasks.
use Prim.Native.Nat.{ℕ, ◌*◌, ◌<◌, ◌≤◌}
use mathlib.Core.List.{List, [], ◌∷◌}
use mathlib.Core.Path.{◌≡◌, refl, ap, ◌∙◌}
use mathlib.Core.Bool.{true, ◌&&◌}
use lib.ListN.{length, get_or, replicate}
use lib.Dec.{leb, ltb}
use borrow.Author.Tests.{leb-true, ltb-true, le-leb}
use native.Mathlib.Omega.{arith}
use Rattle.laws.proofs.Cases.{and_l, and_r, and-of}
use Rattle.laws.proofs.Conj.{conj-at}
use Rattle.laws.specs.Each.{each, rows}
use Rattle.laws.proofs.Each.{length-each, length-rows, each_below}
use Rattle.laws.specs.Every.{every}
use Rattle.laws.proofs.Every.{every-at, every_of}
use Rattle.laws.proofs.Rows.{rows_same, each_same}
use Rattle.laws.proofs.Blank.{length-zeros, rising-room, within-free}
use Rattle.laws.specs.Lists.{all_of, rising}
use Rattle.laws.proofs.Split.{free}
use Rattle.text_fields.specs.Items.{between, drive_of, holds_ok, after_ok}
use Rattle.plan.specs.Task.{Task, numbers_ok, task_ok, edition_ok, exclusive_task}
use Rattle.text_fields.proofs.Shared.{exclusive-fine}
use Rattle.plan.specs.Value.{row, task_at, plan_of, blank_from, is_trimmed, kept_ok, past_blank, ranges_ok}
use Rattle.plan.specs.declared.Plan.{Plan}
pub use Rattle.plan.specs.Words.Sized.{SizedPlan}
use Rattle.plan.proofs.PlanRows.{RowsMade, each-blank, rows_made, own-places, own-rows}

-- ---- what a task has that keeps the ranges and rules

pub between-facts : (low high n : ℕ) → between low high n ≡ true → (low ≤ n) × (n ≤ high)
between-facts low high n h =
    let both = conj-at (leb low n ∷ leb n high ∷ []) h in
    (leb-true low n (both 0 (omega arith)), leb-true n high (both 1 (omega arith)))

pub between-of : (low high n : ℕ) → low ≤ n → n ≤ high → between low high n ≡ true
between-of low high n p q = and-of (le-leb low n p) (le-leb n high q)

-- a list of rising keys 1 to most has at most so many items, none of them 0
pub record ListFits (key : ℕ → ℕ) (most : ℕ) (l : List ℕ) : Type 0 where
  pub within : all_of (λ x. between 1 most (key x)) l ≡ true
  pub room : length l ≤ most
  pub clean : free 0 l ≡ true

list-fits :
    (key : ℕ → ℕ) (most : ℕ) (l : List ℕ) → key 0 ≡ 0 → (all_of (λ x. between 1 most (key x)) l && rising key l) ≡ true
    → ListFits key most l
list-fits key most l z h =
    let a = and_l (all_of (λ x. between 1 most (key x)) l) (rising key l) h in
    let r = and_r (all_of (λ x. between 1 most (key x)) l) (rising key l) h in
    record { within = a; room = rising-room key most l a r; clean = within-free key most z l a }

holds-fit : (l : List ℕ) → holds_ok l ≡ true → ListFits drive_of 32 l
unfolding holds_ok
holds-fit l h = list-fits drive_of 32 l refl h

after-fit : (tasks : ℕ) (l : List ℕ) → after_ok tasks l ≡ true → ListFits (λ n. n) tasks l
unfolding after_ok
after-fit tasks l h = list-fits (λ n. n) tasks l refl h

pub record TaskFits (boards tasks : ℕ) (task : Task) : Type 0 where
  pub board : (1 ≤ task.board) × (task.board ≤ boards)
  pub ready : task.ready ≤ task.begin
  pub runs : task.begin < task.finish
  pub ends : task.finish ≤ 1000000
  pub holds : ListFits drive_of 32 task.holds
  pub after : ListFits (λ n. n) tasks task.after

pub task-fits : (boards tasks : ℕ) (task : Task) → task_ok boards tasks task ≡ true → TaskFits boards tasks task
task-fits boards tasks task h =
    let all = conj-at (numbers_ok boards task ∷ holds_ok task.holds ∷ after_ok tasks task.after ∷ []) h in
    let numbers =
    conj-at
    (between 1 boards task.board
    ∷ leb task.ready task.begin
    ∷ ltb task.begin task.finish
    ∷ leb task.finish 1000000
    ∷ []) (all 0 (omega arith)) in
    record {
      board = between-facts 1 boards task.board (numbers 0 (omega arith));
      ready = leb-true task.ready task.begin (numbers 1 (omega arith));
      runs = ltb-true task.begin task.finish (numbers 2 (omega arith));
      ends = leb-true task.finish 1000000 (numbers 3 (omega arith));
      holds = holds-fit task.holds (all 1 (omega arith));
      after = after-fit tasks task.after (all 2 (omega arith));
    }

-- ---- a plan made of tasks

pub plan_of-sized : (edition boards tasks : ℕ) (task : ℕ → Task) → SizedPlan (plan_of edition boards tasks task)
unfolding plan_of
plan_of-sized edition boards tasks task = record {
  board = length-each tasks (λ k. (task k).board) (replicate 64 0);
  ready = length-each tasks (λ k. (task k).ready) (replicate 64 0);
  begin = length-each tasks (λ k. (task k).begin) (replicate 64 0);
  finish = length-each tasks (λ k. (task k).finish) (replicate 64 0);
  holds = length-rows 32 tasks (λ k. (task k).holds) (replicate 2048 0) ∙ length-zeros 2048;
  after = length-rows 64 tasks (λ k. (task k).after) (replicate 4096 0) ∙ length-zeros 4096;
}

-- only the tasks below T count
pub plan_of-same :
    (edition boards tasks : ℕ) (task other : ℕ → Task) → ((k : ℕ) → k < tasks → task k ≡ other k)
    → plan_of edition boards tasks task ≡ plan_of edition boards tasks other
unfolding plan_of
plan_of-same edition boards tasks task other e =
    λ i. record {
      edition = edition;
      boards = boards;
      tasks = tasks;
      board = numbers (λ t. t.board) i;
      ready = numbers (λ t. t.ready) i;
      begin = numbers (λ t. t.begin) i;
      finish = numbers (λ t. t.finish) i;
      holds = lists 32 2048 (λ t. t.holds) i;
      after = lists 64 4096 (λ t. t.after) i;
    }
  where
    numbers :
        (part : Task → ℕ)
        → each tasks (λ k. part (task k)) (replicate 64 0) ≡ each tasks (λ k. part (other k)) (replicate 64 0)
    numbers part = each_same tasks (λ k. part (task k)) (λ k. part (other k)) (replicate 64 0) (λ k h. ap part (e k h))

    lists :
        (width size : ℕ) (part : Task → List ℕ)
        → rows width tasks (λ k. part (task k)) (replicate size 0) ≡ rows width tasks (λ k. part (other k)) (replicate size 0)
    lists width size part =
        rows_same width tasks (λ k. part (task k)) (λ k. part (other k)) (replicate size 0) (λ k h. ap part (e k h))

module _
    (edition boards tasks : ℕ) (task : ℕ → Task) (few : tasks ≤ 64)
    (fine : (k : ℕ) → k < tasks → task_ok boards tasks (task k) ≡ true)
  where
    fits : (k : ℕ) → k < tasks → TaskFits boards tasks (task k)
    fits k h = task-fits boards tasks (task k) (fine k h)

    holds-made : RowsMade 32 tasks (λ k. (task k).holds) (rows 32 tasks (λ k. (task k).holds) (replicate 2048 0))
    holds-made =
        rows_made 2048 32 tasks (λ k. (task k).holds) (omega arith) (λ k h. (fits k h).holds.room) (λ k h. (fits k h).holds.clean)

    after-made : RowsMade 64 tasks (λ k. (task k).after) (rows 64 tasks (λ k. (task k).after) (replicate 4096 0))
    after-made =
        rows_made 4096 64 tasks (λ k. (task k).after) (omega arith) (λ k h. omega (arith, (fits k h).after.room))
        (λ k h. (fits k h).after.clean)

    -- its tasks are those that it was made of
    pub made-task : (k : ℕ) → k < tasks → task_at (plan_of edition boards tasks task) k ≡ task k
    unfolding plan_of
    made-task k h =
        λ i. record {
          board = number (λ t. t.board) i;
          ready = number (λ t. t.ready) i;
          begin = number (λ t. t.begin) i;
          finish = number (λ t. t.finish) i;
          holds = holds-made.has k h i;
          after = after-made.has k h i;
        }
      where
        number : (part : Task → ℕ) → get_or (each tasks (λ j. part (task j)) (replicate 64 0)) k 0 ≡ part (task k)
        number part = each_below tasks (λ j. part (task j)) (replicate 64 0) k 0 h (omega arith)

    module _ (allowed : (k : ℕ) → k < tasks → edition_ok edition (task k) ≡ true) where
      made_kept : (k : ℕ) → k < tasks → kept_ok (plan_of edition boards tasks task) k ≡ true
      unfolding plan_of kept_ok
      made_kept k h =
          let ok : task_ok boards tasks (task_at (plan_of edition boards tasks task) k) ≡ true =
          ap (task_ok boards tasks) (made-task k h) ∙ fine k h in
          let may : edition_ok edition (task_at (plan_of edition boards tasks task) k) ≡ true =
          ap (edition_ok edition) (made-task k h) ∙ allowed k h in
          and-of ok (and-of may (and-of (holds-made.trimmed k h) (after-made.trimmed k h)))

      -- its numbers and lists keep the ranges and rules, and nothing is kept past its last task or a list's last item
      pub made-ranges :
          1 ≤ edition → edition ≤ 2 → 1 ≤ boards → boards ≤ 8 → 1 ≤ tasks → ranges_ok (plan_of edition boards tasks task) ≡ true
      unfolding plan_of ranges_ok
      made-ranges e f p q r =
          and-of (between-of 1 2 edition e f)
          (and-of (between-of 1 8 boards p q)
          (and-of (between-of 1 64 tasks r few)
          (and-of (every_of tasks (kept_ok (plan_of edition boards tasks task)) made_kept)
          (and-of (each-blank 64 tasks (λ k. (task k).board))
          (and-of (each-blank 64 tasks (λ k. (task k).ready))
          (and-of (each-blank 64 tasks (λ k. (task k).begin))
          (and-of (each-blank 64 tasks (λ k. (task k).finish)) (and-of holds-made.past after-made.past))))))))

-- ---- a plan that keeps the ranges and rules

pub record RangesKept (plan : Plan) : Type 0 where
  pub edition : (1 ≤ plan.edition) × (plan.edition ≤ 2)
  pub boards : (1 ≤ plan.boards) × (plan.boards ≤ 8)
  pub tasks : (1 ≤ plan.tasks) × (plan.tasks ≤ 64)
  pub kept : (k : ℕ) → k < plan.tasks → kept_ok plan k ≡ true
  pub past : past_blank plan ≡ true

pub ranges-kept : (plan : Plan) → ranges_ok plan ≡ true → RangesKept plan
unfolding ranges_ok
ranges-kept plan h =
    let all =
    conj-at
    (between 1 2 plan.edition
    ∷ between 1 8 plan.boards
    ∷ between 1 64 plan.tasks
    ∷ every plan.tasks (kept_ok plan)
    ∷ past_blank plan
    ∷ []) h in
    record {
      edition = between-facts 1 2 plan.edition (all 0 (omega arith));
      boards = between-facts 1 8 plan.boards (all 1 (omega arith));
      tasks = between-facts 1 64 plan.tasks (all 2 (omega arith));
      kept = every-at plan.tasks (kept_ok plan) (all 3 (omega arith));
      past = all 4 (omega arith);
    }

pub record TaskKept (plan : Plan) (k : ℕ) : Type 0 where
  pub task : task_ok plan.boards plan.tasks (task_at plan k) ≡ true
  pub edition : edition_ok plan.edition (task_at plan k) ≡ true
  pub holds : is_trimmed (row 32 plan.holds k) ≡ true
  pub after : is_trimmed (row 64 plan.after k) ≡ true

pub task-kept : (plan : Plan) (k : ℕ) → kept_ok plan k ≡ true → TaskKept plan k
unfolding kept_ok
task-kept plan k h =
    let all =
    conj-at
    (task_ok plan.boards plan.tasks (task_at plan k)
    ∷ edition_ok plan.edition (task_at plan k)
    ∷ is_trimmed (row 32 plan.holds k)
    ∷ is_trimmed (row 64 plan.after k)
    ∷ []) h in
    record {
      task = all 0 (omega arith);
      edition = all 1 (omega arith);
      holds = all 2 (omega arith);
      after = all 3 (omega arith);
    }

-- is made of its tasks
pub plan_of-own :
    (plan : Plan) → SizedPlan plan → ranges_ok plan ≡ true
    → plan_of plan.edition plan.boards plan.tasks (task_at plan) ≡ plan
unfolding plan_of
plan_of-own plan size ok =
    let f = ranges-kept plan ok in
    let n : ℕ = plan.tasks in
    let past =
    conj-at
    (blank_from n plan.board
    ∷ blank_from n plan.ready
    ∷ blank_from n plan.begin
    ∷ blank_from n plan.finish
    ∷ blank_from (32 * n) plan.holds
    ∷ blank_from (64 * n) plan.after
    ∷ []) f.past in
    let p = own-places plan.board 64 size.board n (past 0 (omega arith)) in
    let w = own-places plan.ready 64 size.ready n (past 1 (omega arith)) in
    let q = own-places plan.begin 64 size.begin n (past 2 (omega arith)) in
    let r = own-places plan.finish 64 size.finish n (past 3 (omega arith)) in
    let s = own-rows plan.holds 2048 size.holds n 32 (λ k h. (task-kept plan k (f.kept k h)).holds) (past 4 (omega arith)) in
    let t = own-rows plan.after 4096 size.after n 64 (λ k h. (task-kept plan k (f.kept k h)).after) (past 5 (omega arith)) in
    λ i. record {
      edition = plan.edition;
      boards = plan.boards;
      tasks = plan.tasks;
      board = p i;
      ready = w i;
      begin = q i;
      finish = r i;
      holds = s i;
      after = t i;
    }

-- a task with each shared hold exclusive keeps the ranges too
pub exclusive-ok : (boards tasks : ℕ) (task : Task) → task_ok boards tasks task ≡ true → task_ok boards tasks (exclusive_task task) ≡ true
exclusive-ok boards tasks task ok = rw (exclusive-fine task.holds) ok
