-- The words of the promises about shared holds being retired.
use Rattle.std.specs.Prelude.{ℕ, ◌<◌, ◌≡◌, ◌≢◌, ◌⊎◌, true, false, map}
use Rattle.text_fields.specs.Items.{drive_of, has_shared, exclusive}
use Rattle.plan.specs.Answer.{granted}
use Rattle.plan.specs.Task.{Task, exclusive_task}
use Rattle.plan.specs.Value.{task_at, is_accepted}
use Rattle.plan.specs.declared.Plan.{Plan}
use Rattle.plan.specs.declared.Reading.{Reading}
use Rattle.book.specs.declared.Book.{Book}
use Rattle.promises.specs.Says.{no_plan}
use Rattle.promises.specs.Checks.{FirstFaulty}
use Rattle.promises.specs.Edition1.{NoReady}

-- the same board, times, drives and after list, and no shared hold
pub record SameExclusive (old new : Task) : Type 0 where
  pub board : new.board ≡ old.board
  pub ready : new.ready ≡ old.ready
  pub begin : new.begin ≡ old.begin
  pub finish : new.finish ≡ old.finish
  pub drives : map drive_of new.holds ≡ map drive_of old.holds
  pub exclusive : has_shared new.holds ≡ false
  pub after : new.after ≡ old.after

-- an accepted plan of edition 2, with these tasks but for their shared holds
pub record MadeOf (boards tasks : ℕ) (task : ℕ → Task) (made : Plan) : Type 0 where
  pub accepted : is_accepted made ≡ true
  pub edition : made.edition ≡ 2
  pub boards_are : made.boards ≡ boards
  pub tasks_are : made.tasks ≡ tasks
  pub each : (k : ℕ) → k < tasks → SameExclusive (task k) (task_at made k)

-- no task has a shared hold
abbrev pub Unshared : ℕ → (ℕ → Task) → Type 0
Unshared tasks task = (k : ℕ) → k < tasks → has_shared (task k).holds ≡ false

-- what the converter answers: the plan made; the first pair that clashes by drive now; 9
pub data ConvertedSays (plan : Plan) (r : Reading) : Type 0 where
  made :
      is_accepted plan ≡ true → plan.edition ≡ 1 → r.answer ≡ granted → MadeOf plan.boards plan.tasks (task_at plan) r.plan → NoReady r.plan
      → ConvertedSays plan r
  faulty_pair :
      (a b : ℕ) → is_accepted plan ≡ true → plan.edition ≡ 1 → FirstFaulty plan.tasks (λ k. exclusive_task (task_at plan k)) 7 a b → r ≡ no_plan 7 a b
      → ConvertedSays plan r
  not_taken : (is_accepted plan ≡ false) ⊎ (plan.edition ≢ 1) → r ≡ no_plan 9 0 0 → ConvertedSays plan r

-- the same book on the converted plan
abbrev pub exclusive_book : Book → Book
exclusive_book book = record {
  edition = 2;
  boards = book.boards;
  tasks = book.tasks;
  rule = book.rule;
  clock = book.clock;
  board = book.board;
  ready = book.ready;
  begin = book.begin;
  finish = book.finish;
  start = book.start;
  end = book.end;
  mark = book.mark;
  dropped = book.dropped;
  holds = map exclusive book.holds;
  after = book.after;
}
