-- Sentences that are near to the promises and false: each is refuted on a small plan.
use Rattle.std.specs.Prelude.{ℕ, ◌+◌, ◌≤◌, ◌<◌, ◌≡◌, ◌≢◌, ◌⊎◌, true, List, ◌++◌}
use Rattle.theory.specs.Words.Events.{Event}
use Rattle.text.specs.Bytes.{bytes}
use Rattle.plan.specs.Pairs.{clash}
use Rattle.plan.specs.Value.{at, task_at, is_accepted}
use Rattle.plan.specs.Read.{reading_of}
use Rattle.plan.specs.declared.Plan.{Plan}
use Rattle.book.specs.Words.Sized.{SizedPlan, Sized}
use Rattle.book.specs.Sound.{is_sound}
use Rattle.book.specs.Report.{reported_of}
use Rattle.book.specs.Early.{figure_of}
use Rattle.book.specs.declared.Book.{Book}
use Rattle.book.specs.declared.Rule.{Rule}
use Rattle.promises.specs.Runs.{run_of, Waiting, Started, start_of, InOrder, EarlyBy}

-- clashing tasks run by task number, whichever is planned first
abbrev pub ByNumber : Type 0
ByNumber =
    (plan : Plan) (rule : Rule) → SizedPlan plan → is_accepted plan ≡ true → (events : List Event) (a b : ℕ) → a < b → b < plan.tasks
    → clash (task_at plan) a b ≡ true → InOrder plan (run_of plan rule events) a b

-- of clashing tasks one is planned to finish strictly before the other begins
abbrev pub StrictOrder : Type 0
StrictOrder =
    (plan : Plan) → SizedPlan plan → is_accepted plan ≡ true → (a b : ℕ) → a < plan.tasks → b < plan.tasks → a ≢ b
    → clash (task_at plan) a b ≡ true
    → (at plan.finish a < at plan.begin b) ⊎ (at plan.finish b < at plan.begin a)

-- the figure is kept by tasks that had ended already, too
abbrev pub KeptByEnded : Type 0
KeptByEnded =
    (plan : Plan) (rule : Rule) → SizedPlan plan → is_accepted plan ≡ true → (events later : List Event) (i : ℕ) → i < plan.tasks
    → EarlyBy plan (figure_of (run_of plan rule events)).early (run_of plan rule (events ++ later)) i

-- a task starts one tick after the report that lets it go
abbrev pub StartsLater : Type 0
StartsLater =
    (book : Book) → Sized book → is_sound book ≡ true → (task tick : ℕ) → (reported_of book task tick).answer.code ≡ 0
    → (i : ℕ) → i < book.tasks → Waiting book i → Started (reported_of book task tick).book i
    → start_of (reported_of book task tick).book i ≡ tick + 1

-- whoever is let go starts at the tick of the report, ready or not
abbrev pub StartsAtOnce : Type 0
StartsAtOnce =
    (book : Book) → Sized book → is_sound book ≡ true → (task tick : ℕ) → (reported_of book task tick).answer.code ≡ 0
    → (i : ℕ) → i < book.tasks → Waiting book i → Started (reported_of book task tick).book i
    → start_of (reported_of book task tick).book i ≡ tick

-- nobody starts before its ready tick, dropped or not
abbrev pub DroppedReady : Type 0
DroppedReady =
    (plan : Plan) (rule : Rule) → SizedPlan plan → is_accepted plan ≡ true → (events : List Event) (i : ℕ) → i < plan.tasks
    → Started (run_of plan rule events) i → at plan.ready i ≤ start_of (run_of plan rule events) i

-- two tasks of one board, the second planned first
abbrev pub text_two : List ℕ
text_two = bytes "plan\t1\t1\t2\ntask\t1\t1\t5\t9\t-\t-\ntask\t2\t1\t0\t4\t-\t-\n"

unfoldable pub plan_two : Plan
plan_two = (reading_of text_two).plan
