-- THE ENGINE WITHOUT REPORTS. Of any plan, rule, lengths and drops that are handed in; tasks are counted from 0.
use Prim.Native.Nat.{ℕ, ◌+◌, ◌≤◌, ◌<◌}
use mathlib.Core.Path.{◌≡◌}
use mathlib.Core.Bool.{true}
use mathlib.Core.List.{List, ◌++◌}
use Rattle.theory.specs.Words.Events.{Event}
use Rattle.theory.specs.Words.Lines.{TwoLines}
use Rattle.theory.specs.Words.Orders.{Order}
use Rattle.plan.specs.Answer.{granted}
use Rattle.plan.specs.Value.{at}
use Rattle.plan.specs.declared.Plan.{Plan}
use Rattle.book_view.specs.View.{plan_for}
use Rattle.book.specs.Open.{rule_number}
use Rattle.book.specs.Sound.{is_sound}
use Rattle.book.specs.View.{plan_in}
use Rattle.book.specs.declared.Book.{Book}
use Rattle.book.specs.declared.Rule.{Rule}
use Rattle.book.specs.declared.Rule.TheVariants.{EarlyStart, Clash}
use Rattle.engine.specs.Timetable.{timetable_of}
use Rattle.engine.specs.declared.Lengths.{Lengths}
use Rattle.promises.specs.Ladder.{Ladder}
use Rattle.promises.specs.Runs.{SizedPlan, Sized, opened_book, accepted_of, run_of, Ended}
use Rattle.promises_engine.specs.Says.{timetable_checks, TimetableSays, Alike, AsTold, OwnLengths}
use Rattle.promises_engine.proofs.Said as said
use Rattle.promises_engine.proofs.Lines as lines
use Rattle.promises_engine.proofs.Agreed as agreed
use Rattle.promises_engine.proofs.Alike as the_same

module _ (plan : Plan) (rule : Rule) (given : Lengths) where
  -- 9; then 22, where a length is outside its range; then 19, where a dropped task waits for nobody: each exactly when its condition
  -- holds and none before it does
  pub timetable-checks : Ladder (timetable_checks plan rule given) (timetable_of plan rule given).answer.code
  timetable-checks = said.checks plan rule given

  -- 22 and 19 name the lowest such task; a refusal gives a timetable of zeros, and places past T hold nothing
  pub timetable-says : TimetableSays plan rule given (timetable_of plan rule given)
  timetable-says = said.says plan rule given

  -- lengths of dropped tasks and whatever stands past T are not read
  pub timetable-unread : (other : Lengths) → Alike plan.tasks given other → timetable_of plan rule given ≡ timetable_of plan rule other
  timetable-unread = the_same.alike-timetables plan rule given

  module _ (taken : (timetable_of plan rule given).answer ≡ granted) where
    -- each task's start from the ends of those it waits for, its end from its start
    pub timetable-lines :
        TwoLines (plan_for (rule_number rule) plan) (at given.length) (at given.dropped) (at (timetable_of plan rule given).start)
        (at (timetable_of plan rule given).end)
    timetable-lines = lines.table-lines plan rule given taken

    -- and nothing else solves these two lines
    pub timetable-only :
        (start end : ℕ → ℕ) → TwoLines (plan_for (rule_number rule) plan) (at given.length) (at given.dropped) start end
        → (i : ℕ) → i < plan.tasks
        → (start i ≡ at (timetable_of plan rule given).start i) × (end i ≡ at (timetable_of plan rule given).end i)
    timetable-only = lines.table-only plan rule given taken

    -- nobody starts or ends later than planned
    pub timetable-in-time :
        (i : ℕ) → i < plan.tasks
        → (at (timetable_of plan rule given).start i ≤ at plan.begin i) × (at (timetable_of plan rule given).end i ≤ at plan.finish i)
    timetable-in-time = lines.table-in-time plan rule given taken

    -- The dispatcher agrees: told the drops in any order, then the ends of the others in any order of time, it accepts every one,
    -- and its starts and ends are the timetable's. An event names task i by i + 1
    pub dispatcher-agrees :
        SizedPlan plan → (drops ends : List Event)
        → Order plan.tasks (λ i. i + 1) (at given.dropped) (at (timetable_of plan rule given).end) drops ends
        → (accepted_of (opened_book plan rule) (drops ++ ends) ≡ drops ++ ends)
        × AsTold plan (timetable_of plan rule given) (run_of plan rule (drops ++ ends))
    dispatcher-agrees size drops ends order =
        (agreed.told-accepted plan rule given size taken drops ends order, agreed.told-as plan rule given size taken drops ends order)

-- The other way round: a book in which every task has ended is the timetable of its own lengths and drops
pub finished-is-timetable :
    (book : Book) → Sized book → is_sound book ≡ true → (rule : Rule) → book.rule ≡ rule_number rule
    → ((i : ℕ) → i < book.tasks → Ended book i) → (given : Lengths) → OwnLengths book given
    → timetable_of (plan_in book) rule given ≡ record { answer = granted; start = book.start; end = book.end }
finished-is-timetable book size sound rule by over given own =
    agreed.own-timetable book (record { sized = size; sound = sound }) rule by over given own

-- With the same lengths and drops, where the clash rule takes them, Early Start takes them too, and by the clash rule no task starts
-- later
pub clash-no-later :
    (plan : Plan) (given : Lengths) → (timetable_of plan Clash given).answer ≡ granted
    → ((timetable_of plan EarlyStart given).answer ≡ granted)
    × ((i : ℕ) → i < plan.tasks → at (timetable_of plan Clash given).start i ≤ at (timetable_of plan EarlyStart given).start i)
clash-no-later plan given taken = (the_same.early-takes plan given taken, the_same.no-later plan given taken)
