-- DEMAND 3. Of an accepted plan, its book opened by either rule and any list of reports, drops among them.
-- Tasks are counted from 0: a report or drop names task i by i + 1.
use Prim.Native.Nat.{ℕ, ◌+◌, ◌≤◌, ◌<◌}
use mathlib.Core.Path.{◌≡◌}
use mathlib.Core.Logic.{◌≢◌, ◌↔◌, ◌⊎◌, inl, inr}
use mathlib.Core.Bool.{true}
use mathlib.Core.List.{List, ◌++◌}
use lib.ListN.{length}
use Rattle.theory.specs.Words.Events.{Event, Once}
use Rattle.text.specs.Bytes.{bytes}
use Rattle.text.specs.Line.{skip, line_at, field}
use Rattle.plan.specs.Task.{Task}
use Rattle.plan.specs.Pairs.{clash}
use Rattle.plan.specs.Value.{at, task_at, is_accepted}
use Rattle.plan.specs.declared.Plan.{Plan}
use Rattle.book.specs.Early.{figure_of}
use Rattle.book.specs.declared.Book.{Book}
use Rattle.book.specs.declared.Rule.{Rule}
use Rattle.promises.specs.Runs.{SizedPlan, opened_book, book_after, run_of, accepted_of, SameEvents, Running, Ended, Started, Dropped, start_of, NotBegun}
use Rattle.promises.specs.Runs.{InOrder, Live, EarlyBy}
use Rattle.log_run.specs.Log.{ends_log, rest_log, log_of}
use Rattle.promises.specs.Logs.{said_in, EarlyLine}
use Rattle.promises.proofs.LogMoments as log-moments
use Rattle.promises.proofs.LogWhole as the-log
use Rattle.promises.specs.Clashes.{OneBoard, OneDrive, Lists, Clashes}
use Rattle.promises.proofs.Codes.Clashes as clashes
use Rattle.promises.proofs.RunFacts as run-facts
use Rattle.promises.proofs.RunView as run-view
use Rattle.promises.proofs.SoundRun as sound-run

-- Two tasks clash when they have the same board, or hold a common drive at least one of them exclusively, or one lists the other
pub clash-is : (task : ℕ → Task) (a b : ℕ) → (clash task a b ≡ true) ↔ Clashes task a b
clash-is task a b = (clashes.clash-said task a b, clashes.clash-of task a b)

-- refused reports and drops change nothing: the book is what the accepted ones alone leave
pub refused-change-nothing : (book : Book) (events : List Event) → book_after book (accepted_of book events) ≡ book_after book events
refused-change-nothing = run-facts.accepted-alone

module _ (plan : Plan) (rule : Rule) (size : SizedPlan plan) (ok : is_accepted plan ≡ true) where
  module _ (events : List Event) where
    -- clashing tasks stand in plan order, and the later one starts no sooner than the earlier one has ended
    pub clashing-in-order :
        (a b : ℕ) → a < plan.tasks → b < plan.tasks → a ≢ b → clash (task_at plan) a b ≡ true
        → InOrder plan (run_of plan rule events) a b ⊎ InOrder plan (run_of plan rule events) b a
    clashing-in-order = sound-run.clash-order plan rule size ok (run_of plan rule events) (sound-run.on-run plan rule size ok events)

    -- and never run at once
    pub clashing-never-at-once :
        (a b : ℕ) → a < plan.tasks → b < plan.tasks → a ≢ b → clash (task_at plan) a b ≡ true
        → Running (run_of plan rule events) a → Running (run_of plan rule events) b → ⊥
    clashing-never-at-once = sound-run.never_both plan rule size ok (run_of plan rule events) (sound-run.on-run plan rule size ok events)

    -- nor is either live while the other is, at any tick
    pub one-at-a-time :
        (tick a b : ℕ) → a < plan.tasks → b < plan.tasks → a ≢ b → clash (task_at plan) a b ≡ true
        → Live (run_of plan rule events) tick a → Live (run_of plan rule events) tick b → ⊥
    one-at-a-time = sound-run.one-live plan rule size ok (run_of plan rule events) (sound-run.on-run plan rule size ok events)

    -- the sentence that a teacher signs for: at no tick is a token live on a drive beside another's, where one of the two holds it
    -- exclusively
    pub one_token :
        (tick a b : ℕ) → a < plan.tasks → b < plan.tasks → a ≢ b → OneDrive (task_at plan) a b
        → Live (run_of plan rule events) tick a → Live (run_of plan rule events) tick b → ⊥
    one_token tick a b la lb n one = one-at-a-time tick a b la lb n ((clash-is (task_at plan) a b).1 (inr (inl one)))

    -- nor on a board
    pub one-a-board :
        (tick a b : ℕ) → a < plan.tasks → b < plan.tasks → a ≢ b → OneBoard (task_at plan) a b
        → Live (run_of plan rule events) tick a → Live (run_of plan rule events) tick b → ⊥
    one-a-board tick a b la lb n one = one-at-a-time tick a b la lb n ((clash-is (task_at plan) a b).1 (inl one))

    -- nor beside one that it lists under after
    pub one-in-order :
        (tick a b : ℕ) → a < plan.tasks → b < plan.tasks → a ≢ b → Lists (task_at plan) a b
        → Live (run_of plan rule events) tick a → Live (run_of plan rule events) tick b → ⊥
    one-in-order tick a b la lb n one = one-at-a-time tick a b la lb n ((clash-is (task_at plan) a b).1 (inr (inr (inl one))))

    -- no task starts after its planned start
    pub nobody-late :
        (i : ℕ) → i < plan.tasks → Started (run_of plan rule events) i → start_of (run_of plan rule events) i ≤ at plan.begin i
    nobody-late = sound-run.not_late plan rule size ok (run_of plan rule events) (sound-run.on-run plan rule size ok events)

    -- and none before its ready tick unless dropped
    pub never-unready :
        (i : ℕ) → i < plan.tasks → Started (run_of plan rule events) i → (Dropped (run_of plan rule events) i → ⊥)
        → at plan.ready i ≤ start_of (run_of plan rule events) i
    never-unready = sound-run.not-unready plan rule size ok (run_of plan rule events) (sound-run.on-run plan rule size ok events)

    -- the figure shown is kept: every task not ended then, so every one not started then, starts and ends at least that early,
    -- and so does one that is dropped later
    pub figure-kept :
        (later : List Event) (i : ℕ) → i < plan.tasks → (Ended (run_of plan rule events) i → ⊥)
        → EarlyBy plan (figure_of (run_of plan rule events)).early (run_of plan rule (events ++ later)) i
    figure-kept = sound-run.kept_run plan rule size ok events

    -- among them every task whose start is not known then or lies past the clock: it counts as not started until the clock
    -- reaches its start
    pub figure-kept-unbegun :
        (later : List Event) (i : ℕ) → i < plan.tasks → NotBegun (run_of plan rule events) i
        → EarlyBy plan (figure_of (run_of plan rule events)).early (run_of plan rule (events ++ later)) i
    figure-kept-unbegun = sound-run.kept-unbegun plan rule size ok events

    -- document 000's Theorem 1 (a): it never falls while some task has not ended
    pub figure-never-falls :
        (later : List Event) (i : ℕ) → i < plan.tasks → (Ended (run_of plan rule (events ++ later)) i → ⊥)
        → (figure_of (run_of plan rule events)).early ≤ (figure_of (run_of plan rule (events ++ later))).early
    figure-never-falls = run-facts.figure-rises plan rule size ok events

    -- no report or drop is accepted twice, so they are told by which they are
    pub accepted-once : Once (accepted_of (opened_book plan rule) events)
    accepted-once = run-facts.accepted-once (opened_book plan rule) events (run-view.opened-good plan rule ok size)

  -- the same accepted reports and the same accepted drops, in whatever order, leave the same book
  pub same-book :
      (events others : List Event)
      → SameEvents (accepted_of (opened_book plan rule) events) (accepted_of (opened_book plan rule) others)
      → run_of plan rule events ≡ run_of plan rule others
  same-book events others same = run-view.same_after (opened_book plan rule) events others (run-view.opened-good plan rule ok size) same

-- the book that a log has after n lines of ends.txt, each a report or drop, is the one that these leave: it prints what the n lines
-- print, and goes on with the rest on that book
pub log-goes-on :
    (book : Book) (line n : ℕ) (ends : List ℕ) → length (said_in n ends) ≡ n
    → rest_log book line ends ≡ ends_log n book line ends ++ rest_log (book_after book (said_in n ends)) (line + n) (skip n ends)
log-goes-on = log-moments.log-goes-on

-- so every `early` line of a log shows clock and M of the book that the reports and drops read until it leave, and this M is kept
pub early-line-kept :
    (text ends : List ℕ) (n : ℕ) → field (line_at (log_of text ends) n) 0 ≡ bytes "early"
    → EarlyLine text ends n
early-line-kept = the-log.early-line
