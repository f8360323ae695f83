-- REQUEST P7. Why did mine start then?
-- Tasks are counted from 0, links too: link 0 of a chain is the asked task. `Started` is of a task whose start is known, also past the clock.
use Prim.Native.Nat.{ℕ, ◌+◌, ◌-◌, ◌≤◌, ◌<◌}
use native.Mathlib.Omega.{arith}
use mathlib.Core.Path.{◌≡◌}
use mathlib.Core.Logic.{◌≢◌, ◌↔◌}
use mathlib.Core.Bool.{true}
use lib.ListN.{length}
use Rattle.plan.specs.Value.{at}
use Rattle.book.specs.Sound.{is_sound}
use Rattle.book.specs.declared.Book.{Book}
use Rattle.ask_why.specs.Why.{why_of}
use Rattle.promises.specs.Ladder.{Ladder}
use Rattle.promises.specs.Runs.{Ended, Started, Dropped, start_of, end_of}
use Rattle.promises_ask.specs.Chains.{why_checks, WhySays, link_of, Cause, StopsAt, last_of, ran_along}
use Rattle.promises_ask.proofs.Given as answers
use Rattle.promises_ask.proofs.Links as chains

-- 9; then a task not in 1 to T is 10, a waiting one 11; any other is answered
pub why-checks : (book : Book) (task : ℕ) → Ladder (why_checks book task) (why_of book task).answer.code
why-checks = answers.why-ladder

-- 10 and 11 say task and 0, a refusal gives an empty chain
pub why-says : (book : Book) (task : ℕ) → WhySays task (why_of book task)
why-says = answers.why-says

pub why-sized : (book : Book) (task : ℕ) → length (why_of book task).links ≡ 64
why-sized = answers.why-size

-- a task whose known start lies past the clock gets its chain, itself alone
pub ahead-alone :
    (book : Book) (task : ℕ) → is_sound book ≡ true → 1 ≤ task → task ≤ book.tasks → Started book (task - 1)
    → book.clock < start_of book (task - 1) → ((why_of book task).answer.code ≡ 0) × ((why_of book task).count ≡ 1)
ahead-alone book task sound from to known ahead =
    (chains.answered-started book task sound from to known, chains.ahead-alone book task sound from to known ahead)

module _ (book : Book) (task : ℕ) (given : (why_of book task).answer.code ≡ 0) where
  -- the asked task comes first
  pub asked-first : (0 < (why_of book task).count) × (at (why_of book task).links 0 ≡ task)
  asked-first = chains.asked-first book task given

  -- every link is the number of a started task; places past the last hold nothing
  pub link-started :
      (k : ℕ) → k < (why_of book task).count
      → (1 ≤ at (why_of book task).links k) × (at (why_of book task).links k ≤ book.tasks) × Started book (link_of (why_of book task) k)
  link-started = chains.in-book book task given

  pub nothing-past : (k : ℕ) → (why_of book task).count ≤ k → at (why_of book task).links k ≡ 0
  nothing-past = chains.past book task given

  -- then the task whose end let it start, then that one's own cause
  pub link-is-cause :
      (k : ℕ) → k + 1 < (why_of book task).count → Cause book (link_of (why_of book task) k) (link_of (why_of book task) (k + 1))
  link-is-cause = chains.is-cause book task given

  -- each link's end is the start of the task it let go
  pub link-lets-go :
      (k : ℕ) → k + 1 < (why_of book task).count
      → Ended book (link_of (why_of book task) (k + 1))
      × (end_of book (link_of (why_of book task) (k + 1)) ≡ start_of book (link_of (why_of book task) k))
  link-lets-go = chains.lets_go book task given

  -- the cause's planned start is strictly smaller, also for dropped tasks
  pub planned-starts-fall :
      (k : ℕ) → k + 1 < (why_of book task).count
      → at book.begin (link_of (why_of book task) (k + 1)) < at book.begin (link_of (why_of book task) k)
  planned-starts-fall = chains.sooner book task given

  -- no task repeats
  pub none-repeats :
      (j k : ℕ) → j < k → k < (why_of book task).count → at (why_of book task).links j ≢ at (why_of book task).links k
  none-repeats = chains.never-twice book task given

  -- the chain stops exactly where the text says
  pub stops-exactly :
      (k : ℕ) → k < (why_of book task).count → (k + 1 ≡ (why_of book task).count) ↔ StopsAt book (link_of (why_of book task) k)
  stops-exactly = chains.stops-exactly book task given

  -- a dropped task is a link like any other, of run time 0
  pub dropped-link :
      (k : ℕ) → k < (why_of book task).count → Dropped book (link_of (why_of book task) k)
      → end_of book (link_of (why_of book task) k) ≡ start_of book (link_of (why_of book task) k)
  dropped-link = chains.dropped-takes-none book task given

  -- the run times along it, the asked one's left out, add up to the asked start less the start of the task where it stops
  pub run-times :
      (start_of book (last_of (why_of book task)) ≤ start_of book (task - 1))
      × (ran_along book (why_of book task) ≡ start_of book (task - 1) - start_of book (last_of (why_of book task)))
  run-times = let s = chains.sums-up book task given in (omega arith, omega arith)

  -- wherever that task started at 0, to the asked start itself
  pub run-times-from-0 :
      start_of book (last_of (why_of book task)) ≡ 0 → ran_along book (why_of book task) ≡ start_of book (task - 1)
  run-times-from-0 z = let s = chains.sums-up book task given in omega arith

  -- and so in edition 1
  pub run-times-edition-1 : book.edition ≡ 1 → ran_along book (why_of book task) ≡ start_of book (task - 1)
  run-times-edition-1 one = run-times-from-0 (chains.first-edition book task given one)
