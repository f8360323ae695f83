-- DEMAND 2. The Early Start rule exactly, M as defined, and both round trips.
-- Tasks are counted from 0: a report or drop names task i by i + 1.
use Prim.Native.Nat.{ℕ, ◌-◌, ◌≤◌, ◌<◌}
use mathlib.Core.Path.{◌≡◌}
use mathlib.Core.Logic.{◌≢◌, ◌↔◌, ◌⊎◌}
use mathlib.Core.Bool.{true}
use mathlib.Core.List.{List}
use lib.ListN.{length, take, drop}
use Rattle.theory.specs.Words.Events.{Event, Accepts, AcceptsDrop}
use Rattle.theory.specs.Figure.{minimum_early}
use Rattle.plan.specs.Answer.{granted}
use Rattle.plan.specs.Value.{at, is_accepted}
use Rattle.plan.specs.Read.{reading_of}
use Rattle.plan.specs.Write.{text_of, written_of, buffer_after}
use Rattle.plan.specs.declared.Plan.{Plan}
use Rattle.plan.proofs.RoundPlan as round-plan
use Rattle.book.specs.View.{plan_in, plan_view, book_view}
use Rattle.book.specs.Sound.{is_sound}
use Rattle.book.specs.Report.{reported_of}
use Rattle.book.specs.Drop.{dropped_of}
use Rattle.book.specs.Early.{figure_of}
use Rattle.book.specs.declared.Book.{Book}
use Rattle.book.specs.Open.{rule_number}
use Rattle.book.specs.declared.Rule.{Rule}
use Rattle.promises.specs.Runs.{SizedPlan, Sized, opened_book, run_of, Waiting, Ended, Started, Dropped, start_of, end_of}
use Rattle.promises.specs.Runs.{WaitsFor, due_of, start_due_of, AllEnded, StartsExactly, Term}
use Rattle.promises.proofs.SoundBook as sound-book
use Rattle.promises.proofs.SoundRun as sound-run
use Rattle.promises.proofs.Told as told
use Rattle.promises.proofs.Codes.Book as book-codes
use Rattle.promises.proofs.Figures as figures
use Rattle.promises.proofs.Rounds as rounds

-- A report is accepted exactly when none of codes 9 to 15 applies
pub report-accepted :
    (book : Book) (task tick : ℕ)
    → ((reported_of book task tick).answer.code ≡ 0)
    ↔ ((is_sound book ≡ true) × (0 < task) × Accepts (plan_view book) (book_view book) (task - 1) tick)
report-accepted = book-codes.report-accepted

-- and a drop exactly when none of 9, 10 and 19 does
pub drop-accepted :
    (book : Book) (task : ℕ)
    → ((dropped_of book task).answer.code ≡ 0)
    ↔ ((is_sound book ≡ true) × (0 < task) × AcceptsDrop (plan_view book) (book_view book) (task - 1))
drop-accepted = book-codes.drop-accepted

-- what is due: no end of those it waits for is later, it is one of these ends, and 0 where it waits for nobody
pub due-over : (book : Book) (i j : ℕ) → j < book.tasks → WaitsFor book i j → end_of book j ≤ due_of book i
due-over = sound-book.due-over

pub due-met :
    (book : Book) (i : ℕ)
    → (due_of book i ≡ 0) ⊎ ((j : ℕ) × (j < book.tasks) × WaitsFor book i j × (end_of book j ≡ due_of book i))
due-met = sound-book.due-met

pub due-none :
    (book : Book) (i : ℕ) → ((j : ℕ) → j < book.tasks → WaitsFor book i j → ⊥) → due_of book i ≡ 0
due-none = sound-book.due-none

-- a report leaves the drops as they were, a refused one too
pub report-drops : (book : Book) → Sized book → (task tick : ℕ) → (reported_of book task tick).book.dropped ≡ book.dropped
report-drops = told.report-drops

-- of an accepted plan, its book opened by either rule and any list of reports and drops
module _ (plan : Plan) (rule : Rule) (size : SizedPlan plan) (ok : is_accepted plan ≡ true) where
  -- A task that waits for nobody starts at its ready tick, and no other at opening
  pub opening-starts :
      (i : ℕ) → i < (opened_book plan rule).tasks
      → (Started (opened_book plan rule) i ↔ ((j : ℕ) → j < (opened_book plan rule).tasks → WaitsFor (opened_book plan rule) i j → ⊥))
      × (Started (opened_book plan rule) i → start_of (opened_book plan rule) i ≡ at plan.ready i)
  opening-starts = sound-run.opened-starts plan rule size ok

  -- the clock is 0, nobody has ended and nobody is dropped
  pub opening-clock : (opened_book plan rule).clock ≡ 0
  opening-clock = sound-run.clock-zero plan rule size ok

  pub opening-ended : (i : ℕ) → i < (opened_book plan rule).tasks → Ended (opened_book plan rule) i → ⊥
  opening-ended = sound-run.nobody-ended plan rule size ok

  pub opening-drops : (i : ℕ) → Dropped (opened_book plan rule) i → ⊥
  opening-drops = sound-run.undropped plan rule size ok

  module _ (events : List Event) where
    -- the plan and the rule stay, the book is sound, the arrays keep their lengths
    pub run-plan : plan_in (run_of plan rule events) ≡ plan
    run-plan = (sound-run.on-run plan rule size ok events).same

    pub run-rule : (run_of plan rule events).rule ≡ rule_number rule
    run-rule = (sound-run.on-run plan rule size ok events).by

    pub run_sound : is_sound (run_of plan rule events) ≡ true
    run_sound = (sound-run.on-run plan rule size ok events).good.sound

    pub run-sized : Sized (run_of plan rule events)
    run-sized = (sound-run.on-run plan rule size ok events).good.sized

    -- its start is the later of its ready tick and the latest of the ends of those it waits for
    pub start-is-due :
        (i : ℕ) → i < (run_of plan rule events).tasks → Started (run_of plan rule events) i → (Dropped (run_of plan rule events) i → ⊥)
        → start_of (run_of plan rule events) i ≡ start_due_of (run_of plan rule events) i
    start-is-due = sound-book.start-due (run_of plan rule events) (sound-run.on-run plan rule size ok events).good

    -- a dropped task's ready tick is ignored
    pub dropped-is-due :
        (i : ℕ) → i < (run_of plan rule events).tasks → Started (run_of plan rule events) i → Dropped (run_of plan rule events) i
        → start_of (run_of plan rule events) i ≡ due_of (run_of plan rule events) i
    dropped-is-due = sound-book.skip-due (run_of plan rule events) (sound-run.on-run plan rule size ok events).good

    -- a start that lies past the clock is the ready tick
    pub ahead-at-ready :
        (i : ℕ) → i < (run_of plan rule events).tasks → Started (run_of plan rule events) i
        → (run_of plan rule events).clock < start_of (run_of plan rule events) i
        → start_of (run_of plan rule events) i ≡ at (run_of plan rule events).ready i
    ahead-at-ready = sound-book.ahead-ready (run_of plan rule events) (sound-run.on-run plan rule size ok events).good

    -- a task has started exactly when all it waits for have ended
    pub started-when-free :
        (i : ℕ) → i < (run_of plan rule events).tasks → Started (run_of plan rule events) i ↔ AllEnded (run_of plan rule events) i
    started-when-free = sound-book.started-free (run_of plan rule events) (sound-run.on-run plan rule size ok events).good

    -- every waiting task has one it waits for that has not ended
    pub waiting-for-one :
        (i : ℕ) → i < (run_of plan rule events).tasks → Waiting (run_of plan rule events) i
        → (j : ℕ) × (j < (run_of plan rule events).tasks) × WaitsFor (run_of plan rule events) i j × (Ended (run_of plan rule events) j → ⊥)
    waiting-for-one = sound-book.waiting-for (run_of plan rule events) (sound-run.on-run plan rule size ok events).good

    -- a dropped task takes no time: once its start is known it has ended, its end being its start
    pub dropped-at-once :
        (i : ℕ) → i < (run_of plan rule events).tasks → Dropped (run_of plan rule events) i → Started (run_of plan rule events) i
        → Ended (run_of plan rule events) i × (end_of (run_of plan rule events) i ≡ start_of (run_of plan rule events) i)
    dropped-at-once = told.dropped-at-once (run_of plan rule events) (sound-run.on-run plan rule size ok events).good

    -- and is one that waits for somebody
    pub dropped-waits :
        (i : ℕ) → i < (run_of plan rule events).tasks → Dropped (run_of plan rule events) i
        → (j : ℕ) × (j < (run_of plan rule events).tasks) × WaitsFor (run_of plan rule events) i j
    dropped-waits = told.dropped-waits (run_of plan rule events) (sound-run.on-run plan rule size ok events).good

-- of any sound book and an accepted report
module _ (book : Book) (size : Sized book) (sound : is_sound book ≡ true) where
  module _ (task tick : ℕ) (taken : (reported_of book task tick).answer.code ≡ 0) where
    -- the reported task has ended at the tick, which is the clock now
    pub report-ends :
        Ended (reported_of book task tick).book (task - 1)
        × (end_of (reported_of book task tick).book (task - 1) ≡ tick)
        × ((reported_of book task tick).book.clock ≡ tick)
    report-ends =
        told.report-ends
        book (record { sized = size; sound = sound }) task tick (told.code-of book task tick sound taken)

    -- and nobody else has ended by it, but dropped tasks that waited
    pub others-stay :
        (i : ℕ) → i < book.tasks → i ≢ task - 1 → (Dropped book i → Started book i)
        → (Ended (reported_of book task tick).book i ↔ Ended book i)
        × (end_of (reported_of book task tick).book i ≡ end_of book i)
    others-stay =
        told.others-stay
        book (record { sized = size; sound = sound }) task tick (told.code-of book task tick sound taken)

    -- a waiting task starts exactly when all it waits for have ended after it, at the later of its ready tick and the tick
    pub starts-exactly :
        (i : ℕ) → i < book.tasks → Waiting book i → StartsExactly tick (reported_of book task tick).book i
    starts-exactly =
        told.report-starts
        book (record { sized = size; sound = sound }) task tick (told.code-of book task tick sound taken)

    -- a started task keeps its start
    pub starts-stay :
        (i : ℕ) → i < book.tasks → Started book i
        → Started (reported_of book task tick).book i × (start_of (reported_of book task tick).book i ≡ start_of book i)
    starts-stay =
        told.report-keeps
        book (record { sized = size; sound = sound }) task tick (told.code-of book task tick sound taken)

  module _ (task : ℕ) (taken : (dropped_of book task).answer.code ≡ 0) where
    -- the task is dropped, no other by it, and clock, marks, starts and ends stay
    pub drop-marks : Dropped (dropped_of book task).book (task - 1)
    drop-marks = told.drop-marks book (record { sized = size; sound = sound }) task (told.drop-code-of book task sound taken)

    pub drop-others : (i : ℕ) → i ≢ task - 1 → at (dropped_of book task).book.dropped i ≡ at book.dropped i
    drop-others = told.drop-others book (record { sized = size; sound = sound }) task (told.drop-code-of book task sound taken)

    pub drop-rest :
        ((dropped_of book task).book.clock ≡ book.clock) × ((dropped_of book task).book.mark ≡ book.mark)
        × ((dropped_of book task).book.start ≡ book.start) × ((dropped_of book task).book.end ≡ book.end)
    drop-rest = told.drop-rest book (record { sized = size; sound = sound }) task (told.drop-code-of book task sound taken)

  -- M is the least of its terms
  pub figure-is-defined : figure_of book ≡ record { answer = granted; early = minimum_early (plan_view book) (book_view book) }
  figure-is-defined = figures.figure-is book sound

  pub figure-least : (i : ℕ) → i < book.tasks → (early : ℕ) → Term book i early → (figure_of book).early ≤ early
  figure-least = figures.least-term book (record { sized = size; sound = sound })

  pub figure-met :
      (k : ℕ) → k < book.tasks → (early : ℕ) → Term book k early
      → (i : ℕ) × (i < book.tasks) × Term book i (figure_of book).early
  figure-met = figures.one-term book (record { sized = size; sound = sound })

  -- and 0 where there is none
  pub figure-none : ((i : ℕ) → i < book.tasks → (early : ℕ) → Term book i early → ⊥) → (figure_of book).early ≡ 0
  figure-none = figures.no-term book (record { sized = size; sound = sound })

-- both round trips: an accepted text is written back byte for byte
pub text-back : (text : List ℕ) → (reading_of text).answer.code ≡ 0 → text_of (reading_of text).plan ≡ text
text-back = rounds.text-back

pub text-written :
    (text out : List ℕ) → (reading_of text).answer.code ≡ 0 → length text ≤ length out
    → take (length text) (buffer_after (reading_of text).plan out) ≡ text
text-written = rounds.text-written

-- a read plan is accepted
pub reading-accepted : (text : List ℕ) → (reading_of text).answer.code ≡ 0 → is_accepted (reading_of text).plan ≡ true
reading-accepted = rounds.reading-accepted

-- an accepted plan's text is never longer than 32,768 bytes
pub text-fits : (plan : Plan) → is_accepted plan ≡ true → length (text_of plan) ≤ 32768
text-fits = round-plan.text-length

-- an accepted plan, written where it fits, reads back as itself
pub plan-back :
    (plan : Plan) (out : List ℕ) → SizedPlan plan → is_accepted plan ≡ true → length (text_of plan) ≤ length out
    → reading_of (take (written_of plan (length out)).length (buffer_after plan out)) ≡ record { answer = granted; plan = plan }
plan-back = rounds.plan-back

-- A writer that succeeds changes only the bytes of the text
pub rest-stays :
    (plan : Plan) (out : List ℕ) → is_accepted plan ≡ true → length (text_of plan) ≤ length out
    → drop (length (text_of plan)) (buffer_after plan out) ≡ drop (length (text_of plan)) out
rest-stays = rounds.rest-stays
