-- Document 01's further claims, and that no second answer meets a contract.
use Prim.Native.Nat.{ℕ, ◌+◌, ◌≤◌, ◌<◌}
use mathlib.Core.Path.{◌≡◌, sym, ◌∙◌}
use mathlib.Core.Logic.{◌↔◌}
use mathlib.Core.Bool.{true}
use mathlib.Core.List.{List}
use lib.ListN.{length}
use lib.Seq.{sets}
use Rattle.theory.specs.Words.Events.{Event}
use Rattle.text.specs.Put.{Put}
use Rattle.plan.specs.Answer.{granted}
use Rattle.plan.specs.Value.{at, is_accepted}
use Rattle.plan.specs.Write.{written_of, buffer_after}
use Rattle.plan.specs.declared.Plan.{Plan}
use Rattle.plan.specs.declared.WriteResult.{WriteResult}
use Rattle.book.specs.Sound.{is_sound}
use Rattle.book.specs.Report.{reported_of}
use Rattle.book.specs.declared.Book.{Book}
use Rattle.book.specs.declared.Rule.{Rule}
use Rattle.log_write.specs.Lines.{Lined}
use Rattle.promises.specs.Runs.{SizedPlan, Sized, accepted_of, Running, Ended, limit_of, run_of, AllInRange, Progress, Finishes, Reached}
use Rattle.promises.proofs.InRange as in_range
use Rattle.promises.proofs.Judged as judged
use Rattle.promises.proofs.SoundBook as sound-book
use Rattle.promises.proofs.SoundRun as sound-run

-- by Early Start the tasks of one board that i waits for are a first run: with j it waits for every k of j's board that is planned
-- before j
pub first_run :
    (plan : Plan) → is_accepted plan ≡ true → (i j k : ℕ) → j < plan.tasks → k < plan.tasks
    → at plan.board k ≡ at plan.board j → at plan.begin k < at plan.begin j
    → at plan.finish j ≤ at plan.begin i → at plan.finish k ≤ at plan.begin i
first_run = judged.first_run

-- The sound books are exactly the books that an accepted plan, a rule and accepted reports and drops give
pub sound-is-reached : (book : Book) → Sized book → (is_sound book ≡ true) ↔ Reached book
sound-is-reached book size =
    (λ h. sound-run.sound-reached book (record { sized = size; sound = h }), sound-run.reached-sound book)

module _ (book : Book) (size : Sized book) (sound : is_sound book ≡ true) where
  -- the running task of least limit is accepted at its limit
  pub least-limit-accepted :
      (k : ℕ) → k < book.tasks → Running book k
      → ((j : ℕ) → j < book.tasks → Running book j → limit_of book k ≤ limit_of book j)
      → (reported_of book (k + 1) (limit_of book k)).answer ≡ granted
  least-limit-accepted = sound-book.least-accepted book (record { sized = size; sound = sound })

  -- From a sound book with an unended task there is such a one, so some report is accepted
  pub some-report-accepted : (i : ℕ) → i < book.tasks → (Ended book i → ⊥) → Progress book
  some-report-accepted = sound-book.progress-of book (record { sized = size; sound = sound })

  -- So every run can be brought to its end
  pub can-be-finished : Finishes book
  can-be-finished = sound-book.finishes book (record { sized = size; sound = sound })

pub every-run-finishes :
    (plan : Plan) (rule : Rule) → SizedPlan plan → is_accepted plan ≡ true → (events : List Event) → Finishes (run_of plan rule events)
every-run-finishes plan rule size ok events = sound-book.finishes (run_of plan rule events) (sound-run.on-run plan rule size ok events).good

-- what is accepted on a sound book can be handed to the functions: tasks up to 64, ticks up to 1,000,000
pub accepted-in-range :
    (book : Book) (events : List Event) → Sized book → is_sound book ≡ true → AllInRange (accepted_of book events)
accepted-in-range book events size sound = in_range.accepted-in-range book events (record { sized = size; sound = sound })

-- No second answer meets a contract. Most say `r ≡ definition arguments`, or of a part that is handed back `now r ≡ ..`:
-- docs/PROMISES.md lists them
pub one_answer : {A : Type 0} (defined r q : A) → r ≡ defined → q ≡ defined → r ≡ q
one_answer defined r q e d = e ∙ sym d

-- `put_byte`, `put_text`, `put_number`, with their bytes
pub one-put :
    (out : List ℕ) (at : ℕ) (text written other : List ℕ) (r q : ℕ) → Put out at text written r → Put out at text other q
    → (r ≡ q) × (written ≡ other)
one-put out at text written other r q e d = (one_answer _ r q e.place d.place, one_answer _ written other e.bytes d.bytes)

-- the lines of a log, with their bytes
pub one_line :
    (out : List ℕ) (from : ℕ) (line : List ℕ) (most : ℕ) (written other : List ℕ) (r q : ℕ)
    → Lined out from line most written r → Lined out from line most other q → (r ≡ q) × (written ≡ other)
one_line out from line most written other r q e d =
    (one_answer _ r q e.place d.place, one_answer _ written other e.bytes d.bytes)

-- `write_plan`, with its bytes
pub one-writing :
    (plan : Plan) (out written other : List ℕ) (r q : WriteResult) → r ≡ written_of plan (length out) → written ≡ buffer_after plan out
    → q ≡ written_of plan (length out) → other ≡ buffer_after plan out → (r ≡ q) × (written ≡ other)
one-writing plan out written other r q e b d c = (one_answer _ r q e d, one_answer _ written other b c)

-- `run_log` and `convert_text`, with their bytes: the text is `logIn`'s, or `renewedIn`'s
pub one-text :
    (text out written other : List ℕ) (r q : ℕ) → r ≡ length text → written ≡ sets out 0 text → q ≡ length text → other ≡ sets out 0 text
    → (r ≡ q) × (written ≡ other)
one-text text out written other r q e b d c = (one_answer _ r q e d, one_answer _ written other b c)
