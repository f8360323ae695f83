-- EDITION 1 UNMOVED. Where every ready tick is 0 the calls do what the rule without ready ticks does, whatever they are handed;
-- and a text that does not say edition 2 reads, and is refused, as before.
use Prim.Native.Nat.{ℕ, ◌≤◌, ◌<◌}
use mathlib.Core.Path.{◌≡◌}
use mathlib.Core.Logic.{◌≢◌}
use mathlib.Core.Bool.{true, false}
use mathlib.Core.List.{List}
use native.Mathlib.Omega.{arith}
use Rattle.laws.specs.Lists.{same}
use Rattle.text.specs.Bytes.{bytes}
use Rattle.text.specs.Line.{line_at, field}
use Rattle.theory.specs.Words.Events.{Event}
use Rattle.plan.specs.Value.{at, is_accepted}
use Rattle.plan.specs.Read.{edition_of, reading_of}
use Rattle.plan.specs.Write.{text_of}
use Rattle.plan.specs.declared.Plan.{Plan}
use Rattle.book.specs.View.{plan_in}
use Rattle.book.specs.Sound.{is_sound}
use Rattle.book.specs.Open.{opening_of}
use Rattle.book.specs.Report.{code_of, reported_of}
use Rattle.book.specs.Drop.{drop_code_of, dropped_of}
use Rattle.book.specs.Early.{figure_of}
use Rattle.book.specs.declared.Book.{Book}
use Rattle.book.specs.declared.Rule.{Rule}
use Rattle.log_run.specs.Log.{log_of}
use Rattle.promises.specs.Runs.{SizedPlan, run_of, Running, start_of}
use Rattle.promises.specs.Says.{codes_of}
use Rattle.promises.specs.Edition1.{NoReady, plain_opening, plain_is_sound, plain_report, plain_drop, plain_figure, plain_book_after, with_ready, seven_reading, seven_accepted, seven_text}
use Rattle.promises.specs.PlainLog.{plain_log}
use Rattle.promises.proofs.PlainLog as plain-log
use Rattle.promises.proofs.Unmoved as unmoved
use Rattle.promises.proofs.Codes.Seven as seven
use Rattle.promises.proofs.Codes.SevenValue as value
use Rattle.promises.proofs.Codes.Reading as read-codes

-- an accepted plan of edition 1 has ready ticks 0; so has a sound book, and the plan that a text of edition 1 reads as
pub plan-unready : (plan : Plan) → is_accepted plan ≡ true → plan.edition ≡ 1 → NoReady plan
plan-unready = unmoved.edition-unready

pub book-unready : (book : Book) → is_sound book ≡ true → book.edition ≡ 1 → NoReady (plan_in book)
book-unready = unmoved.book-unready

pub read-unready :
    (text : List ℕ) → (reading_of text).answer.code ≡ 0 → edition_of text ≡ 1
    → ((reading_of text).plan.edition ≡ 1) × NoReady (reading_of text).plan
read-unready text z one = (unmoved.read-edition text z one, unmoved.read-unready text z one)

-- a plan of edition 1 is accepted, and written, as before, whatever its holds
pub accepted-unmoved : (plan : Plan) → plan.edition ≡ 1 → is_accepted plan ≡ seven_accepted plan
accepted-unmoved = value.accepted-seven

pub text-unmoved : (plan : Plan) → plan.edition ≡ 1 → text_of plan ≡ seven_text plan
text-unmoved = value.text-seven

-- the opened book, or 9
pub opening-unmoved : (plan : Plan) (rule : Rule) → NoReady plan → opening_of plan rule ≡ plain_opening plan rule
opening-unmoved = unmoved.opening-unmoved

module _ (book : Book) (none : NoReady (plan_in book)) where
  -- which books are sound
  pub sound-unmoved : is_sound book ≡ plain_is_sound book
  sound-unmoved = unmoved.sound-unmoved book none

  -- the answer to a report or drop, and the book after it
  pub report-unmoved : (task tick : ℕ) → reported_of book task tick ≡ plain_report book task tick
  report-unmoved = unmoved.report-unmoved book none

  pub drop-unmoved : (task : ℕ) → dropped_of book task ≡ plain_drop book task
  drop-unmoved = unmoved.drop-unmoved book none

  -- M
  pub figure-unmoved : figure_of book ≡ plain_figure book
  figure-unmoved = unmoved.figure-unmoved book none

  -- nobody's start lies past the clock
  pub starts-by-clock : is_sound book ≡ true → (i : ℕ) → i < book.tasks → Running book i → start_of book i ≤ book.clock
  starts-by-clock = unmoved.starts-by-clock book none

-- the book after any reports and drops
pub run-unmoved :
    (plan : Plan) (rule : Rule) → SizedPlan plan → is_accepted plan ≡ true → NoReady plan → (events : List Event)
    → run_of plan rule events ≡ plain_book_after (plain_opening plan rule).book events
run-unmoved = unmoved.run-unmoved

-- the codes 10 to 15 and 19 look at no ready tick: they are the same over any others
pub report-code-unready :
    (book : Book) (ready : List ℕ) (task tick : ℕ) → code_of (with_ready book ready) task tick ≡ code_of book task tick
report-code-unready = unmoved.report-code-unready

pub drop-code-unready :
    (book : Book) (ready : List ℕ) (task : ℕ) → drop_code_of (with_ready book ready) task ≡ drop_code_of book task
drop-code-unready = unmoved.drop-code-unready

-- a text whose first line does not say edition 2 reads, and is refused, as the reader of seven fields has it
pub reading-unmoved :
    (text : List ℕ) → same (field (line_at text 0) 1) (bytes "2") ≡ false → reading_of text ≡ seven_reading text
reading-unmoved = seven.reading-seven

-- and so is its log, whatever ends.txt says
pub log-unmoved :
    (text ends : List ℕ) → same (field (line_at text 0) 1) (bytes "2") ≡ false → log_of text ends ≡ plain_log text ends
log-unmoved = plain-log.log-unmoved

-- no field of a line of edition 1 is refused by 18 or 20, and no text of it
pub no-field-18 : (text : List ℕ) → edition_of text ≡ 1 → (k n : ℕ) → at (codes_of false text k) n ≢ 18
no-field-18 text one k n = read-codes.no-field-over text one k n 18 (omega arith)

pub no-field-20 : (text : List ℕ) → edition_of text ≡ 1 → (k n : ℕ) → at (codes_of false text k) n ≢ 20
no-field-20 text one k n = read-codes.no-field-over text one k n 20 (omega arith)

pub no-text-18 : (text : List ℕ) → edition_of text ≡ 1 → (reading_of text).answer.code ≢ 18
no-text-18 = read-codes.no-text-18

pub no-text-20 : (text : List ℕ) → edition_of text ≡ 1 → (reading_of text).answer.code ≢ 20
no-text-20 = read-codes.no-text-20
