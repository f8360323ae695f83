-- Any list of reports and drops on a sound book is the theory's run on its view, where task k is the theory's k - 1.
use Prim.Native.Nat.{ℕ, ◌+◌}
use native.Mathlib.Omega.{arith}
use mathlib.Core.Bool.{true}
use mathlib.Core.List.Memᴰ
use mathlib.Core.List.{List, [], ◌∷◌, ◌++◌, map, Memᴰ}
use mathlib.Core.Path.{◌≡◌, refl, sym, ap, ◌∙◌}
use mathlib.Core.Logic.{◌≢◌, ⊎_elim}
use lib.Dec.{eqb}
use lib.Seq.{ext_get_or}
use borrow.Author.Tests.{eq-eqb, ne_eqb}
use Rattle.laws.proofs.Cases.{by-eq}
use Rattle.theory.specs.Book as theory-book
use Rattle.theory.specs.Words.Events.{Event}
use Rattle.theory.proofs.Facts.{event_code, run, accepted}
use Rattle.theory.proofs.Same.{same-book}
use Rattle.plan.specs.Answer.{granted, is_granted}
use Rattle.plan.specs.Value.{is_accepted}
use Rattle.plan.specs.declared.Plan.{Plan}
use Rattle.book.specs.View.{plan_in, plan_view, book_view}
use Rattle.book.specs.Sound.{is_sound}
use Rattle.book.specs.Open.{rule_number, opened_on, opening_of}
use Rattle.book.specs.Report.{code_of, report_answer, reported_of}
use Rattle.book.specs.Drop.{drop_code_of, drop_answer, dropped_of}
use Rattle.book.specs.Words.Event.{answer_to, book_told}
use Rattle.book.specs.declared.Book.{Book}
use Rattle.book.specs.declared.BookResult.{BookResult}
use Rattle.book.specs.declared.Rule.{Rule}
use Rattle.book_view.specs.View.{plan_for}
use Rattle.book_view.proofs.Accepted.{plan-lawful}
use Rattle.book.proofs.Sizes.{SizedPlan, Sized, sized-opened, plan-opened, rule-opened}
use Rattle.book.proofs.Soundness.{SoundFacts, is-sound-facts, opened-is-sound}
use Rattle.book.proofs.ReportLaws.{code-zero, drop-zero}
use Rattle.book.proofs.Reports.{code_in, theory_task, theory_event, code-seen-by, event-plan, event-rule, event-sized, event-sound, event-view}
use Rattle.promises.specs.Runs.{opened_book, book_after, accepted_of, SameEvents}

-- a sound book whose arrays have their lengths
pub record Good (book : Book) : Type 0 where
  pub sized : Sized book
  pub sound : is_sound book ≡ true

pub good-event : (book : Book) (event : Event) → Good book → Good (book_told book event)
good-event book event g = record {
  sized = event-sized book g.sound event g.sized;
  sound = event-sound book g.sound event;
}

-- a report or drop as the theory counts tasks is `theoryEvent`; and back
abbrev pub named : Event → Event
named (Event.ends task tick) = Event.ends (task + 1) tick
named (Event.drops task) = Event.drops (task + 1)

pub good-run : (book : Book) (es : List Event) → Good book → Good (book_after book es)
unfolding book_after
good-run book [] g = g
good-run book (e ∷ es) g = good-run (book_told book e) es (good-event book e g)

pub plan_run : (book : Book) (es : List Event) → Good book → plan_in (book_after book es) ≡ plan_in book
unfolding book_after
plan_run book [] g = refl
plan_run book (e ∷ es) g = plan_run (book_told book e) es (good-event book e g) ∙ event-plan book g.sound e

pub rule-run : (book : Book) (es : List Event) → Good book → (book_after book es).rule ≡ book.rule
unfolding book_after
rule-run book [] g = refl
rule-run book (e ∷ es) g = rule-run (book_told book e) es (good-event book e g) ∙ event-rule book g.sound e

pub view-run :
    (book : Book) (es : List Event) → Good book
    → book_view (book_after book es) ≡ run (plan_view book) (book_view book) (map (theory_event book.tasks) es)
unfolding book_after run
view-run book [] g = refl
view-run book (e ∷ es) g =
    let c = book_told book e in
    view-run c es (good-event book e g)
    ∙ (let p = event-plan book g.sound e in let r = event-rule book g.sound e in λ i. run (plan_for (r i) (p i)) (book_view c) (map (theory_event (p i).tasks) es))
    ∙ ap (λ (b : theory-book.Book). run (plan_view book) b (map (theory_event book.tasks) es))
    (event-view book g.sound e)

pub after-append : (book : Book) (es fs : List Event) → book_after book (es ++ fs) ≡ book_after (book_after book es) fs
unfolding book_after
after-append book [] fs = refl
after-append book (e ∷ es) fs = after-append (book_told book e) es fs

-- what a report or drop answers
module _ (book : Book) (h : is_sound book ≡ true) where
  pub answer-granted : (task tick : ℕ) → code_of book task tick ≡ 0 → (reported_of book task tick).answer ≡ granted
  unfolding reported_of report_answer
  answer-granted task tick z = rw (h, eq-eqb (code_of book task tick) 0 z)

  pub answer-code : (event : Event) → (answer_to book event).code ≡ code_in book event
  unfolding reported_of report_answer dropped_of drop_answer
  answer-code (Event.ends task tick) =
      by-eq (code_of book task tick) 0
      (λ z. rw (h, eq-eqb (code_of book task tick) 0 z) (sym z))
      (λ n. rw (h, ne_eqb (code_of book task tick) 0 n))
  answer-code (Event.drops task) =
      by-eq (drop_code_of book task) 0
      (λ z. rw (h, eq-eqb (drop_code_of book task) 0 z) (sym z))
      (λ n. rw (h, ne_eqb (drop_code_of book task) 0 n))

  granted-seen :
      (event : Event)
      → is_granted (answer_to book event) ≡ eqb (event_code (plan_view book) (book_view book) (theory_event book.tasks event)) 0
  granted-seen event = ap (λ (c : ℕ). eqb c 0) (answer-code event ∙ code-seen-by book event)

  named-seen : (event : Event) → code_in book event ≡ 0 → named (theory_event book.tasks event) ≡ event
  named-seen (Event.ends task tick) z =
      let n : task ≢ 0 = omega (arith, (code-zero book task tick z).0) in
      let e : theory_task book.tasks task + 1 ≡ task = rw (ne_eqb task 0 n) (omega arith) in
      ap (λ (x : ℕ). Event.ends x tick) e
  named-seen (Event.drops task) z =
      let n : task ≢ 0 = omega (arith, (drop-zero book task z).0) in
      let e : theory_task book.tasks task + 1 ≡ task = rw (ne_eqb task 0 n) (omega arith) in
      ap (λ (x : ℕ). Event.drops x) e

one_seen : (tasks : ℕ) (event : Event) → theory_event tasks (named event) ≡ event
one_seen tasks (Event.ends task tick) =
    let e : theory_task tasks (task + 1) ≡ task = rw (ne_eqb (task + 1) 0 (omega arith)) (omega arith) in
    ap (λ (x : ℕ). Event.ends x tick) e
one_seen tasks (Event.drops task) =
    let e : theory_task tasks (task + 1) ≡ task = rw (ne_eqb (task + 1) 0 (omega arith)) (omega arith) in
    ap (λ (x : ℕ). Event.drops x) e

pub seen-named : (tasks : ℕ) (es : List Event) → map (theory_event tasks) (map named es) ≡ es
seen-named tasks [] = refl
seen-named tasks (e ∷ es) = λ i. one_seen tasks e i ∷ seen-named tasks es i

-- the accepted ones are those that the theory accepts
pub accepted-seen :
    (book : Book) (es : List Event) → Good book
    → accepted_of book es ≡ map named (accepted (plan_view book) (book_view book) (map (theory_event book.tasks) es))
unfolding accepted_of accepted
accepted-seen book [] g = refl
accepted-seen book (e ∷ es) g =
    let c = book_told book e in
    let later =
    accepted-seen c es (good-event book e g)
    ∙ (let p = event-plan book g.sound e in let r = event-rule book g.sound e in λ i. map named (accepted (plan_for (r i) (p i)) (book_view c) (map (theory_event (p i).tasks) es)))
    ∙ ap (λ (b : theory-book.Book). map named (accepted (plan_view book) b (map (theory_event book.tasks) es)))
    (event-view book g.sound e) in
    by-eq (code_in book e) 0
    (λ z.
    let code = sym (code-seen-by book e) ∙ z in
    rw (granted-seen book g.sound e, eq-eqb _ 0 code) (λ i. sym (named-seen book g.sound e z) i ∷ later i))
    (λ n.
    let code : event_code (plan_view book) (book_view book) (theory_event book.tasks e) ≢ 0 =
    λ z. n (code-seen-by book e ∙ z) in
    rw (granted-seen book g.sound e, ne_eqb _ 0 code) later)

-- a book is its plan, its rule and what is seen of it
pub book-path :
    (book other : Book) → Sized book → Sized other → plan_in book ≡ plan_in other → book.rule ≡ other.rule
    → book_view book ≡ book_view other → book ≡ other
book-path book other s t p r v =
    λ i. record {
      edition = (p i).edition;
      boards = (p i).boards;
      tasks = (p i).tasks;
      rule = r i;
      clock = (v i).clock;
      board = (p i).board;
      ready = (p i).ready;
      begin = (p i).begin;
      finish = (p i).finish;
      start = starts i;
      end = ends i;
      mark = marks i;
      dropped = drops i;
      holds = (p i).holds;
      after = (p i).after;
    }
  where
    starts : book.start ≡ other.start
    starts = ext_get_or 0 book.start other.start (s.start ∙ sym t.start) (λ j l. ap (λ (b : theory-book.Book). b.start j) v)

    ends : book.end ≡ other.end
    ends = ext_get_or 0 book.end other.end (s.end ∙ sym t.end) (λ j l. ap (λ (b : theory-book.Book). b.end j) v)

    marks : book.mark ≡ other.mark
    marks = ext_get_or 0 book.mark other.mark (s.mark ∙ sym t.mark) (λ j l. ap (λ (b : theory-book.Book). b.mark j) v)

    drops : book.dropped ≡ other.dropped
    drops = ext_get_or 0 book.dropped other.dropped (s.dropped ∙ sym t.dropped) (λ j l. ap (λ (b : theory-book.Book). b.dropped j) v)

-- membership of named events
mem-named : {e : Event} {l : List Event} → Memᴰ e l → Memᴰ (named e) (map named l)
mem-named (Memᴰ.head q) = Memᴰ.head (ap named q)
mem-named (Memᴰ.tail m) = Memᴰ.tail (mem-named m)

named_back : {e f : Event} → named e ≡ named f → e ≡ f
named_back {e} {f} q = sym (one_seen 0 e) ∙ ap (theory_event 0) q ∙ one_seen 0 f

pub mem-back : {e : Event} (l : List Event) → Memᴰ (named e) (map named l) → Memᴰ e l
mem-back [] m = absurd (Memᴰ.not-nil m)
mem-back (x ∷ l) m =
    ⊎_elim (λ q. Memᴰ.head (named_back q)) (λ t. Memᴰ.tail (mem-back l t)) (Memᴰ.cases_cons m)

-- the same accepted reports and drops leave the same book
pub same_after :
    (book : Book) (es fs : List Event) → Good book → SameEvents (accepted_of book es) (accepted_of book fs)
    → book_after book es ≡ book_after book fs
same_after book es fs g same =
    book-path (book_after book es) (book_after book fs) (good-run book es g).sized (good-run book fs g).sized
    (plan_run book es g ∙ sym (plan_run book fs g)) (rule-run book es g ∙ sym (rule-run book fs g))
    (view-run book es g
    ∙ same-book (plan_view book) (book_view book) (plan-lawful (plan_in book) facts.accepted book.rule) facts.sound
    (map (theory_event book.tasks) es) (map (theory_event book.tasks) fs)
    (λ e. (one es fs (λ x. (same x).0) e, one fs es (λ x. (same x).1) e))
    ∙ sym (view-run book fs g))
  where
    facts : SoundFacts book
    facts = (is-sound-facts book).0 g.sound

    one :
        (xs ys : List Event) → ((x : Event) → Memᴰ x (accepted_of book xs) → Memᴰ x (accepted_of book ys))
        → (e : Event) → Memᴰ e (accepted (plan_view book) (book_view book) (map (theory_event book.tasks) xs))
        → Memᴰ e (accepted (plan_view book) (book_view book) (map (theory_event book.tasks) ys))
    one xs ys f e m =
        mem-back _ (rw (accepted-seen book ys g) at (f (named e) (rw (accepted-seen book xs g) (mem-named m))))

-- the book opened on an accepted plan by a rule
module _ (plan : Plan) (rule : Rule) (ok : is_accepted plan ≡ true) where
  pub opening-is : opening_of plan rule ≡ record { answer = granted; book = opened_on plan rule }
  unfolding opening_of
  opening-is = rw ok

  pub opened-is : opened_book plan rule ≡ opened_on plan rule
  opened-is = ap (λ (x : BookResult). x.book) opening-is

  pub opened-plan : plan_in (opened_book plan rule) ≡ plan
  opened-plan = ap (λ (b : Book). plan_in b) opened-is ∙ plan-opened plan rule

  pub opened-rule : (opened_book plan rule).rule ≡ rule_number rule
  opened-rule = ap (λ (b : Book). b.rule) opened-is ∙ rule-opened plan rule

  pub opened-good : SizedPlan plan → Good (opened_book plan rule)
  opened-good s = rw opened-is (record { sized = sized-opened plan rule s; sound = opened-is-sound plan rule ok })
