-- What holds of every book that reports and drops leave on one plan, and that sound books are these.
use Prim.Native.Nat.{ℕ, zero, suc, ◌≤◌, ◌<◌}
use native.Mathlib.Omega.{arith}
use mathlib.Core.Bool.{true}
use mathlib.Core.List.{List, ◌++◌, map}
use mathlib.Core.Path.{◌≡◌, refl, sym, ap, subst, ◌∙◌}
use mathlib.Core.Logic.{◌≢◌, ◌↔◌, ◌⊎◌, inl, inr, ⊎_elim}
use borrow.Author.Tests.{leb-true}
use Rattle.theory.specs.Plan as theory-plan
use Rattle.theory.specs.Book as theory-book
use Rattle.theory.specs.Report as theory-report
use Rattle.theory.specs.Words.Events.{Event}
use Rattle.theory.proofs.Facts.{Lawful, Sound, run, accepted}
use Rattle.theory.specs.Figure.{minimum_early}
use Rattle.theory.proofs.Order as order
use Rattle.theory.proofs.Kept as kept
use Rattle.theory.proofs.Past.{SamePast, past-opened}
use Rattle.theory.proofs.Reach.{opened-none, reachable}
use Rattle.plan.specs.Pairs.{clash}
use Rattle.plan.specs.Value.{at, task_at, is_accepted}
use Rattle.plan.specs.declared.Plan.{Plan}
use Rattle.book.specs.View.{plan_in, plan_view, book_view}
use Rattle.book.specs.Sound.{is_sound}
use Rattle.book.specs.Early.{figure_of}
use Rattle.book.specs.Open.{rule_number}
use Rattle.book.specs.declared.Book.{Book}
use Rattle.book.specs.declared.Rule.{Rule}
use Rattle.book.specs.declared.Rule.TheVariants.{EarlyStart, Clash}
use Rattle.book_view.specs.View.{is_rule, plan_for}
use Rattle.book_view.proofs.Accepted.{plan-facts, plan-lawful, clash-waits}
use Rattle.book.specs.Words.Sized.{SizedPlan}
use Rattle.book.proofs.Views.{view-opened}
use Rattle.book.proofs.Reports.{theory_event}
use Rattle.promises.specs.Runs.{opened_book, book_after, Running, Ended, Started, Dropped, start_of, NotBegun, WaitsFor, InOrder, Live, EarlyBy, run_of, AllInRange, Reached}
use Rattle.promises.proofs.InRange.{accepted-in-range}
use Rattle.promises.proofs.RunView.{Good, named, good-run, plan_run, rule-run, view-run, after-append, book-path, opened-is, opened-plan, opened-rule, opened-good}
use Rattle.promises.proofs.SoundBook.{view-named, accepted-named, due-none, facts, lawful, start-due, started-free}

-- a book on an accepted plan after any reports and drops
pub record OnPlan (plan : Plan) (rule : Rule) (book : Book) : Type 0 where
  pub good : Good book
  pub same : plan_in book ≡ plan
  pub by : book.rule ≡ rule_number rule

module _ (plan : Plan) (rule : Rule) (size : SizedPlan plan) (ok : is_accepted plan ≡ true) where
  abbrev pub seen-plan : theory-plan.Plan
  seen-plan = plan_for (rule_number rule) plan

  pub on-run : (reports : List Event) → OnPlan plan rule (run_of plan rule reports)
  on-run reports =
      let g = opened-good plan rule ok size in
      record { good = good-run _ reports g; same = plan_run _ reports g ∙ opened-plan plan rule ok; by = rule-run _ reports g ∙ opened-rule plan rule ok }

  pub law : Lawful seen-plan
  law = plan-lawful plan ok (rule_number rule)

  module _ (book : Book) (on : OnPlan plan rule book) where
    view-is : plan_view book ≡ seen-plan
    view-is = λ i. plan_for (on.by i) (on.same i)

    pub sound-on : Sound seen-plan (book_view book)
    sound-on = subst (λ (p : theory-plan.Plan). Sound p (book_view book)) view-is (facts book on.good).sound

    in_order : (a b : ℕ) → a < plan.tasks → b < plan.tasks → seen-plan.waits b a ≡ true → InOrder plan book a b
    in_order a b la lb w = record {
      planned = law.before b a lb la w;
      over = λ n. (order.in_order seen-plan (book_view book) sound-on b a lb la w n).0;
      after = λ n. (order.in_order seen-plan (book_view book) sound-on b a lb la w n).1;
    }

    pub clash-order :
        (a b : ℕ) → a < plan.tasks → b < plan.tasks → a ≢ b → clash (task_at plan) a b ≡ true
        → InOrder plan book a b ⊎ InOrder plan book b a
    clash-order a b la lb n h =
        ⊎_elim (λ w. inr (in_order b a lb la w)) (λ w. inl (in_order a b la lb w)) (clash-waits plan ok (rule_number rule) a b la lb n h)

    pub never_both :
        (a b : ℕ) → a < plan.tasks → b < plan.tasks → a ≢ b → clash (task_at plan) a b ≡ true → Running book a → Running book b
        → ⊥
    never_both a b la lb n h ra rb =
        ⊎_elim (λ o. let e = o.over (omega arith) in omega arith) (λ o. let e = o.over (omega arith) in omega arith)
        (clash-order a b la lb n h)

    -- so at no tick are both live
    pub one-live :
        (tick a b : ℕ) → a < plan.tasks → b < plan.tasks → a ≢ b → clash (task_at plan) a b ≡ true → Live book tick a → Live book tick b
        → ⊥
    one-live tick a b la lb n h x y =
        ⊎_elim (λ o. apart a b x y o) (λ o. apart b a y x o) (clash-order a b la lb n h)
      where
        apart : (a b : ℕ) → Live book tick a → Live book tick b → InOrder plan book a b → ⊥
        apart a b x y o = let t = x.to (o.over y.started) in let e = o.after y.started in omega (arith, y.from)

    pub not_late : (i : ℕ) → i < plan.tasks → Started book i → start_of book i ≤ at plan.begin i
    not_late = order.never-late seen-plan (book_view book) sound-on law

    -- nobody starts before its ready tick unless dropped
    pub not-unready : (i : ℕ) → i < plan.tasks → Started book i → (Dropped book i → ⊥) → at plan.ready i ≤ start_of book i
    not-unready = order.never-unready seen-plan (book_view book) sound-on

    pub figure-is : (figure_of book).early ≡ minimum_early seen-plan (book_view book)
    unfolding figure_of
    figure-is =
        let e : (figure_of book).early ≡ minimum_early (plan_view book) (book_view book) = rw on.good.sound in
        e ∙ ap (λ (p : theory-plan.Plan). minimum_early p (book_view book)) view-is

    pub later-is :
        (later : List Event)
        → book_view (book_after book later) ≡ run seen-plan (book_view book) (map (theory_event plan.tasks) later)
    later-is later =
        view-run book later on.good
        ∙ ap (λ (p : theory-plan.Plan). run p (book_view book) (map (theory_event p.tasks) later)) view-is

    abbrev later_seen : List Event → theory-book.Book
    later_seen later = run seen-plan (book_view book) (map (theory_event plan.tasks) later)

    early-said :
        (later : List Event) (i : ℕ)
        → kept.EarlyBy seen-plan (minimum_early seen-plan (book_view book)) (later_seen later) i
        → EarlyBy plan (figure_of book).early (book_after book later) i
    early-said later i f =
        let m = ap (λ (b : theory-book.Book). b.mark i) (later-is later) in
        let s = ap (λ (b : theory-book.Book). b.start i) (later-is later) in
        let e = ap (λ (b : theory-book.Book). b.end i) (later-is later) in
        let early = figure-is in
        record {
          starts = λ h. let q = f.starts (λ x. h (m ∙ x)) in omega arith;
          ends = λ h. let q = f.ends (sym m ∙ h) in omega arith;
        }

    pub early-kept :
        (later : List Event) (i : ℕ) → i < plan.tasks → (Ended book i → ⊥)
        → EarlyBy plan (figure_of book).early (book_after book later) i
    early-kept later i l n =
        early-said later i (kept.figure-kept seen-plan law (book_view book) sound-on (map (theory_event plan.tasks) later) i l n)

    -- a start that is not known or lies past the clock
    pub unbegun-kept :
        (later : List Event) (i : ℕ) → i < plan.tasks → NotBegun book i
        → EarlyBy plan (figure_of book).early (book_after book later) i
    unbegun-kept later i l n =
        early-said later i (kept.begins-early seen-plan law (book_view book) sound-on (map (theory_event plan.tasks) later) i l n)

pub kept_run :
    (plan : Plan) (rule : Rule) → SizedPlan plan → is_accepted plan ≡ true → (reports later : List Event) (i : ℕ) → i < plan.tasks
    → (Ended (run_of plan rule reports) i → ⊥) → EarlyBy plan (figure_of (run_of plan rule reports)).early (run_of plan rule (reports ++ later)) i
kept_run plan rule size ok reports later i l n =
    rw (after-append (opened_book plan rule) reports later)
    (early-kept plan rule size ok (run_of plan rule reports) (on-run plan rule size ok reports) later i l n)

pub kept-unbegun :
    (plan : Plan) (rule : Rule) → SizedPlan plan → is_accepted plan ≡ true → (reports later : List Event) (i : ℕ) → i < plan.tasks
    → NotBegun (run_of plan rule reports) i → EarlyBy plan (figure_of (run_of plan rule reports)).early (run_of plan rule (reports ++ later)) i
kept-unbegun plan rule size ok reports later i l n =
    rw (after-append (opened_book plan rule) reports later)
    (unbegun-kept plan rule size ok (run_of plan rule reports) (on-run plan rule size ok reports) later i l n)

-- opening
module _ (plan : Plan) (rule : Rule) (size : SizedPlan plan) (ok : is_accepted plan ≡ true) where
  opened_view : book_view (opened_book plan rule) ≡ theory-report.opened (plan_for (rule_number rule) plan)
  opened_view = ap (λ (b : Book). book_view b) (opened-is plan rule ok) ∙ view-opened plan rule (plan-facts plan ok).tasks-to

  pub nobody-ended : (j : ℕ) → j < (opened_book plan rule).tasks → Ended (opened_book plan rule) j → ⊥
  nobody-ended j l h =
      let t : (opened_book plan rule).tasks ≡ plan.tasks = ap (λ (p : Plan). p.tasks) (opened-plan plan rule ok) in
      opened-none (plan_for (rule_number rule) plan) j (omega arith) (sym (ap (λ (b : theory-book.Book). b.mark j) opened_view) ∙ h)

  -- and nobody is dropped
  pub undropped : (i : ℕ) → Dropped (opened_book plan rule) i → ⊥
  unfolding theory-report.opened
  undropped i d = let z : at (opened_book plan rule).dropped i ≡ 0 = ap (λ (b : theory-book.Book). b.dropped i) opened_view in omega arith

  pub clock-zero : (opened_book plan rule).clock ≡ 0
  unfolding theory-report.opened
  clock-zero = ap (λ (b : theory-book.Book). b.clock) opened_view

  pub opened-starts :
      (i : ℕ) → i < (opened_book plan rule).tasks
      → (Started (opened_book plan rule) i ↔ ((j : ℕ) → j < (opened_book plan rule).tasks → WaitsFor (opened_book plan rule) i j → ⊥))
      × (Started (opened_book plan rule) i → start_of (opened_book plan rule) i ≡ at plan.ready i)
  opened-starts i l =
      let g = opened-good plan rule ok size in
      let f = started-free (opened_book plan rule) g i l in
      let none : Started (opened_book plan rule) i → (j : ℕ) → j < (opened_book plan rule).tasks → WaitsFor (opened_book plan rule) i j → ⊥ =
      λ n j lj w. nobody-ended j lj (f.0 n j lj w) in
      let ready = ap (λ (p : Plan). at p.ready i) (opened-plan plan rule ok) in (
        (none, λ h. f.1 (λ j lj w. absurd (h j lj w))),
        λ n.
            let d = due-none (opened_book plan rule) i (none n) in
            let s = start-due (opened_book plan rule) g i l n (undropped i) in
            omega arith,
      )

-- what is seen of the opened book is the theory's
module _ (plan : Plan) (rule : Rule) (size : SizedPlan plan) (ok : is_accepted plan ≡ true) where
  opened-seen : book_view (opened_book plan rule) ≡ theory-report.opened (plan_for (rule_number rule) plan)
  opened-seen = ap (λ (b : Book). book_view b) (opened-is plan rule ok) ∙ view-opened plan rule (plan-facts plan ok).tasks-to

  module _ (rs : List Event) where
    seen-run : run (plan_view (opened_book plan rule)) (book_view (opened_book plan rule)) rs ≡ run (plan_for (rule_number rule) plan) (theory-report.opened (plan_for (rule_number rule) plan)) rs
    seen-run =
        (λ i. run (plan_for (opened-rule plan rule ok i) (opened-plan plan rule ok i)) (book_view (opened_book plan rule)) rs)
        ∙ ap (λ (b : theory-book.Book). run (plan_for (rule_number rule) plan) b rs) opened-seen

    seen-accepted :
        accepted (plan_for (rule_number rule) plan) (theory-report.opened (plan_for (rule_number rule) plan)) rs ≡ rs
        → accepted (plan_view (opened_book plan rule)) (book_view (opened_book plan rule)) rs ≡ rs
    seen-accepted e =
        (λ i. accepted (plan_for (opened-rule plan rule ok i) (opened-plan plan rule ok i)) (book_view (opened_book plan rule)) rs)
        ∙ ap (λ (b : theory-book.Book). accepted (plan_for (rule_number rule) plan) b rs) opened-seen
        ∙ e

-- places past the tasks hold nothing, as in the opened book
past : (book : Book) → Good book → SamePast (plan_view book) (theory-report.opened (plan_view book)) (book_view book)
past book g =
    let o = past-opened (plan_view book) in
    let p = (facts book g).past in
    record {
      marks = λ i l. o.marks i l ∙ sym (p.mark i l);
      starts = λ i l. o.starts i l ∙ sym (p.start i l);
      ends = λ i l. o.ends i l ∙ sym (p.end i l);
      drops = λ i l. o.drops i l ∙ sym (p.dropped i l);
    }

-- a rule's number is a rule
numbered : (n : ℕ) → is_rule n ≡ true → (rule : Rule) × (rule_number rule ≡ n)
numbered zero h = (EarlyStart, refl)
numbered (suc zero) h = (Clash, refl)
numbered (suc (suc n)) h = absurd (omega (arith, leb-true (suc (suc n)) 1 h))

-- the sound books are those that are reached
module _ (book : Book) where
  pub reached-sound : Reached book → is_sound book ≡ true
  reached-sound r = rw (← r.leads) (good-run _ r.events (opened-good r.plan r.rule r.accepted r.sized)).sound

  pub sound-reached : Good book → Reached book
  sound-reached g =
      let plan = plan_in book in
      let known = numbered book.rule (facts book g).rule in
      let rule = known.0 in
      let ok = (facts book g).accepted in
      let size = g.sized.plan in
      let o = opened-good plan rule ok size in
      let way = (reachable (plan_view book) (lawful book g) (book_view book)).0 ((facts book g).sound, past book g) in
      let rs = way.events in
      let own : plan_for (rule_number rule) plan ≡ plan_view book = ap (λ (n : ℕ). plan_for n plan) known.1 in
      let taken = subst (λ (p : theory-plan.Plan). accepted p (theory-report.opened p) rs ≡ rs) (sym own) way.each_accepted in
      let led = subst (λ (p : theory-plan.Plan). run p (theory-report.opened p) rs ≡ book_view book) (sym own) way.leads in
      let each = accepted-named (opened_book plan rule) o rs (seen-accepted plan rule size ok rs taken) in
      record {
        plan = plan;
        rule = rule;
        sized = size;
        accepted = ok;
        events = map named rs;
        each_accepted = each;
        in_range = subst AllInRange each (accepted-in-range (opened_book plan rule) (map named rs) o);
        leads =
            book-path (run_of plan rule (map named rs)) book (good-run _ (map named rs) o).sized g.sized
            (plan_run _ (map named rs) o ∙ opened-plan plan rule ok)
            (rule-run _ (map named rs) o ∙ opened-rule plan rule ok ∙ known.1)
            (view-named (opened_book plan rule) o rs ∙ seen-run plan rule size ok rs ∙ led);
      }
