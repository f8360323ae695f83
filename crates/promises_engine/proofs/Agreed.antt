-- The engine and the dispatcher agree, both ways round.
use Prim.Native.Nat.{ℕ, ◌+◌, ◌≤◌, ◌<◌}
use mathlib.Core.Path.{◌≡◌, sym, ap, subst, ◌∙◌}
use mathlib.Core.Logic.{◌≢◌}
use mathlib.Core.Bool.{true}
use mathlib.Core.List.{List, ◌++◌, map}
use borrow.Author.Tests.{eq-eqb, ne_eqb}
use Rattle.laws.proofs.Cases.{by-eq}
use Rattle.theory.specs.Plan as theory-plan
use Rattle.theory.specs.Book as theory-book
use Rattle.theory.specs.Report as theory-report
use Rattle.theory.specs.Words.Events.{Event}
use Rattle.theory.proofs.Facts.{Lawful, Sound, run, accepted}
use Rattle.theory.specs.Times.{start_time, end_time}
use Rattle.theory.proofs.Fits.{Fits}
use Rattle.theory.specs.Words.Orders.{Order}
use Rattle.theory.proofs.TimesAlike.{start-time-given, end-time-given}
use Rattle.theory.proofs.Fed.{Taken, fed}
use Rattle.theory.proofs.Finished.{lasted, finished-lines, finished-fits}
use Rattle.theory.proofs.Solved.{only-starts, only-ends}
use Rattle.theory.proofs.Target.{target}
use Rattle.theory.proofs.Refused.{none-bad, none-idle}
use Rattle.engine.proofs.LengthLaws.{lengths_none}
use Rattle.plan.specs.Answer.{granted}
use Rattle.plan.specs.Value.{at, is_accepted}
use Rattle.plan.specs.declared.Plan.{Plan}
use Rattle.book_view.specs.View.{plan_for, laid}
use Rattle.book_view.proofs.Accepted.{plan-facts, plan-lawful}
use Rattle.book_view.proofs.Laid.{laid-is}
use Rattle.book.specs.View.{plan_in, book_view}
use Rattle.book.specs.Open.{rule_number}
use Rattle.book.specs.declared.Book.{Book}
use Rattle.book.specs.declared.Rule.{Rule}
use Rattle.book.specs.Words.Sized.{SizedPlan}
use Rattle.book.proofs.Soundness.{SoundFacts, is-sound-facts}
use Rattle.book.proofs.Views.{view-opened}
use Rattle.engine.specs.Timetable.{timetable_answer, timetable_of}
use Rattle.engine.specs.declared.Lengths.{Lengths}
use Rattle.promises.specs.Runs.{opened_book, accepted_of, Ended, run_of}
use Rattle.promises.proofs.RunView.{Good, named, opened-is, opened-plan, opened-rule, opened-good}
use Rattle.promises.proofs.SoundBook.{view-named, accepted-named}
use Rattle.promises_engine.specs.Says.{AsTold, OwnLengths}
use Rattle.promises_engine.proofs.Said.{Given, given-of}
use Rattle.promises_engine.proofs.Orders.{told-order, told_back}

-- an order by ends that are the same
order_same :
    (tasks : ℕ) (name dropped end other : ℕ → ℕ) (drops ends : List Event) → ((i : ℕ) → i < tasks → end i ≡ other i)
    → Order tasks name dropped end drops ends → Order tasks name dropped other drops ends
order_same tasks name dropped end other drops ends same order = record {
  the_drops = order.the_drops;
  drops_once = order.drops_once;
  the_ends = λ e. (
    λ m.
        let r = (order.the_ends e).0 m in
        (r.0, r.1, r.2, r.3 ∙ ap (λ (t : ℕ). Event.ends (name r.0) t) (same r.0 r.1)),
    λ r.
        (order.the_ends e).1
        (r.0, r.1, r.2, r.3 ∙ ap (λ (t : ℕ). Event.ends (name r.0) t) (sym (same r.0 r.1))),
  );
  ends_once = order.ends_once;
  in_time = order.in_time;
}

module _ (plan : Plan) (rule : Rule) (size : SizedPlan plan) (ok : is_accepted plan ≡ true) (rs : List Event) where
  abbrev seen : theory-plan.Plan
  seen = plan_for (rule_number rule) plan

  opened-seen : book_view (opened_book plan rule) ≡ theory-report.opened seen
  opened-seen = ap (λ (b : Book). book_view b) (opened-is plan rule ok) ∙ view-opened plan rule (plan-facts plan ok).tasks-to

  run-seen : book_view (run_of plan rule (map named rs)) ≡ run seen (theory-report.opened seen) rs
  run-seen =
      view-named (opened_book plan rule) (opened-good plan rule ok size) rs
      ∙ (λ i. run (plan_for (opened-rule plan rule ok i) (opened-plan plan rule ok i)) (opened-seen i) rs)

  all-accepted :
      accepted seen (theory-report.opened seen) rs ≡ rs → accepted_of (opened_book plan rule) (map named rs) ≡ map named rs
  all-accepted e =
      accepted-named (opened_book plan rule) (opened-good plan rule ok size) rs
      ((λ i. accepted (plan_for (opened-rule plan rule ok i) (opened-plan plan rule ok i)) (opened-seen i) rs) ∙ e)

module _ (plan : Plan) (rule : Rule) (given : Lengths) (size : SizedPlan plan) (g : (timetable_of plan rule given).answer ≡ granted)
    (drops ends : List Event)
    (order : Order plan.tasks (λ i. i + 1) (at given.dropped) (at (timetable_of plan rule given).end) drops ends) where
  table : Given plan rule given
  table = given-of plan rule given g

  abbrev rule-seen : theory-plan.Plan
  rule-seen = plan_for (rule_number rule) plan

  abbrev rs : List Event
  rs = map (Rattle.book.proofs.Reports.theory_event plan.tasks) drops ++ map (Rattle.book.proofs.Reports.theory_event plan.tasks) ends

  taken : Taken rule-seen (target rule-seen (at given.length) (at given.dropped)) (theory-report.opened rule-seen) rs
  taken =
      fed rule-seen (plan-lawful plan table.ok (rule_number rule)) (at given.length) (at given.dropped) table.fits _ _
      (order_same plan.tasks (λ i. i) (at given.dropped) _ _ _ _ table.ends
      (told-order plan.tasks (at given.dropped) _ drops ends order))

  named_back : map named rs ≡ drops ++ ends
  named_back = told_back plan.tasks (at given.dropped) _ drops ends order

  pub told-accepted : accepted_of (opened_book plan rule) (drops ++ ends) ≡ drops ++ ends
  told-accepted =
      subst (λ (l : List Event). accepted_of (opened_book plan rule) l ≡ l) named_back
      (all-accepted plan rule size table.ok rs taken.each)

  pub told-as : AsTold plan (timetable_of plan rule given) (run_of plan rule (drops ++ ends))
  told-as =
      subst (λ (l : List Event). AsTold plan (timetable_of plan rule given) (run_of plan rule l)) named_back
      (record {
        over = λ i l. ap (λ (b : theory-book.Book). b.mark i) view ∙ taken.done.over i l;
        starts = λ i l. ap (λ (b : theory-book.Book). b.start i) view ∙ taken.done.starts i l ∙ sym (table.starts i l);
        ends = λ i l. ap (λ (b : theory-book.Book). b.end i) view ∙ taken.done.ends i l ∙ sym (table.ends i l);
      })
    where
      view : book_view (run_of plan rule (map named rs)) ≡ run rule-seen (theory-report.opened rule-seen) rs
      view = run-seen plan rule size table.ok rs

-- the other way round
module _ (book : Book) (good : Good book) (rule : Rule) (by : book.rule ≡ rule_number rule)
    (over : (i : ℕ) → i < book.tasks → Ended book i) (given : Lengths) (own : OwnLengths book given) where
  abbrev plan-seen : theory-plan.Plan
  plan-seen = plan_for (rule_number rule) (plan_in book)

  abbrev view : theory-book.Book
  view = book_view book

  facts : SoundFacts book
  facts = (is-sound-facts book).0 good.sound

  sound : Sound plan-seen view
  sound = subst (λ (r : ℕ). Sound (plan_for r (plan_in book)) view) by facts.sound

  law : Lawful plan-seen
  law = plan-lawful (plan_in book) facts.accepted (rule_number rule)

  few : book.tasks ≤ 64
  few = (plan-facts (plan_in book) facts.accepted).tasks-to

  fits-own : Fits plan-seen (lasted view) view.dropped
  fits-own = finished-fits plan-seen view sound over

  fits : Fits plan-seen (at given.length) (at given.dropped)
  fits = record {
    within = λ i l n.
        let o = own i l in
        let d : view.dropped i ≢ 1 = λ q. n (o.0.1 q) in
        rw (o.1 d) (fits-own.within i l d);
    waits = λ i l d. fits-own.waits i l ((own i l).0.0 d);
  }

  drops : (i : ℕ) → i < book.tasks → theory-book.is_dropped view.dropped i ≡ theory-book.is_dropped (at given.dropped) i
  drops i l =
      by-eq (view.dropped i) 1
      (λ d. eq-eqb (view.dropped i) 1 d ∙ sym (eq-eqb (at given.dropped i) 1 ((own i l).0.1 d)))
      (λ n. ne_eqb (view.dropped i) 1 n ∙ sym (ne_eqb (at given.dropped i) 1 (λ q. n ((own i l).0.0 q))))

  lengths : (i : ℕ) → i < book.tasks → view.dropped i ≢ 1 → lasted view i ≡ at given.length i
  lengths i l n = sym ((own i l).1 n)

  starts : book.start ≡ laid book.tasks (start_time plan-seen (at given.length) (at given.dropped))
  starts =
      laid-is book.tasks _ book.start few good.sized.start
      (λ j l.
      only-starts plan-seen law (lasted view) view.dropped view.start view.end (finished-lines plan-seen view sound over) j l
      ∙ start-time-given plan-seen (lasted view) (at given.length) view.dropped (at given.dropped) drops lengths j l)
      facts.past.start

  ends : book.end ≡ laid book.tasks (end_time plan-seen (at given.length) (at given.dropped))
  ends =
      laid-is book.tasks _ book.end few good.sized.end
      (λ j l.
      only-ends plan-seen law (lasted view) view.dropped view.start view.end (finished-lines plan-seen view sound over) j l
      ∙ end-time-given plan-seen (lasted view) (at given.length) view.dropped (at given.dropped) drops lengths j l)
      facts.past.end

  pub own-timetable :
      timetable_of (plan_in book) rule given ≡ record { answer = granted; start = book.start; end = book.end }
  unfolding timetable_of timetable_answer
  own-timetable =
      rw (facts.accepted, lengths_none plan-seen.tasks _ _ (none-bad plan-seen _ _ fits) (none-idle plan-seen _ _ fits))
      (λ i. record { answer = granted; start = sym starts i; end = sym ends i })
