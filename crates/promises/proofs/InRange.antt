-- What is accepted on a sound book is in range: tasks up to 64, ticks up to 1,000,000.
use Prim.Native.Nat.{ℕ, ◌+◌, ◌≤◌, ◌<◌}
use native.Mathlib.Omega.{arith}
use mathlib.Core.Bool.{true}
use mathlib.Core.List.{List, [], ◌∷◌, Memᴰ}
use mathlib.Core.Path.{◌≡◌, sym, subst, ◌∙◌}
use mathlib.Core.Logic.{⊎_elim}
use borrow.Author.Tests.{eqb-true}
use Rattle.laws.proofs.Cases.{by_bool}
use Rattle.theory.specs.Words.Events.{Event}
use Rattle.theory.proofs.Order as order
use Rattle.plan.specs.Answer.{is_granted}
use Rattle.book.specs.View.{plan_in, plan_view, book_view}
use Rattle.book.specs.Words.Event.{answer_to, book_told}
use Rattle.book.specs.declared.Book.{Book}
use Rattle.book_view.proofs.Accepted.{PlanFacts, plan-facts, plan-lawful}
use Rattle.book.proofs.Soundness.{SoundFacts, is-sound-facts}
use Rattle.book.proofs.ReportLaws.{code-zero, drop-zero}
use Rattle.promises.specs.Runs.{accepted_of, Running, limit_of, InRange, AllInRange}
use Rattle.promises.proofs.RunView.{Good, good-event, answer-code}

module _ (book : Book) (g : Good book) where
  facts : SoundFacts book
  facts = (is-sound-facts book).0 g.sound

  plan : PlanFacts (plan_in book)
  plan = plan-facts (plan_in book) facts.accepted

  -- nobody is late, so a limit is at most the planned finish
  limit-in-range : (k : ℕ) → k < book.tasks → Running book k → limit_of book k ≤ 1000000
  limit-in-range k l m =
      let early =
      order.never-late (plan_view book) (book_view book) facts.sound (plan-lawful (plan_in book) facts.accepted book.rule) k l
      (λ z. omega (arith, m, z)) in
      let t = plan.task k l in
      omega (arith, early, t.lasts, t.by_most)

  pub limit-told : (k : ℕ) → k < book.tasks → Running book k → InRange (Event.ends (k + 1) (limit_of book k))
  limit-told k l m = (omega (arith, l, plan.tasks-to), limit-in-range k l m)

  event-in-range : (event : Event) → is_granted (answer_to book event) ≡ true → InRange event
  event-in-range (Event.ends task tick) h =
      let r = code-zero book task tick (sym (answer-code book g.sound (Event.ends task tick)) ∙ eqb-true _ 0 h) in
      let ok = r.1 in
      let limit = limit-in-range _ ok.task ok.runs in
      (omega (arith, r.0, ok.task, plan.tasks-to), omega (arith, ok.in_time, limit))
  event-in-range (Event.drops task) h =
      let r = drop-zero book task (sym (answer-code book g.sound (Event.drops task)) ∙ eqb-true _ 0 h) in
      omega (arith, r.0, r.1.task, plan.tasks-to)

pub accepted-in-range : (book : Book) (events : List Event) → Good book → AllInRange (accepted_of book events)
unfolding accepted_of
accepted-in-range book [] g event m = absurd (mathlib.Core.List.Memᴰ.not-nil m)
accepted-in-range book (e ∷ later) g event m =
    by_bool (is_granted (answer_to book e))
    (λ h.
    let n : Memᴰ event (e ∷ accepted_of (book_told book e) later) = rw h at m in
    ⊎_elim (λ q. subst (λ (x : Event). InRange x) (sym q) (event-in-range book g e h))
    (accepted-in-range (book_told book e) later (good-event book e g) event) (mathlib.Core.List.Memᴰ.cases_cons n))
    (λ h.
    let n : Memᴰ event (accepted_of (book_told book e) later) = rw h at m in
    accepted-in-range (book_told book e) later (good-event book e g) event n)
