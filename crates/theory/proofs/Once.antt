-- A report or drop is accepted at most once.
use mathlib.Core.Path.{refl}
use mathlib.Core.Logic.{⊎_elim}
use mathlib.Core.List.Memᴰ
use mathlib.Core.List.{List, [], ◌∷◌, Memᴰ}
use native.Mathlib.Omega.{arith}
use borrow.Author.Tests.{eq-eqb}
use Rattle.laws.proofs.Cases.{by-eq}
use Rattle.theory.specs.Plan.{Plan}
use Rattle.theory.specs.Book.{Book}
use Rattle.theory.specs.Words.Events.{Event, Once}
use Rattle.theory.proofs.Facts.{event_code, step_to, accepted}
use Rattle.theory.proofs.Reflect.{Taken, code-taken}
use Rattle.theory.proofs.Later.{Later, later_refl, later_trans, later-step, next-ends}
use Rattle.theory.proofs.Run.{accepted-none, accepted-taken, accepted-refused, none-accepted}

-- the book on which it is accepted
record Moment (plan : Plan) (book : Book) (event : Event) : Type 0 where
  now : Book
  after : Later plan book now
  ok : Taken plan now event

moment : (plan : Plan) (book : Book) (events : List Event) (event : Event) → Memᴰ event (accepted plan book events) → Moment plan book event
moment plan book [] event m = absurd (none-accepted plan book event m)
moment plan book (x ∷ xs) event m =
    by-eq (event_code plan book x) 0
    (λ z.
    let ok = code-taken plan book x z in
    ⊎_elim
    (λ e. record { now = book; after = later_refl plan book; ok = rw e ok })
    (λ t.
    let r = moment plan (step_to plan book x) xs event t in
    record { now = r.now; after = later_trans plan book (step_to plan book x) r.now (later-step plan book x ok) r.after; ok = r.ok })
    (Memᴰ.cases_cons (rw (accepted-taken plan book x xs z) at m)))
    (λ n. moment plan book xs event (rw (accepted-refused plan book x xs n) at m))

-- whoever has ended does not run, and whoever is dropped is not dropped anew
not-again : (plan : Plan) (book : Book) (event : Event) → Taken plan book event → Moment plan (step_to plan book event) event → ⊥
not-again plan book (Event.ends k tick) ok r =
    let e = (r.after.ended-stay k ok.task (next-ends plan book k tick ok.task).0).0 in
    let m = r.ok.runs in
    omega arith
not-again plan book (Event.drops k) ok r = r.ok.new (r.after.drops-stay k ok.task (rw (eq-eqb k k refl)))

pub accepted-once : (plan : Plan) (book : Book) (events : List Event) → Once (accepted plan book events)
accepted-once plan book [] = rw (accepted-none plan book) tt
accepted-once plan book (x ∷ xs) =
    by-eq (event_code plan book x) 0
    (λ z.
    rw (accepted-taken plan book x xs z)
    (λ m. not-again plan book x (code-taken plan book x z) (moment plan (step_to plan book x) xs x m), accepted-once plan (step_to plan book x) xs))
    (λ n. rw (accepted-refused plan book x xs n) (accepted-once plan book xs))
