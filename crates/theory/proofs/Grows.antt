-- Document 000's Theorem 1 (a): minimum early never falls while some task has not ended.
use mathlib.Core.Path.{◌≡◌, refl}
use mathlib.Core.Logic.{◌≢◌}
use mathlib.Core.List.{List}
use Prim.Native.Nat.{ℕ, ◌-◌, ◌≤◌, ◌<◌}
use native.Mathlib.Omega.{arith}
use Rattle.laws.proofs.Cases.{by-eq, by_le}
use Rattle.theory.specs.Plan.{Plan}
use Rattle.theory.specs.Book.{Book}
use Rattle.theory.specs.Words.Events.{Event}
use Rattle.theory.specs.Figure.{minimum_early}
use Rattle.theory.proofs.Facts.{Sound, run, Lawful}
use Rattle.theory.proofs.Task.{runs-kept}
use Rattle.theory.proofs.Step.{sound-run}
use Rattle.theory.proofs.Later.{Later, later-run}
use Rattle.theory.proofs.Figure.{Term, figure-least, figure-met}
use Rattle.theory.proofs.Kept.{figure-kept}
use Rattle.theory.proofs.Order.{ready-ahead}
use Rattle.theory.proofs.Progress.{some_runs}

module _ (plan : Plan) (law : Lawful plan) (book : Book) (sound : Sound plan book) (events : List Event) where
  abbrev later : Book
  later = run plan book events

  sound-later : Sound plan later
  sound-later = sound-run plan book events sound

  after : Later plan book later
  after = later-run plan book events

  -- whoever runs later had not ended, so it is early by M
  runs-early : (j : ℕ) → j < plan.tasks → later.mark j ≡ 1 → minimum_early plan book ≤ plan.begin j - later.start j
  runs-early j l m =
      let kept =
      figure-kept plan law book sound events j l (λ e. let s = (after.ended-stay j l e).0 in absurd (omega arith)) in
      let s = kept.starts (omega arith) in
      omega arith

  -- and no term of the later M is less
  term-over : (j early : ℕ) → j < plan.tasks → Term plan later j early → minimum_early plan book ≤ early
  term-over j early l (Term.begun m q e) = omega (arith, runs-early j l m)
  term-over j early l (Term.ahead m q o e) =
      let s = ready-ahead plan later sound-later j l (omega arith) q in omega (arith, runs-early j l m)
  term-over j early l (Term.waits m o e) =
      figure-least plan book j l early
      (Term.waits (waited m) (λ d. o (after.drops-stay j l d)) e)
    where
      waited : later.mark j ≡ 0 → book.mark j ≡ 0
      waited z = by-eq (book.mark j) 0 (λ w. w) (λ n. absurd ((after.started-stay j l n).0 z))

  -- while some task has not ended one runs, so there is such a term
  term-there : (i : ℕ) → i < plan.tasks → later.mark i ≢ 2 → (k : ℕ) × (k < plan.tasks) × ((early : ℕ) × Term plan later k early)
  term-there i l n =
      let r = some_runs plan law later sound-later i l n in
      let d = runs-kept (sound-later.task r.0 r.1) r.2 in
      (r.0, r.1, by_le (later.start r.0) later.clock (λ q. (_, Term.begun r.2 q refl)) (λ q. (_, Term.ahead r.2 q (omega arith) refl)))

  pub figure-grows : (i : ℕ) → i < plan.tasks → later.mark i ≢ 2 → minimum_early plan book ≤ minimum_early plan later
  figure-grows i l n =
      let t = term-there i l n in
      let m = figure-met plan later t.0 t.1 t.2.0 t.2.1 in
      term-over m.0 (minimum_early plan later) m.1 m.2
