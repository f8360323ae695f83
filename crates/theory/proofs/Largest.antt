-- The exact figure is kept, M never exceeds it, and no larger one is true.
use mathlib.Core.Path.{◌≡◌, sym, ◌∙◌}
use mathlib.Core.Logic.{◌≢◌, ◌↔◌, ⊎_elim}
use mathlib.Core.Bool.{true, false}
use mathlib.Core.List.{List, Memᴰ}
use mathlib.Core.Option.{Option, none, some}
use Prim.Native.Nat.{ℕ, ◌+◌, ◌-◌, ◌≤◌, ◌<◌}
use native.Mathlib.Omega.{arith}
use borrow.Author.Tests.{eqb-true, ltb-true}
use Rattle.laws.proofs.Cases.{by_bool, or_at}
use Rattle.laws.proofs.Least.{least_under, least-met, least-none}
use Rattle.theory.specs.Plan.{Plan}
use Rattle.theory.specs.Book.{Book}
use Rattle.theory.specs.Figure.{minimum_early}
use Rattle.theory.specs.Words.Events.{Event, IsReport}
use Rattle.theory.proofs.Facts.{Sound, Lawful, run, accepted}
use Rattle.theory.proofs.Step.{sound-run}
use Rattle.theory.proofs.Later.{Later, later-run}
use Rattle.theory.proofs.Kept.{begins-early}
use Rattle.theory.specs.Exact.{not_started, full_start, exact_early}
use Rattle.theory.proofs.Full.{starts_by}
use Rattle.theory.proofs.Under.{no-later}
use Rattle.theory.proofs.Ahead.{full-run}

-- a task not started at the clock that starts so many ticks early, in accepted reports without drops
pub record Exactly (plan : Plan) (book : Book) (early : ℕ) : Type 0 where
  pub events : List Event
  pub reports : (event : Event) → Memᴰ event events → IsReport event
  pub each : accepted plan book events ≡ events
  pub who : ℕ
  pub task : who < plan.tasks
  pub not_yet : not_started book who ≡ true
  pub starts : (run plan book events).mark who ≢ 0
  pub early_is : (run plan book events).start who + early ≡ plan.begin who

-- each task not started at the clock that has started there did so at least so early
abbrev pub KeptIn : Plan → Book → ℕ → Book → Type 0
KeptIn plan book early later =
    (i : ℕ) → i < plan.tasks → not_started book i ≡ true → later.mark i ≢ 0 → later.start i + early ≤ plan.begin i

module _ (plan : Plan) (law : Lawful plan) (book : Book) (sound : Sound plan book) where
  -- none exactly where every task has started
  pub exact_none : (exact_early plan book ≡ none) ↔ ((i : ℕ) → i < plan.tasks → not_started book i ≡ false)
  unfolding exact_early
  exact_none = (
    λ e i l.
        by_bool (not_started book i)
        (λ h.
        let r = least_under plan.tasks (not_started book) _ i l h in
        let z : ◌≡◌ {A = ℕ} 0 1 = differ (sym r.1 ∙ e) in
        absurd (omega arith))
        (λ h. h),
    λ f. least-none plan.tasks (not_started book) _ f,
  )
    where
      differ : {v : ℕ} → some v ≡ none → ◌≡◌ {A = ℕ} 0 1
      differ e = cc

  module _ (early : ℕ) (is : exact_early plan book ≡ some early) where
    pub least-early : (i : ℕ) → i < plan.tasks → not_started book i ≡ true → early ≤ plan.begin i - full_start plan book i
    unfolding exact_early
    least-early i l h =
        let r = least_under plan.tasks (not_started book) (λ k. plan.begin k - full_start plan book k) i l h in
        let same : r.0 ≡ early = one (sym r.1 ∙ is) in
        omega (arith, r.2)
      where
        one : {x y : ℕ} → ◌≡◌ {A = Option ℕ} (some x) (some y) → x ≡ y
        one e = cc

    pub met-early : (i : ℕ) × (i < plan.tasks) × (not_started book i ≡ true) × (plan.begin i - full_start plan book i ≡ early)
    unfolding exact_early
    met-early = least-met plan.tasks (not_started book) _ early is

    -- kept in every later book, of further drops too
    pub exact-later : (later : Book) → Sound plan later → Later plan book later → KeptIn plan book early later
    exact-later later sound' after i l h n =
        let u = least-early i l h in
        let s = no-later plan law book sound later sound' after i l n in
        let b = starts_by plan law book sound i l in
        omega arith

    pub exact-kept : (events : List Event) → KeptIn plan book early (run plan book events)
    exact-kept events = exact-later (run plan book events) (sound-run plan book events sound) (later-run plan book events)

    -- and met, without further drops
    pub exact-met : Exactly plan book early
    exact-met =
        let way = full-run plan law book sound in
        let m = met-early in
        let o = way.done.over m.0 m.1 in
        let s = way.done.starts m.0 m.1 in
        let b = starts_by plan law book sound m.0 m.1 in
        let e = m.3 in
        record {
          events = way.events;
          reports = way.reports;
          each = way.each;
          who = m.0;
          task = m.1;
          not_yet = m.2;
          starts = omega arith;
          early_is = omega arith;
        }

    -- so no larger figure is true
    pub exact-largest :
        (other : ℕ)
        → ((events : List Event) → ((event : Event) → Memᴰ event events → IsReport event)
        → accepted plan book events ≡ events → KeptIn plan book other (run plan book events))
        → other ≤ early
    exact-largest other kept =
        let x = exact-met in
        let k = kept x.events x.reports x.each x.who x.task x.not_yet x.starts in
        let e = x.early_is in
        omega arith

    not_begun : (i : ℕ) → not_started book i ≡ true → book.mark i ≢ 0 → book.clock < book.start i
    not_begun i h n =
        ⊎_elim (λ w. absurd (n (eqb-true (book.mark i) 0 w))) (λ p. ltb-true book.clock (book.start i) p) (or_at _ _ h)

    -- M is true, so it never exceeds it
    pub figure-under : minimum_early plan book ≤ early
    figure-under =
        exact-largest (minimum_early plan book)
        (λ events reports each i l h n. (begins-early plan law book sound events i l (not_begun i h)).starts n)
