-- Minimum early is kept: whoever has not ended starts and ends at least that early, whatever is reported and dropped.
use mathlib.Core.Path.{◌≡◌, refl}
use mathlib.Core.Logic.{◌≢◌}
use mathlib.Core.Bool.{true}
use mathlib.Core.List.{List}
use Prim.Native.Nat.{ℕ, zero, suc, ◌+◌, ◌-◌, ◌≤◌, ◌<◌}
use native.Mathlib.Omega.{arith}
use Rattle.laws.proofs.Cases.{by-eq, by_le}
use Rattle.laws.proofs.Latest.{latest-under}
use Rattle.theory.specs.Plan.{Plan}
use Rattle.theory.specs.Book.{Book}
use Rattle.theory.proofs.Facts.{Sound, Lawful}
use Rattle.theory.specs.Words.Events.{Event}
use Rattle.theory.proofs.Facts.{run}
use Rattle.theory.specs.Figure.{minimum_early}
use Rattle.theory.proofs.Task.{mark-range, waiting-why, runs-kept, ended-within, end-by-clock}
use Rattle.theory.proofs.Step.{sound-run}
use Rattle.theory.proofs.Later.{Later, later-run}
use Rattle.theory.proofs.Figure.{Term, figure-least}
use Rattle.theory.proofs.Order.{in_order, started-due, skipped-due, ready-ahead, never-late}

-- whoever runs is early by M at least
running-low :
    (plan : Plan) (book : Book) → Lawful plan → Sound plan book → (j : ℕ) → j < plan.tasks → book.mark j ≡ 1
    → book.start j + minimum_early plan book ≤ plan.begin j
running-low plan book law sound j l m =
    let n = never-late plan book sound law j l (omega arith) in
    by_le (book.start j) book.clock
    (λ q. let u = figure-least plan book j l _ (Term.begun m q refl) in omega arith)
    (λ q.
    let d = runs-kept (sound.task j l) m in
    let u = figure-least plan book j l _ (Term.ahead m q (omega arith) refl) in
    let e = ready-ahead plan book sound j l (omega arith) q in
    omega arith)

-- and so is the ready tick of whoever waits and is not dropped
waiting-low :
    (plan : Plan) (book : Book) → Lawful plan → (j : ℕ) → j < plan.tasks → book.mark j ≡ 0 → book.dropped j ≢ 1
    → plan.ready j + minimum_early plan book ≤ plan.begin j
waiting-low plan book law j l m o =
    let u = figure-least plan book j l _ (Term.waits m o refl) in let r = law.ready j l in omega arith

-- what is promised of a task in a later book: it starts and ends at least so many ticks early
pub record EarlyBy (plan : Plan) (early : ℕ) (later : Book) (i : ℕ) : Type 0 where
  pub starts : later.mark i ≢ 0 → later.start i + early ≤ plan.begin i
  pub ends : later.mark i ≡ 2 → later.end i + early ≤ plan.finish i

module _ (plan : Plan) (law : Lawful plan) (book later : Book) (sound : Sound plan book) (sound' : Sound plan later)
    (after : Later plan book later) (early : ℕ)
    (low : (j : ℕ) → j < plan.tasks → book.mark j ≡ 1 → book.start j + early ≤ plan.begin j)
    (by-ready :
    (j : ℕ) → j < plan.tasks → book.mark j ≡ 0 → book.dropped j ≢ 1 → plan.ready j + early ≤ plan.begin j) where
  -- one that starts early ends early
  ends-early :
      (j : ℕ) → j < plan.tasks → later.mark j ≡ 2 → later.start j + early ≤ plan.begin j
      → later.end j + early ≤ plan.finish j
  ends-early j l e s = let p = law.lasts j l in let w = ended-within (sound'.task j l) e in omega arith

  running-early : (j : ℕ) → j < plan.tasks → book.mark j ≡ 1 → later.start j + early ≤ plan.begin j
  running-early j l m = let s = (after.started-stay j l (omega arith)).1 in let q = low j l m in omega arith

  -- a waiting task starts early if all it waits for end early that had not ended
  waited-early :
      (i : ℕ) → i < plan.tasks → book.mark i ≡ 0 → later.mark i ≢ 0
      → ((j : ℕ) → j < plan.tasks → plan.waits i j ≡ true → book.mark j ≢ 2 → later.end j + early ≤ plan.begin i)
      → later.start i + early ≤ plan.begin i
  waited-early i l z h ends =
      let b = waiting-why (sound.task i l) z in
      let top = ends b.who b.task b.held b.still in
      let e = (in_order plan later sound' i b.who l b.task b.held h).0 in
      let c = after.new-ends b.who b.task b.still e in
      let u =
      latest-under plan.tasks (plan.waits i) later.end (plan.begin i - early) (λ j lj w.
      by-eq (book.mark j) 2
      (λ m. let k = (after.ended-stay j lj m).1 in let q = end-by-clock (sound.task j lj) in omega arith)
      (λ ne. let q = ends j lj w ne in omega arith)) in
      by-eq (later.dropped i) 1
      (λ o. let d = skipped-due plan later sound' i l h o in omega arith)
      (λ o.
      let d = started-due plan later sound' i l h o in
      let r = by-ready i l z (λ e. o (after.drops-stay i l e)) in
      omega arith)

  -- by induction on the planned start
  starts-early :
      (n i : ℕ) → plan.begin i < n → i < plan.tasks → book.mark i ≢ 2 → later.mark i ≢ 0
      → later.start i + early ≤ plan.begin i
  starts-early zero i f l z h = absurd (omega arith)
  starts-early (suc n) i f l z h =
      by-eq (book.mark i) 1 (running-early i l)
      (λ n1.
      let r = mark-range (sound.task i l) in
      waited-early i l (omega arith) h (λ j lj w ne.
      let e = (in_order plan later sound' i j l lj w h).0 in
      let a = law.before i j l lj w in
      let p = law.lasts j lj in
      let q = ends-early j lj e (starts-early n j (omega arith) lj ne (omega arith)) in
      omega arith))

  pub early-kept : (i : ℕ) → i < plan.tasks → book.mark i ≢ 2 → EarlyBy plan early later i
  early-kept i l z =
      let s = starts-early (suc (plan.begin i)) i (omega arith) l z in
      record { starts = s; ends = λ e. ends-early i l e (s (omega arith)) }

-- whoever has not ended yet, started or not, is early by M for good
pub figure-kept :
    (plan : Plan) → Lawful plan → (book : Book) → Sound plan book → (events : List Event) (i : ℕ) → i < plan.tasks
    → book.mark i ≢ 2 → EarlyBy plan (minimum_early plan book) (run plan book events) i
figure-kept plan law book sound events =
    early-kept plan law book (run plan book events) sound (sound-run plan book events sound) (later-run plan book events)
    (minimum_early plan book) (running-low plan book law sound) (waiting-low plan book law)

-- so whoever has not begun, its start not known or past the clock, begins and ends at least so early
pub begins-early :
    (plan : Plan) → Lawful plan → (book : Book) → Sound plan book → (events : List Event) (i : ℕ) → i < plan.tasks
    → (book.mark i ≢ 0 → book.clock < book.start i) → EarlyBy plan (minimum_early plan book) (run plan book events) i
begins-early plan law book sound events i l not_yet =
    figure-kept plan law book sound events i l (λ m.
    let w = ended-within (sound.task i l) m in
    let c = end-by-clock (sound.task i l) in
    let q = not_yet (omega arith) in
    absurd (omega arith))
