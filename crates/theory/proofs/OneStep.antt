-- One step is enough: whoever waits for a task that has not started is at least as early as that one.
use mathlib.Core.Path.{◌≡◌, sym, ap, ◌∙◌}
use mathlib.Core.Logic.{◌≢◌, ⊎_elim}
use mathlib.Core.Bool.{Bool, true, false}
use mathlib.Core.Option.{Option, some}
use Prim.Native.Nat.{ℕ, zero, suc, ◌+◌, ◌-◌, ◌≤◌, ◌<◌, max}
use native.Mathlib.Omega.{arith}
use borrow.Author.Tests.{eq-eqb, ne_eqb, eqb-false}
use Rattle.laws.proofs.Cases.{by_bool, by-eq, by_le, or_no}
use Rattle.laws.specs.Every.{any}
use Rattle.laws.proofs.Every.{any_at, any-not}
use Rattle.laws.specs.Picked.{latest, least}
use Rattle.laws.proofs.Latest.{latest-under, latest-over, latest-met}
use Rattle.laws.proofs.Least.{least_under, least-met, least-none}
use Rattle.theory.specs.Plan.{Plan}
use Rattle.theory.specs.Book.{Book, due}
use Rattle.theory.proofs.Facts.{Sound, Lawful}
use Rattle.theory.proofs.Task.{mark-range}
use Rattle.theory.proofs.Solved.{sooner}
use Rattle.theory.proofs.Bounds.{start-dropped, start-kept}
use Rattle.theory.specs.Exact.{not_started, full_start, exact_early, latest_end, step_start, step_early}
use Rattle.theory.proofs.Full.{full_end, full-lines, keeps-ends, runs-full, ends-within, starts_by}

-- the least of two values is one number where each value of the one is at least some value of the other
module _ (n : ℕ) (w : ℕ → Bool) (f g : ℕ → ℕ)
    (below : (i : ℕ) → i < n → w i ≡ true → (k : ℕ) × (k < n) × (w k ≡ true) × (f k ≤ g i)) where
  pub least_by : (u v : ℕ) → least n w f ≡ some u → least n w g ≡ some v → u ≤ v
  least_by u v e h =
      let m = least-met n w g v h in
      let b = below m.0 m.1 m.2 in
      let q = least_under n w f b.0 b.1 b.2 in
      let same : q.0 ≡ u = one (sym q.1 ∙ e) in
      omega (arith, q.2, b.3, m.3)
    where
      one : {x y : ℕ} → ◌≡◌ {A = Option ℕ} (some x) (some y) → x ≡ y
      one e = cc

module _ (n : ℕ) (w : ℕ → Bool) (f g : ℕ → ℕ)
    (below : (i : ℕ) → i < n → w i ≡ true → (k : ℕ) × (k < n) × (w k ≡ true) × (f k ≤ g i))
    (above : (i : ℕ) → i < n → w i ≡ true → (k : ℕ) × (k < n) × (w k ≡ true) × (g k ≤ f i)) where
  pub least-equal : least n w f ≡ least n w g
  least-equal =
      by_bool (any n w)
      (λ a.
      let r = any_at n w a in
      let p = least_under n w f r.0 r.1 r.2 in
      let q = least_under n w g r.0 r.1 r.2 in
      let le = least_by n w f g below p.0 q.0 p.1 q.1 in
      let ge = least_by n w g f above q.0 p.0 q.1 p.1 in
      let e : p.0 ≡ q.0 = omega arith in
      p.1 ∙ ap some e ∙ sym q.1)
      (λ a. least-none n w f (any-not n w a) ∙ sym (least-none n w g (any-not n w a)))

module _ (plan : Plan) (law : Lawful plan) (book : Book) (sound : Sound plan book) where
  -- a started task has the end that it has with full lengths
  pub latest-started : (j : ℕ) → j < plan.tasks → not_started book j ≡ false → latest_end plan book j ≡ full_end plan book j
  latest-started j l h =
      let r = mark-range (sound.task j l) in
      let n = eqb-false (book.mark j) 0 (or_no _ _ h).0 in
      by-eq (book.mark j) 2
      (λ m. rw (h, eq-eqb (book.mark j) 2 m) (sym (keeps-ends plan law book sound j l m)))
      (λ m. rw (h, ne_eqb (book.mark j) 2 m) (sym (runs-full plan law book sound j l (omega arith))))

  pub latest-other : (j : ℕ) → not_started book j ≡ true → latest_end plan book j ≡ 0
  latest-other j h = rw h

  latest-least : (j : ℕ) → j < plan.tasks → latest_end plan book j ≤ full_end plan book j
  latest-least j l =
      by_bool (not_started book j)
      (λ h. let e = latest-other j h in omega arith)
      (λ h. let e = latest-started j l h in omega arith)

  abbrev pub step_due : ℕ → ℕ
  step_due i = latest plan.tasks (plan.waits i) (latest_end plan book)

  step-due : (i : ℕ) → step_due i ≤ due plan (full_end plan book) i
  step-due i =
      latest-under plan.tasks (plan.waits i) (latest_end plan book) _ (λ j l w.
      let a = latest-least j l in let o = latest-over plan.tasks (plan.waits i) (full_end plan book) j l w in omega arith)

  pub step-dropped : (i : ℕ) → book.dropped i ≡ 1 → step_start plan book i ≡ step_due i
  step-dropped i d = rw (eq-eqb (book.dropped i) 1 d) (omega arith)

  pub step_kept : (i : ℕ) → book.dropped i ≢ 1 → step_start plan book i ≡ max (plan.ready i) (step_due i)
  step_kept i d = rw (ne_eqb (book.dropped i) 1 d)

  -- so one step gives no later start
  step-sooner : (i : ℕ) → i < plan.tasks → step_start plan book i ≤ full_start plan book i
  step-sooner i l =
      let d = step-due i in
      by-eq (book.dropped i) 1
      (λ o. let a = step-dropped i o in let b = start-dropped plan _ _ _ _ (full-lines plan law book sound) i l o in omega arith)
      (λ o. let a = step_kept i o in let b = start-kept plan _ _ _ _ (full-lines plan law book sound) i l o in omega arith)

  -- and the same one, unless it is a task not started that is waited for to the last
  step_same : (i : ℕ) → i < plan.tasks → due plan (full_end plan book) i ≤ step_due i → full_start plan book i ≤ step_start plan book i
  step_same i l d =
      by-eq (book.dropped i) 1
      (λ o. let a = step-dropped i o in let b = start-dropped plan _ _ _ _ (full-lines plan law book sound) i l o in omega arith)
      (λ o. let a = step_kept i o in let b = start-kept plan _ _ _ _ (full-lines plan law book sound) i l o in omega arith)

  -- it starts at that latest end, or at its own ready tick, which one step reads too
  step-late :
      (i : ℕ) → i < plan.tasks → step_start plan book i < full_start plan book i
      → full_start plan book i ≡ due plan (full_end plan book) i
  step-late i l h =
      by-eq (book.dropped i) 1
      (λ o. start-dropped plan _ _ _ _ (full-lines plan law book sound) i l o)
      (λ o. let a = step_kept i o in let b = start-kept plan _ _ _ _ (full-lines plan law book sound) i l o in omega arith)

  -- whoever it waits for to the last has not started, and is no earlier
  record Cause (i : ℕ) : Type 0 where
    who : ℕ
    task : who < plan.tasks
    held : plan.waits i who ≡ true
    not_yet : not_started book who ≡ true
    no-earlier : plan.begin who + full_start plan book i ≤ plan.begin i + full_start plan book who

  cause : (i : ℕ) → i < plan.tasks → step_start plan book i < full_start plan book i → Cause i
  cause i l h =
      let s = step-late i l h in
      ⊎_elim
      (λ z. absurd (omega arith))
      (λ r.
      let j = r.0 in
      let last = r.3 in
      let not_yet : not_started book j ≡ true =
      by_bool (not_started book j) (λ t. t)
      (λ f.
      let e = latest-started j r.1 f in
      let o = latest-over plan.tasks (plan.waits i) (latest_end plan book) j r.1 r.2 in
      let q = step_same i l (omega arith) in
      absurd (omega arith)) in
      let b = law.before i j l r.1 r.2 in
      let p = law.lasts j r.1 in
      let e = ends-within plan law book sound j r.1 in
      record { who = j; task = r.1; held = r.2; not_yet = not_yet; no-earlier = omega arith })
      (latest-met plan.tasks (plan.waits i) (full_end plan book))

  -- by induction on the planned start
  pub step-below :
      (n i : ℕ) → plan.begin i < n → i < plan.tasks → not_started book i ≡ true
      → (k : ℕ) × (k < plan.tasks) × (not_started book k ≡ true)
      × (plan.begin k - step_start plan book k ≤ plan.begin i - full_start plan book i)
  step-below zero i f l h = absurd (omega arith)
  step-below (suc n) i f l h =
      by_le (full_start plan book i) (step_start plan book i)
      (λ q. (i, l, h, omega arith))
      (λ q.
      let c = cause i l q in
      let s = sooner plan law i c.who l c.task c.held in
      let r = step-below n c.who (omega arith) c.task c.not_yet in
      let e = c.no-earlier in
      let b = starts_by plan law book sound c.who c.task in
      (r.0, r.1, r.2, omega (arith, r.3)))

  -- the two figures are one
  pub one-figure : exact_early plan book ≡ step_early plan book
  unfolding exact_early step_early
  one-figure =
      least-equal plan.tasks (not_started book) (λ i. plan.begin i - full_start plan book i)
      (λ i. plan.begin i - step_start plan book i)
      (λ i l h. (i, l, h, omega (arith, step-sooner i l)))
      (λ i l h. step-below (suc (plan.begin i)) i (omega arith) l h)
