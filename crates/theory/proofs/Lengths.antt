-- The lengths of tasks that have not started do not matter: with none at all the figure is the same.
use mathlib.Core.Path.{◌≡◌, refl}
use mathlib.Core.Bool.{true, false}
use Prim.Native.Nat.{ℕ, zero, suc, ◌-◌, ◌≤◌, ◌<◌}
use native.Mathlib.Omega.{arith}
use borrow.Author.Tests.{ne_eqb, eqb-false, le-ltb}
use Rattle.laws.proofs.Cases.{by_bool, by-eq, or_no}
use Rattle.laws.specs.Picked.{latest, least}
use Rattle.laws.proofs.Latest.{latest-under, latest-over, latest-same}
use Rattle.theory.specs.Plan.{Plan}
use Rattle.theory.specs.Book.{Book, due}
use Rattle.theory.proofs.Facts.{Sound, Lawful}
use Rattle.theory.proofs.Reflect.{all-ended-at}
use Rattle.theory.proofs.Task.{started-all, ended-within, end-by-clock}
use Rattle.theory.specs.Times.{start_time, end_time}
use Rattle.theory.specs.Words.Lines.{TwoLines}
use Rattle.theory.proofs.Solved.{solves, sooner}
use Rattle.theory.proofs.Bounds.{start-dropped, start-kept, end-dropped, end_kept}
use Rattle.theory.specs.Exact.{not_started, full_length, full_start, exact_early, latest_end, step_start}
use Rattle.theory.proofs.Full.{full_end, full-lines}
use Rattle.theory.proofs.OneStep.{least-equal, latest-started, latest-other, step-dropped, step_kept, step-below}

module _ (plan : Plan) (law : Lawful plan) (book : Book) (sound : Sound plan book) where
  -- any starts between those of one step and those of full lengths give the figure
  pub any-between :
      (from : ℕ → ℕ)
      → ((i : ℕ) → i < plan.tasks → (step_start plan book i ≤ from i) × (from i ≤ full_start plan book i))
      → exact_early plan book ≡ least plan.tasks (not_started book) (λ i. plan.begin i - from i)
  unfolding exact_early
  any-between from between =
      least-equal plan.tasks (not_started book) (λ i. plan.begin i - full_start plan book i) (λ i. plan.begin i - from i)
      (λ i l h. (i, l, h, omega (arith, (between i l).1)))
      (λ i l h.
      let r = step-below plan law book sound (suc (plan.begin i)) i (omega arith) l h in
      (r.0, r.1, r.2, omega (arith, (between r.0 r.1).0, r.3)))

  -- whoever has ended has started by the clock
  ended-started : (j : ℕ) → j < plan.tasks → book.mark j ≡ 2 → not_started book j ≡ false
  ended-started j l m =
      let w = (ended-within (sound.task j l) m).0 in
      let c = end-by-clock (sound.task j l) in
      rw (ne_eqb (book.mark j) 0 (omega arith), le-ltb book.clock (book.start j) (omega arith))

  -- lengths that are the full ones of the tasks that have started, and no longer of any other
  module _ (other : ℕ → ℕ)
      (same : (i : ℕ) → i < plan.tasks → not_started book i ≡ false → other i ≡ full_length plan book i)
      (shorter : (i : ℕ) → i < plan.tasks → other i ≤ full_length plan book i) where
    abbrev from : ℕ → ℕ
    from = start_time plan other book.dropped

    abbrev to : ℕ → ℕ
    to = end_time plan other book.dropped

    lines : TwoLines plan other book.dropped from to
    lines = solves plan law other book.dropped

    start_is :
        (i : ℕ) → i < plan.tasks → due plan to i ≡ due plan (full_end plan book) i → from i ≡ full_start plan book i
    start_is i l d =
        by-eq (book.dropped i) 1
        (λ o.
        let a = start-dropped plan _ _ _ _ lines i l o in
        let b = start-dropped plan _ _ _ _ (full-lines plan law book sound) i l o in
        omega arith)
        (λ o.
        let a = start-kept plan _ _ _ _ lines i l o in
        let b = start-kept plan _ _ _ _ (full-lines plan law book sound) i l o in
        omega arith)

    start_under :
        (i : ℕ) → i < plan.tasks → due plan to i ≤ due plan (full_end plan book) i → from i ≤ full_start plan book i
    start_under i l d =
        by-eq (book.dropped i) 1
        (λ o.
        let a = start-dropped plan _ _ _ _ lines i l o in
        let b = start-dropped plan _ _ _ _ (full-lines plan law book sound) i l o in
        omega arith)
        (λ o.
        let a = start-kept plan _ _ _ _ lines i l o in
        let b = start-kept plan _ _ _ _ (full-lines plan law book sound) i l o in
        omega arith)

    end_is :
        (i : ℕ) → i < plan.tasks → from i ≡ full_start plan book i → other i ≡ full_length plan book i → to i ≡ full_end plan book i
    end_is i l s e =
        by-eq (book.dropped i) 1
        (λ o.
        let a = end-dropped plan _ _ _ _ lines i l o in
        let b = end-dropped plan _ _ _ _ (full-lines plan law book sound) i l o in
        omega arith)
        (λ o.
        let a = end_kept plan _ _ _ _ lines i l o in
        let b = end_kept plan _ _ _ _ (full-lines plan law book sound) i l o in
        omega arith)

    end-under : (i : ℕ) → i < plan.tasks → from i ≤ full_start plan book i → to i ≤ full_end plan book i
    end-under i l s =
        let e = shorter i l in
        by-eq (book.dropped i) 1
        (λ o.
        let a = end-dropped plan _ _ _ _ lines i l o in
        let b = end-dropped plan _ _ _ _ (full-lines plan law book sound) i l o in
        omega arith)
        (λ o.
        let a = end_kept plan _ _ _ _ lines i l o in
        let b = end_kept plan _ _ _ _ (full-lines plan law book sound) i l o in
        omega arith)

    -- the ends of started tasks are the same, and of the others no later: by induction on the planned start
    ends-are : (n i : ℕ) → plan.begin i < n → i < plan.tasks → not_started book i ≡ false → to i ≡ full_end plan book i
    ends-are zero i f l h = absurd (omega arith)
    ends-are (suc n) i f l h =
        let m = eqb-false (book.mark i) 0 (or_no _ _ h).0 in
        let all = started-all (sound.task i l) m in
        end_is i l
        (start_is i l
        (latest-same plan.tasks _ _ _ _ (λ j lj. refl) (λ j lj w.
        let q = sooner plan law i j l lj w in
        ends-are n j (omega arith) lj (ended-started j lj (all-ended-at plan book.mark i all j lj w)))))
        (same i l h)

    dues_under :
        (i : ℕ) → ((j : ℕ) → j < plan.tasks → plan.waits i j ≡ true → to j ≤ full_end plan book j)
        → due plan to i ≤ due plan (full_end plan book) i
    dues_under i under =
        latest-under plan.tasks (plan.waits i) to _ (λ j l w.
        let a = under j l w in let o = latest-over plan.tasks (plan.waits i) (full_end plan book) j l w in omega arith)

    ends-under : (n i : ℕ) → plan.begin i < n → i < plan.tasks → to i ≤ full_end plan book i
    ends-under zero i f l = absurd (omega arith)
    ends-under (suc n) i f l =
        end-under i l
        (start_under i l (dues_under i (λ j lj w. let q = sooner plan law i j l lj w in ends-under n j (omega arith) lj)))

    step-under : (i : ℕ) → i < plan.tasks → step_start plan book i ≤ from i
    step-under i l =
        let d : latest plan.tasks (plan.waits i) (latest_end plan book) ≤ due plan to i =
        latest-under plan.tasks (plan.waits i) (latest_end plan book) _ (λ j lj w.
        let o = latest-over plan.tasks (plan.waits i) to j lj w in
        by_bool (not_started book j)
        (λ h. let e = latest-other plan law book sound j h in omega arith)
        (λ h.
        let e = latest-started plan law book sound j lj h in
        let s = ends-are (suc (plan.begin j)) j (omega arith) lj h in
        omega arith)) in
        by-eq (book.dropped i) 1
        (λ o. let a = step-dropped plan law book sound i o in let b = start-dropped plan _ _ _ _ lines i l o in omega arith)
        (λ o. let a = step_kept plan law book sound i o in let b = start-kept plan _ _ _ _ lines i l o in omega arith)

    pub shorter-same : exact_early plan book ≡ least plan.tasks (not_started book) (λ i. plan.begin i - from i)
    shorter-same =
        any-between from (λ i l. (
          step-under i l,
          start_under i l (dues_under i (λ j lj w. ends-under (suc (plan.begin j)) j (omega arith) lj)),
        ))
