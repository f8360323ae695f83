-- Who waits for fewer starts no later.
use mathlib.Core.Path.{◌≡◌}
use mathlib.Core.Bool.{Bool, true}
use Prim.Native.Nat.{ℕ, zero, suc, ◌≤◌, ◌<◌}
use native.Mathlib.Omega.{arith}
use Rattle.laws.proofs.Cases.{by-eq}
use Rattle.laws.specs.Picked.{latest}
use Rattle.laws.proofs.Latest.{latest-under, latest-over}
use Rattle.theory.specs.Plan.{Plan}
use Rattle.theory.proofs.Facts.{Lawful}
use Rattle.theory.specs.Times.{start_time, end_time}
use Rattle.theory.specs.Words.Lines.{TwoLines}
use Rattle.theory.proofs.Fits.{Fits}
use Rattle.theory.proofs.Solved.{sooner, solves}
use Rattle.theory.proofs.Bounds.{start-dropped, start-kept, end-dropped, end_kept}

module _ (tasks : ℕ) (ready begin finish : ℕ → ℕ) (these those : ℕ → ℕ → Bool)
    (fewer : (i j : ℕ) → i < tasks → j < tasks → these i j ≡ true → those i j ≡ true) where
  abbrev one : Plan
  one = record { tasks = tasks; ready = ready; begin = begin; finish = finish; waits = these }

  abbrev other : Plan
  other = record { tasks = tasks; ready = ready; begin = begin; finish = finish; waits = those }

  -- drops that wait for somebody among the fewer do so among the more
  pub fits_more : (length dropped : ℕ → ℕ) → Fits one length dropped → Fits other length dropped
  fits_more length dropped fits = record {
    within = fits.within;
    waits = λ i l d. let w = fits.waits i l d in (w.0, w.1, fewer i w.0 l w.1 w.2);
  }

  module _ (law : Lawful one) (law' : Lawful other) (length dropped : ℕ → ℕ) where
    this : TwoLines one length dropped (start_time one length dropped) (end_time one length dropped)
    this = solves one law length dropped

    that : TwoLines other length dropped (start_time other length dropped) (end_time other length dropped)
    that = solves other law' length dropped

    module _ (i : ℕ) (l : i < tasks) (sooner-ends : (j : ℕ) → j < tasks → these i j ≡ true → end_time one length dropped j ≤ end_time other length dropped j) where
      due-sooner : latest tasks (these i) (end_time one length dropped) ≤ latest tasks (those i) (end_time other length dropped)
      due-sooner = latest-under tasks (these i) (end_time one length dropped) _ (λ j lj w.
          let a = sooner-ends j lj w in
          let b = latest-over tasks (those i) (end_time other length dropped) j lj (fewer i j l lj w) in
          omega arith)

      start-sooner : start_time one length dropped i ≤ start_time other length dropped i
      start-sooner =
          let d = due-sooner in
          by-eq (dropped i) 1
          (λ q.
          let a = start-dropped one length dropped _ _ this i l q in
          let b = start-dropped other length dropped _ _ that i l q in
          omega arith)
          (λ n.
          let a = start-kept one length dropped _ _ this i l n in
          let b = start-kept other length dropped _ _ that i l n in
          omega arith)

      end-sooner : end_time one length dropped i ≤ end_time other length dropped i
      end-sooner =
          let s = start-sooner in
          by-eq (dropped i) 1
          (λ q.
          let a = end-dropped one length dropped _ _ this i l q in
          let b = end-dropped other length dropped _ _ that i l q in
          omega arith)
          (λ n.
          let a = end_kept one length dropped _ _ this i l n in
          let b = end_kept other length dropped _ _ that i l n in
          omega arith)

    ends-sooner : (n i : ℕ) → begin i < n → i < tasks → end_time one length dropped i ≤ end_time other length dropped i
    ends-sooner zero i f l = absurd (omega arith)
    ends-sooner (suc n) i f l =
        end-sooner i l (λ j lj w. let q = sooner one law i j l lj w in ends-sooner n j (omega arith) lj)

    pub starts-sooner : (i : ℕ) → i < tasks → start_time one length dropped i ≤ start_time other length dropped i
    starts-sooner i l = start-sooner i l (λ j lj w. ends-sooner (suc (begin j)) j (omega arith) lj)
