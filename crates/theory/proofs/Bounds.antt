-- Nobody starts or ends later than planned.
use mathlib.Core.Path.{◌≡◌}
use mathlib.Core.Logic.{◌≢◌}
use mathlib.Core.Bool.{true}
use Prim.Native.Nat.{ℕ, zero, suc, ◌+◌, ◌≤◌, ◌<◌}
use native.Mathlib.Omega.{arith}
use borrow.Author.Tests.{eq-eqb, ne_eqb}
use Rattle.laws.proofs.Cases.{by-eq}
use Rattle.laws.proofs.Latest.{latest-under, latest-over}
use Rattle.theory.specs.Plan.{Plan}
use Rattle.theory.specs.Book.{due, ready_due}
use Rattle.theory.proofs.Facts.{Lawful}
use Rattle.theory.specs.Words.Lines.{TwoLines}
use Rattle.theory.proofs.Fits.{Fits}
use Rattle.theory.proofs.Solved.{sooner}

module _ (plan : Plan) (length dropped start end : ℕ → ℕ) (lines : TwoLines plan length dropped start end) where
  -- the two lines of a dropped task, and of any other
  pub start-dropped : (i : ℕ) → i < plan.tasks → dropped i ≡ 1 → start i ≡ due plan end i
  start-dropped i l d = rw (eq-eqb (dropped i) 1 d) at (lines.starts i l)

  pub start-kept : (i : ℕ) → i < plan.tasks → dropped i ≢ 1 → start i ≡ ready_due plan end i
  start-kept i l n = rw (ne_eqb (dropped i) 1 n) at (lines.starts i l)

  pub end-dropped : (i : ℕ) → i < plan.tasks → dropped i ≡ 1 → end i ≡ start i
  end-dropped i l d = let e : end i ≡ start i + 0 = rw (eq-eqb (dropped i) 1 d) at (lines.ends i l) in omega arith

  pub end_kept : (i : ℕ) → i < plan.tasks → dropped i ≢ 1 → end i ≡ start i + length i
  end_kept i l n = rw (ne_eqb (dropped i) 1 n) at (lines.ends i l)

  -- dropped or not, it starts between the latest end and what is due with its ready tick
  pub start_between : (i : ℕ) → i < plan.tasks → (due plan end i ≤ start i) × (start i ≤ ready_due plan end i)
  start_between i l =
      by-eq (dropped i) 1
      (λ d. let s = start-dropped i l d in (omega arith, omega arith))
      (λ n. let s = start-kept i l n in (omega arith, omega arith))

  -- nobody starts before one it waits for has ended
  pub waits_end : (i j : ℕ) → i < plan.tasks → j < plan.tasks → plan.waits i j ≡ true → end j ≤ start i
  waits_end i j l lj w =
      let o = latest-over plan.tasks (plan.waits i) end j lj w in let b = (start_between i l).0 in omega arith

  module _ (law : Lawful plan) (fits : Fits plan length dropped) where
    ends_by : (i : ℕ) → i < plan.tasks → start i ≤ plan.begin i → end i ≤ plan.finish i
    ends_by i l s =
        let p = law.lasts i l in
        by-eq (dropped i) 1
        (λ d. let e = end-dropped i l d in omega arith)
        (λ n. let e = end_kept i l n in let w = (fits.within i l n).1 in omega arith)

    starts_by : (n i : ℕ) → plan.begin i < n → i < plan.tasks → start i ≤ plan.begin i
    starts_by zero i f l = absurd (omega arith)
    starts_by (suc n) i f l =
        let r = law.ready i l in
        let b = (start_between i l).1 in
        let u = latest-under plan.tasks (plan.waits i) end (plan.begin i) (λ j lj w.
        let q = sooner plan law i j l lj w in
        let s = starts_by n j (omega arith) lj in
        let e = ends_by j lj s in
        let o = law.before i j l lj w in
        omega arith) in
        omega arith

    pub start-by : (i : ℕ) → i < plan.tasks → start i ≤ plan.begin i
    start-by i l = starts_by (suc (plan.begin i)) i (omega arith) l

    pub end_by : (i : ℕ) → i < plan.tasks → end i ≤ plan.finish i
    end_by i l = ends_by i l (start-by i l)
