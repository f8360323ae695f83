-- Of all accepted logs with the same lengths none starts a task sooner than the engine by the clash rule.
use Prim.Native.Nat.{ℕ, zero, suc, ◌≤◌, ◌<◌}
use native.Mathlib.Omega.{arith}
use mathlib.Core.Path.{◌≡◌, ◌∙◌}
use mathlib.Core.Bool.{true}
use mathlib.Core.List.{List}
use lib.Dec.{leb}
use borrow.Author.Tests.{leb-true}
use Rattle.laws.proofs.Cases.{and_l, and_r}
use Rattle.laws.proofs.Latest.{latest-under}
use Rattle.theory.specs.Plan as theory-plan
use Rattle.theory.proofs.Facts.{Lawful}
use Rattle.theory.specs.Times.{start_time, end_time}
use Rattle.theory.specs.Words.Lines.{TwoLines}
use Rattle.theory.proofs.Fits.{Fits}
use Rattle.theory.proofs.Refused.{none-bad, none-idle}
use Rattle.theory.proofs.Solved.{sooner, solves}
use Rattle.theory.proofs.Bounds.{start-kept, end_kept}
use Rattle.engine.proofs.LengthLaws.{lengths_none}
use Rattle.plan.specs.Answer.{granted}
use Rattle.plan.specs.Pairs.{clash}
use Rattle.plan.specs.Value.{at, task_at, is_accepted}
use Rattle.plan.specs.declared.Plan.{Plan}
use Rattle.book_view.specs.View.{plan_for}
use Rattle.book_view.proofs.Accepted.{plan-lawful, clash-swap}
use Rattle.book.specs.declared.Rule.TheVariants.{Clash}
use Rattle.engine.specs.Timetable.{timetable_answer, timetable_of}
use Rattle.engine.specs.declared.Lengths.{Lengths}
use Rattle.promises.proofs.Demand3.{clash-is}
use Rattle.promises_engine.proofs.Said.{given-of}
use Rattle.promises_school.specs.Judged.{AcceptedLog, LengthsOf}

module _ (plan : Plan) (ok : is_accepted plan ≡ true) (log : List ℕ) (start end : ℕ → ℕ) (a : AcceptedLog plan log start end)
    (given : Lengths) (own : LengthsOf plan start end given) where
  abbrev seen : theory-plan.Plan
  seen = plan_for 1 plan

  abbrev long : ℕ → ℕ
  long = at given.length

  abbrev gone : ℕ → ℕ
  gone = at given.dropped

  fits : Fits seen long gone
  fits = record {
    within = λ i l n.
        let e = own.lengths i l in
        let lo = (a.lengths i l).0 in
        let hi = (a.lengths i l).1 in
        (omega arith, omega arith);
    waits = λ i l d. absurd (own.kept i l d);
  }

  pub engine-takes : (timetable_of plan Clash given).answer ≡ granted
  unfolding timetable_of timetable_answer
  engine-takes = rw (ok, lengths_none plan.tasks _ _ (none-bad seen long gone fits) (none-idle seen long gone fits))

  law : Lawful seen
  law = plan-lawful plan ok 1

  times : TwoLines seen long gone (start_time seen long gone) (end_time seen long gone)
  times = solves seen law long gone

  -- whoever is waited for had ended in the log
  waited : (i j : ℕ) → i < plan.tasks → j < plan.tasks → seen.waits i j ≡ true → end j ≤ start i
  waited i j l lj w =
      a.order j i lj l ((clash-is (task_at plan) j i).0 (clash-swap (task_at plan) j i ∙ and_l (clash (task_at plan) i j) _ w))
      (leb-true (at plan.finish j) (at plan.begin i) (and_r (clash (task_at plan) i j) (leb (at plan.finish j) (at plan.begin i)) w))

  -- by induction on the planned start
  starts_by : (n i : ℕ) → at plan.begin i < n → i < plan.tasks → start_time seen long gone i ≤ start i
  starts_by zero i f l = absurd (omega arith)
  starts_by (suc n) i f l =
      let s = start-kept seen long gone _ _ times i l (own.kept i l) in
      let r = (a.in_time i l).0 in
      let u = latest-under plan.tasks (seen.waits i) (end_time seen long gone) (start i) (λ j lj w.
      let q = sooner seen law i j l lj w in
      let b = starts_by n j (omega arith) lj in
      let e = end_kept seen long gone _ _ times j lj (own.kept j lj) in
      let m = own.lengths j lj in
      let o = (a.lengths j lj).0 in
      let d = waited i j l lj w in
      omega arith) in
      omega arith

  pub engine-sooner :
      (i : ℕ) → i < plan.tasks
      → (at (timetable_of plan Clash given).start i ≤ start i) × (at (timetable_of plan Clash given).end i ≤ end i)
  engine-sooner i l =
      let table = given-of plan Clash given engine-takes in
      let b = starts_by (suc (at plan.begin i)) i (omega arith) l in
      let s = table.starts i l in
      let e = table.ends i l in
      let k = end_kept seen long gone _ _ times i l (own.kept i l) in
      let m = own.lengths i l in
      let o = (a.lengths i l).0 in
      (omega arith, omega arith)
