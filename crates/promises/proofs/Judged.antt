-- What an accepted plan says: its ranges, its tasks, and that tasks of one board stand in a row.
use Prim.Native.Nat.{ℕ, ◌≤◌, ◌<◌}
use native.Mathlib.Omega.{arith}
use mathlib.Core.Bool.{true}
use mathlib.Core.Path.{◌≡◌, sym, subst}
use mathlib.Core.Logic.{◌↔◌, ⊎_elim}
use borrow.Author.Tests.{leb-true}
use Rattle.plan.specs.Value.{at, task_at, ranges_ok, is_accepted}
use Rattle.plan.specs.declared.Plan.{Plan}
use Rattle.plan.proofs.Judged.{tasks-fine, accepted-ranges, accepted-tasks, accepted-of}
use Rattle.book_view.proofs.Accepted.{plan-facts}
use Rattle.book.proofs.Fits.{plan-turns}
use Rattle.promises.specs.Ladder.{Ladder}
use Rattle.promises.specs.Checks.{pair_checks}
use Rattle.promises.proofs.Codes.Clashes.{pair-ladder, pair-zero}

pub plan-accepted :
    (plan : Plan)
    → (is_accepted plan ≡ true)
    ↔ ((ranges_ok plan ≡ true)
    × ((k : ℕ) × (k < plan.tasks) × (at plan.begin k ≡ 0))
    × ((a b : ℕ) → a ≤ b → b < plan.tasks → Ladder (pair_checks (task_at plan) a b) 0))
plan-accepted plan =
    let fine = tasks-fine plan.tasks (task_at plan) in (
      λ ok.
          let f = fine.0 (accepted-tasks plan ok) in
          (accepted-ranges plan ok, f.0, λ a b h l. subst (Ladder (pair_checks (task_at plan) a b)) (f.1 a b h l) (pair-ladder (task_at plan) a b)),
      λ r. accepted-of plan r.0 (fine.1 (r.1, λ a b h l. pair-zero (task_at plan) a b (r.2 a b h l))),
    )

pub first_run :
    (plan : Plan) → is_accepted plan ≡ true → (i j k : ℕ) → j < plan.tasks → k < plan.tasks
    → at plan.board k ≡ at plan.board j → at plan.begin k < at plan.begin j
    → at plan.finish j ≤ at plan.begin i → at plan.finish k ≤ at plan.begin i
first_run plan ok i j k lj lk same sooner waits =
    let lasts = ((plan-facts plan ok).task j lj).lasts in
    ⊎_elim
    (λ w. let f = leb-true (at plan.finish k) (at plan.begin j) w in omega (arith, f, lasts, waits))
    (λ w. let f = leb-true (at plan.finish j) (at plan.begin k) w in absurd (omega (arith, f, lasts, sooner)))
    (plan-turns 0 plan ok j k lj lk (λ e. differ e) (sym same))
  where
    differ : j ≡ k → ⊥
    differ e = let q : at plan.begin k < at plan.begin k = rw e at sooner in omega (arith, q)
