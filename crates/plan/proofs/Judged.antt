-- What the judging of tasks says: whether some task is planned at 0, the least planned start, the first faulty pair; when a plan is accepted.
use Prim.Native.Nat.{ℕ, ◌<◌, ◌≤◌}
use mathlib.Core.Path.{◌≡◌, refl, sym, ap, ◌∙◌}
use mathlib.Core.Logic.{◌≢◌, ◌↔◌}
use mathlib.Core.Bool.{Bool, true, false, cond, ◌&&◌}
use mathlib.Core.Option.{Option, get_or}
use native.Mathlib.Omega.{arith}
use lib.Dec.{eqb}
use borrow.Author.Tests.{eqb-true, eqb-false, eq-eqb}
use Rattle.laws.proofs.Cases.{by_bool, and_l, and_r}
use Rattle.laws.proofs.Every.{any_of, any_at, any-not, any_same}
use Rattle.laws.proofs.Least.{least_under, least-met, least-or-under, least-same}
use Rattle.plan.specs.Answer.{refuse, granted, is_granted}
use Rattle.plan.specs.Task.{Task}
use Rattle.plan.specs.Pairs.{first_fault}
use Rattle.plan.specs.Judged.{begins_at_zero, least_start, tasks_answer}
use Rattle.plan.specs.Value.{task_at, ranges_ok, judged_answer, is_accepted}
use Rattle.plan.specs.declared.Answer.{Answer}
use Rattle.plan.specs.declared.Plan.{Plan}
use Rattle.plan.proofs.FirstFault.{NoPair, fault-none, fault-granted, fault-same}

module _ (tasks : ℕ) (task : ℕ → Task) where
  abbrev at_zero : ℕ → Bool
  at_zero k = eqb (task k).begin 0

  -- some task is planned at 0
  abbrev pub Begins : Type 0
  Begins = (k : ℕ) × (k < tasks) × ((task k).begin ≡ 0)

  begins-at : begins_at_zero tasks task ≡ true → Begins
  begins-at h = let r = any_at tasks at_zero h in (r.0, r.1, eqb-true (task r.0).begin 0 r.2)

  begins-of : Begins → begins_at_zero tasks task ≡ true
  begins-of b = any_of tasks at_zero b.0 b.1 (eq-eqb (task b.0).begin 0 b.2)

  pub begins-none : begins_at_zero tasks task ≡ false → (k : ℕ) → k < tasks → (task k).begin ≢ 0
  begins-none h k l = eqb-false (task k).begin 0 (any-not tasks at_zero h k l)

  pub none-begins : ((k : ℕ) → k < tasks → (task k).begin ≢ 0) → begins_at_zero tasks task ≡ false
  none-begins n = by_bool (begins_at_zero tasks task) (λ h. let b = begins-at h in absurd (n b.0 b.1 b.2)) (λ h. h)

  -- the least planned start is at most each one, and some task's
  pub start_under : (k : ℕ) → k < tasks → least_start tasks task ≤ (task k).begin
  start_under k l = least-or-under tasks (λ j. true) (λ j. (task j).begin) 0 k l refl

  pub start-met : 0 < tasks → (k : ℕ) × (k < tasks) × ((task k).begin ≡ least_start tasks task)
  start-met some-task =
      let r = least_under tasks (λ j. true) (λ j. (task j).begin) 0 some-task refl in
      let q = least-met tasks (λ j. true) (λ j. (task j).begin) r.0 r.1 in
      let is : least_start tasks task ≡ r.0 = ap (λ (o : Option ℕ). get_or o 0) r.1 in
      (q.0, q.1, q.3 ∙ sym is)

  -- it is 0 exactly where some task is planned at 0
  pub start-zero : 0 < tasks → least_start tasks task ≡ 0 → begins_at_zero tasks task ≡ true
  start-zero some-task z = let r = start-met some-task in begins-of (r.0, r.1, r.2 ∙ z)

  pub start-late : least_start tasks task ≢ 0 → begins_at_zero tasks task ≡ false
  start-late n = none-begins (λ k l e. let u = start_under k l in n (omega arith))

  -- the answer
  pub tasks-late : begins_at_zero tasks task ≡ false → tasks_answer tasks task ≡ refuse 17 (least_start tasks task) 0
  unfolding tasks_answer
  tasks-late h = rw h

  pub tasks-pairs : begins_at_zero tasks task ≡ true → tasks_answer tasks task ≡ first_fault tasks task
  unfolding tasks_answer
  tasks-pairs h = rw h

  passed : (tasks_answer tasks task).code ≡ 0 → begins_at_zero tasks task ≡ true
  passed z =
      by_bool (begins_at_zero tasks task) (λ h. h)
      (λ h. let n = sym (ap (λ (x : Answer). x.code) (tasks-late h)) ∙ z in absurd (omega arith))

  pairs-passed : (tasks_answer tasks task).code ≡ 0 → (first_fault tasks task).code ≡ 0
  pairs-passed z = ap (λ (x : Answer). x.code) (sym (tasks-pairs (passed z))) ∙ z

  -- nothing is found exactly when some task is planned at 0 and no pair is faulty
  pub tasks-fine : ((tasks_answer tasks task).code ≡ 0) ↔ (Begins × NoPair tasks task)
  tasks-fine = (
    λ z. (begins-at (passed z), (fault-none tasks task).0 (pairs-passed z)),
    λ f. ap (λ (x : Answer). x.code) (tasks-pairs (begins-of f.0)) ∙ (fault-none tasks task).1 f.1,
  )

  pub tasks-granted : (tasks_answer tasks task).code ≡ 0 → tasks_answer tasks task ≡ granted
  tasks-granted z = tasks-pairs (passed z) ∙ fault-granted tasks task (pairs-passed z)

-- only the tasks below T count
pub tasks-same :
    (tasks : ℕ) (task other : ℕ → Task) → ((k : ℕ) → k < tasks → task k ≡ other k)
    → tasks_answer tasks task ≡ tasks_answer tasks other
unfolding tasks_answer
tasks-same tasks task other e =
    rw (
      any_same tasks (at_zero tasks task) (at_zero tasks other) (λ k l. ap (λ (t : Task). eqb t.begin 0) (e k l)),
      least-same tasks (λ k. true) (λ k. (task k).begin) (λ k. (other k).begin) (λ k l. ap (λ (t : Task). t.begin) (e k l)),
      fault-same tasks task other e,
    )

-- ---- a plan handed in as a value

module _ (plan : Plan) where
  abbrev judged : Answer
  judged = tasks_answer plan.tasks (task_at plan)

  pub accepted-split : is_accepted plan ≡ (ranges_ok plan && is_granted (tasks_answer plan.tasks (task_at plan)))
  unfolding is_accepted judged_answer
  accepted-split = go (ranges_ok plan) judged
    where
      go : (kept : Bool) (answer : Answer) → is_granted (cond kept answer (refuse 9 0 0)) ≡ (kept && is_granted answer)
      go true answer = refl
      go false answer = refl

  pub accepted-ranges : is_accepted plan ≡ true → ranges_ok plan ≡ true
  accepted-ranges ok = and_l (ranges_ok plan) (is_granted judged) (sym accepted-split ∙ ok)

  pub accepted-tasks : is_accepted plan ≡ true → (tasks_answer plan.tasks (task_at plan)).code ≡ 0
  accepted-tasks ok = eqb-true judged.code 0 (and_r (ranges_ok plan) (is_granted judged) (sym accepted-split ∙ ok))

  pub accepted-of : ranges_ok plan ≡ true → (tasks_answer plan.tasks (task_at plan)).code ≡ 0 → is_accepted plan ≡ true
  accepted-of kept z = accepted-split ∙ rw kept (eq-eqb judged.code 0 z)
