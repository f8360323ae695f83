-- What a plan handed in as a value is judged: by its ranges, then by its tasks.
use Prim.Native.Nat.{◌≤◌, ◌<◌}
use mathlib.Core.Bool.{true, false}
use mathlib.Core.Path.{◌≡◌, ◌∙◌}
use mathlib.Core.Logic.{◌⊎◌, inl, inr, ⊎_elim}
use Rattle.laws.proofs.Cases.{by_bool, by-eq, and_l, and_r}
use Rattle.text_fields.specs.Items.{between}
use Rattle.plan.specs.Answer.{refuse, granted}
use Rattle.plan.specs.Pairs.{first_fault}
use Rattle.plan.specs.Judged.{begins_at_zero, tasks_answer}
use Rattle.plan.specs.Value.{task_at, ranges_ok, judged_answer, is_accepted}
use Rattle.plan.specs.declared.Answer.{Answer}
use Rattle.plan.specs.declared.Plan.{Plan}
use Rattle.plan.proofs.FirstFault.{fault-first, fault-granted}
use Rattle.plan.proofs.Judged.{tasks-late, tasks-pairs}
use Rattle.plan.proofs.PlanTasks.{between-facts}
use Rattle.promises.specs.Says.{JudgedSays}
use Rattle.promises.proofs.Codes.Pairs.{pair-number, named}
use Rattle.promises.proofs.Codes.Reading.{late-starts}

module _ (plan : Plan) where
  unkept : ranges_ok plan ≡ false → judged_answer plan ≡ refuse 9 0 0
  unfolding judged_answer
  unkept h = rw h

  kept : ranges_ok plan ≡ true → judged_answer plan ≡ tasks_answer plan.tasks (task_at plan)
  unfolding judged_answer
  kept h = rw h

  accepted-by : judged_answer plan ≡ granted → is_accepted plan ≡ true
  unfolding is_accepted
  accepted-by e = rw e

  some-task : ranges_ok plan ≡ true → 0 < plan.tasks
  unfolding ranges_ok
  some-task h =
      let sizes = and_r (between 1 8 plan.boards) _ (and_r (between 1 2 plan.edition) _ h) in
      (between-facts 1 64 plan.tasks (and_l (between 1 64 plan.tasks) _ sizes)).0

  pub judged-says : JudgedSays plan (judged_answer plan)
  judged-says =
      by_bool (ranges_ok plan)
      (λ h.
      by_bool (begins_at_zero plan.tasks (task_at plan))
      (λ b.
      let e = kept h ∙ tasks-pairs plan.tasks (task_at plan) b in
      by-eq (first_fault plan.tasks (task_at plan)).code 0
      (λ z. let g = e ∙ fault-granted plan.tasks (task_at plan) z in JudgedSays.accepted (accepted-by g) g)
      (λ n.
      let f = fault-first plan.tasks (task_at plan) n in
      ⊎_elim (λ z. absurd (f.faulty z)) (λ c. JudgedSays.faulty_pair _ _ _ h (named plan.tasks (task_at plan) f c) (e ∙ f.is))
      (pair-number (task_at plan) f.a f.b)))
      (λ b. JudgedSays.late _ h (late-starts plan.tasks (task_at plan) (some-task h) b) (kept h ∙ tasks-late plan.tasks (task_at plan) b)))
      (λ h. JudgedSays.unkept h (unkept h))

  pub judged-code : ((judged_answer plan).code ≡ 0) ⊎ (((judged_answer plan).code ≡ 9) ⊎ (((judged_answer plan).code ≡ 17) ⊎ ((6 ≤ (judged_answer plan).code) × ((judged_answer plan).code ≤ 8))))
  judged-code = go (judged_answer plan) judged-says
    where
      go : (r : Answer) → JudgedSays plan r → (r.code ≡ 0) ⊎ ((r.code ≡ 9) ⊎ ((r.code ≡ 17) ⊎ ((6 ≤ r.code) × (r.code ≤ 8))))
      go r (JudgedSays.accepted a e) = inl (rw e)
      go r (JudgedSays.unkept h e) = inr (inl (rw e))
      go r (JudgedSays.late start h l e) = inr (inr (inl (rw e)))
      go r (JudgedSays.faulty_pair code a b h f e) = inr (inr (inr (rw e f.number)))
