-- A whole reading: its lines, then its tasks.
use Prim.Native.Nat.{ℕ}
use mathlib.Core.Path.{◌≡◌, refl, sym, ap, ◌∙◌}
use mathlib.Core.Logic.{◌≢◌}
use mathlib.Core.Bool.{Bool, true}
use mathlib.Core.List.{List, [], ◌∷◌}
use native.Mathlib.Omega.{arith}
use lib.Dec.{eqb}
use lib.ListN.{replicate}
use borrow.Author.Tests.{eq-eqb, ne_eqb}
use Rattle.laws.specs.Lists.{all_of}
use Rattle.laws.proofs.Cases.{and_l, and_r, and-of, or_r}
use Rattle.laws.proofs.Lists.{all-rows, all_same}
use Rattle.text_fields.specs.Items.{between}
use Rattle.plan.specs.Pairs.{pair_code, pairs_fault, first_fault}
use Rattle.plan.specs.Judged.{tasks_answer}
use Rattle.plan.specs.Value.{plan_of, zero_plan, task_at}
use Rattle.plan.specs.Read.{boards_of, tasks_of, form_answer, text_task, text_answer, text_plan, lines_of, read_in}
use Rattle.plan.specs.declared.Answer.{Answer}
use Rattle.plan.specs.declared.Reading.{Reading}
use Rattle.plan.specs.declared.Plan.{Plan}
use Rattle.plan.proofs.Judged.{tasks-granted}
use Rattle.plan.proofs.PlanTasks.{between-of}
use Rattle.plan.proofs.ReadOk.{FormOk, form-ok, ok-form, form-tasks, form-ranges, form-judged}
use Rattle.plan.specs.Private.Drives.{is_drive}
use Rattle.plan.proofs.Drives.{task-in-range}
use Rattle.plan_judge.specs.Tasks.{is_place, tasks_judged}
use Rattle.std.specs.Prelude.{Result, Ok, Err}
use Rattle.plan_read.specs.Mode.{IsRead}

-- each place that has a drive of the 32 has nothing or one
all_more : (l : List ℕ) → all_of is_drive l ≡ true → all_of is_place l ≡ true
unfolding all_of
all_more [] h = refl
all_more (x ∷ l) h =
    and-of (or_r (eqb x 0) (and_l (is_drive x) (all_of is_drive l) h)) (all_more l (and_r (is_drive x) (all_of is_drive l) h))

lines-answer : (mends : Bool) (s : List ℕ) → (lines_of mends s).answer ≡ form_answer mends s
unfolding lines_of
lines-answer mends s = refl

module _ (mends : Bool) (s : List ℕ) {lines : Reading} (l : lines ≡ lines_of mends s) where
  says : lines.answer ≡ form_answer mends s
  says = ap (λ (x : Reading). x.answer) l ∙ lines-answer mends s

  answer-line : lines.answer.code ≢ 0 → text_answer mends s ≡ form_answer mends s
  unfolding text_answer
  answer-line n = rw (ne_eqb (form_answer mends s).code 0 (rw says at n))

  pub reading-line : lines.answer.code ≢ 0 → lines ≡ read_in mends s
  unfolding read_in lines_of
  reading-line n = l ∙ rw (answer-line n)

  module _ (clean : lines.answer.code ≡ 0) where
    form : FormOk mends s
    form = form-ok mends s (rw says at clean)

    plan-is : lines.plan ≡ text_plan mends s
    unfolding lines_of
    plan-is = rw (l, eq-eqb (form_answer mends s).code 0 (rw says at clean))

    tasks_are : lines.plan.tasks ≡ tasks_of s
    unfolding plan_of
    tasks_are = rw plan-is

    -- there is a task, and the drives of what was read are of the 32
    places : all_of is_place lines.plan.holds ≡ true
    unfolding plan_of
    places =
        rw plan-is
        (all-rows is_place 32 (tasks_of s) (λ k. (text_task mends s k).holds) (replicate 2048 0)
        (λ k h. all_more (text_task mends s k).holds (task-in-range (boards_of s) (tasks_of s) (text_task mends s k) (form-ranges mends s form k h)))
        (all_same is_place 2048 0 refl))

    few : between 1 64 lines.plan.tasks ≡ true
    few = rw tasks_are (between-of 1 64 (tasks_of s) (form-tasks mends s form).0 (form-tasks mends s form).1)

    abbrev judged-read : Plan → Answer
    judged-read plan = tasks_judged plan.tasks plan.board plan.begin plan.finish plan.holds plan.after

    module _ {fault : Answer} (judged : fault ≡ judged-read lines.plan) where
      f : fault ≡ tasks_answer lines.plan.tasks (task_at lines.plan)
      unfolding tasks_judged tasks_answer first_fault pairs_fault pair_code
      f = judged ∙ rw (few, places)

      answer-tasks : text_answer mends s ≡ fault
      unfolding text_answer
      answer-tasks =
          rw (eq-eqb (form_answer mends s).code 0 (rw says at clean)) (sym (f ∙ rw (tasks_are, plan-is) (form-judged mends s form)))

      pub reading-fault : fault.code ≢ 0 → ◌≡◌ {A = Reading} (record { answer = fault; plan = zero_plan }) (read_in mends s)
      unfolding read_in
      reading-fault n = rw (answer-tasks, ne_eqb fault.code 0 n)

      pub reading-in : fault.code ≡ 0 → lines ≡ read_in mends s
      unfolding read_in lines_of
      reading-in z =
          let g = f ∙ tasks-granted lines.plan.tasks (task_at lines.plan) (ap (λ (x : Answer). x.code) (sym f) ∙ z) in
          l ∙ rw (ok-form mends s form, answer-tasks, g)

-- by what reading the lines answers: a refusal is none of a right text, which has tasks
module _ (mends : Bool) (s : List ℕ) {answer : Answer} (l : ◌≡◌ {A = Reading} (record { answer = answer; plan = zero_plan }) (lines_of mends s)) where
  refuses : answer.code ≢ 0
  unfolding plan_of
  refuses z =
      let none : 0 ≡ tasks_of s = tasks_are mends s l z in
      let some = (form-tasks mends s (form mends s l z)).0 in
      omega (arith, none, some)

  pub reading-err : ◌≡◌ {A = Reading} (record { answer = answer; plan = zero_plan }) (read_in mends s)
  reading-err = reading-line mends s l refuses

-- no second answer, and no second plan, is what reading the lines gives
pub lines-whole :
    (mends : Bool) (s : List ℕ) {p q : Plan} (a b : Result (Unit {0}) Answer) → IsRead (lines_of mends s) p a → IsRead (lines_of mends s) q b → (a ≡ b) × (p ≡ q)
lines-whole mends s (Ok x) (Ok y) f g = (refl, ap (λ (r : Reading). r.plan) (f ∙ sym g))
lines-whole mends s (Ok x) (Err b) f g = absurd (refuses mends s g.1 (ap (λ (r : Reading). r.answer.code) (g.1 ∙ sym f)))
lines-whole mends s (Err a) (Ok y) f g = absurd (refuses mends s f.1 (ap (λ (r : Reading). r.answer.code) (f.1 ∙ sym g)))
lines-whole mends s (Err a) (Err b) f g = (ap (λ (r : Reading). Err r.answer) (f.1 ∙ sym g.1), f.0 ∙ sym g.0)
