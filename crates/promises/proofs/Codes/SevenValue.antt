-- A plan value of edition 1 is accepted, and written, as before.
use Prim.Native.Nat.{ℕ, zero, suc, ◌+◌}
use mathlib.Core.Bool.{true, ◌&&◌}
use mathlib.Core.List.{List, ◌++◌}
use mathlib.Core.Path.{◌≡◌, refl, ap, ◌∙◌}
use Rattle.laws.specs.Digits.{digits_from, digits_of}
use Rattle.laws.proofs.Every.{every-same}
use Rattle.text.specs.Line.{lines_below}
use Rattle.text_fields.specs.Items.{between}
use Rattle.plan.specs.Answer.{is_granted}
use Rattle.plan.specs.Task.{Task}
use Rattle.plan.specs.Judged.{tasks_answer}
use Rattle.plan.specs.Value.{task_at, kept_ok, past_blank, ranges_ok, is_accepted}
use Rattle.plan.specs.Write.{sizes_text, task_text, task_texts, text_of}
use Rattle.plan.specs.declared.Plan.{Plan}
use Rattle.plan.proofs.Judged.{accepted-split}
use Rattle.promises.specs.Edition1.{seven_kept, seven_accepted, seven_texts, seven_text}

texts-seven : (task : ℕ → Task) (n : ℕ) → task_texts 1 task n ≡ seven_texts task n
unfolding lines_below task_text seven_texts
texts-seven task zero = refl
texts-seven task (suc n) = ap (λ (s : List ℕ). s ++ task_text 1 (n + 1) (task n)) (texts-seven task n)

module _ (plan : Plan) (one : plan.edition ≡ 1) where
  kept-seven : (k : ℕ) → kept_ok plan k ≡ seven_kept plan k
  unfolding kept_ok
  kept-seven k = rw one

  pub accepted-seven : is_accepted plan ≡ seven_accepted plan
  unfolding ranges_ok
  accepted-seven =
      let first : between 1 2 plan.edition ≡ true = rw one in
      let kept = every-same plan.tasks (kept_ok plan) (seven_kept plan) (λ k l. kept-seven k) in
      let judged = is_granted (tasks_answer plan.tasks (task_at plan)) in
      accepted-split plan
      ∙ (λ i. (first i && (between 1 8 plan.boards && (between 1 64 plan.tasks && (kept i && past_blank plan)))) && judged)

  pub text-seven : text_of plan ≡ seven_text plan
  unfolding text_of sizes_text digits_of digits_from
  text-seven = rw (one, texts-seven (task_at plan) plan.tasks)
