-- What the writer leaves in the buffer reads back as the plan.
use Prim.Native.Nat.{ℕ, ◌≤◌}
use mathlib.Core.List.{List}
use mathlib.Core.Bool.{true}
use mathlib.Core.Path.{◌≡◌, ap, ◌∙◌}
use native.Mathlib.Omega.{arith}
use lib.ListN.{length, take, drop}
use lib.Seq.{sets, take-append_seam}
use borrow.Author.Tests.{le-ltb}
use Rattle.laws.proofs.Rows.{drop-sets-past}
use Rattle.laws.proofs.Blank.{sets-front}
use Rattle.plan.specs.Answer.{granted}
use Rattle.plan.specs.Value.{is_accepted}
use Rattle.plan.specs.Read.{reading_of}
use Rattle.plan.specs.Write.{text_of, write_answer, written_of, buffer_after}
use Rattle.plan.specs.declared.Plan.{Plan}
use Rattle.plan.proofs.PlanTasks.{SizedPlan}
use Rattle.plan.proofs.RoundPlan.{plan-back}

module _ (plan : Plan) (out : List ℕ) (ok : is_accepted plan ≡ true) (room : length (text_of plan) ≤ length out) where
  pub write_granted : write_answer plan (length out) ≡ granted
  unfolding write_answer
  write_granted = rw (ok, le-ltb (length out) (length (text_of plan)) room)

  -- the bytes of the text
  pub write-length : (written_of plan (length out)).length ≡ length (text_of plan)
  unfolding written_of
  write-length = rw write_granted

  written : buffer_after plan out ≡ sets out 0 (text_of plan)
  unfolding buffer_after
  written = rw write_granted

  pub write-text : take (length (text_of plan)) (buffer_after plan out) ≡ text_of plan
  write-text =
      ap (take (length (text_of plan))) (written ∙ sets-front (text_of plan) out room)
      ∙ take-append_seam (text_of plan) (drop (length (text_of plan)) out)

  -- and only they are changed
  pub write-rest : drop (length (text_of plan)) (buffer_after plan out) ≡ drop (length (text_of plan)) out
  write-rest =
      ap (drop (length (text_of plan))) written
      ∙ drop-sets-past (length (text_of plan)) out 0 (text_of plan) (omega arith)

  -- what the writer leaves reads back
  pub write-back :
      SizedPlan plan
      → reading_of (take (written_of plan (length out)).length (buffer_after plan out)) ≡ record { answer = granted; plan = plan }
  write-back size =
      ap (λ (n : ℕ). reading_of (take n (buffer_after plan out))) write-length
      ∙ ap reading_of write-text
      ∙ plan-back plan ok size
