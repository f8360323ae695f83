-- What the writer answers, case by case.
use Prim.Native.Nat.{ℕ}
use mathlib.Core.Bool.{cond}
use mathlib.Core.List.{List}
use mathlib.Core.Path.{◌≡◌}
use mathlib.Core.Logic.{◌⊎◌, inl, inr}
use lib.ListN.{length}
use lib.Seq.{sets}
use borrow.Author.Tests.{le-ltb, lt-ltb}
use Rattle.laws.proofs.Cases.{by_bool, by_le}
use Rattle.plan.specs.Answer.{refuse, granted, is_granted}
use Rattle.plan.specs.Value.{is_accepted}
use Rattle.plan.specs.Write.{text_of, write_answer, written_of, buffer_after}
use Rattle.plan.specs.declared.Answer.{Answer}
use Rattle.plan.specs.declared.Plan.{Plan}
use Rattle.plan.specs.declared.WriteResult.{WriteResult}
use Rattle.promises.specs.Says.{WriteSays}

module _ (plan : Plan) (out : List ℕ) where
  write_as : (x : Answer) → write_answer plan (length out) ≡ x → (written_of plan (length out) ≡ record { answer = x; length = cond (is_granted x) (length (text_of plan)) 0 }) × (buffer_after plan out ≡ cond (is_granted x) (sets out 0 (text_of plan)) out)
  unfolding written_of buffer_after
  write_as x e = (rw e, rw e)

  pub write-says : WriteSays plan out (written_of plan (length out)) (buffer_after plan out)
  unfolding write_answer
  write-says =
      by_bool (is_accepted plan)
      (λ h.
      by_le (length (text_of plan)) (length out)
      (λ l. let w = write_as granted (rw (h, le-ltb (length out) (length (text_of plan)) l)) in WriteSays.written h l w.0 w.1)
      (λ l.
      let w = write_as (refuse 16 (length (text_of plan)) 0) (rw (h, lt-ltb (length out) (length (text_of plan)) l)) in
      WriteSays.too_short h l w.0 w.1))
      (λ h. let w = write_as (refuse 9 0 0) (rw h) in WriteSays.unaccepted h w.0 w.1)

pub write-code :
    (plan : Plan) (out : List ℕ)
    → ((written_of plan (length out)).answer.code ≡ 0)
    ⊎ (((written_of plan (length out)).answer.code ≡ 9) ⊎ ((written_of plan (length out)).answer.code ≡ 16))
write-code plan out = go (written_of plan (length out)) (buffer_after plan out) (write-says plan out)
  where
    go : (r : WriteResult) (after : List ℕ) → WriteSays plan out r after → (r.answer.code ≡ 0) ⊎ ((r.answer.code ≡ 9) ⊎ (r.answer.code ≡ 16))
    go r after (WriteSays.written h l e b) = inl (rw e)
    go r after (WriteSays.unaccepted h e b) = inr (inl (rw e))
    go r after (WriteSays.too_short h l e b) = inr (inr (rw e))
