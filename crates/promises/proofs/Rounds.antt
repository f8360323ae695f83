-- Both round trips, over the public definitions.
use Prim.Native.Nat.{ℕ, ◌≤◌}
use mathlib.Core.Path.{◌≡◌, sym, ap, ◌∙◌}
use mathlib.Core.Bool.{true, false}
use mathlib.Core.List.{List}
use lib.ListN.{length, take, drop}
use Rattle.plan.specs.Answer.{granted}
use Rattle.plan.specs.Value.{is_accepted}
use Rattle.plan.specs.Read.{text_answer, reading_of}
use Rattle.plan.specs.Write.{text_of, written_of, buffer_after}
use Rattle.plan.specs.declared.Answer.{Answer}
use Rattle.plan.specs.declared.Plan.{Plan}
use Rattle.plan.proofs.ReadOk.{read_answer, read-accepted}
use Rattle.plan.proofs.RoundText.{read_back}
use Rattle.plan.proofs.RoundWrite.{write-text, write-rest, write-back}
use Rattle.book.specs.Words.Sized.{SizedPlan}

module _ (text : List ℕ) (z : (reading_of text).answer.code ≡ 0) where
  code-zero : (text_answer false text).code ≡ 0
  code-zero = sym (ap (λ (x : Answer). x.code) (read_answer false text)) ∙ z

  pub reading-accepted : is_accepted (reading_of text).plan ≡ true
  reading-accepted = read-accepted false text code-zero

  pub text-back : text_of (reading_of text).plan ≡ text
  text-back = read_back text code-zero

pub text-written :
    (text out : List ℕ) → (reading_of text).answer.code ≡ 0 → length text ≤ length out
    → take (length text) (buffer_after (reading_of text).plan out) ≡ text
text-written text out z room =
    let e = text-back text z in
    let r : length (text_of (reading_of text).plan) ≤ length out = rw e room in
    ap (λ (t : List ℕ). take (length t) (buffer_after (reading_of text).plan out)) (sym e)
    ∙ write-text (reading_of text).plan out (reading-accepted text z) r
    ∙ e

pub plan-back :
    (plan : Plan) (out : List ℕ) → SizedPlan plan → is_accepted plan ≡ true → length (text_of plan) ≤ length out
    → reading_of (take (written_of plan (length out)).length (buffer_after plan out)) ≡ record { answer = granted; plan = plan }
plan-back plan out size ok room = write-back plan out ok room size

pub rest-stays :
    (plan : Plan) (out : List ℕ) → is_accepted plan ≡ true → length (text_of plan) ≤ length out
    → drop (length (text_of plan)) (buffer_after plan out) ≡ drop (length (text_of plan)) out
rest-stays plan out ok room = write-rest plan out ok room
