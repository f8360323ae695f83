-- What every call answers.
use Rattle.std.specs.Prelude.{ℕ, Bool, not, cond, Result, Ok, Err, eqb}
use Rattle.plan.specs.declared.Answer.{Answer}

-- the number of the table and what it says besides
abbrev pub refuse : ℕ → ℕ → ℕ → Answer
refuse code first second = record { code = code; first = first; second = second }

abbrev pub granted : Answer
granted = refuse 0 0 0

abbrev pub is_granted : Answer → Bool
is_granted answer = eqb answer.code 0

abbrev pub is_refused : Answer → Bool
is_refused answer = not (is_granted answer)

-- an answer, or where it refuses nothing the next one
abbrev pub or_else : Answer → Answer → Answer
or_else answer next = cond (is_refused answer) answer next

-- an answer as a result: a refusal is the error
unfoldable pub as_result : Answer → Result (Unit {0}) Answer
as_result answer = cond (is_granted answer) (Ok tt) (Err answer)
