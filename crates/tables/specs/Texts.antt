-- Rows about plan texts: what a text is answered.
use Rattle.std.specs.Prelude.{ℕ, Bool, ◌&&◌, List, eqb}
use Rattle.plan.specs.Read.{reading_of, mended_of}
use Rattle.plan.specs.declared.Answer.{Answer}

-- this text gives this answer
pub record Reads : Type 0 where
  pub text : List ℕ
  pub answer : Answer

abbrev pub reads : List ℕ → Answer → Reads
reads text answer = record { text = text; answer = answer }

abbrev pub same_answer : Answer → Answer → Bool
same_answer one other = eqb one.code other.code && (eqb one.first other.first && eqb one.second other.second)

-- by reading, and by the second call
abbrev pub answered : Reads → Bool
answered row = let said = (reading_of row.text).answer in same_answer said row.answer

abbrev pub mended_says : Reads → Bool
mended_says row = let said = (mended_of row.text).answer in same_answer said row.answer
