-- An answer of several lines.
use Rattle.std.specs.Prelude.{ℕ, List}
use Rattle.text.specs.Put.{Filled}

-- no answer to one line is longer
abbrev pub answer_most : ℕ
answer_most = 3432

-- an answer is written from the first byte on, and r is its length
abbrev pub Answered : List ℕ → List ℕ → List ℕ → ℕ → Type 0
Answered out text written r = Filled answer_most out text written r
