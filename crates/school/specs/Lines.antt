-- The lines of a log that is judged: their forms, and the starts and ends that they say.
use Rattle.std.specs.Prelude.{ℕ, Bool, false, true, not, cond, ◌&&◌, ◌||◌, List, [], ◌∷◌, eqb, length}
use Rattle.laws.specs.Lists.{same}
use Rattle.laws.specs.Split.{split_on}
use Rattle.text.specs.Bytes.{bytes}
use Rattle.text.specs.Number.{value_of, most}
use Rattle.text.specs.Line.{LF, fields, field}
use Rattle.plan.specs.Read.{ranged}
use Rattle.school.specs.Said.{LogLine}

abbrev pub MINUS : ℕ
MINUS = 45

-- Numbers are 0 to 1,000,000
abbrev pub is_tick : List ℕ → Bool
is_tick s = ranged 0 most s

-- ticks early: a number, or `-` before one that is not 0
unfoldable pub is_earliness : List ℕ → Bool
is_earliness [] = false
is_earliness (b ∷ s) = cond (eqb b MINUS) (ranged 1 most s) (is_tick (b ∷ s))

-- the line has so many fields, the first of them the word
abbrev pub is_record : List ℕ → ℕ → List ℕ → Bool
is_record word count line = eqb (length (fields line)) count && same (field line 0) word

-- `run`, `1`, B, T, or `run`, `2`, B, T, `clash`, with the plan's B and T
unfoldable pub is_run : ℕ → ℕ → List ℕ → Bool
is_run boards tasks line =
    ((is_record (bytes "run") 4 line && same (field line 1) (bytes "1"))
    || (is_record (bytes "run") 5 line && (same (field line 1) (bytes "2") && same (field line 4) (bytes "clash"))))
    && (ranged boards boards (field line 2) && ranged tasks tasks (field line 3))

-- `start` or `end`, task 1 to T, board 1 to B, tick, ticks early
unfoldable pub is_moment : List ℕ → ℕ → ℕ → List ℕ → Bool
is_moment word boards tasks line =
    is_record word 5 line && (ranged 1 tasks (field line 1) && (ranged 1 boards (field line 2)
    && (is_tick (field line 3) && is_earliness (field line 4))))

-- `early`, clock, figure; or `refused`, code, and two numbers
unfoldable pub is_remark : List ℕ → Bool
is_remark line =
    (is_record (bytes "early") 3 line && (is_tick (field line 1) && is_tick (field line 2)))
    || (is_record (bytes "refused") 4 line && (is_tick (field line 1) && (is_tick (field line 2) && is_tick (field line 3))))

-- a line that says neither a start nor an end
abbrev pub says_none : Bool → LogLine
says_none formed = record { formed = formed; start = 0; end = 0; board = 0; tick = 0 }

abbrev pub says_start : List ℕ → LogLine
says_start line =
    let says : ℕ → ℕ = λ n. value_of (field line n) in record (says_none true) { start = says 1; board = says 2; tick = says 3 }

abbrev pub says_end : List ℕ → LogLine
says_end line = record (says_start line) { start = 0; end = value_of (field line 1) }

-- a line after the first, without its LF
unfoldable pub later_said : ℕ → ℕ → List ℕ → LogLine
later_said boards tasks line =
    cond (is_moment (bytes "start") boards tasks line) (says_start line)
    (cond (is_moment (bytes "end") boards tasks line) (says_end line) (says_none (is_remark line)))

-- `run` is line 1 and no other
unfoldable pub line_said : ℕ → ℕ → Bool → List ℕ → LogLine
line_said boards tasks is_first line = cond is_first (says_none (is_run boards tasks line)) (later_said boards tasks line)

-- what lines say, the last part being what follows the last LF: nothing, or a line with no LF. An empty log is such a line
unfoldable pub said_from : ℕ → ℕ → Bool → List (List ℕ) → List LogLine
said_from boards tasks is_first [] = []
said_from boards tasks is_first (last ∷ []) = cond (is_first || not (same last [])) (says_none false ∷ []) []
said_from boards tasks is_first (line ∷ next ∷ lines) =
    line_said boards tasks is_first line ∷ said_from boards tasks false (next ∷ lines)

-- the log as the list of its lines
abbrev pub said_in : ℕ → ℕ → List ℕ → List LogLine
said_in boards tasks log = said_from boards tasks true (split_on LF log)
