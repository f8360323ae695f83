-- What stands in a line past its word.
use Rattle.std.specs.Prelude.{ℕ, ◌-◌, Bool, cond, ◌&&◌, ◌||◌, List, Option, None, Some, eqb, length}
use Rattle.laws.specs.Lists.{same}
use Rattle.text.specs.Bytes.{bytes}
use Rattle.text.specs.Number.{value_of}
use Rattle.text.specs.Line.{fields, field}
use Rattle.plan.specs.Read.{ranged}
use Rattle.school.specs.Lines.{is_tick, is_earliness}
use Rattle.school.specs.declared.Moment.{Moment}

-- a number from low to high
abbrev pub number_in : ℕ → ℕ → List ℕ → Option ℕ
number_in low high s = cond (ranged low high s) (Some (value_of s)) None

-- task, board, tick, ticks early
unfoldable pub moment_rest : ℕ → ℕ → List ℕ → Bool
moment_rest boards tasks rest =
    eqb (length (fields rest)) 4 && (ranged 1 tasks (field rest 0) && (ranged 1 boards (field rest 1)
    && (is_tick (field rest 2) && is_earliness (field rest 3))))

-- the moment that is said there
unfoldable pub moment_in : ℕ → ℕ → List ℕ → Option Moment
moment_in boards tasks rest =
    let says : ℕ → ℕ = λ n. value_of (field rest n) in
    cond (moment_rest boards tasks rest) (Some (record { place = says 0 - 1; board = says 1; tick = says 2 })) None

unfoldable pub two_ticks : List ℕ → Bool
two_ticks rest = eqb (length (fields rest)) 2 && (is_tick (field rest 0) && is_tick (field rest 1))

unfoldable pub three_ticks : List ℕ → Bool
three_ticks rest = eqb (length (fields rest)) 3 && (is_tick (field rest 0) && (is_tick (field rest 1) && is_tick (field rest 2)))

unfoldable pub remark_rest : List ℕ → List ℕ → Bool
remark_rest word rest = (same word (bytes "early") && two_ticks rest) || (same word (bytes "refused") && three_ticks rest)
