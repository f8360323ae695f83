-- The report of a year's totals.
use Rattle.std.specs.Prelude.{ℕ, zero, suc, ◌+◌, max, min, Bool, not, cond, List, [], ◌∷◌, ◌++◌, eqb}
use Rattle.laws.specs.Digits.{digits_of}
use Rattle.text.specs.Bytes.{bytes}
use Rattle.text.specs.Line.{line_text, number_or, lines_below}
use Rattle.text.specs.Put.{if_fits}
use Rattle.plan.specs.Answer.{refuse}
use Rattle.plan.specs.Value.{at}
use Rattle.log_write.specs.Lines.{numbers_line, refused_line}
use Rattle.year_rules.specs.Figures.{sum_of, best_of}
use Rattle.year_rules.specs.Totals.{board_tally, totals_ok}
use Rattle.year_rules.specs.declared.Tally.{Tally}
use Rattle.year_rules.specs.declared.Totals.{Totals}

-- the greatest, or the least, of each board below n on which a task ended
unfoldable pub bests_below : List ℕ → List ℕ → ℕ → List ℕ
bests_below ended best zero = []
bests_below ended best (suc n) =
    let lower = bests_below ended best n in
    cond (eqb (at ended n) 0) lower (at best n ∷ lower)

-- `all`, worked out from the boards
unfoldable pub all_tally : Totals → Tally
all_tally totals = record {
  ended = sum_of totals.ended;
  sum = sum_of totals.sum;
  greatest = best_of max (bests_below totals.ended totals.greatest 8);
  least = best_of min (bests_below totals.ended totals.least 8);
}

-- tasks ended, ticks early at end summed, the greatest and the least, `-` where no task ended
abbrev pub tally_fields : Tally → List (List ℕ)
tally_fields tally =
    let some = not (eqb tally.ended 0) in
    digits_of tally.ended ∷ digits_of tally.sum ∷ number_or some tally.greatest ∷ number_or some tally.least ∷ []

-- `logs`, accepted, refused
abbrev pub logs_line : Totals → List ℕ
logs_line totals = numbers_line (bytes "logs") (totals.accepted ∷ totals.refused ∷ [])

-- `board`, number, and its figures
abbrev pub board_line : Totals → ℕ → List ℕ
board_line totals b = line_text (bytes "board" ∷ digits_of (b + 1) ∷ tally_fields (board_tally totals b))

-- of the boards below n, by number
abbrev pub board_lines : Totals → ℕ → List ℕ
board_lines totals n = lines_below (board_line totals) n

-- `all` and the same
abbrev pub all_line : Totals → List ℕ
all_line totals = line_text (bytes "all" ∷ tally_fields (all_tally totals))

unfoldable pub report_of : Totals → List ℕ
report_of totals = logs_line totals ++ (board_lines totals 8 ++ all_line totals)

-- totals past their bounds print their refusal alone; where names were left over, the report is followed by theirs
unfoldable pub year_text : Bool → Totals → List ℕ
year_text past totals =
    cond (totals_ok totals) (report_of totals ++ cond past (refused_line (refuse 28 0 0)) []) (refused_line (refuse 9 0 0))

-- no such text is longer
abbrev pub report_most : ℕ
report_most = 1024

-- what is written into a buffer of so many bytes: nothing where some text would not fit
abbrev pub report_in : ℕ → Bool → Totals → List ℕ
report_in room past totals = if_fits report_most room (year_text past totals)
