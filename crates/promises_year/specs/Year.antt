-- A year: a list of plans and logs, and its totals by sums, greatest and least.
use Rattle.std.specs.Prelude.{ℕ, ◌+◌, ◌-◌, max, min, Bool, true, not, cond, ◌&&◌, List, [], ◌∷◌, ◌++◌, eqb, length}
use Rattle.plan.specs.Answer.{is_granted}
use Rattle.plan.specs.Value.{at}
use Rattle.plan.specs.declared.Plan.{Plan}
use Rattle.school.specs.Lines.{said_in}
use Rattle.school.specs.Tests.{judged_of}
use Rattle.school.specs.Said.{LogLine}
use Rattle.year_rules.specs.Figures.{sum_of, best_of}
use Rattle.year_rules.specs.Totals.{boards, zero_totals, added_of}
use Rattle.year_rules.specs.declared.Tally.{Tally}
use Rattle.year_rules.specs.declared.Totals.{Totals}

-- a plan and a log
pub record Morning : Type 0 where
  pub plan : Plan
  pub log : List ℕ

abbrev pub is_taken : Morning → Bool
is_taken morning = is_granted (judged_of morning.plan morning.log).answer

abbrev pub lines_of : Morning → List LogLine
lines_of morning = said_in morning.plan.boards morning.plan.tasks morning.log

-- which `end` lines: those that name a board, or all
abbrev pub on_board : ℕ → LogLine → Bool
on_board number said = eqb said.board number

abbrev pub on_any : LogLine → Bool
on_any said = true

-- an `end` line says the end of a task
abbrev pub is_end_line : LogLine → Bool
is_end_line said = not (eqb said.end 0)

module _ (which : LogLine → Bool) where
  -- planned finish less logged end, of each such `end` line
  unfoldable pub ends_of : Plan → List LogLine → List ℕ
  ends_of plan [] = []
  ends_of plan (said ∷ lines) =
      let later = ends_of plan lines in
      cond (is_end_line said && which said) ((at plan.finish (said.end - 1) - said.tick) ∷ later) later

  -- over the accepted logs
  unfoldable pub figures_of : List Morning → List ℕ
  figures_of [] = []
  figures_of (morning ∷ year) = cond (is_taken morning) (ends_of morning.plan (lines_of morning)) [] ++ figures_of year

-- of how many the test holds
unfoldable pub many_of : (Morning → Bool) → List Morning → ℕ
many_of test [] = 0
many_of test (morning ∷ year) = cond (test morning) 1 0 + many_of test year

-- tasks ended, ticks early at end summed, the greatest and the least
abbrev pub tallied : List ℕ → Tally
tallied figures =
    record { ended = length figures; sum = sum_of figures; greatest = best_of max figures; least = best_of min figures }

-- the totals of a year
unfoldable pub year_of : List Morning → Totals
year_of year =
    let board : ℕ → Tally = λ b. tallied (figures_of (on_board (b + 1)) year) in
    record {
      accepted = many_of is_taken year;
      refused = many_of (λ morning. not (is_taken morning)) year;
      ended = boards (λ b. (board b).ended);
      sum = boards (λ b. (board b).sum);
      greatest = boards (λ b. (board b).greatest);
      least = boards (λ b. (board b).least);
    }

-- the totals after a call for each of a list, one after another
unfoldable pub fed_from : Totals → List Morning → Totals
fed_from totals [] = totals
fed_from totals (morning ∷ year) = fed_from (added_of totals morning.plan morning.log).totals year

abbrev pub fed : List Morning → Totals
fed year = fed_from zero_totals year
