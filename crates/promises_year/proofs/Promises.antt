-- REQUEST P14. The year in whole numbers.
-- Boards are counted from 0: b is board b + 1. A morning is a plan and a log, a year a list of them.
use Prim.Native.Nat.{ℕ, ◌+◌, ◌-◌, ◌≤◌, ◌<◌, max, min}
use native.Mathlib.Omega.{arith}
use mathlib.Core.Path.{◌≡◌, refl, sym, ap, ◌∙◌}
use mathlib.Core.Bool.{Bool, true, cond}
use mathlib.Core.List.{List, [], ◌++◌, Permᴰ}
use lib.Dec.{eqb, leb}
use lib.ListN.{length, take}
use lib.Seq.{take_all}
use Rattle.laws.specs.Lists.{all_of, any_of}
use Rattle.plan.specs.Answer.{refuse}
use Rattle.plan.specs.Value.{at}
use Rattle.log_write.specs.Lines.{refused_line}
use Rattle.year_rules.specs.Figures.{best_of}
use Rattle.year_rules.specs.Totals.{totals_ok, not_added, added_of}
use Rattle.year_rules.specs.declared.Totals.{Totals}
use Rattle.year_rules.specs.Totals.{board_tally}
use Rattle.year_write.specs.Report.{all_tally, report_of, year_text}
use Rattle.promises.specs.Ladder.{Ladder}
use Rattle.promises_year.specs.Says.{add_checks, AddedSays}
use Rattle.promises_year.specs.Year.{Morning, is_taken, lines_of, on_board, on_any, is_end_line, figures_of, tallied, year_of, fed}
use Rattle.promises_year.proofs.Answers as answers
use Rattle.promises_year.proofs.Best as best
use Rattle.promises_year.proofs.Fed as lists
use Rattle.promises_year.proofs.Ends as ends
use Rattle.promises_year.proofs.Orders as orders
use Rattle.promises_year.proofs.All as all

-- 9 for totals past their bounds; then 28 for the 10,001st log; any other log is added
pub add-checks : (totals : Totals) (morning : Morning) → Ladder (add_checks totals) (added_of totals morning.plan morning.log).answer.code
add-checks = answers.add-ladder

-- neither changes a total or count; a refused log adds nothing but is counted apart; an accepted one adds the figures of its `end` lines
pub add-says : (totals : Totals) (morning : Morning) → AddedSays totals morning (added_of totals morning.plan morning.log)
add-says = answers.add-says

-- totals started at zero and fed a list of at most 10,000 are the sums, greatest and least of that list
pub fed-is-year : (year : List Morning) → length year ≤ 10000 → fed year ≡ year_of year
fed-is-year year few = lists.fed-year year ∙ ap year_of (take_all 10000 year few)

-- a longer list gives the totals of its first 10,000
pub fed-longer : (year : List Morning) → fed year ≡ year_of (take 10000 year)
fed-longer = lists.fed-year

-- and each log past them is 28, whatever it is
pub fed-full :
    (year : List Morning) (morning : Morning) → 10000 ≤ length year
    → added_of (fed year) morning.plan morning.log ≡ not_added (refuse 28 0 0) (fed year)
fed-full = answers.past-full

-- any other order of the list gives the same totals and the same report
pub any_order : (year other : List Morning) → Permᴰ year other → length year ≤ 10000 → fed year ≡ fed other
any_order year other same few =
    fed-is-year year few ∙ orders.year-order same ∙ sym (fed-is-year other (rw (orders.length-many same) at few))

pub any-order-report :
    (past : Bool) (year other : List Morning) → Permᴰ year other → length year ≤ 10000 → year_text past (fed year) ≡ year_text past (fed other)
any-order-report past year other same few = ap (year_text past) (any_order year other same few)

-- totals that calls hand out are never refused by 9
pub never-nine : (year : List Morning) → totals_ok (fed year) ≡ true
never-nine = answers.fed-ok

pub stays-granted :
    (totals : Totals) (morning : Morning) → totals_ok totals ≡ true → totals_ok (added_of totals morning.plan morning.log).totals ≡ true
stays-granted = answers.stays-in

-- so what is printed of a list is its report
pub prints-report :
    (past : Bool) (year : List Morning)
    → year_text past (fed year) ≡ report_of (year_of (take 10000 year)) ++ cond past (refused_line (refuse 28 0 0)) []
unfolding year_text
prints-report past year = rw (never-nine year, fed-longer year)

-- a board's line: how many `end` lines of accepted logs name it, the sum of planned finish less logged end, the greatest and the least
pub board-line : (year : List Morning) (b : ℕ) → b < 8 → board_tally (year_of year) b ≡ tallied (figures_of (on_board (b + 1)) year)
board-line = all.board-tally

-- `all`, worked out from the boards, is of all these lines
pub all-line : (year : List Morning) → all_tally (year_of year) ≡ tallied (figures_of on_any year)
all-line = all.all-tally

-- no figure of an accepted log is negative: of each of its `end` lines, the task is one of the plan's and ends at its planned finish or before
pub never-negative :
    (morning : Morning) → is_taken morning ≡ true
    → all_of (λ said. cond (is_end_line said) (leb said.tick (at morning.plan.finish (said.end - 1))) true) (lines_of morning) ≡ true
never-negative = ends.never-negative

-- the greatest is a figure that none exceeds, the least one that exceeds none
pub greatest-is :
    (figures : List ℕ) → 0 < length figures
    → (any_of (λ x. eqb x (best_of max figures)) figures ≡ true) × (all_of (λ x. leb x (best_of max figures)) figures ≡ true)
greatest-is figures some = (best.one-is-greatest (best_of max figures) figures refl some, best.below-greatest (best_of max figures) figures (omega arith))

pub least-is :
    (figures : List ℕ) → 0 < length figures
    → (any_of (λ x. eqb x (best_of min figures)) figures ≡ true) × (all_of (λ x. leb (best_of min figures) x) figures ≡ true)
least-is figures some = (best.one-is-least (best_of min figures) figures refl some, best.above-least (best_of min figures) figures (omega arith))
