-- When a call that adds a log is refused, and what it answers.
use Rattle.std.specs.Prelude.{ℕ, ◌+◌, ◌*◌, ◌<◌, ◌≡◌, ◌≢◌, List, [], ◌∷◌}
use Rattle.plan.specs.Answer.{granted}
use Rattle.plan.specs.Value.{at}
use Rattle.school.specs.Tests.{unread, judged_of}
use Rattle.year_rules.specs.Figures.{sum_of}
use Rattle.year_rules.specs.Totals.{with_figures, with_refused}
use Rattle.year_rules.specs.declared.AddResult.{AddResult}
use Rattle.year_rules.specs.declared.Totals.{Totals}
use Rattle.promises.specs.Ladder.{Rung, ◌when◌}
use Rattle.promises_year.specs.Year.{Morning, lines_of, on_board, ends_of}

-- totals past 10,000 logs, 64 tasks a log or 1,000,000 ticks a task, b being board b + 1
pub data PastBounds (totals : Totals) : Type 0 where
  logs : 10000 < totals.accepted + totals.refused → PastBounds totals
  tasks : 64 * totals.accepted < sum_of totals.ended → PastBounds totals
  ticks : (b : ℕ) → b < 8 → 1000000 * at totals.ended b < at totals.sum b → PastBounds totals
  greatest : (b : ℕ) → b < 8 → 1000000 < at totals.greatest b → PastBounds totals
  least : (b : ℕ) → b < 8 → 1000000 < at totals.least b → PastBounds totals

-- 9; then the 10,001st log is 28
abbrev pub add_checks : Totals → List Rung
add_checks totals = 9 when (PastBounds totals) ∷ 28 when (totals.accepted + totals.refused ≡ 10000) ∷ []

-- A refusal says 0 and 0, changes no total or count and looks at no log. A log that is refused adds nothing but is counted apart
pub data AddedSays (totals : Totals) (morning : Morning) (added : AddResult) : Type 0 where
  not_added :
      added.answer.code ≢ 0 → added.answer.first ≡ 0 → added.answer.second ≡ 0 → added.judged ≡ unread granted
      → added.totals ≡ totals → AddedSays totals morning added
  refused_log :
      added.answer ≡ granted → added.judged ≡ judged_of morning.plan morning.log → added.judged.answer.code ≢ 0
      → added.totals ≡ with_refused totals → AddedSays totals morning added
  accepted_log :
      added.answer ≡ granted → added.judged ≡ judged_of morning.plan morning.log → added.judged.answer.code ≡ 0
      → added.totals ≡ with_figures totals (λ b. ends_of (on_board (b + 1)) morning.plan (lines_of morning))
      → AddedSays totals morning added
