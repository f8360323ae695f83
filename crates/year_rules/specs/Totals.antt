-- The totals, and what a call adds to them.
use Rattle.std.specs.Prelude.{ℕ, ◌+◌, ◌*◌, max, min, Bool, not, cond, ◌&&◌, List, leb, length, replicate}
use Rattle.laws.specs.Each.{each}
use Rattle.laws.specs.Every.{every}
use Rattle.plan.specs.Answer.{refuse, granted, is_granted}
use Rattle.plan.specs.Value.{at}
use Rattle.plan.specs.declared.Answer.{Answer}
use Rattle.plan.specs.declared.Plan.{Plan}
use Rattle.school.specs.Tests.{unread, judged_of}
use Rattle.school.specs.declared.JudgedLog.{JudgedLog}
use Rattle.year_rules.specs.Figures.{figures_on, sum_of, best_after}
use Rattle.year_rules.specs.declared.AddResult.{AddResult}
use Rattle.year_rules.specs.declared.Tally.{Tally}
use Rattle.year_rules.specs.declared.Totals.{Totals}

-- at most 10,000 logs
abbrev pub logs_most : ℕ
logs_most = 10000

-- what the totals hold of a board
abbrev pub board_tally : Totals → ℕ → Tally
board_tally totals b =
    let on : List ℕ → ℕ = λ l. at l b in
    record { ended = on totals.ended; sum = on totals.sum; greatest = on totals.greatest; least = on totals.least }

-- at most 1,000,000 ticks a task; the greatest and the least also where no task ended
abbrev pub board_ok : Totals → ℕ → Bool
board_ok totals b =
    leb (at totals.sum b) (1000000 * at totals.ended b) && (leb (at totals.greatest b) 1000000 && leb (at totals.least b) 1000000)

-- at most 10,000 logs, 64 tasks a log, 1,000,000 ticks a task
unfoldable pub totals_ok : Totals → Bool
totals_ok totals =
    leb (totals.accepted + totals.refused) logs_most
    && (leb (sum_of totals.ended) (64 * totals.accepted) && every 8 (board_ok totals))

-- f of each board, b from 0
unfoldable pub boards : (ℕ → ℕ) → List ℕ
boards f = each 8 f (replicate 8 0)

-- the totals before the first log
abbrev pub zero_totals : Totals
zero_totals =
    let none = boards (λ b. 0) in
    record { accepted = 0; refused = 0; ended = none; sum = none; greatest = none; least = none }

-- the totals with an accepted log more, and its figures of each board
unfoldable pub with_figures : Totals → (ℕ → List ℕ) → Totals
with_figures totals figures =
    let ended = at totals.ended in
    record totals {
      accepted = totals.accepted + 1;
      ended = boards (λ b. ended b + length (figures b));
      sum = boards (λ b. at totals.sum b + sum_of (figures b));
      greatest = boards (λ b. best_after max (ended b) (at totals.greatest b) (figures b));
      least = boards (λ b. best_after min (ended b) (at totals.least b) (figures b));
    }

-- A refused log adds nothing but is counted apart
abbrev pub with_refused : Totals → Totals
with_refused totals = record totals { refused = totals.refused + 1 }

-- the totals with a judged log
unfoldable pub with_judged : Totals → Plan → JudgedLog → Totals
with_judged totals plan judged =
    let figures : ℕ → List ℕ = λ b. figures_on (b + 1) plan.board plan.finish judged.end plan.tasks in
    cond (is_granted judged.answer) (with_figures totals figures) (with_refused totals)

-- a refusal changes no total or count, and looks at no log
abbrev pub not_added : Answer → Totals → AddResult
not_added answer totals = record { answer = answer; judged = unread granted; totals = totals }

-- 9 for totals past their bounds; then 28 for the 10,001st log; then the log is judged
unfoldable pub added_of : Totals → Plan → List ℕ → AddResult
added_of totals plan log =
    let judged = judged_of plan log in
    cond (not (totals_ok totals)) (not_added (refuse 9 0 0) totals)
    (cond (leb logs_most (totals.accepted + totals.refused)) (not_added (refuse 28 0 0) totals)
    (record { answer = granted; judged = judged; totals = with_judged totals plan judged }))
