-- The figure's parts, as the functions answer them.
use Rattle.std.specs.Prelude.{ℕ, ◌-◌, max, cond, List, eqb, Option, Some, None, is_some, unwrap_or}
use Rattle.std.proofs.Math.Option.{none, some}
use Rattle.std.proofs.Math.Option as math
use Rattle.laws.specs.Bits.{has}
use Rattle.laws.specs.Picked.{latest}
use Rattle.theory.specs.Plan as theory-plan
use Rattle.plan.specs.Value.{at}
use Rattle.plan.specs.declared.Answer.{Answer}
use Rattle.book_view.specs.View.{plan_seen}
use Rattle.book.specs.declared.Book.{Book}
use Rattle.ask_exact.specs.declared.Exact.{Exact}

-- "none" is not known, with 0
abbrev pub answered_by : Answer → Option ℕ → Exact
answered_by answer figure = record { answer = answer; known = is_some figure; early = unwrap_or figure 0 }

-- planned start less when task i may start at the latest, by the ends in an array
abbrev pub early_step : Book → List ℕ → List ℕ → ℕ → ℕ → ℕ
early_step book waits ends n i =
    at book.begin i
    - max (cond (eqb (at book.dropped i) 1) 0 (at book.ready i)) (latest n (has (at waits i)) (at ends))
