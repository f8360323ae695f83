-- When a book is sound, whatever its arrays hold.
use Rattle.std.specs.Prelude.{ℕ, Bool, cond, ◌&&◌, List, Option, Result, Ok, Err}
use Rattle.theory.specs.Book.{sound_test}
use Rattle.theory.specs.Plan.{Plan}
use Rattle.plan.specs.Value.{blank_from, is_accepted}
use Rattle.plan.specs.declared.Plan as plan-value
use Rattle.book_view.specs.View.{is_rule, plan_for, book_seen}
use Rattle.book_waits.specs.Waits.{sets_by, waits_of}

-- places past T hold nothing
abbrev pub nothing_past : ℕ → List ℕ → List ℕ → List ℕ → List ℕ → Bool
nothing_past tasks mark start end dropped =
    blank_from tasks start && (blank_from tasks end && (blank_from tasks mark && blank_from tasks dropped))

-- starts, ends, waiting and running tasks and the clock are as the rules say
unfoldable pub sound_on : Plan → List ℕ → List ℕ → List ℕ → List ℕ → ℕ → Bool
sound_on plan mark start end dropped clock =
    sound_test plan (book_seen mark start end dropped clock) && nothing_past plan.tasks mark start end dropped

-- the wait sets by a rule, as a refusal where by that rule the rest is not sound; where the plan is not accepted or the rule is none of
-- the two the refusal has none
unfoldable pub sound_waits : ℕ → plan-value.Plan → List ℕ → List ℕ → List ℕ → List ℕ → ℕ → Result (List ℕ) (Option (List ℕ))
sound_waits rule plan mark start end dropped clock =
    cond ((is_accepted plan && is_rule rule) && sound_on (plan_for rule plan) mark start end dropped clock)
    (Ok (sets_by rule plan)) (Err (waits_of rule plan))
