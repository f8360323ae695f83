-- The wait sets of a plan's tasks by a rule.
use Rattle.std.specs.Prelude.{ℕ, cond, ◌&&◌, List, Option, Some, None}
use Rattle.laws.specs.Bits.{set_of}
use Rattle.plan.specs.Value.{is_accepted}
use Rattle.plan.specs.declared.Plan.{Plan}
use Rattle.book_view.specs.View.{is_rule, plan_for, laid}

-- bit j of set i: task i waits for task j
unfoldable pub sets_by : ℕ → Plan → List ℕ
sets_by rule plan = laid plan.tasks (λ i. set_of plan.tasks ((plan_for rule plan).waits i))

-- none where the plan is not accepted or the rule is none of the two
unfoldable pub waits_of : ℕ → Plan → Option (List ℕ)
waits_of rule plan = cond (is_accepted plan && is_rule rule) (Some (sets_by rule plan)) None
