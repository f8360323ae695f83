-- A plan where it stands.
use Rattle.plan.specs.Value.{plan_with}
use Rattle.plan.specs.declared.Plan.{Plan}
use Rattle.plan.specs.declared.PlanView.{PlanView}

-- the plan that a view shows
abbrev pub viewed : PlanView → Plan
viewed v = plan_with v.edition v.boards v.tasks v.board.now v.ready.now v.begin.now v.finish.now v.holds.now v.after.now
