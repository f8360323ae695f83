-- The lengths of a plan's arrays, which every plan that a function takes or hands out has.
use Rattle.std.specs.Prelude.{◌≡◌, length}
use Rattle.plan.specs.declared.Plan.{Plan}

pub record SizedPlan (plan : Plan) : Type 0 where
  pub board : length plan.board ≡ 64
  pub ready : length plan.ready ≡ 64
  pub begin : length plan.begin ≡ 64
  pub finish : length plan.finish ≡ 64
  pub holds : length plan.holds ≡ 2048
  pub after : length plan.after ≡ 4096
