use Rattle.plan_ranges.proofs.RangeLaws.{few_tasks, refused-sizes, kept-ranges}
use Rattle.plan_ranges.proofs.keeps_ranges.Goals as goal

pub returns-then-not-plan-sizes : goal.returns-then-not-plan-sizes
returns-then-not-plan-sizes c = refused-sizes _ c.if-not-plan-sizes.true

pub all_kept-requires : goal.all_kept-requires
all_kept-requires c = few_tasks c.args.plan.now.edition c.args.plan.now.boards c.args.plan.now.tasks c.if-not-plan-sizes.false

pub past_blank-requires : goal.past_blank-requires
past_blank-requires c = few_tasks c.args.plan.now.edition c.args.plan.now.boards c.args.plan.now.tasks c.if-not-plan-sizes.false

pub returns : goal.returns
returns c = kept-ranges _ c.if-not-plan-sizes.false c.all_kept.ensures c.past_blank.ensures
