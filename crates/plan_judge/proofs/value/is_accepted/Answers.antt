use Rattle.plan_judge.proofs.ValueLaws.{kept-in-range, not-kept, accepted-by}
use Rattle.plan_judge.proofs.value.is_accepted.Goals as goal

pub returns-then-not-keeps_ranges : goal.returns-then-not-keeps_ranges
returns-then-not-keeps_ranges c = not-kept _ c.keeps_ranges.ensures c.if-not-keeps_ranges.true

pub judge_kept-said-requires : goal.judge_kept-said-requires
judge_kept-said-requires c = kept-in-range _ c.keeps_ranges.ensures c.if-not-keeps_ranges.false

pub returns : goal.returns
returns c = accepted-by _ c.keeps_ranges.ensures c.if-not-keeps_ranges.false c.judge_kept-said.ensures
