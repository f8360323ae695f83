use mathlib.Core.Path.{◌∙◌}
use Rattle.plan_judge.proofs.ValueLaws.{judged-nine, kept-in-range, judged-tasks}
use Rattle.plan_judge.proofs.value.judge_plan.Goals as goal

pub returns-then-not-keeps_ranges : goal.returns-then-not-keeps_ranges
returns-then-not-keeps_ranges c = c.answer.ensures ∙ judged-nine _ c.keeps_ranges.ensures c.if-not-keeps_ranges.true

pub judge_kept-requires : goal.judge_kept-requires
judge_kept-requires c = kept-in-range _ c.keeps_ranges.ensures c.if-not-keeps_ranges.false

pub returns : goal.returns
returns c = judged-tasks _ c.keeps_ranges.ensures c.if-not-keeps_ranges.false c.judge_kept.ensures
