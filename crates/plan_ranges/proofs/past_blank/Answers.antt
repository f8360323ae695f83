use Rattle.plan.specs.Value.{blank_from}
use Rattle.plan_ranges.proofs.past_blank.Goals as goal

pub returns : goal.returns
unfolding blank_from
returns c =
    rw (
      c.is_blank.ensures,
      c.is_blank-2.ensures,
      c.is_blank-3.ensures,
      c.is_blank-4.ensures,
      c.is_blank-5.ensures,
      c.is_blank-6.ensures,
    )
