use Rattle.plan.specs.Value.{blank_from}
use Rattle.plan_ranges.proofs.list_ok.Goals as goal

pub returns : goal.returns
unfolding blank_from
returns c = rw (c.rises.ensures, c.is_blank.ensures, c.find.ensures)
