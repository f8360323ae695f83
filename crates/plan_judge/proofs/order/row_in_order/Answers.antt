use mathlib.Core.Path.{ap}
use mathlib.Core.Bool.{not}
use Rattle.plan_judge.proofs.order.row_in_order.Goals as goal

pub returns : goal.returns
returns c = ap not (rw c.after_of.ensures at c.lists_late.ensures)
