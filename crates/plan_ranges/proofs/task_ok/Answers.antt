use mathlib.Core.Path.{sym}
use Rattle.plan_ranges.proofs.RangeLaws.{kept-is}
use Rattle.plan_ranges.proofs.task_ok.Goals as goal

pub returns : goal.returns
returns c =
    rw (c.numbers_ok.ensures, c.holds_ok.ensures, c.after_ok.ensures) (sym (kept-is _ _))
