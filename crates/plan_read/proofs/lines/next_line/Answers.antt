use mathlib.Core.Path.{sym, ◌∙◌}
use lib.Seq.{length-take-le}
use Rattle.text.proofs.Parts.{found-le}
use Rattle.plan_read.proofs.SaysLaws.{next-is}
use Rattle.plan_read.proofs.lines.next_line.Goals as goal

-- The line is what stands before its LF, if it has one.
pub slice_bounds-line-end : goal.slice_bounds-line-end
slice_bounds-line-end c = sym (length-take-le _ _ (found-le _ _ c.before.requires.1))

pub returns : goal.returns
returns c = c.read_line.ensures ∙ next-is _ _ _ _ _ _ c.before.requires.1
