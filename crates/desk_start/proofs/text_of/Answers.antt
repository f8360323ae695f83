use mathlib.Core.Path.{sym}
use lib.Seq.{length-take-le}
use Rattle.desk_start.proofs.StartLaws.{cut-le, text-long, text-short}
use Rattle.desk_start.proofs.text_of.Goals as goal

-- `text_of` meets its contract.
pub returns-then-ends-gt-TEXT_MOST : goal.returns-then-ends-gt-TEXT_MOST
returns-then-ends-gt-TEXT_MOST c = text-long c.args.ends.now c.if-ends-gt-TEXT_MOST.true

pub slice_bounds-result-end : goal.slice_bounds-result-end
slice_bounds-result-end c = sym (length-take-le _ _ (cut-le c.args.ends.now c.lines_end-end.ensures))

pub returns : goal.returns
returns c = text-short c.args.ends.now c.if-ends-gt-TEXT_MOST.false c.lines_end-end.ensures
