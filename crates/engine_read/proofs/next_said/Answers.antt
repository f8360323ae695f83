use mathlib.Core.Path.{sym}
use lib.Seq.{length-take-le}
use Rattle.text.proofs.Parts.{found-le}
use Rattle.engine_read.proofs.LineLaws.{said-drop, said-length}
use Rattle.engine_read.proofs.next_said.Goals as goal

pub slice_bounds-line-end : goal.slice_bounds-line-end
slice_bounds-line-end c = sym (length-take-le _ _ (found-le _ _ c.find-end.ensures))

pub returns-then-same : goal.returns-then-same
returns-then-same c = said-drop _ _ _ _ c.find-end.ensures c.field.ensures c.same.ensures c.if-same.true c.read_drop.ensures

pub returns : goal.returns
returns c = said-length _ _ _ _ c.find-end.ensures c.field.ensures c.same.ensures c.if-same.false c.read_length.ensures
