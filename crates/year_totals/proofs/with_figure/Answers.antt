use mathlib.Core.Path.{refl}
use Rattle.year_totals.proofs.TallyLaws.{first-figure, later-figure}
use Rattle.year_totals.proofs.with_figure.Goals as goal

-- `with_figure` meets its contract: the task is the board's first, or one more.
pub returns-then-held-eq0 : goal.returns-then-held-eq0
returns-then-held-eq0 c = first-figure c.args.held c.args.figure c.if-held-eq0.true refl (rw c.from.ensures)

pub returns : goal.returns
returns c = later-figure c.args.held c.args.figure c.if-held-eq0.false refl (rw c.from.ensures) c.max.ensures c.min.ensures
