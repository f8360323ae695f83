use mathlib.Core.Path.{◌∙◌}
use Rattle.plan.proofs.PlanRows.{part-row}
use Rattle.ask_drives.proofs.line_at.Goals as goal

pub returns : goal.returns
returns c = c.copy_from_slice.ensures.after ∙ part-row 8 c.args.d c.args.running.now
