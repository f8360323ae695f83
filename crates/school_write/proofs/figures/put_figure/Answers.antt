use native.Mathlib.Omega.{arith}
use Rattle.school_write.proofs.LineLaws.{after-tab, figure-wrote}
use Rattle.school_write.proofs.figures.put_figure.Goals as goal

pub put_early-past_early-requires : goal.put_early-past_early-requires
put_early-past_early-requires c = let h = after-tab (omega (arith, c.ranges.task)) c.requires c.put_number-past_task.ensures c.put_byte-past_tab.ensures in omega (arith, h.0, h.1, c.requires)

pub returns : goal.returns
returns c = figure-wrote (omega (arith, c.ranges.task)) c.requires c.put_number-past_task.ensures c.put_byte-past_tab.ensures c.args.planned c.args.tick c.put_early-past_early.ensures c.put_byte.ensures
