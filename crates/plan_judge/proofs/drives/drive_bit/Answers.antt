use mathlib.Core.Path.{sym, ◌∙◌}
use Rattle.plan.proofs.Drives.{drive-shift}
use Rattle.plan_judge.proofs.DriveLaws.{shifted-bit, of-a-drive}
use Rattle.plan_judge.proofs.drives.drive_bit.Goals as goal

pub overflow_sub-result : goal.overflow_sub-result
overflow_sub-result c = (drive-shift c.args.hold (sym (of-a-drive c.args.hold) ∙ c.if-hold.true)).0

pub overflow_shl-result : goal.overflow_shl-result
overflow_shl-result c = (drive-shift c.args.hold (sym (of-a-drive c.args.hold) ∙ c.if-hold.true)).1

pub returns-then-hold : goal.returns-then-hold
returns-then-hold c = shifted-bit c.args.hold (sym (of-a-drive c.args.hold) ∙ c.if-hold.true)

pub returns : goal.returns
returns c = rw (sym (of-a-drive c.args.hold) ∙ c.if-hold.false)
