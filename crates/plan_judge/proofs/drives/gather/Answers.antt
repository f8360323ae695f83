use Rattle.std.specs.Int.Bits.{or_zero_r}
use Rattle.laws.proofs.Gather.{gather-start, gather-stop, gather-out, gather-turn}
use Rattle.plan_judge.proofs.DriveLaws.{held-bit, kept-bit, no-bit}
use Rattle.plan_judge.proofs.drives.gather.Goals as goal
use Rattle.plan_judge.proofs.drives.gather.Goals.{then-h-ne1, else-h-ne1}

pub loop-h-init : goal.loop-h-init
loop-h-init c = (gather-start 32 _ _, gather-start 32 _ _)

pub returns-then-h-eq0 : goal.returns-then-h-eq0
returns-then-h-eq0 c =
    let inv = c.loop-h.invariant in
    rw (
      gather-stop 32 _ _ _ _ inv.0 c.loop-h-test.true c.if-h-eq0.true,
      gather-stop 32 _ _ _ _ inv.1 c.loop-h-test.true c.if-h-eq0.true,
    )

pub loop-h-preserved : goal.loop-h-preserved
loop-h-preserved c =
    let inv = c.loop-h.invariant in
    let more = c.loop-h-test.true in
    let item = c.if-h-eq0.false in
    let bit = c.drive_bit-bit.ensures in (
      elim c.if-h-ne1.branch [
        | then-h-ne1 w ↦ rw w.exclusive-is (gather-turn 32 _ _ _ _ inv.0 more item (kept-bit _ bit w.if-h-ne1.true))
        | else-h-ne1 w ↦ rw w.exclusive-is (rw (or_zero_r c.loop-h.exclusive) at (gather-turn 32 _ _ _ _ inv.0 more item (no-bit _ bit w.if-h-ne1.false)))
      ],
      gather-turn 32 _ _ _ _ inv.1 more item (held-bit _ bit),
    )

pub returns : goal.returns
returns c =
    let inv = c.loop-h.invariant in
    rw (gather-out 32 _ _ _ _ inv.0 c.loop-h-test.false, gather-out 32 _ _ _ _ inv.1 c.loop-h-test.false)
