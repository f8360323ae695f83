use Prim.Native.Nat.{◌%◌}
use borrow.Author.Tests.{eq-eqb, ne_eqb}
use Rattle.plan.proofs.Drives.{drive-shift}
use Rattle.book_holders.proofs.rivals_on.Goals as goal

pub returns-then-not-drive : goal.returns-then-not-drive
returns-then-not-drive c = rw (c.if-not-drive.true)

pub overflow_sub-p : goal.overflow_sub-p
overflow_sub-p c = (drive-shift c.args.hold c.if-not-drive.false).0

pub bounds-exclusive-p : goal.bounds-exclusive-p
bounds-exclusive-p c = (drive-shift c.args.hold c.if-not-drive.false).1

pub returns-then-hold-eq1 : goal.returns-then-hold-eq1
returns-then-hold-eq1 c = rw (c.if-not-drive.false, eq-eqb (c.args.hold % 2) 1 c.if-hold-eq1.true)

pub bounds-held-p : goal.bounds-held-p
bounds-held-p c = (drive-shift c.args.hold c.if-not-drive.false).1

pub returns : goal.returns
returns c = rw (c.if-not-drive.false, ne_eqb (c.args.hold % 2) 1 c.if-hold-eq1.false)
