use native.Mathlib.Omega.{arith}
use Rattle.log_write.proofs.WriteLaws.{wrote-length}
use Rattle.log_run.proofs.StartLaws.{starts_none, starts-passes, starts-goes, starts-end}
use Rattle.log_run.proofs.starts.put_starts.Goals as goal

pub loop-i-init : goal.loop-i-init
loop-i-init c = starts_none _ _ _ _

pub loop-i-preserved-then-old-i : goal.loop-i-preserved-then-old-i
loop-i-preserved-then-old-i c = let l = c.loop-i in starts-passes _ _ l.i l.invariant c.if-old-i.true

pub loop-i-preserved : goal.loop-i-preserved
loop-i-preserved c =
    let l = c.loop-i in
    starts-goes _ _ l.i l.invariant c.if-old-i.false c.requires.1 (omega (arith, c.loop-i-test.true, c.requires.0)) c.put_start-place.ensures

pub returns : goal.returns
returns c = let l = c.loop-i in starts-end _ _ l.i l.invariant l.auto.i-end c.loop-i-test.false

pub shape_of-out : goal.shape_of-out
shape_of-out c = wrote-length (returns c)
