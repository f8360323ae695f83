use Prim.{tt}
use native.Mathlib.Omega.{arith}
use Rattle.log_write.proofs.WriteLaws.{also, wrote-line, wrote-length}
use Rattle.log_run.proofs.told.put_ended.Goals as goal

pub put_end-next-requires : goal.put_end-next-requires
put_end-next-requires c = tt

pub put_starts-requires : goal.put_starts-requires
put_starts-requires c =
    let pre = c.requires in
    let w = wrote-line (omega (arith, pre.3)) c.put_end-next.ensures in
    (pre.2, omega (arith, pre.3, w.place, w.small, wrote-length w))

pub returns : goal.returns
returns c =
    let pre = c.requires in
    also (wrote-line (omega (arith, pre.3)) c.put_end-next.ensures) c.put_starts.ensures

pub shape_of-out : goal.shape_of-out
shape_of-out c = wrote-length (returns c)
