use Prim.{tt}
use native.Mathlib.Omega.{arith}
use Rattle.log_write.proofs.WriteLaws.{wrote-line, wrote-length}
use Rattle.log_run.proofs.ToldLaws.{opened-wrote}
use Rattle.log_run.proofs.told.put_opened.Goals as goal

pub put_run-next-requires : goal.put_run-next-requires
put_run-next-requires c = tt

pub put_starts-last-requires : goal.put_starts-last-requires
put_starts-last-requires c =
    let pre = c.requires in
    let w = wrote-line (omega (arith, pre.1)) c.put_run-next.ensures in
    (pre.0, omega (arith, pre.1, w.place, w.small, wrote-length w))

pub put_early-requires : goal.put_early-requires
put_early-requires c = tt

pub returns : goal.returns
returns c =
    opened-wrote c.args.book.now c.args.early c.requires.0 c.requires.1 c.put_run-next.ensures c.put_starts-last.ensures c.put_early.ensures

pub shape_of-out : goal.shape_of-out
shape_of-out c = wrote-length (returns c)
