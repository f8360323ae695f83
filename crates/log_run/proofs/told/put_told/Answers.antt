use Rattle.log_write.proofs.WriteLaws.{wrote-length}
use native.Mathlib.Omega.{arith}
use Rattle.log_read.specs.Said.{said}
use Rattle.log_run.specs.Answers.{within}
use Rattle.log_run.proofs.ToldLaws.{told-no, told-yes}
use Rattle.log_run.proofs.told.put_told.Goals as goal

pub returns-then-told-ne0 : goal.returns-then-told-ne0
returns-then-told-ne0 c =
    told-no c.requires.0 (within (said c.args.entry.now)) c.args.old.now c.args.told.now c.if-told-ne0.true c.put_refused.ensures

pub shape_of-out-then-told-ne0 : goal.shape_of-out-then-told-ne0
shape_of-out-then-told-ne0 c = wrote-length (returns-then-told-ne0 c)

pub put_lines-next-requires : goal.put_lines-next-requires
put_lines-next-requires c = let pre = c.requires in (omega (arith, pre.0), pre.1 c.if-told-ne0.false)

pub returns : goal.returns
returns c =
    let zero = c.if-told-ne0.false in
    told-yes c.requires.0 (within (said c.args.entry.now)) c.args.old.now c.args.told.now zero (c.requires.1 zero) c.put_lines-next.ensures
    c.put_early.ensures

pub shape_of-out : goal.shape_of-out
shape_of-out c = wrote-length (returns c)
