use native.Mathlib.Omega.{arith}
use Rattle.log_write.proofs.WriteLaws.{wrote-length}
use Rattle.engine_write.proofs.RowLaws.{rows_none, rows-turn, rows-room, rows_end}
use Rattle.engine_write.proofs.put_all.Goals as goal

pub loop-i-init : goal.loop-i-init
loop-i-init c = rows_none c.args.board.now c.args.table.now.start c.args.table.now.end c.args.out.now

pub put_row-place-requires : goal.put_row-place-requires
put_row-place-requires c = rows-room c.args.board.now c.args.table.now.start c.args.table.now.end c.requires.0 (omega (arith, c.loop-i-test.true)) c.requires.1 c.loop-i.invariant

pub loop-i-preserved : goal.loop-i-preserved
loop-i-preserved c = rows-turn c.args.board.now c.args.table.now.start c.args.table.now.end _ c.loop-i.invariant c.put_row-place.ensures

pub returns : goal.returns
returns c = rows_end c.args.board.now c.args.table.now.start c.args.table.now.end c.requires.0 (omega arith) (omega (arith, c.loop-i-test.false)) c.loop-i.invariant

pub shape_of-out : goal.shape_of-out
shape_of-out c = wrote-length (returns c)
