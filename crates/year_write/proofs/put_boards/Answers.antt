use mathlib.Core.Path.{◌≡◌}
use native.Mathlib.Omega.{arith}
use Rattle.log_write.proofs.WriteLaws.{wrote-length}
use Rattle.year_write.proofs.LineLaws.{boards-none, boards-turn}
use Rattle.year_write.proofs.put_boards.Goals as goal

pub loop-b-init : goal.loop-b-init
loop-b-init c = boards-none c.args.totals c.args.out.now c.args.at

pub put_board-place-requires : goal.put_board-place-requires
put_board-place-requires c =
    let w = c.loop-b.invariant in
    let size = wrote-length w in
    omega (arith, w.place, w.small, size, c.requires)

pub loop-b-preserved : goal.loop-b-preserved
loop-b-preserved c = boards-turn c.args.totals c.loop-b.b c.loop-b.invariant (rw c.tally.ensures at c.put_board-place.ensures)

pub shape_of-out : goal.shape_of-out
shape_of-out c = wrote-length c.loop-b.invariant

pub returns : goal.returns
returns c = let e : c.loop-b.b ≡ 8 = omega arith in rw e at c.loop-b.invariant
