use native.Mathlib.Omega.{arith}
use Rattle.year_rules.proofs.AddedLaws.{figures_in}
use Rattle.year_totals.proofs.AddLaws.{board-roomy, filled_none, filled-turn, filled-all}
use Rattle.year_totals.proofs.with_accepted.Goals as goal

pub loop-b-init : goal.loop-b-init
loop-b-init c = filled_none c.args.totals (figures_in c.args.plan.now c.args.judged.now)

pub board_after-next-requires : goal.board_after-next-requires
board_after-next-requires c =
    let room = board-roomy c.args.totals c.loop-b.b (omega arith) c.requires.1 c.requires.2 in
    rw c.tally.ensures (c.requires.0, room.0, room.1)

pub loop-b-preserved : goal.loop-b-preserved
loop-b-preserved c =
    filled-turn c.args.totals (figures_in c.args.plan.now c.args.judged.now) c.loop-b.b c.loop-b.invariant (rw c.tally.ensures at c.board_after-next.ensures)

pub returns : goal.returns
returns c =
    filled-all c.args.totals (figures_in c.args.plan.now c.args.judged.now) c.loop-b.b (omega arith) c.loop-b.invariant
