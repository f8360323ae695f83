use native.Mathlib.Omega.{arith}
use Rattle.desk_answers.proofs.ChainLaws.{links-none, links-turn, links-all}
use borrow.Author.Rules.{rules}
use Rattle.desk_answers.proofs.chain.put_links.Goals as goal

pub loop-task-init : goal.loop-task-init
loop-task-init c = (search rules, links-none c.args.book.now c.args.links.now c.args.out.now)

pub put_one-place-requires : goal.put_one-place-requires
put_one-place-requires c =
    let inv = c.loop-task.invariant in
    omega (arith, inv.0, inv.1.place, inv.1.small, c.loop-task-test.true, c.requires.0, c.requires.1)

pub loop-task-preserved : goal.loop-task-preserved
loop-task-preserved c =
    (search rules, links-turn c.args.book.now c.args.links.now c.loop-task.task-index (search rules) c.loop-task.invariant.1 c.put_one-place.ensures)

pub shape_of-out : goal.shape_of-out
shape_of-out c = c.loop-task.invariant.0

pub returns : goal.returns
returns c = links-all c.args.book.now c.args.links.now c.loop-task.task-index (omega arith) c.loop-task.invariant.1
