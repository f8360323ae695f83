use native.Mathlib.Omega.{arith}
use Rattle.log_write.proofs.WriteLaws.{wrote-length, left-all}
use Rattle.desk_answers.proofs.DriveLaws.{dash-wrote, rest-turn, items-wrote}
use Rattle.desk_answers.proofs.drive.put_items.Goals as goal

pub returns-in_default : goal.returns-in_default
returns-in_default c = dash-wrote c.args.items.now c.in_default.ensures.cases (omega (arith, c.requires)) c.put_text.ensures

pub put_after-place-requires : goal.put_after-place-requires
put_after-place-requires c = omega (arith, c.requires, c.in-Some.ensures.cases.1)

pub loop-task-init : goal.loop-task-init
loop-task-init c = let w = c.put_after-place.ensures in (omega arith, omega (arith, c.requires, wrote-length w), omega (arith, w.place, w.small), left-all)

pub put_after-place-requires-in-loop-task : goal.put_after-place-requires-in-loop-task
put_after-place-requires-in-loop-task c =
    omega (arith, c.loop-task.invariant.1, c.loop-task.invariant.2, c.loop-task-test.true, c.in-Some.ensures.cases.1)

pub loop-task-preserved : goal.loop-task-preserved
loop-task-preserved c =
    let w = c.put_after-place-in-loop-task.ensures in
    let walk = c.loop-task.invariant in
    (omega (arith, c.loop-task-test.true), omega (arith, walk.1, wrote-length w), omega (arith, w.place, w.small, walk.2), rest-turn c.in-Some.others.now c.loop-task.task-index c.loop-task-test.true c.from-in-loop-task.ensures walk.3 w)

pub returns : goal.returns
returns c =
    let walk = c.loop-task.invariant in
    items-wrote c.in-Some.first.now c.in-Some.others.now c.loop-task.task-index c.in-Some.ensures.cases.0 c.loop-task-test.false c.from.ensures c.put_after-place.ensures walk.3 (omega (arith, walk.0, walk.2, c.in-Some.ensures.cases.1))

pub shape_of-out : goal.shape_of-out
shape_of-out c = wrote-length (returns c)
