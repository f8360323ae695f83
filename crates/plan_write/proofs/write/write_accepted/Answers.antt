use Rattle.plan_write.proofs.WriteLaws.{few_tasks, sixteen, head-room, body-room, granted-text}
use Rattle.plan_write.proofs.write.write_accepted.Goals as goal

pub tasks_len-requires : goal.tasks_len-requires
tasks_len-requires c = few_tasks _ c.requires

pub returns-then-out-needed : goal.returns-then-out-needed
returns-then-out-needed c =
    sixteen _ _ c.requires c.sizes_len.ensures c.tasks_len.ensures c.if-out-needed.true (rw c.answer.ensures)

pub put_sizes-at-requires : goal.put_sizes-at-requires
put_sizes-at-requires c =
    head-room _ _ c.requires c.sizes_len.ensures c.tasks_len.ensures c.if-out-needed.false

pub put_tasks-requires : goal.put_tasks-requires
put_tasks-requires c =
    let ok = c.requires in
    (few_tasks _ ok, body-room _ _ ok c.sizes_len.ensures c.tasks_len.ensures c.if-out-needed.false c.put_sizes-at.ensures)

pub returns : goal.returns
returns c =
    granted-text _ _ c.requires c.sizes_len.ensures c.tasks_len.ensures c.if-out-needed.false c.put_sizes-at.ensures
    c.put_tasks.ensures (rw c.granted.ensures)
