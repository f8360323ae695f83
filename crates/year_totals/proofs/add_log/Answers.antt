use mathlib.Core.Path.{◌∙◌}
use Rattle.year_totals.proofs.AddLaws.{call-nine, call-full, call-refused, call-accepted, has_room, tasks-few}
use Rattle.year_totals.proofs.add_log.Goals as goal
use Rattle.year_totals.proofs.add_log.Goals.{then-judged-eq0, else-judged-eq0}

pub returns-then-not-are_in_bounds : goal.returns-then-not-are_in_bounds
returns-then-not-are_in_bounds c =
    call-nine c.args.totals c.args.plan c.args.log.now c.are_in_bounds.ensures c.if-not-are_in_bounds.true c.answer.ensures c.not_added.ensures

pub returns-then-from-ge-LOGS_MOST : goal.returns-then-from-ge-LOGS_MOST
returns-then-from-ge-LOGS_MOST c =
    call-full c.args.totals c.args.plan c.args.log.now c.are_in_bounds.ensures c.if-not-are_in_bounds.false c.from.ensures c.from-2.ensures c.if-from-ge-LOGS_MOST.true c.answer-then-from-ge-LOGS_MOST.ensures c.not_added-then-from-ge-LOGS_MOST.ensures

pub with_accepted-after-requires : goal.with_accepted-after-requires
with_accepted-after-requires c =
    let room = has_room c.args.totals c.args.plan c.args.log.now c.are_in_bounds.ensures c.if-not-are_in_bounds.false c.from.ensures c.from-2.ensures c.if-from-ge-LOGS_MOST.false c.judge_log-judged.ensures in
    (tasks-few c.args.totals c.args.plan c.args.log.now c.are_in_bounds.ensures c.if-not-are_in_bounds.false c.from.ensures c.from-2.ensures c.if-from-ge-LOGS_MOST.false c.judge_log-judged.ensures c.if-judged-eq0.true, room.0, room.1)

pub returns : goal.returns
returns c =
    elim c.if-judged-eq0.branch [
      | then-judged-eq0 w ↦ call-accepted c.args.totals c.args.plan c.args.log.now c.are_in_bounds.ensures c.if-not-are_in_bounds.false c.from.ensures c.from-2.ensures c.if-from-ge-LOGS_MOST.false c.judge_log-judged.ensures c.granted.ensures w.if-judged-eq0.true (w.after-is ∙ w.with_accepted-after.ensures)
      | else-judged-eq0 w ↦ call-refused c.args.totals c.args.plan c.args.log.now c.are_in_bounds.ensures c.if-not-are_in_bounds.false c.from.ensures c.from-2.ensures c.if-from-ge-LOGS_MOST.false c.judge_log-judged.ensures c.granted.ensures w.if-judged-eq0.false (w.after-is ∙ w.with_refused-after.ensures)
    ]
