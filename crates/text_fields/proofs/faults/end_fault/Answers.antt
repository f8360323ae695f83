use Rattle.text_fields.proofs.FaultLaws.{end-right, end-many, end-open}
use Rattle.text_fields.proofs.faults.end_fault.Goals as goal
use Rattle.text_fields.proofs.faults.end_fault.Goals.{else-ended-via-then-ended+else-count_fields-n, else-ended-via-else-ended}

pub returns-then-count_fields-n : goal.returns-then-count_fields-n
returns-then-count_fields-n c = end-right _ _ _ c.count_fields.ensures c.if-ended.true c.if-count_fields-n.true

pub returns-else-ended : goal.returns-else-ended
returns-else-ended c = elim c.else-ended.branch [
  | else-ended-via-then-ended+else-count_fields-n w ↦ end-many _ _ _ w.count_fields.ensures w.if-count_fields-n.false
  | else-ended-via-else-ended w ↦ end-open _ _ _ w.if-ended.false
]
