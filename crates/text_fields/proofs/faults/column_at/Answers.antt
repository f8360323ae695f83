use Rattle.text_fields.proofs.FaultLaws.{rest-short}
use Rattle.text_fields.proofs.faults.column_at.Goals as goal

pub overflow_sub-result : goal.overflow_sub-result
overflow_sub-result c = rest-short _ _ c.past_fields-rest.ensures
