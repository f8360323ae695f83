use Rattle.log_read.proofs.RuleLaws.{choice-unsaid, choice-malformed, choice-chosen}
use Rattle.log_read.proofs.rules.read_choice.Goals as goal

pub returns-then-not-same : goal.returns-then-not-same
returns-then-not-same c = choice-unsaid _ _ c.field.ensures c.same.ensures c.if-not-same.true

pub returns-in-Ok : goal.returns-in-Ok
returns-in-Ok c =
    choice-chosen _ _ c.field.ensures c.same.ensures c.if-not-same.false _ _ _ c.field-2.ensures c.field-3.ensures c.word_fault.ensures
    c.word_fault-2.ensures c.end_fault.ensures c.in-Ok.ensures

pub returns-in-Err : goal.returns-in-Err
returns-in-Err c =
    choice-malformed _ _ c.field.ensures c.same.ensures c.if-not-same.false _ _ _ c.field-2.ensures c.field-3.ensures c.word_fault.ensures
    c.word_fault-2.ensures c.end_fault.ensures _ c.in-Err.ensures
