use mathlib.Core.Path.{ap}
use Rattle.desk_read.proofs.ReadLaws.{step-near}
use Rattle.desk_read.specs.Asked.{asked}
use Rattle.log_read.specs.Said.Entry.{Refused}
use Rattle.desk_turns.proofs.TurnLaws.{asks, turn_step, turn-rule, turn-early, turn-exact, turn-now, turn-drive, turn-why, near-short}
use Rattle.desk_turns.proofs.take_line.Goals as goal

pub take_entry-requires : goal.take_entry-requires
take_entry-requires c =
    near-short _ (step-near _ _ c.args.line.now c.read_asked.ensures (asks c.in-Ok-Step.is c.in-Ok-Step.field-0-is))

pub take_entry-requires-in-Err : goal.take_entry-requires-in-Err
take_entry-requires-in-Err c = near-short (Refused c.in-Err.fault.number c.in-Err.fault.column) (step-near _ _ c.args.line.now c.read_asked.ensures (ap asked c.in-Err.is))

pub returns-in-Ok-Step : goal.returns-in-Ok-Step
returns-in-Ok-Step c =
    turn_step c.args.morning _ _ c.args.line.now c.read_asked.ensures (asks c.in-Ok-Step.is c.in-Ok-Step.field-0-is) c.take_entry.ensures

pub returns-in-Ok-Rule : goal.returns-in-Ok-Rule
returns-in-Ok-Rule c =
    turn-rule c.args.morning _ _ c.args.line.now c.read_asked.ensures (asks c.in-Ok-Rule.is c.in-Ok-Rule.field-0-is) c.take_rule.ensures

pub returns-in-Ok-Early : goal.returns-in-Ok-Early
returns-in-Ok-Early c =
    turn-early c.args.morning _ _ c.args.line.now c.read_asked.ensures c.said.ensures (asks c.in-Ok-Early.is c.in-Ok-Early.field-0-is) c.answer_early.ensures

pub returns-in-Ok-Exact : goal.returns-in-Ok-Exact
returns-in-Ok-Exact c =
    turn-exact c.args.morning _ _ c.args.line.now c.read_asked.ensures c.said-in-Ok-Exact.ensures (asks c.in-Ok-Exact.is c.in-Ok-Exact.field-0-is) c.answer_exact.ensures

pub returns-in-Ok-Now : goal.returns-in-Ok-Now
returns-in-Ok-Now c =
    turn-now c.args.morning _ _ c.args.line.now c.read_asked.ensures c.said-in-Ok-Now.ensures (asks c.in-Ok-Now.is c.in-Ok-Now.field-0-is) c.answer_now.ensures

pub returns-in-Ok-Drive : goal.returns-in-Ok-Drive
returns-in-Ok-Drive c =
    turn-drive c.args.morning _ _ c.args.line.now c.read_asked.ensures c.said-in-Ok-Drive.ensures (asks c.in-Ok-Drive.is c.in-Ok-Drive.field-0-is) c.answer_drive.ensures

pub returns-in-Ok-Why : goal.returns-in-Ok-Why
returns-in-Ok-Why c =
    turn-why c.args.morning _ _ c.args.line.now c.read_asked.ensures c.said-in-Ok-Why.ensures (asks c.in-Ok-Why.is c.in-Ok-Why.field-0-is) c.answer_why.ensures

pub returns-in-Err : goal.returns-in-Err
returns-in-Err c =
    turn_step c.args.morning _ _ c.args.line.now c.read_asked.ensures (ap asked c.in-Err.is) c.take_entry-in-Err.ensures
