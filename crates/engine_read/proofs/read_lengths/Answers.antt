use native.Mathlib.Omega.{arith}
use Rattle.log_read.proofs.SaidLaws.{said-unsaid, said-chosen, said-malformed}
use Rattle.engine_read.proofs.WholeLaws.{fits, rest-less, asked-long, asked-unsaid, asked-chosen, malformed-short, asked-malformed}
use Rattle.engine_read.proofs.read_lengths.Goals as goal

pub returns-then-text-gt-TEXT_MOST : goal.returns-then-text-gt-TEXT_MOST
returns-then-text-gt-TEXT_MOST c = asked-long c.args.tasks c.args.begin.now c.args.finish.now c.args.text.now c.if-text-gt-TEXT_MOST.true c.answer.ensures c.asks_nothing.ensures

pub read_lines-requires : goal.read_lines-requires
read_lines-requires c = fits c.args.tasks _ c.args.text.now c.few-n.ensures (omega arith) c.if-text-gt-TEXT_MOST.false (omega arith)

pub read_lines-requires-in-Ok-Chosen : goal.read_lines-requires-in-Ok-Chosen
read_lines-requires-in-Ok-Chosen c = fits c.args.tasks _ c.args.text.now c.few-n.ensures (omega arith) c.if-text-gt-TEXT_MOST.false (rest-less c.args.text.now c.part_after.ensures)

pub overflow_cast-column : goal.overflow_cast-column
overflow_cast-column c = record { fits = malformed-short c.args.tasks c.args.begin.now c.args.finish.now c.args.text.now c.if-text-gt-TEXT_MOST.false c.few-n.ensures c.choose-choice.ensures (said-malformed c.in-Err.is) }

pub returns-in-Ok-Unsaid : goal.returns-in-Ok-Unsaid
returns-in-Ok-Unsaid c = asked-unsaid c.args.tasks c.args.begin.now c.args.finish.now c.args.text.now c.if-text-gt-TEXT_MOST.false c.few-n.ensures c.choose-choice.ensures (said-unsaid c.in-Ok-Unsaid.is (rw c.in-Ok-Unsaid.is at c.in-Ok-Unsaid.field-0-is)) c.read_lines.ensures

pub returns-in-Ok-Chosen : goal.returns-in-Ok-Chosen
returns-in-Ok-Chosen c = asked-chosen c.args.tasks c.args.begin.now c.args.finish.now c.args.text.now c.if-text-gt-TEXT_MOST.false c.few-n.ensures c.choose-choice.ensures (said-chosen c.in-Ok-Chosen.is (rw c.in-Ok-Chosen.is at c.in-Ok-Chosen.field-0-is)) c.part_after.ensures c.read_lines-in-Ok-Chosen.ensures

pub returns-in-Err : goal.returns-in-Err
returns-in-Err c = asked-malformed c.args.tasks c.args.begin.now c.args.finish.now c.args.text.now c.if-text-gt-TEXT_MOST.false c.few-n.ensures c.choose-choice.ensures (said-malformed c.in-Err.is) (rw c.number.ensures at c.refuse.ensures) c.asks_nothing-in-Err.ensures
