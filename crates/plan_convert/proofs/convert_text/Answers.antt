use Rattle.plan_convert.proofs.ConvertLaws.{renewed-short, renewed-refused, renewed-written}
use Rattle.plan_convert.proofs.convert_text.Goals as goal

-- `editions::convert_text` meets its contract: nothing, one line, or the text of an accepted plan.
pub returns-then-out-lt-TEXT_MOST : goal.returns-then-out-lt-TEXT_MOST
returns-then-out-lt-TEXT_MOST c = renewed-short c.args.text.now c.args.out.now c.if-out-lt-TEXT_MOST.true

pub returns-then-renewed-ne0 : goal.returns-then-renewed-ne0
returns-then-renewed-ne0 c = renewed-refused c.args.text.now c.args.out.now c.if-out-lt-TEXT_MOST.false c.renew-renewed.ensures c.if-renewed-ne0.true c.put_refused.ensures

pub returns : goal.returns
returns c = renewed-written c.args.text.now c.args.out.now c.if-out-lt-TEXT_MOST.false c.renew-renewed.ensures c.if-renewed-ne0.false c.write_plan.ensures.answer c.write_plan.ensures.bytes
