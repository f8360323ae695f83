use Rattle.std.proofs.Common.{◌∙◌}
use lib.Seq.{take_all}
use Rattle.text.proofs.Parts.{parts-count}
use Rattle.text.proofs.part.count_fields.Goals as goal

pub returns : goal.returns
returns c = c.loop-b.invariant ∙ rw (take_all _ c.args.line.now c.loop-b-test.false) (parts-count 9 _)
