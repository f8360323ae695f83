use mathlib.Core.Path.{◌∙◌}
use Rattle.text.proofs.Library.{same-is}
use Rattle.text_fields.proofs.FaultLaws.{word-right, word-wrong}
use Rattle.text_fields.proofs.faults.word_fault.Goals as goal

pub returns-then-eq : goal.returns-then-eq
returns-then-eq c = word-right _ _ (c.if-eq.ensures ∙ same-is _ _)

pub returns-else-eq : goal.returns-else-eq
returns-else-eq c = word-wrong _ _ (c.if-eq.ensures ∙ same-is _ _)
