use mathlib.Core.Path.{◌∙◌}
use Rattle.text.proofs.Parts.{field_at}
use Rattle.text.proofs.part.field.Goals as goal

pub returns : goal.returns
returns c = rw c.past_fields.ensures at c.part_before.ensures ∙ field_at 9 _ _
