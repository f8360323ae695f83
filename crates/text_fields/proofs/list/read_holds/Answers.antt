use mathlib.Core.Path.{◌∙◌}
use Rattle.text_fields.proofs.Rise.{holds-is}
use Rattle.text_fields.proofs.list.read_holds.Goals as goal

pub returns : goal.returns
returns c = c.read_list.ensures ∙ holds-is _
