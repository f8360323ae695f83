use mathlib.Core.Path.{◌∙◌}
use Rattle.text.proofs.Library.{same-is}
use Rattle.text.proofs.part.same.Goals as goal

pub returns : goal.returns
returns c = c.eq.ensures ∙ same-is _ _
