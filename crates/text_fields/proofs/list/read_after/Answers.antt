use mathlib.Core.Path.{◌∙◌}
use native.Mathlib.Omega.{arith}
use Rattle.text_fields.proofs.Rise.{after_is}
use Rattle.text_fields.proofs.list.read_after.Goals as goal

pub returns : goal.returns
returns c = c.read_list.ensures ∙ after_is _ _ _ (omega (arith, c.min.ensures))
