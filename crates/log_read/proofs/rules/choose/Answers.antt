use mathlib.Core.Path.{sym, ◌∙◌}
use lib.Seq.{length-take-le}
use Rattle.text.proofs.Parts.{found-le}
use Rattle.log_read.proofs.RuleLaws.{choice-is}
use Rattle.log_read.proofs.rules.choose.Goals as goal

pub slice_bounds-read_choice-end : goal.slice_bounds-read_choice-end
slice_bounds-read_choice-end c = sym (length-take-le _ _ (found-le _ _ c.find-end.ensures))

pub returns : goal.returns
returns c = c.read_choice.ensures ∙ choice-is _ c.find-end.ensures
