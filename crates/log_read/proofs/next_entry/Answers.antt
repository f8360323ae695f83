use mathlib.Core.Path.{sym, ◌∙◌}
use lib.Seq.{length-take-le}
use Rattle.text.proofs.Parts.{found-le}
use Rattle.log_read.proofs.TextLaws.{next-is}
use Rattle.log_read.proofs.next_entry.Goals as goal

pub slice_bounds-read_entry-end : goal.slice_bounds-read_entry-end
slice_bounds-read_entry-end c = sym (length-take-le _ _ (found-le _ _ c.find-end.ensures))

pub returns : goal.returns
returns c = c.read_entry.ensures ∙ next-is _ c.find-end.ensures
