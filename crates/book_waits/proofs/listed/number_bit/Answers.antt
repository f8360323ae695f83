use mathlib.Core.Path.{◌∙◌}
use Rattle.book_waits.proofs.ListLaws.{bit-number}
use Rattle.book_waits.proofs.listed.number_bit.Goals as goal

pub returns : goal.returns
returns c = c.bit_of.ensures ∙ bit-number c.args.number c.requires
