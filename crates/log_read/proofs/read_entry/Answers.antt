use mathlib.Core.Path.{sym, ◌∙◌}
use Rattle.log_read.proofs.read_entry.Goals as goal

pub read_drop-requires : goal.read_drop-requires
read_drop-requires c = sym (rw c.field.ensures at c.same.ensures) ∙ c.if-same.true

pub read_end-requires : goal.read_end-requires
read_end-requires c = sym (rw c.field.ensures at c.same.ensures) ∙ c.if-same.false
