use Prim.Native.Nat.{suc}
use mathlib.Core.Path.{ap, ◌∙◌}
use lib.ListN.{drop}
use Rattle.text.proofs.part.part_after.Goals as goal

pub returns : goal.returns
returns c = c.past.ensures ∙ ap (λ n. drop (suc n) c.args.s.now) c.find.ensures
