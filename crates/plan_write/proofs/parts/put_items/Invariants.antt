use mathlib.Core.List.{[], ◌∷◌}
use lib.ListN.{drop}
use Rattle.plan_write.specs.Private.WriteParts.{item_text}
use Rattle.plan_write.proofs.RunLaws.{Left}
use Rattle.plan_write.proofs.WriteLaws.{later_text}
use Rattle.plan_write.proofs.parts.put_items.Given as goal

abbrev pub invariant-loop-x : goal.invariant-loop-x
invariant-loop-x l =
    Left l.initial.out l.initial.place (later_text (item_text l.listed) l.others) l.out l.place (later_text (item_text l.listed) (drop l.x-index l.others) ∷ [])
