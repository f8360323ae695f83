use Prim.Native.Nat.{◌+◌, ◌*◌, ◌≤◌}
use mathlib.Core.Path.{◌≡◌}
use lib.ListN.{length, drop}
use Rattle.text_fields.specs.Items.{list_text}
use Rattle.plan_write.specs.Private.WriteParts.{item_text}
use Rattle.plan_write.proofs.WriteLaws.{later_text}
use Rattle.plan_write.proofs.measure.list_len.Given as goal

abbrev pub invariant-loop-x : goal.invariant-loop-x
invariant-loop-x l =
    (l.x-index ≤ length l.others)
    × (l.n ≤ 12 * l.x-index + 11)
    × (l.n + length (later_text (item_text l.listed) (drop l.x-index l.others)) ≡ length (list_text (item_text l.listed) l.items))
