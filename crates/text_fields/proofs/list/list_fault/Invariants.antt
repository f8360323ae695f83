use Prim.Native.Nat.{◌+◌, ◌-◌, ◌≤◌}
use mathlib.Core.Path.{◌≡◌}
use lib.ListN.{length}
use Rattle.laws.specs.Lists.{all_of}
use Rattle.laws.specs.Split.{split_on}
use Rattle.text_fields.specs.Items.{COMMA}
use Rattle.text_fields.specs.Private.Lettered.{lettered, is_item, parts_stop}
use Rattle.text_fields.proofs.list.list_fault.Given as goal

-- `lists::list_fault` meets its contract: where the rest stops, after the bytes passed, is where the whole stops.
abbrev pub invariant-loop-rest : goal.invariant-loop-rest
invariant-loop-rest l =
    (length l.rest ≤ length l.s)
    × (all_of (is_item (lettered l.listed)) (split_on COMMA l.rest) ≡ all_of (is_item (lettered l.listed)) (split_on COMMA l.s))
    × (length l.s - length l.rest + parts_stop (lettered l.listed) l.rest ≡ parts_stop (lettered l.listed) l.s)

abbrev pub decreases-loop-rest : goal.decreases-loop-rest
decreases-loop-rest l = length l.rest
