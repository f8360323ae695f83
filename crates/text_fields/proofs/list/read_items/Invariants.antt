use Prim.Native.Nat.{◌≤◌}
use mathlib.Core.Path.{◌≡◌}
use lib.ListN.{length}
use Rattle.laws.specs.Lists.{all_of}
use Rattle.laws.specs.Split.{split_on}
use Rattle.text_fields.specs.Items.{COMMA}
use Rattle.text_fields.specs.Private.Lettered.{lettered, is_item}
use Rattle.text_fields.proofs.Rise.{items_left, spelt_read}
use Rattle.text_fields.proofs.list.read_items.Given as goal

-- `lists::read_items` meets its contract: what is kept, with what the rest gives, is the answer where all parts are items; there are never more items than the last number.
abbrev pub invariant-loop-n : goal.invariant-loop-n
invariant-loop-n l =
    (l.count ≤ l.last)
    × (l.last ≤ l.high)
    × (length l.items ≡ 64)
    × (all_of (is_item (lettered l.listed)) (split_on COMMA l.rest) ≡ all_of (is_item (lettered l.listed)) (split_on COMMA l.s))
    × (items_left (lettered l.listed) l.high (length l.s) l.items l.count l.last (split_on COMMA l.rest) ≡ spelt_read (lettered l.listed) l.high (length l.s) (split_on COMMA l.s))

abbrev pub decreases-loop-n : goal.decreases-loop-n
decreases-loop-n l = length l.rest
