use Rattle.book.specs.Private.Table.{skips_by_row, round_by}
use Rattle.laws.specs.Every.{any}
use mathlib.Core.Path.{◌≡◌}
use Prim.Native.Nat.{◌≤◌}
use Rattle.book.proofs.skip.skip_round.Given as goal

abbrev pub invariant-loop-i : goal.invariant-loop-i
invariant-loop-i l = (l.i ≤ l.book.tasks) × (l.next ≡ round_by l.book.dropped l.last l.clock l.i l.initial.next) × (l.some ≡ any l.i (skips_by_row l.initial.next.mark l.book.dropped l.last))
