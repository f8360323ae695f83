use Prim.Native.Nat.{◌+◌, ◌≤◌}
use mathlib.Core.Path.{◌≡◌}
use lib.ListN.{drop}
use Rattle.laws.specs.Lists.{all_of, first_not}
use Rattle.laws.specs.Digits.{value_after}
use Rattle.text.specs.Number.{is_digit, value_of}
use Rattle.text.proofs.Spell.{held}
use Rattle.text.proofs.decimal.read_number.Given as goal

-- the rest is all digits where the whole is; the value so far, with the digits of the rest after it, is the whole's; both held
abbrev pub invariant-loop-i : goal.invariant-loop-i
invariant-loop-i l =
    record {
      small : l.v ≤ 1000001;
      digits : all_of is_digit (drop l.i l.field) ≡ all_of is_digit l.field;
      value : held (value_after l.v (drop l.i l.field)) ≡ held (value_of l.field);
      stop : l.i + first_not is_digit (drop l.i l.field) ≡ first_not is_digit l.field;
    }
