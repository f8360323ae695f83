use Prim.Native.Nat.{◌-◌}
use mathlib.Core.Path.{◌≡◌}
use Rattle.laws.specs.Split.{skip_on}
use Rattle.text.specs.Line.{TAB}
use Rattle.text.proofs.part.past_fields.Given as goal

-- what is left of the rest after the fields yet to pass is what is left of the line after n
abbrev pub invariant-loop : goal.invariant-loop
invariant-loop l = skip_on TAB (l.n - l.counter) l.rest ≡ skip_on TAB l.n l.line
