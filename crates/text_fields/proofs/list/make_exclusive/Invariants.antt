use mathlib.Core.Path.{◌≡◌}
use Rattle.text_fields.proofs.Shared.{front_made}
use Rattle.text_fields.proofs.list.make_exclusive.Given as goal

-- the holds passed are made
abbrev pub invariant-loop-hold : goal.invariant-loop-hold
invariant-loop-hold l = l.holds ≡ front_made l.hold-index l.initial.holds
