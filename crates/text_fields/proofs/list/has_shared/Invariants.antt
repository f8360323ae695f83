use Rattle.text_fields.proofs.Shared.{SharedRest}
use Rattle.text_fields.proofs.list.has_shared.Given as goal

-- a shared hold was seen, or stands in the rest
abbrev pub invariant-loop-hold : goal.invariant-loop-hold
invariant-loop-hold l = SharedRest l.holds l.hold-index l.seen
