use Rattle.text_fields.proofs.Shared.{shared_start, shared-turn, shared-out}
use Rattle.text_fields.proofs.list.has_shared.Goals as goal

pub loop-hold-init : goal.loop-hold-init
loop-hold-init c = shared_start _

pub loop-hold-preserved : goal.loop-hold-preserved
loop-hold-preserved c = shared-turn _ _ _ c.loop-hold.invariant c.loop-hold-test.true

pub returns : goal.returns
returns c = shared-out _ _ _ c.loop-hold.invariant c.loop-hold-test.false
