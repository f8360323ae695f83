use native.Mathlib.Omega.{arith}
use Rattle.text_fields.proofs.Shared.{made-start, made_again, made-end}
use Rattle.text_fields.proofs.list.make_exclusive.Goals as goal

pub loop-hold-init : goal.loop-hold-init
loop-hold-init c = made-start _

pub loop-hold-preserved : goal.loop-hold-preserved
loop-hold-preserved c = made_again _ _ c.loop-hold.invariant (omega arith) c.exclusive.ensures

pub returns : goal.returns
returns c = made-end _ _ c.loop-hold.invariant (omega arith)
