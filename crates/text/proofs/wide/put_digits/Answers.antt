use native.Mathlib.Omega.{arith}
use Rattle.text.proofs.Store.{some-digits, digits-start, digits-turn, digit-left, digits-done}
use Rattle.text.proofs.wide.put_digits.Goals as goal

pub loop-i-init : goal.loop-i-init
loop-i-init c = (omega (arith, c.requires, some-digits c.args.n), digits-start _ _ c.requires)

pub loop-i-preserved : goal.loop-i-preserved
loop-i-preserved c =
    (omega (arith, c.loop-i-test.true), digits-turn _ _ _ _ c.loop-i.invariant.1 (omega (arith, c.loop-i-test.true)) (omega arith) (omega arith))

-- src/wide.rt:31:21
pub overflow_cast-out-2 : goal.overflow_cast-out-2
overflow_cast-out-2 c =
    record { fits = omega (arith, digit-left c.args.n _ _ (omega (arith, c.loop-i.invariant.0, c.loop-i-test.false)) c.loop-i.invariant.1 (omega arith)) }

-- src/wide.rt:31:14
pub overflow_add-out-2 : goal.overflow_add-out-2
overflow_add-out-2 c =
    record { fits = omega (arith, digit-left c.args.n _ _ (omega (arith, c.loop-i.invariant.0, c.loop-i-test.false)) c.loop-i.invariant.1 (omega arith)) }

pub returns : goal.returns
returns c = digits-done _ _ _ (omega (arith, c.loop-i.invariant.0, c.loop-i-test.false)) c.loop-i.invariant.1 (omega arith)
