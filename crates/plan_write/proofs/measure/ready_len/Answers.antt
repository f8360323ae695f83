use mathlib.Core.Path.{ap}
use native.Mathlib.Omega.{arith}
use lib.ListN.{length, length-append}
use Rattle.plan_write.proofs.WriteLaws.{ready-stands, ready-none}
use Rattle.plan_write.proofs.measure.ready_len.Goals as goal

pub returns-then-edition-eq2 : goal.returns-then-edition-eq2
returns-then-edition-eq2 c =
    let s = c.args in
    omega (arith, simp length-append at (ap length (ready-stands s.edition s.ready c.if-edition-eq2.true)))

pub returns : goal.returns
returns c =
    let s = c.args in omega (arith, ap length (ready-none s.edition s.ready c.if-edition-eq2.false))
