use Prim.Native.Nat.{◌+◌, ◌-◌}
use mathlib.Core.Path.{◌≡◌, ◌∙◌}
use native.Mathlib.Omega.{arith}
use Rattle.desk_start.proofs.StartLaws.{end-here, end_before, end_none}
use Rattle.desk_start.proofs.lines_end.Goals as goal

pub returns-then-ends-i-eq-LF : goal.returns-then-ends-i-eq-LF
returns-then-ends-i-eq-LF c =
    let i = c.loop-i.i in
    let here : i - 1 + 1 ≡ i = omega (arith, c.loop-i-test.true) in
    here ∙ end-here c.args.ends.now i c.loop-i-test.true c.if-ends-i-eq-LF.true ∙ c.loop-i.invariant

pub loop-i-preserved : goal.loop-i-preserved
loop-i-preserved c = end_before c.args.ends.now c.loop-i.i c.loop-i-test.true c.if-ends-i-eq-LF.false ∙ c.loop-i.invariant

pub returns : goal.returns
returns c = end_none c.args.ends.now c.loop-i.i c.loop-i-test.false ∙ c.loop-i.invariant
