use native.Mathlib.Omega.{arith}
use Rattle.year_rules.proofs.FigureLaws.{sum-turn, sum-end}
use Rattle.year_rules.proofs.ended_on_all.Goals as goal

pub loop-x-preserved : goal.loop-x-preserved
loop-x-preserved c =
    let l = c.loop-x in
    let t = sum-turn c.args.ended.now l.x-index (omega arith) in
    (omega arith, omega arith)

pub returns : goal.returns
returns c =
    let l = c.loop-x in
    let e = sum-end c.args.ended.now l.x-index (omega arith) in
    omega arith
