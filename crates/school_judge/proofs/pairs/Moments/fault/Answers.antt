use Rattle.std.proofs.lemmas.Result.{err_from_is_err_and}
use native.Mathlib.Omega.{arith}
use mathlib.Core.Path.{sym, ◌∙◌}
use Rattle.school_judge.proofs.PairLaws.{rows-first, rows-turn, rows-hit, rows_out, clean-none}
use Rattle.school_judge.proofs.pairs.Moments.fault.Goals as goal

pub returns-then-are_clean : goal.returns-then-are_clean
returns-then-are_clean c = clean-none _ _ (sym c.are_clean.ensures ∙ c.if-are_clean.true)

pub loop-a-init : goal.loop-a-init
loop-a-init c = rows-first _ _

pub returns-in_err-row_fault : goal.returns-in_err-row_fault
returns-in_err-row_fault c =
    let p = err_from_is_err_and c.from_residual.result c.from_residual.ensures.1 in
    rw (p.1, p.2) (rows-hit _ _ c.loop-a.a c.loop-a.invariant (omega arith) c.in_err-row_fault.ensures)

pub loop-a-preserved : goal.loop-a-preserved
loop-a-preserved c = rows-turn _ _ c.loop-a.a c.loop-a.invariant (omega arith) c.in_ok-row_fault.ensures

pub returns : goal.returns
returns c = rows_out _ _ c.loop-a.a c.loop-a.invariant (omega arith)
