use Rattle.std.proofs.lemmas.Result.{err_from_is_err_and}
use native.Mathlib.Omega.{arith}
use Rattle.text_fields.proofs.RangedLaws.{ranged-in, ranged-low, ranged-high, ranged-fault}
use Rattle.text_fields.proofs.faults.read_ranged.Goals as goal
use Rattle.text_fields.proofs.faults.read_ranged.Goals.{then-value-low-via-then-value-low, then-value-low-via-else-value-low+then-high-value}

pub returns-in_err-value : goal.returns-in_err-value
returns-in_err-value c =
    let p = err_from_is_err_and c.from_residual.result c.from_residual.ensures.1 in
    rw (p.1, p.2) (ranged-fault _ _ _ _ c.in_err-value.ensures)

pub returns-then-value-low : goal.returns-then-value-low
returns-then-value-low c = elim c.then-value-low.branch [
  | then-value-low-via-then-value-low w ↦ ranged-low _ _ _ c.in_ok-value.ensures w.if-value-low.true
  | then-value-low-via-else-value-low+then-high-value w ↦ ranged-high _ _ _ c.in_ok-value.ensures w.if-high-value.true
]

pub returns : goal.returns
returns c = ranged-in _ _ _ c.in_ok-value.ensures (omega (arith, c.if-value-low.false)) (omega (arith, c.if-high-value.false))
