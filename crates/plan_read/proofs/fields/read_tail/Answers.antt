use native.Mathlib.Omega.{arith}
use Rattle.text_fields.proofs.RangedLaws.{ranged-small}
use Rattle.plan_read.proofs.CutLaws.{line-cut}
use Rattle.plan_read.proofs.TailLaws.{tail-reads, value-or}
use Rattle.plan_read.proofs.fields.read_tail.Goals as goal

pub overflow_add-unwrap_or : goal.overflow_add-unwrap_or
overflow_add-unwrap_or c =
    let v = value-or c.read_ranged-begin.result c.unwrap_or.ensures in
    record { fits = omega (arith, v, ranged-small 0 1000000 _ c.read_ranged-begin.ensures) }

pub returns : goal.returns
returns c =
    let cut = line-cut c.split_field.ensures.0 c.split_field.ensures.1 c.split_field-2.ensures.0 c.split_field-2.ensures.1 c.split_field-3.ensures.0 c.split_field-3.ensures.1 c.part_before.ensures in
    let v = value-or c.read_ranged-begin.result c.unwrap_or.ensures in
    tail-reads _ _ cut c.read_ranged-begin.ensures (rw v at c.read_ranged-finish.ensures) c.read_held-holds.ensures c.read_order-after.ensures
