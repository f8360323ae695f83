use native.Mathlib.Omega.{arith}
use Rattle.year_write.proofs.LineLaws.{by-wrote, by_next, tail-wrote}
use Rattle.year_write.proofs.put_tail.Goals as goal

pub returns : goal.returns
returns c =
    let x = c.put_short-past_ended.ensures in
    let y = c.put_field-past_sum.ensures in
    let z = c.put_or_none-past_greatest.ensures in
    let u = c.put_or_none-past_least.ensures in
    let h = by_next (by_next (by_next (by-wrote x) y) z) u in
    tail-wrote c.args.tally x y z u (omega (arith, h.place, h.size, c.requires)) c.put_byte.ensures
