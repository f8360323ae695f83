use native.Mathlib.Omega.{arith}
use Rattle.log_write.proofs.WriteLaws.{whole}
use Rattle.year_write.proofs.LineLaws.{by-wrote, all-wrote}
use Rattle.year_write.proofs.put_all.Goals as goal

pub put_tail-requires : goal.put_tail-requires
put_tail-requires c =
    let fits = c.requires in
    let h = by-wrote (whole (omega (arith, fits)) c.put_text-past_word.ensures) in
    omega (arith, h.place, h.size, fits)

pub returns : goal.returns
returns c = all-wrote c.args.tally c.requires c.put_text-past_word.ensures c.put_tail.ensures
