use native.Mathlib.Omega.{arith}
use Rattle.log_write.proofs.WriteLaws.{whole}
use Rattle.year_write.proofs.LineLaws.{by-wrote, by_next, board-wrote}
use Rattle.year_write.proofs.put_board.Goals as goal

pub put_short-past_number-requires : goal.put_short-past_number-requires
put_short-past_number-requires c =
    let fits = c.requires in
    let h = by-wrote (whole (omega (arith, fits)) c.put_text-past_word.ensures) in
    omega (arith, h.place, h.size, fits)

pub put_tail-requires : goal.put_tail-requires
put_tail-requires c =
    let fits = c.requires in
    let h = by_next (by-wrote (whole (omega (arith, fits)) c.put_text-past_word.ensures)) c.put_short-past_number.ensures in
    omega (arith, h.place, h.size, fits)

pub returns : goal.returns
returns c = board-wrote c.args.number c.args.tally c.requires c.put_text-past_word.ensures c.put_short-past_number.ensures c.put_tail.ensures
