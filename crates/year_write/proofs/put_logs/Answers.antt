use native.Mathlib.Omega.{arith}
use Rattle.log_write.proofs.WriteLaws.{whole}
use Rattle.year_write.proofs.LineLaws.{by-wrote, by_next, logs-wrote}
use Rattle.year_write.proofs.put_logs.Goals as goal

pub put_short-past_accepted-requires : goal.put_short-past_accepted-requires
put_short-past_accepted-requires c =
    let fits = c.requires in
    let h = by-wrote (whole (omega (arith, fits)) c.put_text-past_word.ensures) in
    omega (arith, h.place, h.size, fits)

pub put_short-past_refused-requires : goal.put_short-past_refused-requires
put_short-past_refused-requires c =
    let fits = c.requires in
    let h = by_next (by-wrote (whole (omega (arith, fits)) c.put_text-past_word.ensures)) c.put_short-past_accepted.ensures in
    omega (arith, h.place, h.size, fits)

pub returns : goal.returns
returns c =
    let fits = c.requires in
    let x = c.put_short-past_accepted.ensures in
    let y = c.put_short-past_refused.ensures in
    let h = by_next (by_next (by-wrote (whole (omega (arith, fits)) c.put_text-past_word.ensures)) x) y in
    logs-wrote c.args.accepted c.args.refused fits c.put_text-past_word.ensures x y (omega (arith, h.place, h.size, fits)) c.put_byte.ensures
