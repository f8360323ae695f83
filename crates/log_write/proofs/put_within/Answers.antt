use Prim.Native.Nat.{◌+◌, ◌<◌, ◌≤◌}
use native.Mathlib.Omega.{arith}
use lib.ListN.{length, get_or}
use Rattle.log_write.proofs.WriteLaws.{whole, wrote-length, number-turn, number-place, line-end, line-whole}
use borrow.Author.Rules.{rules}
use Rattle.log_write.proofs.put_within.Goals as goal

pub loop-number-preserved : goal.loop-number-preserved
loop-number-preserved c =
    let l = c.loop-number in
    let small : get_or c.args.numbers.now l.number-index 0 < 4294967296 = omega (arith, c.type_inv.numbers l.number-index) in
    let h : l.number-index < length c.args.numbers.now = omega arith in
    let fits : l.place + 11 ≤ length l.out = omega arith in
    let turn = number-turn _ _ _ l.invariant.2 h fits small c.put_byte-after_tab.ensures c.put_number-place.ensures in
    let place = number-place _ _ _ l.invariant.2 h fits small c.put_byte-after_tab.ensures c.put_number-place.ensures in
    (search rules, omega arith, turn)

pub returns : goal.returns
returns c =
    let l = c.loop-number in
    let f : c.args.at + length c.args.word.now ≤ length c.args.out.now = omega arith in
    line-whole c.args.end.now c.args.numbers.now (omega arith) (whole f c.put_text-place.ensures) (line-end c.args.end.now c.args.numbers.now l.number-index l.invariant.2 (omega arith) (omega arith) (omega arith) c.put_text.ensures)

pub shape_of-out : goal.shape_of-out
shape_of-out c = wrote-length (returns c)
