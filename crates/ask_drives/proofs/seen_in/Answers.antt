use lib.ListN.{length}
use mathlib.Core.Path.{◌≡◌}
use Rattle.ask_drives.proofs.Keep.{seen-is}
use borrow.Author.Rules.{rules}
use Rattle.ask_drives.proofs.seen_in.Goals as goal

pub returns-then-own : goal.returns-then-own
returns-then-own c =
    let l : length c.args.book.now.holds ≡ 2048 = search rules in
    let s = seen-is c.args.book.now c.args.sheet l c.holders_of-holders.ensures c.standing-before.ensures c.fresh_sheet.ensures c.is_same-own.ensures in
    rw c.if-own.true at s

pub returns-else-own : goal.returns-else-own
returns-else-own c =
    let l : length c.args.book.now.holds ≡ 2048 = search rules in
    let s = seen-is c.args.book.now c.args.sheet l c.holders_of-holders.ensures c.standing-before.ensures c.fresh_sheet.ensures c.is_same-own.ensures in
    rw c.if-own.false at s
