use Rattle.laws.proofs.Noted.{noted-start, noted-stop, noted-out, noted-turn}
use borrow.Author.Rules.{rules}
use Rattle.book_holders.proofs.note_list.Goals as goal

pub loop-h-init : goal.loop-h-init
loop-h-init c = (noted-start 32 _ _ _ _ c.requires.1, noted-start 32 _ _ _ _ c.requires.2)

pub returns-then-h-eq0 : goal.returns-then-h-eq0
returns-then-h-eq0 c =
    let inv = c.loop-h.invariant in
    let more = c.loop-h-test.true in
    (noted-stop 32 _ _ _ _ _ _ inv.0 more c.if-h-eq0.true, noted-stop 32 _ _ _ _ _ _ inv.1 more c.if-h-eq0.true)

pub note_hold-requires : goal.note_hold-requires
note_hold-requires c =
    let inv = c.loop-h.invariant in (search rules, inv.0.size, inv.1.size)

pub loop-h-preserved : goal.loop-h-preserved
loop-h-preserved c =
    let inv = c.loop-h.invariant in
    let more = c.loop-h-test.true in
    let item = c.if-h-eq0.false in
    (noted-turn 32 _ _ _ _ _ _ inv.0 more item c.note_hold.ensures.0, noted-turn 32 _ _ _ _ _ _ inv.1 more item c.note_hold.ensures.1)

pub returns : goal.returns
returns c =
    let inv = c.loop-h.invariant in
    (noted-out 32 _ _ _ _ _ _ inv.0 c.loop-h-test.false, noted-out 32 _ _ _ _ _ _ inv.1 c.loop-h-test.false)
