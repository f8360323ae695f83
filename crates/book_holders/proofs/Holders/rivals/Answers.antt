use Rattle.laws.proofs.Gather.{gather-start, gather-stop, gather-out, gather-turn}
use Rattle.book_holders.proofs.ClashLaws.{its-rivals}
use borrow.Author.Rules.{rules}
use Rattle.book_holders.proofs.Holders.rivals.Goals as goal

pub loop-h-init : goal.loop-h-init
loop-h-init c = gather-start 64 _ _

pub returns-then-h-eq0 : goal.returns-then-h-eq0
returns-then-h-eq0 c = gather-stop 64 _ _ _ _ c.loop-h.invariant c.loop-h-test.true c.if-h-eq0.true

pub loop-h-preserved : goal.loop-h-preserved
loop-h-preserved c =
    let a = c.args in
    gather-turn 64 _ _ _ _ c.loop-h.invariant c.loop-h-test.true c.if-h-eq0.false
    (its-rivals a.self.now.held a.self.now.exclusive _ c.rivals_on-set.ensures (search rules))

pub returns : goal.returns
returns c = gather-out 64 _ _ _ _ c.loop-h.invariant c.loop-h-test.false
