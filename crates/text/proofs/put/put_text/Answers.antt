use mathlib.Core.Path.{refl, sym}
use native.Mathlib.Omega.{arith}
use borrow.Author.Rules.{rules}
use borrow.Author.Tests.{leb-true}
use lib.ListN.{length-set}
use Rattle.text.proofs.Store.{put-none, put_whole, copy_start, copy-turn, copy-end}
use Rattle.text.proofs.put.put_text.Goals as goal

pub returns-then-not-has_room : goal.returns-then-not-has_room
returns-then-not-has_room c = put-none _ _ _ c.if-not-has_room.ensures

pub loop-i-init : goal.loop-i-init
loop-i-init c = (leb-true _ _ (sym c.if-not-has_room.ensures), search rules, copy_start c.args.out.now c.args.at c.args.s.now)

pub loop-i-preserved : goal.loop-i-preserved
loop-i-preserved c =
    (c.loop-i.invariant.0, simp length-set c.loop-i.invariant.1, copy-turn _ _ _ _ _ c.loop-i-test.true c.loop-i.invariant.2)

pub returns : goal.returns
returns c = put_whole _ _ _ _ _ c.loop-i.invariant.0 refl (copy-end _ _ _ _ _ c.loop-i-test.false c.loop-i.invariant.2)
