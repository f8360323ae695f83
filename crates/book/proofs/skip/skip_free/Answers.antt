use Rattle.book.proofs.SkipLaws.{skip-begin, skip-idle, skip-more, skip-end}
use native.Mathlib.Omega.{arith}
use Rattle.book.proofs.skip.skip_free.Goals as goal

pub loop-n-init : goal.loop-n-init
loop-n-init c = (c.requires.0, skip-begin _ _ _ _ _ c.requires.1)

pub skip_round-requires : goal.skip_round-requires
skip_round-requires c = (c.loop-n.invariant.0, c.loop-n.invariant.1.table-small)

pub returns-in-None : goal.returns-in-None
returns-in-None c = skip-idle _ _ _ _ _ _ c.loop-n.invariant.1 c.in-None.ensures

pub loop-n-preserved : goal.loop-n-preserved
loop-n-preserved c = (c.loop-n.invariant.0, skip-more _ _ _ _ _ _ c.loop-n.invariant.1 c.in-Some.ensures (omega arith))

pub returns : goal.returns
returns c = skip-end _ _ _ _ _ _ c.loop-n.invariant.1 (omega arith)
