use Rattle.ask_exact.proofs.StepLaws.{figure-short, figure-of}
use native.Mathlib.Omega.{arith}
use borrow.Author.Rules.{rules}
use Rattle.ask_exact.proofs.step_early.Goals as goal

pub returns-then-n-from : goal.returns-then-n-from
returns-then-n-from c = figure-short c.args.book.now c.args.waits.now c.places-n.ensures (search rules) (omega (arith, c.from.ensures, c.if-n-from.true))

pub returns : goal.returns
returns c =
    figure-of c.args.book.now c.args.waits.now c.places-n.ensures (search rules) c.ends_at_latest-ends.ensures (omega (arith, c.from.ensures, c.if-n-from.false)) c.least_of.ensures
