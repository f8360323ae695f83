use Prim.{tt}
use Rattle.book.proofs.WaitLaws.{its-figure}
use Rattle.log_run.proofs.ToldLaws.{early-refused, early-granted}
use Rattle.log_run.proofs.told.early_after.Goals as goal

pub returns-then-answer-ne0 : goal.returns-then-answer-ne0
returns-then-answer-ne0 c = early-refused _ c.args.book.now c.if-answer-ne0.true

pub least_early-requires : goal.least_early-requires
least_early-requires c = tt

pub returns : goal.returns
returns c =
    let zero = c.if-answer-ne0.false in
    early-granted _ c.args.book.now zero (c.requires zero) (its-figure c.view.result c.view.ensures c.least_early.ensures)
