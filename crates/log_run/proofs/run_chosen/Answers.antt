-- The book that is opened, and then the rest of ends.txt by its first line.
use native.Mathlib.Omega.{arith}
use Rattle.log_run.proofs.ShortLaws.{malformed-short}
use Rattle.log_run.proofs.OpenLaws.{rest-less}
use Rattle.log_read.proofs.SaidLaws.{said-unsaid, said-chosen, said-malformed}
use Rattle.log_run.proofs.AnswerLaws.{its-few, opening-sound}
use Rattle.log_run.proofs.LogLaws.{opened-by, ends-fit, ran-unsaid, ran-chosen, ran-malformed}
use Rattle.log_run.proofs.run_chosen.Goals as goal

pub early_after-early-requires : goal.early_after-early-requires
early_after-early-requires c = λ z. opening-sound _ _ c.open-opening.ensures z

pub put_opened-at-requires : goal.put_opened-at-requires
put_opened-at-requires c = (its-few _ _ c.open-opening.ensures c.requires.accepted, omega (arith, c.requires.long))

pub put_ends-requires : goal.put_ends-requires
put_ends-requires c =
    let o = opened-by c.requires c.choose-choice.ensures c.rule_of.ensures c.open-opening.ensures c.early_after-early.ensures in
    ends-fit o c.put_opened-at.ensures (omega arith) (omega arith)

pub put_ends-requires-in-Ok-Chosen : goal.put_ends-requires-in-Ok-Chosen
put_ends-requires-in-Ok-Chosen c =
    let o = opened-by c.requires c.choose-choice.ensures c.rule_of.ensures c.open-opening.ensures c.early_after-early.ensures in
    ends-fit o c.put_opened-at.ensures (omega arith) (rest-less c.args.ends.now c.part_after.ensures)

pub overflow_cast-column : goal.overflow_cast-column
overflow_cast-column c =
    record { fits = malformed-short c.args.ends.now c.requires.short c.choose-choice.ensures (said-malformed c.in-Err.is) }

pub returns-in-Ok-Unsaid : goal.returns-in-Ok-Unsaid
returns-in-Ok-Unsaid c =
    let o = opened-by c.requires c.choose-choice.ensures c.rule_of.ensures c.open-opening.ensures c.early_after-early.ensures in
    ran-unsaid o c.put_opened-at.ensures (said-unsaid c.in-Ok-Unsaid.is (rw c.in-Ok-Unsaid.is at c.in-Ok-Unsaid.field-0-is)) c.put_ends.ensures

pub returns-in-Ok-Chosen : goal.returns-in-Ok-Chosen
returns-in-Ok-Chosen c =
    let o = opened-by c.requires c.choose-choice.ensures c.rule_of.ensures c.open-opening.ensures c.early_after-early.ensures in
    ran-chosen o c.put_opened-at.ensures (said-chosen c.in-Ok-Chosen.is (rw c.in-Ok-Chosen.is at c.in-Ok-Chosen.field-0-is)) c.part_after.ensures c.put_ends-in-Ok-Chosen.ensures

pub returns-in-Err : goal.returns-in-Err
returns-in-Err c =
    let o = opened-by c.requires c.choose-choice.ensures c.rule_of.ensures c.open-opening.ensures c.early_after-early.ensures in
    ran-malformed o c.put_opened-at.ensures (said-malformed c.in-Err.is) (rw (c.refuse.ensures, c.number.ensures) at c.put_refused.ensures)
