use Rattle.book.proofs.WaitLaws.{its-judged}
use Rattle.book.proofs.judged.Goals as goal

pub returns : goal.returns
returns c = its-judged c.view.result c.view.ensures c.sound_waits.ensures
