use mathlib.Core.Path.{ap, ◌∙◌}
use Rattle.std.specs.Result.{is_ok}
use Rattle.book.proofs.WaitLaws.{its-soundness}
use Rattle.book.proofs.is_sound.Goals as goal

pub returns : goal.returns
returns c = c.is_ok.ensures.value ∙ ap is_ok c.judged.ensures ∙ its-soundness c.args.book.now
