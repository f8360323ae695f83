use mathlib.Core.Path.{sym, ap, ◌∙◌}
use Rattle.std.specs.Result.{is_ok}
use Rattle.book.specs.View.{shown}
use Rattle.book.proofs.WaitLaws.{its-soundness, drop-code, unsound-code}
use Rattle.book.proofs.judge.judge_drop.Goals as goal

pub returns-then-is_err : goal.returns-then-is_err
returns-then-is_err c =
    unsound-code (shown c.args.book.now) _ (sym (its-soundness (shown c.args.book.now)) ∙ ap is_ok (sym c.sound_waits.ensures) ∙ c.if-is_err.ensures.negation)

pub returns : goal.returns
returns c =
    drop-code c.args.book.now c.args.task
    (sym (its-soundness (shown c.args.book.now)) ∙ ap is_ok (sym c.sound_waits.ensures) ∙ c.if-is_err.ensures.negation) c.check_drop.ensures
