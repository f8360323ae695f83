use mathlib.Core.Path.{ap, ◌∙◌}
use Rattle.engine.specs.Timetable.{timetable_of}
use Rattle.book.specs.declared.Rule.{Rule}
use Rattle.cloverdusk.proofs.clover_timetable.Goals as goal

pub returns : goal.returns
returns c =
    c.work_out.ensures ∙ ap (λ (rule : Rule). timetable_of c.args.plan rule c.args.given) c.rule_for.ensures
