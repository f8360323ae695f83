use mathlib.Core.Path.{ap, ◌∙◌}
use Rattle.plan.specs.declared.Reading.{Reading}
use Rattle.year_rules.specs.Totals.{added_of}
use Rattle.year_rules.specs.declared.AddResult.{AddResult}
use Rattle.year_totals.proofs.add_texts.Goals as goal

pub returns : goal.returns
returns c =
    ap (λ (x : AddResult). x.totals) c.add_log.ensures
    ∙ ap (λ (x : Reading). (added_of c.args.totals x.plan c.args.log.now).totals) c.read_plan-reading.ensures
