use mathlib.Core.Path.{ap, ◌∙◌}
use Rattle.plan.specs.Value.{is_accepted}
use Rattle.plan_write.proofs.WriteLaws.{nine, yes-accepted}
use Rattle.plan_write.proofs.write.write_plan.Goals as goal

pub returns-then-not-is_accepted : goal.returns-then-not-is_accepted
returns-then-not-is_accepted c =
    let both = nine c.args.plan c.args.out.now (c.is_accepted.ensures ∙ ap is_accepted c.view-view.ensures) c.if-not-is_accepted.true (rw c.answer.ensures) in
    record { answer = both.0; bytes = both.1 }

pub write_accepted-requires : goal.write_accepted-requires
write_accepted-requires c = yes-accepted _ c.is_accepted.ensures c.if-not-is_accepted.false

pub returns : goal.returns
returns c =
    let both = rw c.view-view.ensures at c.write_accepted.ensures in
    record { answer = both.0; bytes = both.1 }
