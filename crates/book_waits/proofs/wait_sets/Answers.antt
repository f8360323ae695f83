use mathlib.Core.Path.{refl}
use Rattle.book_waits.proofs.WaitLaws.{no-rule, not-accepted, plan-fits, waits-are}
use Rattle.book_waits.proofs.wait_sets.Goals as goal

pub returns-then-rule-gt1 : goal.returns-then-rule-gt1
returns-then-rule-gt1 c = no-rule _ _ c.if-rule-gt1.true

pub returns-then-not-is_accepted : goal.returns-then-not-is_accepted
returns-then-not-is_accepted c = not-accepted _ _ c.is_accepted.ensures c.if-not-is_accepted.true

pub fill_sets-requires : goal.fill_sets-requires
fill_sets-requires c = (refl, plan-fits 0 _ c.is_accepted.ensures c.if-not-is_accepted.false)

pub returns : goal.returns
returns c =
    waits-are _ _ c.is_accepted.ensures c.if-not-is_accepted.false c.if-rule-gt1.false c.fill_sets.ensures
