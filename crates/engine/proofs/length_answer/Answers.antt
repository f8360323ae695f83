use Rattle.engine.proofs.LengthLaws.{said-bad, said-idle, said-none}
use Rattle.theory.specs.Times.{bad_length}
use Rattle.plan.specs.Value.{at}
use Rattle.book_view.specs.View.{plan_seen}
use mathlib.Core.Bool.{◌&&◌}
use mathlib.Core.List.{[]}
use mathlib.Core.Path.{◌∙◌}
use lib.Dec.{eqb}
use Rattle.engine.proofs.length_answer.Goals as goal

pub returns-in-Some : goal.returns-in-Some
returns-in-Some c =
    let a = c.args in
    said-bad (λ m. bad_length (plan_seen m [] a.plan.now.begin a.plan.now.finish []) (at a.given.now.length) (at a.given.now.dropped)) (λ i. eqb (at a.given.now.dropped i) 1 && eqb (at a.waits.now i) 0)
    (c.from-n.ensures ∙ c.few.ensures) c.in-Some.ensures c.answer.ensures

pub returns-in-Some-idle_drop : goal.returns-in-Some-idle_drop
returns-in-Some-idle_drop c =
    let a = c.args in
    said-idle (λ m. bad_length (plan_seen m [] a.plan.now.begin a.plan.now.finish []) (at a.given.now.length) (at a.given.now.dropped)) (λ i. eqb (at a.given.now.dropped i) 1 && eqb (at a.waits.now i) 0)
    (c.from-n.ensures ∙ c.few.ensures) c.in_default.ensures c.in-Some-idle_drop.ensures c.answer-in-Some-idle_drop.ensures

pub returns : goal.returns
returns c =
    let a = c.args in
    said-none (λ m. bad_length (plan_seen m [] a.plan.now.begin a.plan.now.finish []) (at a.given.now.length) (at a.given.now.dropped)) (λ i. eqb (at a.given.now.dropped i) 1 && eqb (at a.waits.now i) 0)
    (c.from-n.ensures ∙ c.few.ensures) c.in_default.ensures c.in_default-idle_drop.ensures
