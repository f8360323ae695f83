use Rattle.book_view.proofs.Turns.{latest-placed}
use native.Mathlib.Omega.{arith}
use Rattle.book_sound.proofs.SoundLaws.{free-is, test-waiting, test-skipped, test-running, test-ended}
use Rattle.plan.specs.Value.{at}
use Rattle.book_sound.specs.Private.Lent.{plan_by}
use Prim.Native.Nat.{max}
use mathlib.Core.Path.{refl, ap, ◌∙◌}
use Rattle.book_sound.proofs.task_sound.Goals as goal

pub returns-then-state-eq0 : goal.returns-then-state-eq0
returns-then-state-eq0 c =
    let a = c.args in
    let b = a.book.now in
    test-waiting b.plan.tasks b.plan.ready.now b.plan.begin.now b.plan.finish.now a.waits.now b.mark.now b.start.now b.end.now b.dropped.now b.clock a.i
    (free-is (plan_by b a.waits.now) (at b.mark.now) a.i _ _ (λ j. refl) c.requires.2) c.if-state-eq0.true

pub returns-then-gone-eq1 : goal.returns-then-gone-eq1
returns-then-gone-eq1 c =
    let a = c.args in
    let b = a.book.now in
    test-skipped b.plan.tasks b.plan.ready.now b.plan.begin.now b.plan.finish.now a.waits.now b.mark.now b.start.now b.end.now b.dropped.now b.clock a.i
    (free-is (plan_by b a.waits.now) (at b.mark.now) a.i _ _ (λ j. refl) c.requires.2) c.if-state-eq0.false (latest-placed b.plan.tasks _ _ (omega (arith, c.requires.0)) c.latest_end-due.ensures) c.if-gone-eq1.true c.waits_at_all-some.ensures

pub returns-then-state-eq1 : goal.returns-then-state-eq1
returns-then-state-eq1 c =
    let a = c.args in
    let b = a.book.now in
    test-running b.plan.tasks b.plan.ready.now b.plan.begin.now b.plan.finish.now a.waits.now b.mark.now b.start.now b.end.now b.dropped.now b.clock a.i
    (free-is (plan_by b a.waits.now) (at b.mark.now) a.i _ _ (λ j. refl) c.requires.2) c.if-state-eq0.false (c.start_of-from.ensures ∙ ap (max _) (latest-placed b.plan.tasks _ _ (omega (arith, c.requires.0)) c.latest_end-due.ensures)) c.limit_of-limit.ensures
    c.if-gone-eq1.false c.if-state-eq1.true c.from.ensures

pub returns : goal.returns
returns c =
    let a = c.args in
    let b = a.book.now in
    test-ended b.plan.tasks b.plan.ready.now b.plan.begin.now b.plan.finish.now a.waits.now b.mark.now b.start.now b.end.now b.dropped.now b.clock a.i
    (free-is (plan_by b a.waits.now) (at b.mark.now) a.i _ _ (λ j. refl) c.requires.2) c.if-state-eq0.false (c.start_of-from.ensures ∙ ap (max _) (latest-placed b.plan.tasks _ _ (omega (arith, c.requires.0)) c.latest_end-due.ensures)) c.limit_of-limit.ensures
    c.if-gone-eq1.false c.if-state-eq1.false c.from-2.ensures
