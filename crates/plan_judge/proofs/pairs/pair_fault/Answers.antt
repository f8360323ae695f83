use mathlib.Core.Path.{refl}
use Rattle.plan.specs.View.{viewed}
use Rattle.plan_judge.specs.Private.Arrays.{tasks_of}
use Rattle.plan_judge.proofs.PairLaws.{Free, pair-6, pair-7, free-apart, free-kept, pair-8-this, pair-8-that, pair-0}
use Rattle.plan_judge.proofs.pairs.pair_fault.Goals as goal
use Rattle.plan_judge.proofs.pairs.pair_fault.Goals.{then-meet+else-plan-a+else-clash_by_drive, else-meet}

pub returns-then-plan-a : goal.returns-then-plan-a
returns-then-plan-a c = pair-6 _ _ _ c.meet.ensures c.if-meet.true c.if-plan-a.true

pub returns-then-clash_by_drive : goal.returns-then-clash_by_drive
returns-then-clash_by_drive c =
    pair-7 _ _ _ c.meet.ensures c.if-plan-a.false c.clash_by_drive.ensures c.if-meet.true c.if-clash_by_drive.true

pub returns-then-ordered : goal.returns-then-ordered
returns-then-ordered c =
    let free : Free (tasks_of (viewed c.args.plan.now)) c.args.a c.args.b =
    elim c.if-meet.branch [
      | then-meet+else-plan-a+else-clash_by_drive w ↦ free-kept _ _ _ c.meet.ensures w.if-plan-a.false w.clash_by_drive.ensures w.if-clash_by_drive.false
      | else-meet w ↦ free-apart _ _ _ c.meet.ensures w.if-meet.false
    ] in
    let kept = c.requires.1 c.if-ordered.true in
    pair-0 _ _ _ free refl kept.0 refl kept.1

pub returns-then-breaks_after : goal.returns-then-breaks_after
returns-then-breaks_after c =
    let free : Free (tasks_of (viewed c.args.plan.now)) c.args.a c.args.b =
    elim c.if-meet.branch [
      | then-meet+else-plan-a+else-clash_by_drive w ↦ free-kept _ _ _ c.meet.ensures w.if-plan-a.false w.clash_by_drive.ensures w.if-clash_by_drive.false
      | else-meet w ↦ free-apart _ _ _ c.meet.ensures w.if-meet.false
    ] in
    pair-8-this _ _ _ free c.breaks_after.ensures c.if-breaks_after.true

pub returns-then-breaks_after-2 : goal.returns-then-breaks_after-2
returns-then-breaks_after-2 c =
    let free : Free (tasks_of (viewed c.args.plan.now)) c.args.a c.args.b =
    elim c.if-meet.branch [
      | then-meet+else-plan-a+else-clash_by_drive w ↦ free-kept _ _ _ c.meet.ensures w.if-plan-a.false w.clash_by_drive.ensures w.if-clash_by_drive.false
      | else-meet w ↦ free-apart _ _ _ c.meet.ensures w.if-meet.false
    ] in
    pair-8-that _ _ _ free c.breaks_after.ensures c.if-breaks_after.false c.breaks_after-2.ensures c.if-breaks_after-2.true

pub returns : goal.returns
returns c =
    let free : Free (tasks_of (viewed c.args.plan.now)) c.args.a c.args.b =
    elim c.if-meet.branch [
      | then-meet+else-plan-a+else-clash_by_drive w ↦ free-kept _ _ _ c.meet.ensures w.if-plan-a.false w.clash_by_drive.ensures w.if-clash_by_drive.false
      | else-meet w ↦ free-apart _ _ _ c.meet.ensures w.if-meet.false
    ] in
    pair-0 _ _ _ free c.breaks_after.ensures c.if-breaks_after.false c.breaks_after-2.ensures c.if-breaks_after-2.false
