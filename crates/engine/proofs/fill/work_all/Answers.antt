use Rattle.engine.proofs.FillLaws.{timed-first, start-known, end_known_lem, end-small, timed-more, starts-laid, ends-laid, fewer-left, free-undone}
use Rattle.book_view.proofs.Turns.{latest-placed}
use native.Mathlib.Omega.{arith}
use mathlib.Core.Path.{◌∙◌}
use Rattle.engine.proofs.fill.work_all.Goals as goal

pub loop-i-init : goal.loop-i-init
loop-i-init c = timed-first _ _ _ _ _

pub end_at-requires : goal.end_at-requires
end_at-requires c =
    let a = c.args in
    let free = c.in-Some.ensures in
    let from = start-known a.tasks a.ready.now a.waits.now a.given.now.length a.given.now.dropped c.requires _ _ _ c.loop-i.invariant c.in-Some.i free.0 free.1 (latest-placed a.tasks _ _ c.requires.few c.latest_end-due.ensures) c.start_at-from.ensures in
    end-small a.tasks a.ready.now a.waits.now a.given.now.length a.given.now.dropped c.requires _ _ _ c.loop-i.invariant c.in-Some.i free.0 free.1 from

pub loop-i-smaller : goal.loop-i-smaller
loop-i-smaller c =
    let a = c.args in
    let free = c.in-Some.ensures in
    fewer-left a.tasks c.loop-i.done c.in-Some.i (omega (arith, c.requires.few, free.0)) c.bit_of-done.ensures free.0 (free-undone a.waits.now c.loop-i.done a.tasks c.in-Some.i free.1)

pub loop-i-preserved : goal.loop-i-preserved
loop-i-preserved c =
    let a = c.args in
    let free = c.in-Some.ensures in
    let from = start-known a.tasks a.ready.now a.waits.now a.given.now.length a.given.now.dropped c.requires _ _ _ c.loop-i.invariant c.in-Some.i free.0 free.1 (latest-placed a.tasks _ _ c.requires.few c.latest_end-due.ensures) c.start_at-from.ensures in
    let to = c.end_at.ensures ∙ end_known_lem a.tasks a.ready.now a.waits.now a.given.now.length a.given.now.dropped c.requires _ _ _ c.loop-i.invariant c.in-Some.i free.0 free.1 from in
    timed-more a.tasks a.ready.now a.waits.now a.given.now.length a.given.now.dropped c.requires _ _ _ c.loop-i.invariant c.in-Some.i free.0 free.1 c.bit_of-done.ensures from to

pub returns : goal.returns
returns c =
    let a = c.args in (
      starts-laid a.tasks a.ready.now a.waits.now a.given.now.length a.given.now.dropped c.requires _ _ _ c.loop-i.invariant c.in_default.ensures,
      ends-laid a.tasks a.ready.now a.waits.now a.given.now.length a.given.now.dropped c.requires _ _ _ c.loop-i.invariant c.in_default.ensures,
    )
