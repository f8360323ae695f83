use native.Mathlib.Omega.{arith}
use mathlib.Core.Path.{◌≡◌}
use Rattle.ask_sheet.proofs.Lines.{line-start, line_taken, line-passed, room}
use Rattle.ask_sheet.proofs.line_of.Goals as goal
use Rattle.ask_sheet.proofs.line_of.Goals.{else-is_in-count, then-is_in-count}

pub loop-k-init : goal.loop-k-init
loop-k-init c = (omega arith, line-start _)

pub bounds-line-count : goal.bounds-line-count
bounds-line-count c = room c.is_in.result c.loop-k.count c.if-is_in-count.true

pub loop-k-preserved : goal.loop-k-preserved
loop-k-preserved c =
    let inv = c.loop-k.invariant in
    let seen = c.is_in.ensures in
    elim c.if-is_in-count.branch [ then-is_in-count w ↦ (omega arith, line_taken _ _ inv.1 (omega arith) seen w.if-is_in-count.true w.line-is w.count-is) | else-is_in-count w ↦ (omega arith, line-passed _ _ inv.1 (omega arith) seen w.if-is_in-count.false w.line-is w.count-is) ]

pub returns : goal.returns
returns c = let e : c.loop-k.k ≡ 64 = omega arith in rw e at c.loop-k.invariant.1.places
