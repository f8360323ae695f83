use Rattle.book_codes.proofs.EarlyLaws.{least-first, least-other, least-passed, early-begun, early-to-begin}
use Rattle.laws.specs.Picked.{least}
use Rattle.theory.specs.Figure.{early_by}
use Rattle.book_view.specs.Shown.{plan_shown, book_shown}
use native.Mathlib.Omega.{arith}
use mathlib.Core.Path.{◌≡◌, refl}
use Rattle.book_codes.proofs.least_of.Goals as goal
use Rattle.book_codes.proofs.least_of.Goals.{then-begun-book+in-None, then-begun, else-begun, then-begun-book+in-Some, else-begun-book}

pub loop-i-init : goal.loop-i-init
unfolding least
loop-i-init c = refl

pub loop-i-preserved : goal.loop-i-preserved
loop-i-preserved c =
    let v = c.args.book.now in
    elim c.if-begun-book.branch [
      | then-begun-book+in-None w ↦
          let early : w.saturating_sub-early.result ≡ early_by (plan_shown v) (book_shown v) c.loop-i.i =
          elim w.if-begun.branch [
            | then-begun u ↦ early-begun (plan_shown v) (book_shown v) c.loop-i.i w.saturating_sub-early.ensures u.if-begun.true u.since-is
            | else-begun u ↦ early-to-begin (plan_shown v) (book_shown v) c.loop-i.i w.saturating_sub-early.ensures u.if-begun.false u.since-is
          ] in
          least-first _ _ _ c.loop-i.invariant w.if-begun-book.true early w.in-None.is w.least-is
      | then-begun-book+in-Some w ↦
          let early : w.saturating_sub-early.result ≡ early_by (plan_shown v) (book_shown v) c.loop-i.i =
          elim w.if-begun.branch [
            | then-begun u ↦ early-begun (plan_shown v) (book_shown v) c.loop-i.i w.saturating_sub-early.ensures u.if-begun.true u.since-is
            | else-begun u ↦ early-to-begin (plan_shown v) (book_shown v) c.loop-i.i w.saturating_sub-early.ensures u.if-begun.false u.since-is
          ] in
          least-other _ _ _ c.loop-i.invariant w.if-begun-book.true early w.in-Some.is w.min.ensures w.least-is
      | else-begun-book w ↦ least-passed _ _ _ c.loop-i.invariant w.if-begun-book.false w.least-is
    ]

pub returns : goal.returns
returns c = let e : c.loop-i.i ≡ c.args.n = omega arith in rw e at c.loop-i.invariant
