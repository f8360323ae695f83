use Rattle.book.proofs.StartLaws.{starts_none, starts-go, starts-stay}
use native.Mathlib.Omega.{arith}
use mathlib.Core.Path.{◌≡◌, sym, ◌∙◌}
use Rattle.book.proofs.start.start_free.Goals as goal
use Rattle.book.proofs.start.start_free.Goals.{else-may_go, then-may_go}

pub loop-i-init : goal.loop-i-init
loop-i-init c = (omega arith, starts_none _ _ _ _)

pub may_go-requires : goal.may_go-requires
may_go-requires c = record { i_bound = omega arith; small_row = λ z. c.requires.1 c.loop-i.i (omega arith) z }

pub loop-i-preserved : goal.loop-i-preserved
loop-i-preserved c = elim c.if-may_go.branch [ then-may_go w ↦ (omega arith, w.next-is ∙ starts-go _ _ _ _ _ c.loop-i.invariant.1 w.start_of.ensures (sym c.may_go.ensures ∙ w.if-may_go.true)) | else-may_go w ↦ (omega arith, w.next-is ∙ starts-stay _ _ _ _ _ c.loop-i.invariant.1 (sym c.may_go.ensures ∙ w.if-may_go.false)) ]

pub returns : goal.returns
returns c = let e : c.loop-i.i ≡ c.args.book.now.tasks = omega arith in rw e at c.loop-i.invariant.1
