use Rattle.book_view.proofs.Turns.{every-passed}
use Rattle.book.specs.Private.Table.{row_ended}
use Rattle.laws.specs.Every.{every}
use Rattle.laws.proofs.Every.{every-not}
use native.Mathlib.Omega.{arith}
use mathlib.Core.Path.{◌≡◌, refl, sym, ◌∙◌}
use Rattle.book.proofs.start.row_ended.Goals as goal

pub loop-j-init : goal.loop-j-init
unfolding every
loop-j-init c = (omega arith, refl)

pub has_ended-requires : goal.has_ended-requires
has_ended-requires c = c.requires c.loop-j.j (omega arith)

pub returns-then-not-has_ended : goal.returns-then-not-has_ended
unfolding row_ended
returns-then-not-has_ended c = sym (every-not 8 _ c.loop-j.j (omega arith) (sym c.has_ended.ensures ∙ c.if-not-has_ended.true))

pub loop-j-preserved : goal.loop-j-preserved
loop-j-preserved c = (omega arith, every-passed _ _ (sym c.has_ended.ensures ∙ c.if-not-has_ended.false) c.loop-j.invariant.1)

pub returns : goal.returns
unfolding row_ended
returns c = let e : c.loop-j.j ≡ 8 = omega arith in rw e at (sym c.loop-j.invariant.1)
