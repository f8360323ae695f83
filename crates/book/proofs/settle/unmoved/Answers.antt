use Rattle.book_view.specs.View.{laid}
use Rattle.laws.specs.Each.{each}
use mathlib.Core.Path.{refl}
use Rattle.book.proofs.settle.unmoved.Goals as goal

pub returns : goal.returns
unfolding laid each
returns c = refl
