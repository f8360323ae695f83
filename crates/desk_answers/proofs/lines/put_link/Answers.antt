use native.Mathlib.Omega.{arith}
use mathlib.Core.List.{[], ◌∷◌}
use mathlib.Core.Path.{refl}
use Rattle.text.specs.Bytes.{bytes}
use Rattle.desk_answers.proofs.KnownLaws.{known-yes, known-not}
use Rattle.desk_answers.proofs.lines.put_link.Goals as goal

pub returns-in-Some : goal.returns-in-Some
returns-in-Some c = rw c.in-Some.is (known-yes (bytes "link") (_ ∷ _ ∷ _ ∷ []) _ (omega arith) refl (rw c.from-board.ensures at c.put_line.ensures))

pub returns-in-None : goal.returns-in-None
returns-in-None c = rw c.in-None.is (known-not (bytes "link") (_ ∷ _ ∷ _ ∷ []) _ (omega arith) refl (rw c.from-board.ensures at c.put_line_to.ensures))
