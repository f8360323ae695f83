-- The rest of a line after its words.
use Rattle.std.specs.Prelude.{ℕ, not, List, [], ◌∷◌, ◌++◌, eqb}
use Rattle.laws.specs.Digits.{digits_of}
use Rattle.text.specs.Line.{TAB, LF, number_or}
use Rattle.year_rules.specs.declared.Tally.{Tally}

-- the fields of a tally, each after a tab, and LF
unfoldable pub tally_tail : Tally → List ℕ
tally_tail tally =
    let some = not (eqb tally.ended 0) in
    (TAB ∷ digits_of tally.ended)
    ++ ((TAB ∷ digits_of tally.sum)
    ++ ((TAB ∷ number_or some tally.greatest) ++ ((TAB ∷ number_or some tally.least) ++ (LF ∷ []))))
