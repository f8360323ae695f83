-- The rows of request P5 hold.
use mathlib.Core.Path.{◌≡◌, refl}
use mathlib.Core.Bool.{true}
use Rattle.laws.specs.Lists.{all_of}
use Rattle.tables.specs.Texts.{answered}
use Rattle.tables.specs.Late.{late_rows}
use Rattle.tables.proofs.Computing.{computing}

pub late : all_of answered late_rows ≡ true
unfolding computing
late = refl
