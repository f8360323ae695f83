-- The readers of a field stop there.
use mathlib.Core.Path.{◌≡◌, refl}
use mathlib.Core.Bool.{true}
use Rattle.laws.specs.Lists.{all_of}
use Rattle.tables.specs.FieldStops.{stops_there, stop_rows}
use Rattle.tables.proofs.Computing.{computing}

pub field-stops : all_of stops_there stop_rows ≡ true
unfolding computing
field-stops = refl
