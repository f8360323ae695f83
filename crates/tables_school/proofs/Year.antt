-- The rows of a year, by computation.
use mathlib.Core.Bool.{true}
use mathlib.Core.Path.{◌≡◌, refl}
use Rattle.tables_school.specs.Year.{all_added, added_rows, all_reported, report_rows}
use Rattle.tables_school.proofs.Computing.{computing}

pub added-rows : all_added added_rows ≡ true
unfolding computing
added-rows = refl

pub report-rows : all_reported report_rows ≡ true
unfolding computing
report-rows = refl
