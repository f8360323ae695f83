-- Eight zeros, board by board.
use Rattle.std.proofs.Common.{refl}
use Rattle.laws.specs.Each.{each}
use Rattle.year_rules.specs.Totals.{boards}
use Rattle.year.proofs.no_logs.Goals as goal

pub returns : goal.returns
unfolding boards each
returns c = refl
