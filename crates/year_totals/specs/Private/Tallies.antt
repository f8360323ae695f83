-- A board's totals with figures more.
use Rattle.std.specs.Prelude.{ℕ, ◌+◌, max, min, cond, List, eqb, length}
use Rattle.year_rules.specs.Figures.{sum_of, best_after}
use Rattle.year_rules.specs.declared.Tally.{Tally}

-- one more: the first replaces the greatest and the least
unfoldable pub with_figure : Tally → ℕ → Tally
with_figure held figure = record {
  ended = held.ended + 1;
  sum = held.sum + figure;
  greatest = cond (eqb held.ended 0) figure (max held.greatest figure);
  least = cond (eqb held.ended 0) figure (min held.least figure);
}

-- a list of them
unfoldable pub tally_after : Tally → List ℕ → Tally
tally_after held figures = record {
  ended = held.ended + length figures;
  sum = held.sum + sum_of figures;
  greatest = best_after max held.ended held.greatest figures;
  least = best_after min held.ended held.least figures;
}
