-- The best of the boards so far, and one board more.
use Rattle.std.specs.Prelude.{ℕ, ◌+◌, max, min, cond, eqb}
use Rattle.year_rules.specs.declared.Tally.{Tally}

-- a board on which no task ended has none; the first that has one replaces what stood there
unfoldable pub best_with : (ℕ → ℕ → ℕ) → ℕ → ℕ → ℕ → ℕ → ℕ
best_with pick seen best ended next = cond (eqb ended 0) best (cond (eqb seen 0) next (pick best next))

abbrev pub joined : Tally → Tally → Tally
joined all next = record {
  ended = all.ended + next.ended;
  sum = all.sum + next.sum;
  greatest = best_with max all.ended all.greatest next.ended next.greatest;
  least = best_with min all.ended all.least next.ended next.least;
}
