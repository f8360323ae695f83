-- The tests of two tasks where waits, starts and ends stand together.
use Rattle.std.specs.Prelude.{ℕ, Bool}
use Rattle.plan.specs.Value.{at}
use Rattle.school_judge.specs.Tests.{is_sooner_by, is_against_by}
use Rattle.school_judge.specs.declared.pairs.Moments.{Moments}

abbrev pub is_sooner_in : Moments → ℕ → ℕ → Bool
is_sooner_in m = is_sooner_by m.waits.now (at m.start.now) (at m.end.now)

abbrev pub is_against_in : Moments → ℕ → ℕ → Bool
is_against_in m = is_against_by m.waits.now (at m.start.now) (at m.end.now)
