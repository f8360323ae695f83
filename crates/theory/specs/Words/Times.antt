-- Words of the promises: how long the links of a chain ran.
use Rattle.std.specs.Prelude.{ℕ, zero, suc, ◌+◌, ◌-◌}
use Rattle.theory.specs.Book.{Book}

-- the run times of links 1 to n, added up; link 0, the asked task, is left out
unfoldable pub ran_for : Book → (ℕ → ℕ) → ℕ → ℕ
ran_for book link zero = 0
ran_for book link (suc n) = ran_for book link n + (book.end (link (suc n)) - book.start (link (suc n)))
