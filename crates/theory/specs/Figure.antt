-- Minimum early, M.
use Rattle.std.specs.Prelude.{Bool, not, cond, ◌&&◌, ◌||◌, ℕ, ◌-◌, leb}
use Rattle.std.proofs.Math.Option.{get_or}
use Rattle.laws.specs.Picked.{least}
use Rattle.theory.specs.Plan.{Plan}
use Rattle.theory.specs.Book.{Book, waiting, running, is_dropped}

-- it runs, and the clock has reached its start
abbrev pub has_begun : Book → ℕ → Bool
has_begun book i = running book.mark i && leb (book.start i) book.clock

-- planned start − start of one that has begun; planned start − ready of one whose start is not known or lies after the clock
abbrev pub early_by : Plan → Book → ℕ → ℕ
early_by plan book i = cond (has_begun book i) (plan.begin i - book.start i) (plan.begin i - plan.ready i)

-- who counts: whoever has begun, and every other, not dropped, that runs or waits
abbrev pub counts : Book → ℕ → Bool
counts book i = has_begun book i || (not (is_dropped book.dropped i) && (running book.mark i || waiting book.mark i))

-- M is the least of these, and 0 if nobody counts
unfoldable pub minimum_early : Plan → Book → ℕ
minimum_early plan book = get_or (least plan.tasks (counts book) (early_by plan book)) 0
