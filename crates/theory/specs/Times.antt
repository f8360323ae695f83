-- The timetable: every start and end, from each task's length and the dropped tasks.
use Rattle.std.specs.Prelude.{Bool, not, cond, ◌&&◌, ℕ, zero, suc, ◌+◌, ◌-◌, leb, eqb}
use Rattle.laws.specs.Every.{any}
use Rattle.laws.specs.Scan.{scan_to}
use Rattle.theory.specs.Plan.{Plan}
use Rattle.theory.specs.Book.{is_dropped, due, ready_due}

-- A task starts at the later of its ready tick and the latest end of those it waits for; a dropped one at the latest end alone
abbrev pub start_from : Plan → (ℕ → ℕ) → (ℕ → ℕ) → ℕ → ℕ
start_from plan dropped end i = cond (is_dropped dropped i) (due plan end i) (ready_due plan end i)

-- and ends its length later; a dropped one at its start
abbrev pub end_from : (ℕ → ℕ) → (ℕ → ℕ) → (ℕ → ℕ) → ℕ → ℕ
end_from length dropped start i = start i + cond (is_dropped dropped i) 0 (length i)

-- the ends by these two lines, used n times over
unfoldable pub ends_by : ℕ → Plan → (ℕ → ℕ) → (ℕ → ℕ) → ℕ → ℕ
ends_by zero plan length dropped i = 0
ends_by (suc n) plan length dropped i = end_from length dropped (start_from plan dropped (ends_by n plan length dropped)) i

-- whoever is waited for is planned to start sooner, so as often as there are tasks is enough
abbrev pub end_time : Plan → (ℕ → ℕ) → (ℕ → ℕ) → ℕ → ℕ
end_time plan length dropped = ends_by plan.tasks plan length dropped

abbrev pub start_time : Plan → (ℕ → ℕ) → (ℕ → ℕ) → ℕ → ℕ
start_time plan length dropped = start_from plan dropped (end_time plan length dropped)

-- the lowest task, from 1, of which a test holds; 0 where there is none
unfoldable pub lowest : ℕ → (ℕ → Bool) → ℕ
lowest tasks test = scan_to (λ task. not (eqb task 0)) 0 (λ i. cond (test i) (i + 1) 0) 0 tasks

-- a length is 1 up to the planned length; a dropped task's is not read
abbrev pub bad_length : Plan → (ℕ → ℕ) → (ℕ → ℕ) → ℕ → Bool
bad_length plan length dropped i =
    not (is_dropped dropped i) && not (leb 1 (length i) && leb (length i) (plan.finish i - plan.begin i))

-- a dropped task that waits for nobody
abbrev pub idle_drop : Plan → (ℕ → ℕ) → ℕ → Bool
idle_drop plan dropped i = is_dropped dropped i && not (any plan.tasks (plan.waits i))
