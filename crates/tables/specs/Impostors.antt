-- Impostors of the figure and of the reader, defined, so that each can be shown to differ on a plan.
use Rattle.std.specs.Prelude.{ℕ, suc, ◌-◌, Bool, true, ◌&&◌, List, [], ◌∷◌, eqb}
use Rattle.std.proofs.Math.Option.{get_or}
use Rattle.laws.specs.Picked.{latest, least}
use Rattle.text.specs.Bytes.{bytes}
use Rattle.plan.specs.Value.{at}
use Rattle.plan.specs.Read.{reading_of}
use Rattle.plan.specs.declared.Reading.{Reading}
use Rattle.theory.specs.Book.{running, ended}
use Rattle.book.specs.declared.Book.{Book}
use Rattle.tables.specs.PlanA.{text_a}
use Rattle.tables.specs.Walk.{end, Step, told, shows, makes}

-- an M that is always 0
abbrev pub always_zero : Book → ℕ
always_zero book = 0

-- M from the last report alone: the reported task's planned finish − tick
abbrev pub from_report : ℕ → ℕ → Book → ℕ
from_report task tick book = at book.finish (task - 1) - tick

-- the greatest instead of the least
abbrev pub greatest : Book → ℕ
greatest book = latest book.tasks (running (at book.mark)) (λ i. at book.begin i - at book.start i)

-- M as it was before request P1: "For each board: if a task runs there, its planned start − start; else, if one has ended
-- there, planned finish − end of the last to end; else 0. M is the least over all boards 1 to B"
abbrev pub runs_on : Book → ℕ → ℕ → Bool
runs_on book on i = running (at book.mark) i && eqb (at book.board i) on

abbrev pub ended_on : Book → ℕ → ℕ → Bool
ended_on book on i = ended (at book.mark) i && eqb (at book.board i) on

abbrev pub last_on : Book → ℕ → ℕ → Bool
last_on book on i = ended_on book on i && eqb (at book.end i) (latest book.tasks (ended_on book on) (at book.end))

abbrev pub board_shows : Book → ℕ → ℕ
board_shows book on =
    get_or (least book.tasks (runs_on book on) (λ i. at book.begin i - at book.start i))
    (get_or (least book.tasks (last_on book on) (λ i. at book.finish i - at book.end i)) 0)

abbrev pub over_boards : Book → ℕ
over_boards book = get_or (least book.boards (λ j. true) (λ j. board_shows book (suc j))) 0

-- at clock 4 M is 1, where 0 and the last report's show 0 and 2; at 6 it is 3 and the greatest 4; at 9, where nobody runs, it is
-- 0, and over the boards 3
abbrev pub figure_impostors : List (List Step)
figure_impostors =
    (told (end 2 3)
    ∷ told (end 1 4)
    ∷ shows 1
    ∷ makes always_zero 0
    ∷ makes (from_report 1 4) 2
    ∷ told (end 3 6)
    ∷ shows 3
    ∷ makes greatest 4
    ∷ told (end 5 8)
    ∷ told (end 4 9)
    ∷ shows 0
    ∷ makes over_boards 3
    ∷ [])
    ∷ []

-- a reader that gives one fixed plan
abbrev pub fixed_reader : List ℕ → Reading
fixed_reader text = reading_of text_a

abbrev pub text_one : List ℕ
text_one = bytes "plan\t1\t1\t1\ntask\t1\t1\t0\t1\t-\t-\n"
