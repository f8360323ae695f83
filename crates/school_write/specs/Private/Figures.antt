-- The lines of the tasks by lent arrays.
use Rattle.std.specs.Prelude.{ℕ, List}
use Rattle.plan.specs.Answer.{granted}
use Rattle.school.specs.Text.{figure_lines}
use Rattle.school_write.specs.Lines.{finishing, ended}

-- of the tasks below n that are known
abbrev pub figures_of : List ℕ → List ℕ → List ℕ → ℕ → List ℕ
figures_of finish known end n = figure_lines (finishing 0 finish) (ended granted known end) n
