-- What is found of task i, from 0.
use Rattle.std.specs.Prelude.{ℕ, cond, ◌&&◌, List, eqb}
use Rattle.plan.specs.Value.{at}
use Rattle.school_read.specs.declared.Found.{Found}
use Rattle.school_read.specs.declared.Noted.{Noted}

-- 1 where there is one start and one end
abbrev pub known_in : Found → ℕ → ℕ
known_in found i = cond (eqb (at found.starts.many i) 1 && eqb (at found.ends.many i) 1) 1 0

-- 1 where it is known and both are on its board
abbrev pub right_in : List ℕ → List ℕ → Found → ℕ → ℕ
right_in known board found i =
    cond (eqb (at known i) 1 && (eqb (at found.starts.board i) (at board i) && eqb (at found.ends.board i) (at board i))) 1 0

-- its tick where it is known
abbrev pub tick_in : List ℕ → Noted → ℕ → ℕ
tick_in known noted i = cond (eqb (at known i) 1) (at noted.tick i) 0
