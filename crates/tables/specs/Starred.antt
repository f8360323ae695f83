-- The starred items of "Both sides of each line" on plan A: one table; `starred` is its one theorem.
use Rattle.std.specs.Prelude.{List, [], ◌∷◌}
use Rattle.tables.specs.Walk.{end, Step, told, gives, shows}

abbrev pub starred_items : List Step
starred_items =
    -- on a fresh book
    gives (end 2 4) 0
    ∷ gives (end 2 5) 14
    ∷ gives (end 2 0) 13
    ∷ gives (end 1 4) 0
    ∷ gives (end 1 5) 15
    ∷ gives (end 1 7) 14
    ∷ gives (end 3 3) 11
    ∷ gives (end 6 3) 10
    ∷ shows 0
    -- after end 2 at 3
    ∷ told (end 2 3)
    ∷ gives (end 1 2) 12
    ∷ gives (end 3 3) 13
    ∷ gives (end 2 4) 11
    ∷ shows 0
    -- the run: M is 0, 0, 1, 3, 3, and at its end, where nobody runs, 0 as request P1 has it
    ∷ told (end 1 4)
    ∷ shows 1
    ∷ told (end 3 6)
    ∷ shows 3
    ∷ told (end 5 8)
    ∷ shows 3
    ∷ told (end 4 9)
    ∷ shows 0
    ∷ []
