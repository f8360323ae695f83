-- The rows of request P9 on plan A.
use Rattle.std.specs.Prelude.{List, [], ◌∷◌}
use Rattle.tables.specs.Walk.{end, absent, Step, told, gives, shows}

-- no task is 10, before 19; whose start is known or who is dropped is not dropped again; a dropped task takes no time; a drop moves no clock
abbrev pub drop_items : List (List Step)
drop_items =
    (gives (absent 3) 0
    ∷ gives (absent 1) 19
    ∷ gives (absent 0) 10
    ∷ gives (absent 6) 10
    ∷ told (absent 3)
    ∷ gives (absent 3) 19
    ∷ gives (end 3 3) 11
    ∷ gives (end 2 1) 0
    ∷ told (end 2 3)
    ∷ gives (absent 3) 19
    ∷ gives (end 3 4) 11
    ∷ shows 0
    ∷ told (end 1 4)
    ∷ gives (end 4 7) 0
    ∷ gives (end 4 8) 14
    ∷ shows 5
    ∷ [])
    ∷ (told (end 2 3) ∷ told (absent 4) ∷ gives (end 1 2) 12 ∷ [])
    ∷ []
