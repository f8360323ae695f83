-- Figures: the ticks early at end of tasks, added up, the greatest and the least.
use Rattle.std.specs.Prelude.{ℕ, zero, suc, ◌+◌, ◌-◌, cond, List, [], ◌∷◌, eqb, length}
use Rattle.plan.specs.Value.{at}

-- planned finish less logged end of the tasks below n that stand on a board
unfoldable pub figures_on : ℕ → List ℕ → List ℕ → List ℕ → ℕ → List ℕ
figures_on number board finish end zero = []
figures_on number board finish end (suc n) =
    let lower = figures_on number board finish end n in
    cond (eqb (at board n) number) ((at finish n - at end n) ∷ lower) lower

unfoldable pub sum_of : List ℕ → ℕ
sum_of [] = 0
sum_of (x ∷ l) = x + sum_of l

-- the greatest where max picks, the least where min does; 0 where there is none
unfoldable pub best_of : (ℕ → ℕ → ℕ) → List ℕ → ℕ
best_of pick [] = 0
best_of pick (x ∷ []) = x
best_of pick (x ∷ y ∷ l) = pick x (best_of pick (y ∷ l))

-- the greatest or the least so far, and of further figures: where no task had ended the first figure replaces it
unfoldable pub best_after : (ℕ → ℕ → ℕ) → ℕ → ℕ → List ℕ → ℕ
best_after pick ended best figures =
    cond (eqb (length figures) 0) best (cond (eqb ended 0) (best_of pick figures) (pick best (best_of pick figures)))
