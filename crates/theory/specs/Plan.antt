-- A plan of planned times with any relation of who waits for whom. Tasks are 0 .. tasks - 1.
use Rattle.std.specs.Prelude.{Bool, ◌&&◌, ℕ, leb}

pub record Plan : Type 0 where
  pub tasks : ℕ
  pub ready : ℕ → ℕ
  pub begin : ℕ → ℕ
  pub finish : ℕ → ℕ
  pub waits : ℕ → ℕ → Bool

-- The wait set of task i: those tasks j with planned finish j ≤ planned start i that it minds
abbrev pub minding : (ℕ → ℕ → Bool) → ℕ → (ℕ → ℕ) → (ℕ → ℕ) → (ℕ → ℕ) → Plan
minding minds tasks ready begin finish =
    record { tasks = tasks; ready = ready; begin = begin; finish = finish; waits = λ i j. minds i j && leb (finish j) (begin i) }
