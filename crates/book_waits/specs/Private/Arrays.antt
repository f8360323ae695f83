-- Short names for what single functions say of lent arrays.
use Rattle.std.specs.Prelude.{ℕ, ◌+◌, ◌-◌, ◌≤◌, ◌<◌, true, false, List, ◌≡◌, eqb, leb}
use Rattle.std.specs.Int.Bits.{bit_and, bit_or}
use Rattle.laws.specs.Bits.{has, set_of, sets_to}
use Rattle.laws.specs.Each.{each}
use Rattle.laws.specs.Lists.{any_of}
use Rattle.plan.specs.Pairs.{is_listed}
use Rattle.plan.specs.Value.{at, row, items}
use Rattle.plan.specs.Private.Drives.{RowsInRange}
use Rattle.plan.specs.declared.Plan.{Plan}
use Rattle.book_holders.specs.Holders.{holders_of, rivals_on}
use Rattle.book_holders.specs.declared.Holders.{Holders}

-- the tasks that a list names, task n as bit n - 1
abbrev pub listed_set : List ℕ → ℕ
listed_set l = set_of 64 (λ d. is_listed l (d + 1))

-- boards are 1 to 8
abbrev pub OnEight : List ℕ → ℕ → Type 0
OnEight board tasks = (k : ℕ) → k < tasks → (0 < at board k) × (at board k ≤ 8)

-- the tasks that the holds of task i clash with
abbrev pub rival_set : Plan → Holders → ℕ → ℕ
rival_set plan drives i =
    set_of 64 (λ j. any_of (λ h. has (rivals_on drives.held drives.exclusive h) j) (items (row 32 plan.holds i)))

-- those, those on its board and those that it lists under after
abbrev pub clash_set : Plan → List ℕ → Holders → ℕ → ℕ
clash_set plan on drives i =
    bit_or (at on (at plan.board i - 1)) (bit_or (rival_set plan drives i) (listed_set (items (row 64 plan.after i))))

-- of these the ones in the task's early set, for the first n tasks
unfoldable pub clash_sets : List ℕ → Plan → ℕ → List ℕ
clash_sets early plan n =
    let on = sets_to 8 plan.tasks (λ b k. eqb (b + 1) (at plan.board k)) in
    each n (λ i. bit_and (clash_set plan on (holders_of plan.holds) i) (at early i)) early

-- what an accepted plan has
pub record Fit (plan : Plan) : Type 0 where
  pub range : RowsInRange plan.holds plan.tasks
  pub on : OnEight plan.board plan.tasks
  -- who is waited for does not come after
  pub before :
      (i j : ℕ) → i < plan.tasks → j < plan.tasks → leb (at plan.finish j) (at plan.begin i) ≡ true
      → is_listed (items (row 64 plan.after j)) (i + 1) ≡ false
  -- places past the last task await nobody
  pub past : (i j : ℕ) → plan.tasks ≤ i → j < plan.tasks → leb (at plan.finish j) (at plan.begin i) ≡ false
