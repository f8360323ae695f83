-- The table of last tasks: its making, and that looking at a row is looking at all that the task waits for.
use Prim.Native.Nat.{ℕ, ◌+◌, ◌-◌, ◌<◌, ◌≤◌}
use native.Mathlib.Omega.{arith}
use mathlib.Core.Bool.{Bool, true, false, ◌||◌, and-false}
use mathlib.Core.List.{List, []}
use mathlib.Core.Path.{◌≡◌, sym, ap, ◌∙◌}
use mathlib.Core.Logic.{◌≢◌, ⊎_elim}
use lib.Dec.{eqb}
use lib.ListN.{length, set}
use lib.Seq.{get_or-set_same, get_or-set_other}
use borrow.Author.Tests.{eq-eqb, ne_eqb, eqb-true}
use Rattle.laws.proofs.Cases.{by-eq, true-false, same_test, and_l, and_r, and-of}
use Rattle.laws.proofs.Every.{every-at, every_of}
use Rattle.laws.specs.Private.Last.{last_of, later_of}
use Rattle.laws.proofs.Last.{last_taken, last-passed, Last, last-is, last-small}
use Rattle.theory.specs.Plan.{Plan}
use Rattle.theory.specs.Book.{all_ended}
use Rattle.theory.proofs.Reflect.{all-ended-at, all-ended-of}
use Rattle.plan.specs.Value.{at}
use Rattle.book.specs.Private.Table.{waits_on, has_ended, row_ended, SmallRow, RowTo, TableTo, OnEight, InTurn, Onward, Closed}

-- the last task of the board that i waits for, counted from 1; 0 for none
abbrev last_task : Plan → (ℕ → ℕ) → ℕ → ℕ → ℕ
last_task plan board i on = last_of plan.tasks (waits_on plan board i on) plan.finish

-- a row, task by task
module _ (plan : Plan) (board : ℕ → ℕ) (i : ℕ) where
  pub row-none : (row : List ℕ) → ((j : ℕ) → j < 8 → at row j ≡ 0) → RowTo plan board i 0 row
  unfolding last_of
  row-none row z = record { cells = z }

  pub row-passed : (k : ℕ) (row : List ℕ) → RowTo plan board i k row → plan.waits i k ≡ false → RowTo plan board i (k + 1) row
  row-passed k row r h = record { cells = λ j l. r.cells j l ∙ sym (last-passed k (waits_on plan board i (j + 1)) _ (rw h)) }

  pub row-taken :
      (k : ℕ) (row : List ℕ) (place v : ℕ) → RowTo plan board i k row → plan.waits i k ≡ true → place < 8
      → place < length row → board k ≡ place + 1 → v ≡ later_of plan.finish (at row place) k
      → RowTo plan board i (k + 1) (set row place v)
  row-taken k row place v r h small l on e = record {
    cells = λ j lj. by-eq j place (λ q. rw (q, get_or-set_same row place v 0 l) here) (λ n. get_or-set_other row place j v 0 n ∙ there j lj n);
  }
    where
      here : v ≡ last_of (k + 1) (waits_on plan board i (place + 1)) plan.finish
      here =
          e ∙ ap (λ (x : ℕ). later_of plan.finish x k) (r.cells place small)
          ∙ sym (last_taken k (waits_on plan board i (place + 1)) _ (and-of h (eq-eqb (board k) (place + 1) on)))

      there : (j : ℕ) → j < 8 → j ≢ place → at row j ≡ last_of (k + 1) (waits_on plan board i (j + 1)) plan.finish
      there j lj n =
          r.cells j lj
          ∙ sym (last-passed k (waits_on plan board i (j + 1)) _ (rw (ne_eqb (board k) (j + 1) (λ q. n (omega arith)), and-false)))

  pub row_small : (n : ℕ) (row : List ℕ) → n ≤ 64 → RowTo plan board i n row → SmallRow row
  row_small n row few r j l =
      let e = r.cells j l in let s = last-small n (waits_on plan board i (j + 1)) plan.finish in omega arith

-- the table, row by row
module _ (plan : Plan) (board mark : ℕ → ℕ) where
  pub table_none : (table : List (List ℕ)) → TableTo plan board mark 0 table
  table_none table = record { rows = λ i l. absurd (omega arith) }

  module _ (i : ℕ) (table : List (List ℕ)) (t : TableTo plan board mark i table) where
    pub table-row :
        (row : List ℕ) → i < length table → RowTo plan board i plan.tasks row
        → TableTo plan board mark (i + 1) (set table i row)
    table-row row l r = record {
      rows = λ a q w.
          by-eq a i
          (λ e. rw (e, get_or-set_same table i row [] l) r)
          (λ n. rw (get_or-set_other table i a row [] n) (t.rows a (omega arith) w));
    }

    pub table-skip : mark i ≢ 0 → TableTo plan board mark (i + 1) table
    table-skip h = record { rows = λ a q w. by-eq a i (λ e. absurd (h (rw e at w))) (λ n. t.rows a (omega arith) w) }

or-second : (a b : Bool) → (a || b) ≡ true → a ≡ false → b ≡ true
or-second a b h e = rw e at h

-- where of two tasks of one board one waits for the other and marks are closed, the last task of a board speaks for all before it
module _ (plan : Plan) (board mark : ℕ → ℕ) (onward : Onward plan) (on : OnEight plan board) (turn : InTurn plan board)
    (closed : Closed plan mark) (i : ℕ) (row : List ℕ) (r : RowTo plan board i plan.tasks row) where
  all-by-last :
      row_ended mark row ≡ true → (k : ℕ) → k < plan.tasks → plan.waits i k ≡ true → mark k ≡ 2
  unfolding row_ended
  all-by-last all k l w =
      let o = on k l in
      let q : board k ≡ board k - 1 + 1 = omega arith in
      let small : board k - 1 < 8 = omega arith in
      let cell = r.cells (board k - 1) small in
      let e = every-at 8 (λ j. has_ended mark (at row j)) all (board k - 1) small in
      go (last_task plan board i (board k - 1 + 1)) (last-is plan.tasks (waits_on plan board i (board k - 1 + 1)) plan.finish)
      (rw cell at e) q (and-of w (eq-eqb (board k) (board k - 1 + 1) q))
    where
      go :
          (c : ℕ) → Last plan.tasks (waits_on plan board i (board k - 1 + 1)) plan.finish c
          → has_ended mark c ≡ true → board k ≡ board k - 1 + 1 → waits_on plan board i (board k - 1 + 1) k ≡ true → mark k ≡ 2
      go c (Last.nobody z none) e q h = true-false h (none k l)
      go c (Last.this z s h top) e q hk =
          let over : mark (c - 1) ≡ 2 = eqb-true (mark (c - 1)) 2 (or-second (eqb c 0) _ e (ne_eqb c 0 z)) in
          let same : board (c - 1) ≡ board k - 1 + 1 = eqb-true _ _ (and_r (plan.waits i (c - 1)) _ h) in
          let later = top k l hk in
          by-eq k (c - 1) (λ y. rw y over)
          (λ n.
          ⊎_elim
          (λ v. let b = onward k (c - 1) l s v in absurd (omega arith))
          (λ v. closed (c - 1) k s l (omega arith) v)
          (turn k (c - 1) l s n (q ∙ sym same)))

  cells-ended : all_ended plan mark i ≡ true → row_ended mark row ≡ true
  unfolding row_ended
  cells-ended all =
      every_of 8 (λ j. has_ended mark (at row j))
      (λ j lj. rw (r.cells j lj) (cell j (last_task plan board i (j + 1)) (last-is plan.tasks (waits_on plan board i (j + 1)) plan.finish)))
    where
      cell : (j c : ℕ) → Last plan.tasks (waits_on plan board i (j + 1)) plan.finish c → has_ended mark c ≡ true
      cell j c (Last.nobody z none) = rw (eq-eqb c 0 z)
      cell j c (Last.this z s h top) =
          let over = all-ended-at plan mark i all (c - 1) s (and_l (plan.waits i (c - 1)) _ h) in
          rw (ne_eqb c 0 z, eq-eqb (mark (c - 1)) 2 over)

  pub row-rule : row_ended mark row ≡ all_ended plan mark i
  row-rule =
      same_test (row_ended mark row) (all_ended plan mark i) (λ all. all-ended-of plan mark i (all-by-last all)) cells-ended
