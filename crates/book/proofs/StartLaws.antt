-- Values put at the places that are picked, and the start rule by the table.
use Prim.Native.Nat.{ℕ, ◌+◌, ◌<◌, ◌≤◌, max}
use mathlib.Core.Bool.{Bool, true, false, cond}
use mathlib.Core.List.{List, []}
use mathlib.Core.Path.{◌≡◌, refl, sym, ◌∙◌}
use mathlib.Core.Logic.{◌≢◌}
use lib.ListN.{length, get_or, set, get_or-eq_default}
use native.Mathlib.Omega.{arith}
use borrow.Author.Tests.{ne_eqb, lt-ltb}
use Rattle.laws.proofs.Cases.{by_bool, by-eq, by_le}
use Rattle.laws.specs.Each.{each}
use Rattle.laws.proofs.Each.{each_turn, each-skip, each-past, each_below, each-idle, length-each}
use Rattle.theory.specs.Plan.{Plan}
use Rattle.theory.specs.Report.{goes}
use Rattle.plan.specs.Value.{at}
use Rattle.book.specs.Private.Table.{goes_by_row, put_each, starts_by, seen_as, TableTo, Fit}
use Rattle.book.specs.declared.StepArrays.{StepArrays}
use Rattle.book.proofs.TableLaws.{row-rule}

module _ (pick : ℕ → Bool) (v : ℕ → ℕ) (l : List ℕ) where
  pub put-none : put_each 0 pick v l ≡ l
  unfolding each
  put-none = refl

  pub put-turn : (n : ℕ) → pick n ≡ true → set (put_each n pick v l) n (v n) ≡ put_each (n + 1) pick v l
  put-turn n h = rw (each_turn n (λ i. cond (pick i) (v i) (at l i)) l, h)

  pub put-stay : (n : ℕ) → pick n ≡ false → put_each n pick v l ≡ put_each (n + 1) pick v l
  put-stay n h = each-skip n (λ i. cond (pick i) (v i) (at l i)) l 0 (rw h)

  pub put-idle : (n : ℕ) → ((i : ℕ) → i < n → pick i ≡ false) → put_each n pick v l ≡ l
  put-idle n none = each-idle n (λ i. cond (pick i) (v i) (at l i)) l 0 (λ i h. rw (none i h))

  pub length-put : (n : ℕ) → length (put_each n pick v l) ≡ length l
  length-put n = length-each n _ l

  -- as a function that picks the same below n and nobody past it
  pub put-at :
      (n : ℕ) (go : ℕ → Bool) → n ≤ length l → ((i : ℕ) → i < n → pick i ≡ go i) → ((j : ℕ) → n ≤ j → go j ≡ false) → (j : ℕ)
      → at (put_each n pick v l) j ≡ cond (go j) (v j) (at l j)
  put-at n go few same none j =
      by_le n j
      (λ h. each-past n _ l j 0 h ∙ rw (none j h))
      (λ h. each_below n _ l j 0 h (omega arith) ∙ rw (same j h))

  -- a value that is not 0 leaves a 0 only where one was
  pub put_back : (n : ℕ) → ((i : ℕ) → v i ≢ 0) → (i : ℕ) → at (put_each n pick v l) i ≡ 0 → at l i ≡ 0
  put_back n ne i z =
      by_le n i
      (λ h. sym (each-past n _ l i 0 h) ∙ z)
      (λ h.
      by_le (length l) i
      (λ q. get_or-eq_default l 0 {n = i} q)
      (λ q.
      let e = sym (each_below n (λ x. cond (pick x) (v x) (at l x)) l i 0 h q) ∙ z in
      by_bool (pick i)
      (λ p. absurd (ne i (rw p at e)))
      (λ p. rw p at e)))

-- by its row a task goes when it may
module _ (plan : Plan) (board : ℕ → ℕ) (old : StepArrays) (dropped : List ℕ) (clock : ℕ) (table : List (List ℕ))
    (fit : Fit plan board (seen_as old dropped clock)) (rows : TableTo plan board (at old.mark) plan.tasks table) where
  pub go-by-row : (i : ℕ) → i < plan.tasks → goes_by_row old.mark table i ≡ goes plan (seen_as old dropped clock) i
  unfolding goes
  go-by-row i l =
      rw (lt-ltb i plan.tasks l)
      (by-eq (at old.mark i) 0
      (λ z.
      rw (row-rule plan board (at old.mark) fit.onward fit.on fit.turn fit.closed i (get_or table i []) (rows.rows i l z)))
      (λ n. rw (ne_eqb (at old.mark i) 0 n)))

-- the starts, task by task
module _ (ready : ℕ → ℕ) (table : List (List ℕ)) (clock : ℕ) (old : StepArrays) where
  pub starts_none : old ≡ starts_by ready table clock 0 old
  unfolding starts_by each
  starts_none = refl

  module _ (i : ℕ) {next : StepArrays} (h : next ≡ starts_by ready table clock i old) where
    pub starts-go :
        {from : ℕ} → from ≡ max (ready i) clock → goes_by_row old.mark table i ≡ true
        → ◌≡◌ {A = StepArrays} (record { mark = set next.mark i 1; start = set next.start i from; end = next.end })
        (starts_by ready table clock (i + 1) old)
    unfolding starts_by
    starts-go e g = rw (h, e, put-turn (goes_by_row old.mark table) (λ j. 1) old.mark i g, put-turn (goes_by_row old.mark table) (λ j. max (ready j) clock) old.start i g)

    pub starts-stay : goes_by_row old.mark table i ≡ false → next ≡ starts_by ready table clock (i + 1) old
    unfolding starts_by
    starts-stay g = h ∙ rw (put-stay (goes_by_row old.mark table) (λ j. 1) old.mark i g, put-stay (goes_by_row old.mark table) (λ j. max (ready j) clock) old.start i g)
