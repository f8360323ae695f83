-- The sheet updated is the sheet worked out afresh.
use Prim.Native.Nat.{ℕ, ◌+◌, ◌*◌, ◌<◌}
use native.Mathlib.Omega.{arith}
use mathlib.Core.Path.{◌≡◌, refl, sym, ap, ◌∙◌}
use mathlib.Core.Bool.{cond}
use mathlib.Core.List.{List, []}
use lib.Bits.{bit_and}
use lib.Dec.{eqb}
use lib.ListN.{length, drop, replicate, length-replicate, length-take, length-drop, get_or-replicate}
use lib.Seq.{get_or-take, get_or-drop, ext_get_or}
use borrow.Author.Tests.{eqb-true}
use Rattle.laws.specs.Bits.{has}
use Rattle.laws.specs.Each.{each, rows}
use Rattle.laws.proofs.Bits.{has-and, has-none}
use Rattle.laws.proofs.Cases.{by_bool, and_no}
use Rattle.laws.proofs.Each.{length-rows, length-each, each_below, each-idle}
use Rattle.laws.proofs.Rows.{row_at}
use Rattle.plan.specs.Value.{at, row}
use Rattle.ask_sheet.specs.Sheet.{soonest, eight, sheet_with, zero_sheet}
use Rattle.ask_sheet.specs.Sets.{members, sheet_by, running_again, next_again, renewed_by}
use Rattle.ask_sheet.specs.declared.Standing.{Standing}
use Rattle.ask_sheet.proofs.Numbers.{numbers-none}
use Rattle.ask_sheet.proofs.Lines.{eight-length, eight-at}
use Rattle.ask_sheet.proofs.Rows.{row_is, rows-over, rows_stay, each_over}

zeros : (n : ℕ) → length (replicate {A = ℕ} n 0) ≡ n
zeros n = length-replicate {A = ℕ} n 0

-- the lines of two sheets agree
pub sheet-same :
    (on on' : ℕ → List ℕ) (next next' : ℕ → ℕ) → ((d : ℕ) → d < 32 → on d ≡ on' d) → ((d : ℕ) → d < 32 → next d ≡ next' d)
    → sheet_with on next ≡ sheet_with on' next'
unfolding sheet_with
sheet-same on on' next next' e f = λ i. record { running = r i; next = n i }
  where
    r : rows 8 32 (λ d. eight (on d)) (replicate 256 0) ≡ rows 8 32 (λ d. eight (on' d)) (replicate 256 0)
    r = rows-over (λ d. eight (on d)) (λ d. eight (on' d)) (replicate 256 0) (replicate 256 0) (zeros 256) (zeros 256) (λ j. eight-length (on' j)) (λ d h. ap eight (e d h))

    n : each 32 next (replicate 32 0) ≡ each 32 next' (replicate 32 0)
    n = each_over 32 next next' (replicate 32 0) (replicate 32 0) (zeros 32) (zeros 32) f

module _ (held : List ℕ) (was is : ℕ) where
  abbrev of : ℕ → ℕ → ℕ
  of set d = bit_and (at held d) set

  -- what is kept is what would be written
  kept : {A : Type 0} (old new : A) (f : ℕ → A) (d : ℕ) → old ≡ f (of was d) → new ≡ f (of is d) → cond (eqb (of was d) (of is d)) old new ≡ f (of is d)
  kept old new f d p q =
      by_bool (eqb (of was d) (of is d)) (λ e. rw e (p ∙ ap f (eqb-true (of was d) (of is d) e))) (λ e. rw e q)

  running-again :
      (z : List ℕ) → length z ≡ 256
      → running_again held was is (rows 8 32 (λ d. eight (members (of was d))) z) ≡ rows 8 32 (λ d. eight (members (of is d))) z
  unfolding running_again
  running-again z size =
      let old : List ℕ = rows 8 32 (λ d. eight (members (of was d))) z in
      rows-over (λ d. cond (eqb (of was d) (of is d)) (row 8 old d) (eight (members (of is d)))) (λ d. eight (members (of is d)))
      old z (length-rows 8 32 (λ d. eight (members (of was d))) z ∙ size) size (λ j. eight-length (members (of is j)))
      (λ d h. kept (row 8 old d) (eight (members (of is d))) (λ set. eight (members set)) d (row_is (λ d. eight (members (of was d))) z size (λ j q. eight-length (members (of was j))) d h) refl)

  next-again :
      (begin z : List ℕ) → length z ≡ 32
      → next_again held begin was is (each 32 (λ d. soonest (at begin) 0 (members (of was d))) z)
      ≡ each 32 (λ d. soonest (at begin) 0 (members (of is d))) z
  unfolding next_again
  next-again begin z size =
      let next : ℕ → ℕ = λ set. soonest (at begin) 0 (members set) in
      let old : List ℕ = each 32 (λ d. next (of was d)) z in
      each_over 32 (λ d. cond (eqb (of was d) (of is d)) (at old d) (next (of is d))) (λ d. next (of is d)) old z
      (length-each 32 (λ d. next (of was d)) z ∙ size) size
      (λ d h. kept (at old d) (next (of is d)) next d (each_below 32 (λ d. next (of was d)) z d 0 h (omega arith)) refl)

-- an update of the sheet of those who ran and waited before gives the sheet of those who do now
pub renewed-is :
    (held begin : List ℕ) (before after : Standing) → renewed_by held begin before after (sheet_by held begin before) ≡ sheet_by held begin after
unfolding sheet_by sheet_with
renewed-is held begin before after =
    λ i. record {
      running = running-again held before.runs after.runs (replicate 256 0) (zeros 256) i;
      next = next-again held before.waits after.waits begin (replicate 32 0) (zeros 32) i;
    }

-- where nobody runs or waits the sheet is blank
nobody : (a : ℕ) → members (bit_and a 0) ≡ []
nobody a = numbers-none 64 (has (bit_and a 0)) (λ k h. has-and a 0 k ∙ rw (has-none k) (and_no (has a k)))

blank-row : (d : ℕ) → d < 32 → eight [] ≡ row_at 8 (replicate 256 0) d
blank-row d h =
    let n : length (row_at 8 (replicate {A = ℕ} 256 0) d) ≡ 8 = length-take 8 (drop (8 * d) (replicate 256 0)) ∙ omega (arith, length-drop (8 * d) (replicate {A = ℕ} 256 0), zeros 256) in
    ext_get_or 0 (eight []) (row_at 8 (replicate 256 0) d) (eight-length [] ∙ sym n)
    (λ i q.
    let low : i < 8 = omega (arith, eight-length []) in
    eight-at [] i low ∙ sym (get_or-take 8 (drop (8 * d) (replicate 256 0)) i 0 low ∙ get_or-drop (8 * d) (replicate 256 0) i 0 ∙ get_or-replicate 256 (8 * d + i) 0 0 (omega arith)))

pub sheet-blank : (held begin : List ℕ) → sheet_by held begin (record { runs = 0; waits = 0 }) ≡ zero_sheet
unfolding sheet_by sheet_with soonest
sheet-blank held begin = λ i. record { running = r i; next = n i }
  where
    r : rows 8 32 (λ d. eight (members (bit_and (at held d) 0))) (replicate 256 0) ≡ replicate 256 0
    r = rows_stay (λ d. eight (members (bit_and (at held d) 0))) (replicate 256 0) (zeros 256) (λ j. eight-length (members (bit_and (at held j) 0))) (λ d h. ap eight (nobody (at held d)) ∙ blank-row d h)

    n : each 32 (λ d. soonest (at begin) 0 (members (bit_and (at held d) 0))) (replicate 32 0) ≡ replicate 32 0
    n = each-idle 32 (λ d. soonest (at begin) 0 (members (bit_and (at held d) 0))) (replicate 32 0) 0 (λ d h. ap (soonest (at begin) 0) (nobody (at held d)) ∙ sym (get_or-replicate 32 d 0 0 h))
