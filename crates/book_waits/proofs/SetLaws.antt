-- Arrays filled task by task, and the wait sets that they make.
use Prim.Native.Nat.{ℕ, ◌+◌, ◌-◌, ◌%◌, ◌^◌, ◌<◌, ◌≤◌}
use native.Mathlib.Nat.{mod-eq_of_lt}
use native.Mathlib.Omega.{arith}
use mathlib.Core.Path.{◌≡◌, sym, ap, ◌∙◌}
use mathlib.Core.Logic.{◌≢◌}
use mathlib.Core.Bool.{Bool, true, cond, ◌&&◌, ◌||◌, or-false}
use mathlib.Core.List.{List}
use lib.Bits.{bit_and, bit_or}
use lib.Dec.{eqb, leb}
use lib.ListN.{length, set, get_or-eq_default}
use borrow.Author.Tests.{ne_eqb}
use Rattle.laws.specs.Bits.{has, set_of, sets_to}
use Rattle.laws.specs.Each.{each}
use Rattle.laws.proofs.Bits.{has-or, has-below, set-within, set-none}
use Rattle.laws.proofs.Cases.{by_le}
use Rattle.laws.proofs.Each.{each_turn, length-each, each_below, each-past}
use Rattle.laws.proofs.Noted.{set_at, sets-length}
use Rattle.plan.specs.Pairs.{clash_by_drive, is_listed, clash}
use Rattle.plan.specs.Value.{at, row, items, task_at}
use Rattle.plan.specs.declared.Plan.{Plan}
use Rattle.book_holders.specs.Holders.{holders_of}
use Rattle.book_holders.specs.declared.Holders.{Holders}
use Rattle.book_holders.proofs.ClashLaws.{rivals-clash}
use Rattle.book_view.specs.View.{plan_for}
use Rattle.book_view.proofs.Laid.{laid-is}
use Rattle.book_waits.specs.Waits.{sets_by}
use Rattle.book_waits.specs.Private.Arrays.{listed_set, rival_set, clash_set, clash_sets, Fit}

-- one place more
pub each_more :
    (n : ℕ) (f : ℕ → ℕ) (l : List ℕ) {filled : List ℕ} {x : ℕ} → filled ≡ each n f l → x ≡ f n → set filled n x ≡ each (n + 1) f l
each_more n f l h k = rw (h, k) (sym (each_turn n f l))

-- a task put into one set more
pub await-more :
    (pick : ℕ → Bool) (j i : ℕ) (old : List ℕ) {sets : List ℕ} {bit : ℕ} → j < 64
    → sets ≡ each i (λ k. bit_or (at old k) (cond (pick k) (2 ^ j) 0)) old → bit ≡ cond (pick i) (2 ^ (j % 64)) 0
    → set sets i (bit_or (at sets i) bit) ≡ each (i + 1) (λ k. bit_or (at old k) (cond (pick k) (2 ^ j) 0)) old
await-more pick j i old low s b =
    each_more i (λ k. bit_or (at old k) (cond (pick k) (2 ^ j) 0)) old s
    (rw (b, mod-eq_of_lt low)
    (ap (λ (x : ℕ). bit_or x (cond (pick i) (2 ^ j) 0))
    (ap (λ (l : List ℕ). at l i) s ∙ each-past i (λ k. bit_or (at old k) (cond (pick k) (2 ^ j) 0)) old i 0 (omega arith))))

-- and one more wait set by clash, of what the calls gave
pub clash-more :
    (early : List ℕ) (plan : Plan) (n : ℕ) {on sets : List ℕ} {drives : Holders} {clashing : ℕ}
    → on ≡ sets_to 8 plan.tasks (λ b k. eqb (b + 1) (at plan.board k)) → drives ≡ holders_of plan.holds
    → sets ≡ clash_sets early plan n
    → clashing ≡ clash_set plan on drives n
    → set sets n (bit_and clashing (at sets n)) ≡ clash_sets early plan (n + 1)
unfolding clash_sets
clash-more early plan n {on} {sets} {drives} {clashing} o d s c =
    each_more n own early s
    (ap (bit_and clashing) (ap (λ (l : List ℕ). at l n) s ∙ each-past n own early n 0 (omega arith)) ∙ rw (c, o, d))
  where
    own : ℕ → ℕ
    own i =
        bit_and (clash_set plan (sets_to 8 plan.tasks (λ b k. eqb (b + 1) (at plan.board k))) (holders_of plan.holds) i) (at early i)

module _ (plan : Plan) (fit : Fit plan) where
  abbrev WaitSets : ℕ → List ℕ → Type 0
  WaitSets rule sets = sets ≡ sets_by rule plan

  abbrev waited : ℕ → ℕ → Bool
  waited i j = leb (at plan.finish j) (at plan.begin i)

  abbrev EarlySets : List ℕ → Type 0
  EarlySets sets = sets ≡ sets_to 64 plan.tasks waited

  module _ {early : List ℕ} (e : EarlySets early) where
    early-length : length early ≡ 64
    early-length = sets-length 64 waited plan.tasks e

    early-at : (i : ℕ) → i < 64 → at early i ≡ set_of plan.tasks (waited i)
    early-at i h = ap (λ (l : List ℕ). at l i) e ∙ set_at 64 waited plan.tasks i h

    early-past : (i : ℕ) → plan.tasks ≤ i → at early i ≡ 0
    early-past i h =
        by_le 64 i (λ l. get_or-eq_default {A = ℕ} early 0 {n = i} (omega (arith, early-length)))
        (λ l. early-at i l ∙ set-none plan.tasks (waited i) (λ j m. fit.past i j h m))

    -- by Early Start, which minds every task
    pub early-waits : (rule : ℕ) → rule ≡ 0 → WaitSets rule early
    unfolding sets_by
    early-waits rule z =
        rw z
        (laid-is plan.tasks (λ i. set_of plan.tasks (waited i)) early fit.range.few early-length
        (λ i l. early-at i (omega (arith, fit.range.few))) early-past)

    -- by clash, as the sets of boards, drives and after lists say it
    abbrev on : List ℕ
    on = sets_to 8 plan.tasks (λ b k. eqb (b + 1) (at plan.board k))

    abbrev clashing : ℕ → ℕ
    clashing = clash_set plan on (holders_of plan.holds)

    module _ (i j : ℕ) (li : i < plan.tasks) (lj : j < plan.tasks) where
      few : j < 64
      few = omega (arith, fit.range.few)

      beside-is : has (at on (at plan.board i - 1)) j ≡ eqb (at plan.board i) (at plan.board j)
      beside-is =
          let own = fit.on i li in
          let low : at plan.board i - 1 < 8 = omega (arith, own.0, own.1) in
          let back : at plan.board i - 1 + 1 ≡ at plan.board i = omega (arith, own.0) in
          ap (λ (s : ℕ). has s j) (set_at 8 (λ b k. eqb (b + 1) (at plan.board k)) plan.tasks (at plan.board i - 1) low)
          ∙ has-below plan.tasks (λ k. eqb (at plan.board i - 1 + 1) (at plan.board k)) j lj
          ∙ ap (λ (b : ℕ). eqb b (at plan.board j)) back

      rival-is : has (rival_set plan (holders_of plan.holds) i) j
          ≡ clash_by_drive (items (row 32 plan.holds i)) (items (row 32 plan.holds j))
      rival-is = rivals-clash plan.holds {all = holders_of plan.holds} (λ x. holders_of plan.holds) i (fit.range.range i li) (λ x. rival_set plan (holders_of plan.holds) i) j few

      listed-is : has (listed_set (items (row 64 plan.after i))) j ≡ is_listed (items (row 64 plan.after i)) (j + 1)
      listed-is = has-below 64 (λ n. is_listed (items (row 64 plan.after i)) (n + 1)) j few

      clash-is : leb (at plan.finish j) (at plan.begin i) ≡ true → has (clashing i) j ≡ clash (task_at plan) i j
      clash-is done =
          has-or (at on (at plan.board i - 1)) (bit_or (rival_set plan (holders_of plan.holds) i) (listed_set (items (row 64 plan.after i)))) j
          ∙ ap (λ (b : Bool). has (at on (at plan.board i - 1)) j || b)
          (has-or (rival_set plan (holders_of plan.holds) i) (listed_set (items (row 64 plan.after i))) j)
          ∙ (λ x. beside-is x || (rival-is x || listed-is x))
          ∙ (λ x. eqb (at plan.board i) (at plan.board j)
          || (clash_by_drive (items (row 32 plan.holds i)) (items (row 32 plan.holds j)) || alone x))
        where
          alone : is_listed (items (row 64 plan.after i)) (j + 1)
              ≡ (is_listed (items (row 64 plan.after i)) (j + 1) || is_listed (items (row 64 plan.after j)) (i + 1))
          alone = rw (fit.before i j li lj done, or-false (is_listed (items (row 64 plan.after i)) (j + 1)))

    pub clash-waits :
        (rule : ℕ) {sets : List ℕ} → rule ≢ 0
        → sets ≡ clash_sets early plan plan.tasks → WaitSets rule sets
    unfolding clash_sets sets_by
    clash-waits rule {sets} n s =
        laid-is plan.tasks (λ i. set_of plan.tasks ((plan_for rule plan).waits i)) sets fit.range.few (ap length s ∙ length-each plan.tasks both early ∙ early-length)
        (λ i l.
        let few : i < 64 = omega (arith, fit.range.few) in
        ap (λ (x : List ℕ). at x i) s ∙ each_below plan.tasks both early i 0 l (omega (arith, early-length))
        ∙ ap (bit_and (clashing i)) (early-at i few)
        ∙ set-within plan.tasks (clashing i) (clash (task_at plan) i) (waited i) (λ j m d. clash-is i j l m d)
        ∙ (λ x. set_of plan.tasks (λ j. (sym (ne_eqb rule 0 n) x || clash (task_at plan) i j) && waited i j)))
        (λ i l. ap (λ (x : List ℕ). at x i) s ∙ each-past plan.tasks both early i 0 l ∙ early-past i l)
      where
        both : ℕ → ℕ
        both i = bit_and (clashing i) (at early i)
