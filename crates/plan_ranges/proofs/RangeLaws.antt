-- What is kept of a task, in the two halves that are tested, and the ranges of a plan in the order in which they are.
use Prim.Native.Nat.{ℕ, ◌%◌, ◌≤◌}
use mathlib.Core.Path.{◌≡◌, refl, sym, ap, ◌∙◌}
use mathlib.Core.Bool.{Bool, true, false, not, cond, ◌&&◌, ◌||◌}
use mathlib.Core.List.{List, [], ◌∷◌}
use native.Mathlib.Omega.{arith}
use lib.ListN.{take, drop, take-append-drop}
use lib.Dec.{leb, eqb}
use borrow.Author.Tests.{leb-true, eqb-true, ne_eqb}
use Rattle.laws.proofs.Cases.{by_bool, and_l, and_r, and_no, or-false}
use Rattle.laws.specs.Lists.{all_of, any_of}
use Rattle.laws.specs.Private.Rise.{rises_from}
use Rattle.laws.proofs.Lists.{any_append}
use Rattle.laws.specs.Split.{index_of}
use Rattle.laws.proofs.Rise.{rises-is}
use Rattle.laws.specs.Every.{every}
use Rattle.text_fields.specs.Items.{between, drive_of, is_shared, has_shared, holds_ok, after_ok}
use Rattle.plan.specs.Task.{numbers_ok}
use Rattle.plan.specs.Value.{at, row, items, blank_from, is_trimmed, kept_ok, past_blank, ranges_ok, task_at}
use Rattle.plan.specs.declared.Plan.{Plan}
use Rattle.text_fields.specs.declared.Listed.TheVariants.{Tasks}
use Rattle.plan_ranges.specs.Private.Kept.{numbers_in, list_in, shared_in, holds_in}

-- the second half of what is kept of a task
abbrev lists_in : ℕ → ℕ → List ℕ → List ℕ → ℕ → Bool
lists_in edition tasks holds after k = holds_in edition (row 32 holds k) && list_in Tasks tasks (row 64 after k)

-- a list that has nothing past its last item is as shared as its items
blank-unshared : (l : List ℕ) → all_of (eqb 0) l ≡ true → any_of is_shared l ≡ false
unfolding all_of any_of
blank-unshared [] h = refl
blank-unshared (x ∷ l) h =
    let z : 0 ≡ x = eqb-true 0 x (and_l (eqb 0 x) (all_of (eqb 0) l) h) in
    let e : is_shared x ≡ false = ne_eqb (x % 2) 1 (λ q. omega arith) in
    rw e (blank-unshared l (and_r (eqb 0 x) (all_of (eqb 0) l) h))

trimmed-shared : (l : List ℕ) → is_trimmed l ≡ true → has_shared l ≡ has_shared (items l)
unfolding has_shared blank_from
trimmed-shared l t =
    let n : ℕ = index_of 0 l in
    ap (any_of is_shared) (sym (take-append-drop n l)) ∙ any_append is_shared (take n l) (drop n l)
    ∙ rw (blank-unshared (drop n l) t) (or-false (any_of is_shared (take n l)))

-- what an edition asks, of the ready tick and of the holds, tested apart
regroup :
    (numbers holds after second shared unready one two : Bool)
    → ((numbers && (holds && after)) && (cond second (not shared) unready && (one && two)))
    ≡ ((numbers && (second || unready)) && (((holds && one) && (not second || not shared)) && (after && two)))
regroup false holds after second shared unready one two = refl
regroup true false after true true unready one two = refl
regroup true false after true false unready one two = refl
regroup true false after false shared true one two = refl
regroup true false after false shared false one two = refl
regroup true true true true true unready true two = refl
regroup true true false true true unready true two = refl
regroup true true true true true unready false two = refl
regroup true true false true true unready false two = refl
regroup true true true true false unready true two = refl
regroup true true false true false unready true two = refl
regroup true true true true false unready false two = refl
regroup true true false true false unready false two = refl
regroup true true true false shared true true two = refl
regroup true true false false shared true true two = refl
regroup true true true false shared true false two = refl
regroup true true false false shared true false two = refl
regroup true true true false shared false one two = refl
regroup true true false false shared false one two = refl

-- only a trimmed list is asked
untrimmed : (edition : ℕ) (rises : Bool) (l : List ℕ) → ((rises && is_trimmed l) && shared_in edition (items l)) ≡ ((rises && is_trimmed l) && shared_in edition l)
untrimmed edition rises l =
    by_bool (is_trimmed l)
    (λ t. rw (trimmed-shared l t))
    (λ t. rw (t, and_no rises))

pub kept-is : (plan : Plan) (k : ℕ) → kept_ok plan k ≡ (numbers_in plan k && lists_in plan.edition plan.tasks plan.holds plan.after k)
unfolding kept_ok holds_ok after_ok
kept-is plan k =
    let row_of : List ℕ = row 32 plan.holds k in
    rw (rises-is drive_of 32 (items row_of), rises-is (λ n. n) plan.tasks (items (row 64 plan.after k)))
    (regroup
    (numbers_ok plan.boards (task_at plan k))
    (rises_from drive_of 32 0 (items row_of))
    (rises_from (λ n. n) plan.tasks 0 (items (row 64 plan.after k)))
    (eqb plan.edition 2)
    (has_shared (items row_of))
    (eqb (at plan.ready k) 0)
    (is_trimmed row_of)
    (is_trimmed (row 64 plan.after k)))
    ∙ ap (λ (b : Bool). numbers_in plan k && (b && list_in Tasks plan.tasks (row 64 plan.after k)))
    (untrimmed plan.edition (rises_from drive_of 32 0 (items row_of)) row_of)

-- the sizes that are tested first
abbrev sizes_in : ℕ → ℕ → ℕ → Bool
sizes_in edition boards tasks = between 1 2 edition && (between 1 8 boards && between 1 64 tasks)

pub few_tasks : (edition boards tasks : ℕ) → sizes_in edition boards tasks ≡ true → tasks ≤ 64
few_tasks edition boards tasks h =
    leb-true tasks 64
    (and_r (leb 1 tasks) (leb tasks 64)
    (and_r (between 1 8 boards) (between 1 64 tasks)
    (and_r (between 1 2 edition) (between 1 8 boards && between 1 64 tasks) h)))

module _ (plan : Plan) where
  abbrev sizes : Bool
  sizes = sizes_in plan.edition plan.boards plan.tasks

  abbrev ranges : Bool
  ranges = every plan.tasks (kept_ok plan) && past_blank plan

  ranges-are : ranges_ok plan ≡ (sizes && ranges)
  unfolding ranges_ok
  ranges-are = go (between 1 2 plan.edition) (between 1 8 plan.boards) (between 1 64 plan.tasks) ranges
    where
      go : (edition boards tasks kept : Bool) → (edition && (boards && (tasks && kept))) ≡ ((edition && (boards && tasks)) && kept)
      go false boards tasks kept = refl
      go true false tasks kept = refl
      go true true tasks kept = refl

  pub refused-sizes : sizes ≡ false → false ≡ ranges_ok plan
  refused-sizes h = rw (ranges-are, h)

  pub kept-ranges : sizes ≡ true → {kept past : Bool} → kept ≡ every plan.tasks (kept_ok plan) → past ≡ past_blank plan → (kept && past) ≡ ranges_ok plan
  kept-ranges s k p = rw (ranges-are, s, k, p)
