-- The search for the first pair, row by row.
use Prim.Native.Nat.{ℕ, ◌+◌, ◌%◌, ◌≤◌, ◌<◌}
use native.Mathlib.Nat.{mod-eq_of_lt}
use native.Mathlib.Omega.{arith}
use mathlib.Core.Bool.{Bool, true, false, not, ◌&&◌, ◌||◌}
use mathlib.Core.Path.{◌≡◌, refl, sym, ap, ◌∙◌}
use borrow.Author.Tests.{not-true}
use Rattle.std.specs.Prelude.{Ok, Err}
use Rattle.laws.specs.Bits.{has}
use Rattle.laws.specs.Every.{every, any}
use Rattle.laws.proofs.Every.{every-at, any-not, any-turn}
use Rattle.laws.specs.Scan.{scan_to}
use Rattle.laws.proofs.Scan.{scan-turn, scan-hit, scan-end, scan-none}
use Rattle.plan.specs.Answer.{refuse, granted, is_refused, as_result}
use Rattle.plan.specs.declared.Answer.{Answer}
use Rattle.plan.specs.Pairs.{pairs_fault}
use Rattle.school.specs.Tests.{pair_fault, against_fault}
use Rattle.plan.proofs.ResultLaws.{result-granted, result-refused, is-granted, is-refused}

-- the pairs of one a
abbrev pub row_fault : ℕ → (ℕ → ℕ → Bool) → ℕ → Answer
row_fault tasks test a = scan_to is_refused granted (pair_fault test a) (a + 1) tasks

-- a task below 64 has its own bit
pub own-bit : (set i : ℕ) (late : Bool) {stands : Bool} → i < 64 → stands ≡ has set (i % 64) → (stands && late) ≡ (has set i && late)
own-bit set i late l e = ap (λ (b : Bool). b && late) (e ∙ ap (has set) (mod-eq_of_lt l))

-- one test or the other
pub both : {a b p q r : Bool} → a ≡ p → b ≡ q → (a || b) ≡ r → (p || q) ≡ r
both e f h = rw (e, f) at h

module _ (tasks : ℕ) (test : ℕ → ℕ → Bool) where
  -- what the rest of row a gives is what the whole row gives
  abbrev pub RowRest : ℕ → ℕ → Type 0
  RowRest a b = scan_to is_refused granted (pair_fault test a) b tasks ≡ row_fault tasks test a

  pub row_first : (a : ℕ) → RowRest a (a + 1)
  row_first a = refl

  module _ (a b : ℕ) (rest : RowRest a b) where
    pub row-turn : b < tasks → test a b ≡ false → RowRest a (b + 1)
    row-turn l t = sym (scan-turn is_refused granted (pair_fault test a) b tasks l (rw t)) ∙ rest

    pub row-hit : b < tasks → test a b ≡ true → {r : Answer} → r ≡ refuse 26 (a + 1) (b + 1) → Err r ≡ as_result (row_fault tasks test a)
    row-hit l t e =
        let found = refuse 26 (a + 1) (b + 1) in
        let q : pair_fault test a b ≡ found = rw t in
        ap Err e ∙ sym (result-refused found refl)
        ∙ ap as_result (sym q ∙ sym (scan-hit is_refused granted (pair_fault test a) b tasks l (rw t)) ∙ rest)

    pub row_out : tasks ≤ b → Ok tt ≡ as_result (row_fault tasks test a)
    row_out l =
        sym (result-granted granted refl) ∙ ap as_result (sym (scan-end is_refused granted (pair_fault test a) b tasks l) ∙ rest)

  -- the rows
  abbrev pub Rest : ℕ → Type 0
  Rest a = scan_to is_refused granted (row_fault tasks test) a tasks ≡ against_fault tasks test

  pub rows-first : Rest 0
  unfolding against_fault pairs_fault
  rows-first = refl

  module _ (a : ℕ) (rest : Rest a) where
    module _ (l : a < tasks) where
      pub rows-turn : Ok tt ≡ as_result (row_fault tasks test a) → Rest (a + 1)
      rows-turn e = sym (scan-turn is_refused granted (row_fault tasks test) a tasks l (ap not (is-granted _ e))) ∙ rest

      pub rows-hit : {x : Answer} → Err x ≡ as_result (row_fault tasks test a) → Err x ≡ as_result (against_fault tasks test)
      rows-hit e =
          e ∙ ap as_result (sym (scan-hit is_refused granted (row_fault tasks test) a tasks l (ap not (is-refused _ e))) ∙ rest)

    pub rows_out : tasks ≤ a → Ok tt ≡ as_result (against_fault tasks test)
    rows_out l =
        sym (result-granted granted refl) ∙ ap as_result (sym (scan-end is_refused granted (row_fault tasks test) a tasks l) ∙ rest)

pub every-none : (p : ℕ → Bool) → every 0 p ≡ true
unfolding every
every-none p = refl

pub any_none : (p : ℕ → Bool) → false ≡ any 0 p
unfolding any
any_none p = refl

-- some so far, and at the end
pub any-grow : (i : ℕ) (p : ℕ → Bool) {now some : Bool} → now ≡ p i → some ≡ any i p → (now || some) ≡ any (i + 1) p
any-grow i p {now} {some} e s = ap (λ (b : Bool). b || some) e ∙ ap (λ (b : Bool). p i || b) s ∙ sym (any-turn i p)

pub any_out : (n k : ℕ) (p : ℕ → Bool) {some : Bool} → some ≡ any k p → k ≤ n → n ≤ k → some ≡ any n p
any_out n k p s l h = let e : k ≡ n = omega arith in rw e at s

-- where nobody starts too soon, no pair is found
module _ (tasks : ℕ) (sooner : ℕ → ℕ → Bool) (clean : every tasks (λ j. not (any tasks (λ i. sooner i j))) ≡ true) where
  in_time : (i j : ℕ) → i < tasks → j < tasks → sooner i j ≡ false
  in_time i j li lj =
      any-not tasks (λ k. sooner k j) (not-true _ (every-at tasks (λ k. not (any tasks (λ h. sooner h k))) clean j lj)) i li

  abbrev either : ℕ → ℕ → Bool
  either a b = sooner a b || sooner b a

  row-clean : (a : ℕ) → a < tasks → row_fault tasks either a ≡ granted
  row-clean a l =
      scan-none is_refused granted (pair_fault either a) (a + 1) tasks
      (λ b h lb. let p = in_time a b l lb in let q = in_time b a lb l in rw (p, q))

  pub clean-none : Ok tt ≡ as_result (against_fault tasks either)
  unfolding against_fault pairs_fault
  clean-none =
      sym (result-granted granted refl)
      ∙ ap as_result (sym (scan-none is_refused granted (row_fault tasks either) 0 tasks (λ a h l. let q = row-clean a l in rw q)))
