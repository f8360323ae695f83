-- The first pair, by a, then by b, of which a test holds.
use Prim.Native.Nat.{ℕ, ◌+◌, ◌<◌}
use native.Mathlib.Omega.{arith}
use mathlib.Core.Path.{◌≡◌, ap, ◌∙◌}
use mathlib.Core.Logic.{◌⊎◌, inl, inr, ⊎_elim}
use mathlib.Core.Bool.{Bool, true, false}
use Rattle.laws.proofs.Cases.{by_bool, true-false}
use Rattle.laws.specs.Scan.{scan_to}
use Rattle.laws.proofs.Scan.{Found, scan-cases}
use Rattle.plan.specs.Answer.{refuse, granted, is_refused}
use Rattle.plan.specs.Pairs.{pairs_fault}
use Rattle.plan.specs.declared.Answer.{Answer}
use Rattle.school.specs.Tests.{pair_fault, against_fault}
use Rattle.promises.specs.Checks.{Before}

-- the pairs of one a
abbrev pub row_fault : ℕ → (ℕ → ℕ → Bool) → ℕ → Answer
row_fault tasks test a = scan_to is_refused granted (pair_fault test a) (a + 1) tasks

module _ (tasks : ℕ) (test : ℕ → ℕ → Bool) where
  stops : (a b : ℕ) → is_refused (pair_fault test a b) ≡ true → test a b ≡ true
  stops a b h = by_bool (test a b) (λ t. t) (λ f. true-false h (rw f))

  passes : (a b : ℕ) → is_refused (pair_fault test a b) ≡ false → test a b ≡ false
  passes a b h = by_bool (test a b) (λ t. true-false (rw t) h) (λ f. f)

  -- in the row of a
  record InRow (a : ℕ) : Type 0 where
    b : ℕ
    above : a < b
    below : b < tasks
    holds : test a b ≡ true
    earlier : (y : ℕ) → a < y → y < b → test a y ≡ false
    is : row_fault tasks test a ≡ refuse 26 (a + 1) (b + 1)

  record NotInRow (a : ℕ) : Type 0 where
    none : (y : ℕ) → a < y → y < tasks → test a y ≡ false
    is : row_fault tasks test a ≡ granted

  row-cases : (a : ℕ) → InRow a ⊎ NotInRow a
  row-cases a =
      ⊎_elim
      (λ f.
      let t = stops a f.place f.stops in
      let e : pair_fault test a f.place ≡ refuse 26 (a + 1) (f.place + 1) = rw t in
      inl
      (record {
        b = f.place;
        above = omega (arith, f.from);
        below = f.below;
        holds = t;
        earlier = λ y l m. passes a y (f.first y (omega arith) m);
        is = f.is ∙ e;
      }))
      (λ n. inr (record { none = λ y l m. passes a y (n.passed y (omega arith) m); is = n.is }))
      (scan-cases is_refused granted (pair_fault test a) (a + 1) tasks)

  -- of all pairs
  pub record FirstPair : Type 0 where
    pub a : ℕ
    pub b : ℕ
    pub above : a < b
    pub below : b < tasks
    pub holds : test a b ≡ true
    pub earlier : (x y : ℕ) → x < y → y < tasks → Before x y a b → test x y ≡ false
    pub is : against_fault tasks test ≡ refuse 26 (a + 1) (b + 1)

  pub record NoPair : Type 0 where
    pub none : (x y : ℕ) → x < y → y < tasks → test x y ≡ false
    pub is : against_fault tasks test ≡ granted

  row-passed : (a : ℕ) → is_refused (row_fault tasks test a) ≡ false → (y : ℕ) → a < y → y < tasks → test a y ≡ false
  row-passed a h y l m =
      ⊎_elim
      (λ r. true-false (ap is_refused r.is) h)
      (λ n. n.none y l m)
      (row-cases a)

  pub pair-cases : FirstPair ⊎ NoPair
  unfolding against_fault pairs_fault
  pair-cases =
      ⊎_elim
      (λ f. inl (found f (row-cases f.place)))
      (λ n. inr (record { none = λ x y l m. row-passed x (n.passed x (omega arith) (omega arith)) y l m; is = n.is }))
      (scan-cases is_refused granted (row_fault tasks test) 0 tasks)
    where
      found : (f : Found is_refused granted (row_fault tasks test) 0 tasks) → InRow f.place ⊎ NotInRow f.place → FirstPair
      found f (inl r) = record {
        a = f.place;
        b = r.b;
        above = r.above;
        below = r.below;
        holds = r.holds;
        earlier = λ x y l m before.
            ⊎_elim (λ q. row-passed x (f.first x (omega arith) q) y l m)
            (λ q.
            let e : x ≡ f.place = q.0 in
            ap (λ (z : ℕ). test z y) e ∙ r.earlier y (omega arith) q.1)
            before;
        is = f.is ∙ r.is;
      }
      found f (inr n) = true-false f.stops (ap is_refused n.is)
