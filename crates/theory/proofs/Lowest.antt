-- The lowest task of which a test holds: turn by turn, and as a fact.
use mathlib.Core.Path.{◌≡◌, refl, sym, ◌∙◌}
use mathlib.Core.Logic.{◌⊎◌, inl, inr, ⊎_elim}
use mathlib.Core.Bool.{Bool, true, false, not, cond}
use Prim.Native.Nat.{ℕ, ◌+◌, ◌≤◌, ◌<◌}
use native.Mathlib.Omega.{arith}
use lib.Dec.{eqb}
use borrow.Author.Tests.{ne_eqb}
use Rattle.laws.proofs.Cases.{by_bool, true-false}
use Rattle.laws.specs.Scan.{scan_to}
use Rattle.laws.proofs.Scan.{scan-turn, scan-hit, scan-end, scan-same, scan-cases}
use Rattle.theory.specs.Times.{lowest}

-- a task from 1 is somebody
abbrev somebody : ℕ → Bool
somebody task = not (eqb task 0)

abbrev number : (ℕ → Bool) → ℕ → ℕ
number test i = cond (test i) (i + 1) 0

-- the lowest from task i on
abbrev pub lowest_from : ℕ → ℕ → (ℕ → Bool) → ℕ
lowest_from i tasks test = scan_to somebody 0 (number test) i tasks

module _ (test : ℕ → Bool) (i : ℕ) where
  picked : test i ≡ true → somebody (number test i) ≡ true
  picked t = rw t (ap-not (i + 1) (omega arith))
    where
      ap-not : (n : ℕ) → 0 < n → not (eqb n 0) ≡ true
      ap-not n l = rw (ne_eqb n 0 (omega arith))

  passed : test i ≡ false → somebody (number test i) ≡ false
  passed t = rw t

  unpassed : somebody (number test i) ≡ false → test i ≡ false
  unpassed h = by_bool (test i) (λ t. true-false (picked t) h) (λ t. t)

  unpicked : somebody (number test i) ≡ true → test i ≡ true
  unpicked h = by_bool (test i) (λ t. t) (λ t. true-false h (passed t))

module _ (tasks : ℕ) (test : ℕ → Bool) where
  pub lowest-first : lowest_from 0 tasks test ≡ lowest tasks test
  unfolding lowest
  lowest-first = refl

  module _ (i : ℕ) (rest : lowest_from i tasks test ≡ lowest tasks test) where
    pub lowest-turn : i < tasks → test i ≡ false → lowest_from (i + 1) tasks test ≡ lowest tasks test
    lowest-turn l t = sym (scan-turn somebody 0 (number test) i tasks l (passed test i t)) ∙ rest

    pub lowest-hit : i < tasks → test i ≡ true → i + 1 ≡ lowest tasks test
    lowest-hit l t =
        let e : number test i ≡ i + 1 = rw t in
        sym e ∙ sym (scan-hit somebody 0 (number test) i tasks l (picked test i t)) ∙ rest

    pub lowest-out : tasks ≤ i → 0 ≡ lowest tasks test
    lowest-out l = sym (scan-end somebody 0 (number test) i tasks l) ∙ rest

  -- somebody, with nobody lower
  pub record Lowest : Type 0 where
    pub who : ℕ
    pub task : who < tasks
    pub holds : test who ≡ true
    pub lower : (j : ℕ) → j < who → test j ≡ false
    pub is : lowest tasks test ≡ who + 1

  -- nobody
  pub record Nobody : Type 0 where
    pub none : (j : ℕ) → j < tasks → test j ≡ false
    pub is : lowest tasks test ≡ 0

  pub lowest-cases : Lowest ⊎ Nobody
  unfolding lowest
  lowest-cases =
      ⊎_elim
      (λ f.
      let t = unpicked test f.place f.stops in
      let e : number test f.place ≡ f.place + 1 = rw t in
      inl
      (record {
        who = f.place;
        task = f.below;
        holds = t;
        lower = λ j l. unpassed test j (f.first j (omega arith) l);
        is = f.is ∙ e;
      }))
      (λ n. inr (record { none = λ j l. unpassed test j (n.passed j (omega arith) l); is = n.is }))
      (scan-cases somebody 0 (number test) 0 tasks)

  -- 0 exactly where there is nobody
  pub lowest-none : lowest tasks test ≡ 0 → (j : ℕ) → j < tasks → test j ≡ false
  lowest-none z j l =
      ⊎_elim (λ f. let e = f.is in absurd (omega arith)) (λ n. n.none j l) lowest-cases

-- only the tasks are looked at
pub lowest-same :
    (tasks : ℕ) (test other : ℕ → Bool) → ((i : ℕ) → i < tasks → test i ≡ other i) → lowest tasks test ≡ lowest tasks other
unfolding lowest
lowest-same tasks test other same =
    scan-same somebody 0 (number test) (number other) 0 tasks (λ j a l. let e = same j l in rw e)
