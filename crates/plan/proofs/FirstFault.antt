-- The first faulty pair is the first in the document's order, and none is found exactly when no pair is faulty.
use Prim.Native.Nat.{ℕ, ◌+◌, ◌≤◌, ◌<◌}
use mathlib.Core.Path.{◌≡◌, sym, ap, ◌∙◌}
use mathlib.Core.Logic.{◌⊎◌, inl, inr, ⊎_elim, ◌≢◌, ◌↔◌}
use mathlib.Core.Bool.{true, false}
use native.Mathlib.Omega.{arith}
use lib.Dec.{eqb}
use borrow.Author.Tests.{eqb-true, eqb-false, not-true, not-false}
use Rattle.laws.proofs.Cases.{true-false}
use Rattle.laws.specs.Scan.{scan_to}
use Rattle.laws.proofs.Scan.{scan-cases, scan-clean, scan-same, Found, Nothing}
use Rattle.plan.specs.Answer.{refuse, granted, is_refused}
use Rattle.plan.specs.Task.{Task}
use Rattle.plan.specs.Pairs.{pair_code, pair_answer, pairs_fault, first_fault}
use Rattle.plan.specs.declared.Answer.{Answer}

pub refused-code : (x : Answer) → is_refused x ≡ true → x.code ≢ 0
refused-code x h = eqb-false x.code 0 (not-true (eqb x.code 0) h)

pub passed-code : (x : Answer) → is_refused x ≡ false → x.code ≡ 0
passed-code x h = eqb-true x.code 0 (not-false (eqb x.code 0) h)

-- (x, y) is examined before (a, b): by a, then by b
abbrev pub Earlier : ℕ → ℕ → ℕ → ℕ → Type 0
Earlier x y a b = (x < a) ⊎ ((x ≡ a) × (y < b))

-- the pairs (a, b) with a ≤ b of one a
abbrev pub row_fault : ℕ → (ℕ → Task) → ℕ → Answer
row_fault tasks task a = scan_to is_refused granted (pair_answer task a) a tasks

module _ (tasks : ℕ) (task : ℕ → Task) where
  -- a faulty pair is found, and every pair before it is not faulty
  pub record FirstPair : Type 0 where
    pub a : ℕ
    pub b : ℕ
    pub ordered : a ≤ b
    pub below : b < tasks
    pub faulty : pair_code task a b ≢ 0
    pub is : first_fault tasks task ≡ pair_answer task a b
    pub earlier : (x y : ℕ) → x ≤ y → y < tasks → Earlier x y a b → pair_code task x y ≡ 0

  -- no pair is faulty
  abbrev pub NoPair : Type 0
  NoPair = (a b : ℕ) → a ≤ b → b < tasks → pair_code task a b ≡ 0

  abbrev Searched : Type 0
  Searched = FirstPair ⊎ (NoPair × (first_fault tasks task ≡ granted))

  -- a row that the search passes has no faulty pair
  row-clean : (a : ℕ) → is_refused (row_fault tasks task a) ≡ false → (b : ℕ) → a ≤ b → b < tasks → pair_code task a b ≡ 0
  row-clean a p b h l = passed-code (pair_answer task a b) (scan-clean is_refused granted (pair_answer task a) a tasks p b h l)

  searched : Searched
  unfolding first_fault pairs_fault
  searched = ⊎_elim found nothing (scan-cases is_refused granted (row_fault tasks task) 0 tasks)
    where
      found : Found is_refused granted (row_fault tasks task) 0 tasks → Searched
      found r = ⊎_elim pair none (scan-cases is_refused granted (pair_answer task r.place) r.place tasks)
        where
          pair : Found is_refused granted (pair_answer task r.place) r.place tasks → Searched
          pair q =
              inl
              (record {
                a = r.place;
                b = q.place;
                ordered = q.from;
                below = q.below;
                faulty = refused-code (pair_answer task r.place q.place) q.stops;
                is = r.is ∙ q.is;
                earlier = λ x y h l.
                    ⊎_elim
                    (λ w. row-clean x (r.first x (omega arith) w) y h l)
                    (λ w. rw w.0 (passed-code (pair_answer task r.place y) (q.first y (omega (arith, w.0)) w.1)));
              })

          none : Nothing is_refused granted (pair_answer task r.place) r.place tasks → Searched
          none q = true-false r.stops (rw q.is)

      nothing : Nothing is_refused granted (row_fault tasks task) 0 tasks → Searched
      nothing r = inr (λ a b h l. row-clean a (r.passed a (omega arith) (omega arith)) b h l, r.is)

  -- the first faulty pair is the first in the document's order
  pub fault-first : (first_fault tasks task).code ≢ 0 → FirstPair
  fault-first n = ⊎_elim (λ r. r) (λ r. absurd (n (ap (λ (x : Answer). x.code) r.1))) searched

  unfaulted : (first_fault tasks task).code ≡ 0 → NoPair × (first_fault tasks task ≡ granted)
  unfaulted z = ⊎_elim (λ r. absurd (r.faulty (sym (ap (λ (x : Answer). x.code) r.is) ∙ z))) (λ r. r) searched

  -- none is found exactly when no pair is faulty
  pub fault-none : (first_fault tasks task).code ≡ 0 ↔ NoPair
  fault-none = (λ z. (unfaulted z).0, back)
    where
      back : NoPair → (first_fault tasks task).code ≡ 0
      back f =
          ⊎_elim (λ r. absurd (r.faulty (f r.a r.b r.ordered r.below))) (λ r. ap (λ (x : Answer). x.code) r.1)
          searched

  pub fault-granted : (first_fault tasks task).code ≡ 0 → first_fault tasks task ≡ granted
  fault-granted z = (unfaulted z).1

-- the search looks only at the tasks below T
pair_same : (task other : ℕ → Task) (a b : ℕ) → task a ≡ other a → task b ≡ other b → pair_code task a b ≡ pair_code other a b
unfolding pair_code
pair_same task other a b p q = rw (p, q)

pub fault-same :
    (tasks : ℕ) (task other : ℕ → Task) → ((k : ℕ) → k < tasks → task k ≡ other k)
    → first_fault tasks task ≡ first_fault tasks other
unfolding first_fault pairs_fault
fault-same tasks task other e =
    scan-same is_refused granted (row_fault tasks task) (row_fault tasks other) 0 tasks
    (λ a h l.
    scan-same is_refused granted (pair_answer task a) (pair_answer other a) a tasks
    (λ b h' l'. ap (λ (x : ℕ). refuse x (a + 1) (b + 1)) (pair_same task other a b (e a l) (e b l'))))
