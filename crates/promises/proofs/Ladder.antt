-- A code that is the number of the first check that applies is a ladder's, where the numbers differ.
use Prim.Native.Nat.{ℕ}
use mathlib.Core.Path.{◌≡◌, refl, sym, subst, ◌∙◌}
use mathlib.Core.Logic.{◌≢◌, ◌↔◌, ◌⊎◌, inl, inr, ⊎_elim}
use mathlib.Core.Bool.{Bool, true, false, not, cond, ◌&&◌}
use mathlib.Core.List.{List, [], ◌∷◌}
use native.Mathlib.Omega.{arith}
use lib.Dec.{eqb, ltb}
use borrow.Author.Tests.{eq-eqb, ne_eqb, eqb-true, eqb-false, ltb-true, not-true, not-false}
use Rattle.laws.proofs.Cases.{by-eq, and_l, and_r, and_no, true-false}
use Rattle.laws.specs.Lists.{all_of}
use Rattle.promises.specs.Ladder.{Rung, From, Ladder}

-- the number of the first that applies, 0 where none does
pub data First : List Rung → ℕ → Type 1 where
  end : {code : ℕ} → code ≡ 0 → First [] code
  here : {rung : Rung} {later : List Rung} {code : ℕ} → rung.applies → code ≡ rung.number → First (rung ∷ later) code
  past : {rung : Rung} {later : List Rung} {code : ℕ} → (rung.applies → ⊥) → First later code → First (rung ∷ later) code

-- none of the later numbers, nor 0
abbrev pub fresh : ℕ → List Rung → Bool
fresh n [] = not (eqb n 0)
fresh n (rung ∷ later) = not (eqb n rung.number) && fresh n later

abbrev pub distinct : List Rung → Bool
distinct [] = true
distinct (rung ∷ later) = fresh rung.number later && distinct later

-- the code of a test before others
pub first_by :
    {applies : Type 0} {n : ℕ} (test : Bool) (later : List Rung) (rest : ℕ) → (test ≡ true) ↔ applies
    → ((applies → ⊥) → First later rest) → First (record { number = n; applies = applies } ∷ later) (cond test n rest)
first_by true later rest is more = First.here (is.0 refl) refl
first_by {applies} false later rest is more = let none : applies → ⊥ = λ a. true-false (is.1 a) refl in First.past none (more none)

-- a number that is not among them
fresh-not : (n : ℕ) (rungs : List Rung) (code : ℕ) → fresh n rungs ≡ true → First rungs code → code ≢ n
fresh-not n [] code f (First.end e) z = eqb-false n 0 (not-true (eqb n 0) f) (sym z ∙ e)
fresh-not n (rung ∷ later) code f (First.here a e) z =
    eqb-false n rung.number (not-true (eqb n rung.number) (and_l (not (eqb n rung.number)) (fresh n later) f)) (sym z ∙ e)
fresh-not n (rung ∷ later) code f (First.past g more) z =
    fresh-not n later code (and_r (not (eqb n rung.number)) (fresh n later) f) more z

-- past the check that applies none is passed
from-none : (passed : Type 0) (rungs : List Rung) (code : ℕ) → fresh code rungs ≡ true → (passed → ⊥) → From passed rungs code
from-none passed [] code f never = (λ z. absurd (eqb-false code 0 (not-true (eqb code 0) f) z), λ p. absurd (never p))
from-none passed (rung ∷ later) code f never = (
  (
    λ z.
        absurd (eqb-false code rung.number (not-true (eqb code rung.number) (and_l (not (eqb code rung.number)) (fresh code later) f)) z),
    λ p. absurd (never p.0),
  ),
  from-none (passed × (rung.applies → ⊥)) later code (and_r (not (eqb code rung.number)) (fresh code later) f) (λ p. never p.0),
)

from_first :
    (passed : Type 0) → passed → (rungs : List Rung) (code : ℕ) → distinct rungs ≡ true → First rungs code → From passed rungs code
from_first passed p [] code d (First.end e) = (λ z. p, λ q. e)
from_first passed p (rung ∷ later) code d (First.here a e) =
    let f : fresh code later ≡ true = rw e (and_l (fresh rung.number later) (distinct later) d) in
    ((λ z. (p, a), λ q. e), from-none (passed × (rung.applies → ⊥)) later code f (λ q. q.1 a))
from_first passed p (rung ∷ later) code d (First.past g more) = (
  (
    λ z. absurd (fresh-not rung.number later code (and_l (fresh rung.number later) (distinct later) d) more z),
    λ q. absurd (g q.1),
  ),
  from_first (passed × (rung.applies → ⊥)) (p, g) later code (and_r (fresh rung.number later) (distinct later) d) more,
)

pub ladder_of : (rungs : List Rung) (code : ℕ) → distinct rungs ≡ true → First rungs code → Ladder rungs code
ladder_of = from_first Unit tt

-- one code stands by a ladder
one_from :
    (passed : Type 0) (rungs : List Rung) (code other : ℕ) → fresh other rungs ≡ false → From passed rungs code
    → From passed rungs other → code ≡ other
one_from passed [] code other f a b =
    let z = eqb-true other 0 (not-false (eqb other 0) f) in a.1 (b.0 z) ∙ sym z
one_from passed (rung ∷ later) code other f a b =
    by-eq other rung.number
    (λ z. a.0.1 (b.0.0 z) ∙ sym z)
    (λ n.
    let g : fresh other later ≡ false = rw (ne_eqb other rung.number n) at f in
    one_from (passed × (rung.applies → ⊥)) later code other g a.1 b.1)

pub one_code :
    (rungs : List Rung) (code other : ℕ) → fresh other rungs ≡ false → Ladder rungs code → Ladder rungs other → code ≡ other
one_code = one_from Unit

-- a code that is the first to be found, with each number that it may have
abbrev pub searched : (ℕ → Type 0) → List ℕ → List Rung → List Rung
searched Finds [] later = later
searched Finds (n ∷ numbers) later = record { number = n; applies = Finds n } ∷ searched Finds numbers later

abbrev pub Among : ℕ → List ℕ → Type 0
Among code [] = ⊥
Among code (n ∷ numbers) = (code ≡ n) ⊎ Among code numbers

abbrev pub numbers_of : List Rung → List ℕ
numbers_of [] = []
numbers_of (rung ∷ later) = rung.number ∷ numbers_of later

-- so what is among a ladder's numbers is not fresh to it
pub among-fresh : (code : ℕ) (rungs : List Rung) → Among code (numbers_of rungs) → fresh code rungs ≡ false
among-fresh code [] a = absurd a
among-fresh code (rung ∷ later) (inl e) = rw (eq-eqb code rung.number e)
among-fresh code (rung ∷ later) (inr a) = rw (among-fresh code later a) (and_no (not (eqb code rung.number)))

module _ (Finds : ℕ → Type 0) (code : ℕ) (later : List Rung) (rest : ℕ) where
  -- no other of these numbers is found
  abbrev Only : List ℕ → Type 0
  Only numbers = (n : ℕ) → Among n numbers → Finds n → code ≡ n

  found_among : (numbers : List ℕ) → Only numbers → Finds code → Among code numbers → First (searched Finds numbers later) code
  found_among [] only f a = absurd a
  found_among (n ∷ numbers) only f a =
      by-eq code n (λ e. First.here (subst Finds e f) e)
      (λ d. First.past (λ g. d (only n (inl refl) g)) (found_among numbers (λ m b. only m (inr b)) f (⊎_elim (λ e. absurd (d e)) (λ b. b) a)))

  none-among :
      (numbers : List ℕ) → Only numbers → all_of (ltb 0) numbers ≡ true → code ≡ 0 → First later rest
      → First (searched Finds numbers later) rest
  unfolding all_of
  none-among [] only p z more = more
  none-among (n ∷ numbers) only p z more =
      let q = ltb-true 0 n (and_l (ltb 0 n) (all_of (ltb 0) numbers) p) in
      First.past (λ g. let e = only n (inl refl) g in omega arith) (none-among numbers (λ m b. only m (inr b)) (and_r (ltb 0 n) (all_of (ltb 0) numbers) p) z more)

  pub first-search :
      (numbers : List ℕ) → all_of (ltb 0) numbers ≡ true → Only numbers → (code ≢ 0 → Finds code × Among code numbers)
      → (code ≡ 0 → First later rest) → First (searched Finds numbers later) (cond (eqb code 0) rest code)
  first-search numbers p only found more =
      by-eq code 0
      (λ z. rw (eq-eqb code 0 z) (none-among numbers only p z (more z)))
      (λ n. let f = found n in rw (ne_eqb code 0 n) (found_among numbers only f.0 f.1))
