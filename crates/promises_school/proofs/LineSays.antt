-- What each line of a log says, by its fields.
use Prim.Native.Nat.{ℕ, ◌≤◌}
use native.Mathlib.Omega.{arith}
use mathlib.Core.Path.{◌≡◌}
use mathlib.Core.Bool.{true, not}
use mathlib.Core.List.{List, [], ◌∷◌}
use lib.Dec.{eqb}
use borrow.Author.Tests.{le-leb, not-true}
use Rattle.laws.specs.Digits.{digits_of}
use Rattle.laws.specs.Lists.{all_of, same}
use Rattle.laws.proofs.Cases.{and_l, and-of}
use Rattle.laws.proofs.Digits.{digits-small, value-digits}
use Rattle.laws.proofs.Split.{free}
use Rattle.text.specs.Bytes.{bytes}
use Rattle.text.specs.Line.{fields}
use Rattle.text.specs.Number.{is_number, most}
use Rattle.text.proofs.Numerals.{digits_number, digits-free}
use Rattle.plan.specs.Read.{ranged}
use Rattle.school.specs.Lines.{MINUS, is_earliness, is_run, is_moment, is_remark, says_none, later_said}

-- the digits of a number in a range
pub digits-ranged : (low high n : ℕ) → low ≤ n → n ≤ high → ranged low high (digits_of n) ≡ true
digits-ranged low high n l h =
    and-of (digits_number n) (rw (value-digits n) (and-of (le-leb low n l) (le-leb n high h)))

-- ticks early are not negative
digits-early : (n : ℕ) → n ≤ most → is_earliness (digits_of n) ≡ true
unfolding is_earliness is_number all_of
digits-early n h = go (digits_of n) (digits_number n) (digits-free MINUS n (omega arith)) (digits-ranged 0 most n (omega arith) h)
  where
    go : (s : List ℕ) → is_number s ≡ true → free MINUS s ≡ true → ranged 0 most s ≡ true → is_earliness s ≡ true
    go [] n f r = n
    go (b ∷ s) n f r = rw (not-true (eqb b MINUS) (and_l (not (eqb b MINUS)) (free MINUS s) f)) r

module _ (boards tasks : ℕ) where
  pub start-says :
      (line : List ℕ) (task board tick early : ℕ)
      → fields line ≡ bytes "start" ∷ digits_of task ∷ digits_of board ∷ digits_of tick ∷ digits_of early ∷ []
      → 1 ≤ task → task ≤ tasks → 1 ≤ board → board ≤ boards → tick ≤ most → early ≤ most
      → later_said boards tasks line ≡ record { formed = true; start = task; end = 0; board = board; tick = tick }
  unfolding later_said is_moment same
  start-says line task board tick early f a b c d t e =
      rw (
        f,
        digits-ranged 1 tasks task a b,
        digits-ranged 1 boards board c d,
        digits-ranged 0 most tick (omega arith) t,
        digits-early early e,
        value-digits task,
        value-digits board,
        value-digits tick,
      )

  pub end-says :
      (line : List ℕ) (task board tick early : ℕ)
      → fields line ≡ bytes "end" ∷ digits_of task ∷ digits_of board ∷ digits_of tick ∷ digits_of early ∷ []
      → 1 ≤ task → task ≤ tasks → 1 ≤ board → board ≤ boards → tick ≤ most → early ≤ most
      → later_said boards tasks line ≡ record { formed = true; start = 0; end = task; board = board; tick = tick }
  unfolding later_said is_moment same
  end-says line task board tick early f a b c d t e =
      rw (
        f,
        digits-ranged 1 tasks task a b,
        digits-ranged 1 boards board c d,
        digits-ranged 0 most tick (omega arith) t,
        digits-early early e,
        value-digits task,
        value-digits board,
        value-digits tick,
      )

  pub early-says :
      (line : List ℕ) (clock early : ℕ) → fields line ≡ bytes "early" ∷ digits_of clock ∷ digits_of early ∷ []
      → clock ≤ most → early ≤ most → later_said boards tasks line ≡ says_none true
  unfolding later_said is_moment is_remark same
  early-says line clock early f a b = rw (f, digits-ranged 0 most clock (omega arith) a, digits-ranged 0 most early (omega arith) b)

  pub refused_says :
      (line : List ℕ) (code first second : ℕ)
      → fields line ≡ bytes "refused" ∷ digits_of code ∷ digits_of first ∷ digits_of second ∷ []
      → code ≤ most → first ≤ most → second ≤ most → later_said boards tasks line ≡ says_none true
  unfolding later_said is_moment is_remark same
  refused_says line code first second f a b c =
      rw (f, digits-ranged 0 most code (omega arith) a, digits-ranged 0 most first (omega arith) b, digits-ranged 0 most second (omega arith) c)

  -- line 1
  pub run-says : (line : List ℕ) → fields line ≡ bytes "run" ∷ digits_of 1 ∷ digits_of boards ∷ digits_of tasks ∷ [] → is_run boards tasks line ≡ true
  unfolding is_run same
  run-says line f =
      rw (f, digits-small 1 (omega arith), digits-ranged boards boards boards (omega arith) (omega arith), digits-ranged tasks tasks tasks (omega arith) (omega arith))

  pub clash-says :
      (line : List ℕ) → fields line ≡ bytes "run" ∷ digits_of 2 ∷ digits_of boards ∷ digits_of tasks ∷ bytes "clash" ∷ []
      → is_run boards tasks line ≡ true
  unfolding is_run same
  clash-says line f =
      rw (f, digits-small 2 (omega arith), digits-ranged boards boards boards (omega arith) (omega arith), digits-ranged tasks tasks tasks (omega arith) (omega arith))
