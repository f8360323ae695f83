-- The first faulty pair, with tasks counted from 1.
use Prim.Native.Nat.{ℕ, ◌+◌, ◌-◌, ◌≤◌}
use native.Mathlib.Omega.{arith}
use mathlib.Core.Bool.{not, ◌&&◌, ◌||◌}
use mathlib.Core.Path.{◌≡◌, refl, sym, ap, subst, ◌∙◌}
use mathlib.Core.Logic.{◌⊎◌, inl, inr, ⊎_elim}
use lib.Dec.{eqb}
use borrow.Author.Tests.{eq-eqb}
use Rattle.laws.proofs.Cases.{by_bool, by-eq}
use Rattle.plan.specs.Task.{Task}
use Rattle.plan.specs.Pairs.{overlap, same_board, clash_by_drive, breaks_after, pair_code}
use Rattle.plan.proofs.FirstFault.{FirstPair}
use Rattle.promises.specs.Ladder.{Ladder}
use Rattle.promises.specs.Checks.{pair_checks, FirstFaulty}
use Rattle.promises.proofs.Codes.Clashes.{pair-ladder}

abbrev pub PairNumber : ℕ → Type 0
PairNumber code = (code ≡ 0) ⊎ ((6 ≤ code) × (code ≤ 8))

pub pair-number : (task : ℕ → Task) (a b : ℕ) → PairNumber (pair_code task a b)
unfolding pair_code
pair-number task a b =
    by_bool ((not (eqb a b) && overlap (task a) (task b)) && same_board (task a) (task b))
    (λ e. rw e (inr (omega arith, omega arith)))
    (λ e.
    by_bool ((not (eqb a b) && overlap (task a) (task b)) && clash_by_drive (task a).holds (task b).holds)
    (λ f. rw (e, f) (inr (omega arith, omega arith)))
    (λ f.
    by_bool (breaks_after task a b || breaks_after task b a)
    (λ h. rw (e, f, h) (inr (omega arith, omega arith)))
    (λ h. rw (e, f, h) (inl refl))))

-- a pair (a, a) has code 8 or none
self-number : (task : ℕ → Task) (a : ℕ) → (pair_code task a a ≡ 0) ⊎ (pair_code task a a ≡ 8)
unfolding pair_code
self-number task a =
    let same = eq-eqb a a refl in
    by_bool (breaks_after task a a || breaks_after task a a) (λ h. rw (same, h) (inr refl)) (λ h. rw (same, h) (inl refl))

-- what the search finds, with tasks counted from 1
pub named :
    (tasks : ℕ) (task : ℕ → Task) (f : FirstPair tasks task) → (6 ≤ pair_code task f.a f.b) × (pair_code task f.a f.b ≤ 8)
    → FirstFaulty tasks task (pair_code task f.a f.b) (f.a + 1) (f.b + 1)
named tasks task f c =
    let a : f.a + 1 - 1 ≡ f.a = omega arith in
    let b : f.b + 1 - 1 ≡ f.b = omega arith in
    record {
      from = omega arith;
      ordered = omega (arith, f.ordered);
      to = omega (arith, f.below);
      number = c;
      faulty = rw (a, b) (pair-ladder task f.a f.b);
      first = λ x y p h l w.
          subst (Ladder (pair_checks task (x - 1) (y - 1)))
          (f.earlier (x - 1) (y - 1) (omega (arith, h)) (omega (arith, l, h, p))
          (⊎_elim (λ m. inl (omega (arith, m, p))) (λ m. inr (omega (arith, m.0), omega (arith, m.1, h, p))) w))
          (pair-ladder task (x - 1) (y - 1));
      two = λ n.
          by-eq f.a f.b
          (λ same.
          let code : pair_code task f.a f.a ≡ pair_code task f.a f.b = ap (pair_code task f.a) same in
          ⊎_elim (λ z. absurd (f.faulty (sym code ∙ z))) (λ z. absurd (n (sym code ∙ z))) (self-number task f.a))
          (λ differ. omega (arith, f.ordered, differ));
    }
