-- Nothing is kept from a place on, place by place; and a list laid out anew from its places.
use Prim.Native.Nat.{ℕ, ◌+◌, ◌-◌, ◌<◌, ◌≤◌}
use native.Mathlib.Omega.{arith}
use mathlib.Core.Bool.{true}
use mathlib.Core.List.{List}
use mathlib.Core.Path.{◌≡◌, sym, ap, ◌∙◌}
use lib.Dec.{eqb}
use lib.ListN.{length, get_or, drop, length-drop, get_or-eq_default}
use lib.Seq.{get_or-drop}
use borrow.Author.Tests.{eq-eqb, eqb-true}
use Rattle.laws.proofs.Cases.{by_le}
use Rattle.laws.proofs.Lists.{all-at, all-of}
use Rattle.plan.specs.Value.{at, blank_from}

pub blank-at : (n : ℕ) (l : List ℕ) → blank_from n l ≡ true → (j : ℕ) → n ≤ j → at l j ≡ 0
unfolding blank_from
blank-at n l h j le =
    by_le (length l) j
    (λ q. get_or-eq_default l 0 {n = j} q)
    (λ q.
    let i : j - n < length (drop n l) = simp length-drop (omega arith) in
    let e : n + (j - n) ≡ j = omega arith in
    let z = eqb-true 0 _ (all-at (eqb 0) (drop n l) h (j - n) 0 i) in
    sym (z ∙ get_or-drop n l (j - n) 0 ∙ ap (at l) e))

pub blank_of : (n : ℕ) (l : List ℕ) → ((j : ℕ) → n ≤ j → at l j ≡ 0) → blank_from n l ≡ true
unfolding blank_from
blank_of n l f =
    all-of (eqb 0) (drop n l) 0
    (λ i h. eq-eqb 0 (get_or (drop n l) i 0) (sym (get_or-drop n l i 0 ∙ f (n + i) (omega arith))))
