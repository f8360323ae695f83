-- A number of each board: its place, and all of them added up; and the figures of each board, which are those of some tasks.
use Prim.Native.Nat.{ℕ, zero, suc, ◌+◌, ◌-◌, ◌≤◌, ◌<◌}
use mathlib.Core.Path.{◌≡◌, refl, ap, ◌∙◌}
use mathlib.Core.Bool.{true, cond}
use mathlib.Core.List.{List, [], ◌∷◌}
use native.Mathlib.Omega.{arith}
use native.Mathlib.Numerals.{add-one}
use lib.Dec.{eqb, leb}
use lib.ListN.{length, replicate, length-replicate}
use borrow.Author.Tests.{eq-eqb, ne_eqb, le-leb}
use Rattle.laws.specs.Each.{each}
use Rattle.laws.specs.Lists.{all_of}
use Rattle.laws.proofs.Cases.{by_bool, by-eq, by_le, and-of}
use Rattle.laws.proofs.Each.{each_below, length-each}
use Rattle.laws.proofs.Rows.{each_same}
use Rattle.plan.specs.Value.{at}
use Rattle.year_rules.specs.Figures.{figures_on, sum_of}
use Rattle.year_rules.specs.Totals.{boards}

pub boards-at : (f : ℕ → ℕ) (b : ℕ) → b < 8 → at (boards f) b ≡ f b
unfolding boards
boards-at f b h = each_below 8 f (replicate 8 0) b 0 h (omega (arith, length-replicate {A = ℕ} 8 0))

pub length-boards : (f : ℕ → ℕ) → length (boards f) ≡ 8
unfolding boards
length-boards f = length-each 8 f (replicate 8 0) ∙ length-replicate {A = ℕ} 8 0

pub boards-same : (f g : ℕ → ℕ) → ((b : ℕ) → b < 8 → f b ≡ g b) → boards f ≡ boards g
unfolding boards
boards-same f g e = each_same 8 f g (replicate 8 0) e

-- f 0 + f 1 + .. , n of them
unfoldable pub add_to : ℕ → (ℕ → ℕ) → ℕ
add_to zero f = 0
add_to (suc n) f = f 0 + add_to n (λ i. f (suc i))

pub boards-sum : (f : ℕ → ℕ) → sum_of (boards f) ≡ add_to 8 f
unfolding boards each sum_of add_to
boards-sum f = refl

pub add_same : (n : ℕ) (f g : ℕ → ℕ) → ((i : ℕ) → i < n → f i ≡ g i) → add_to n f ≡ add_to n g
unfolding add_to
add_same zero f g e = refl
add_same (suc n) f g e = rw (e 0 (omega arith), add_same n (λ i. f (suc i)) (λ i. g (suc i)) (λ i h. e (suc i) (omega arith)))

pub add-plus : (n : ℕ) (f g : ℕ → ℕ) → add_to n (λ i. f i + g i) ≡ add_to n f + add_to n g
unfolding add_to
add-plus zero f g = refl
add-plus (suc n) f g = rw (add-plus n (λ i. f (suc i)) (λ i. g (suc i))) (omega arith)

pub add-last : (n : ℕ) (f : ℕ → ℕ) → add_to (suc n) f ≡ add_to n f + f n
unfolding add_to
add-last zero f = omega arith
add-last (suc n) f = let r = add-last n (λ i. f (suc i)) in omega arith

pub add_none : (n : ℕ) (f : ℕ → ℕ) → ((i : ℕ) → i < n → f i ≡ 0) → add_to n f ≡ 0
unfolding add_to
add_none zero f e = refl
add_none (suc n) f e = rw (e 0 (omega arith), add_none n (λ i. f (suc i)) (λ i h. e (suc i) (omega arith)))

-- the first places of a list come to at most the whole
pub add-within : (n : ℕ) (l : List ℕ) → add_to n (at l) ≤ sum_of l
unfolding add_to sum_of
add-within zero l = omega arith
add-within (suc n) [] = let z = add_none n (λ i. 0) (λ i h. refl) in omega arith
add-within (suc n) (x ∷ l) = let r = add-within n l in omega arith

-- v where x is one of the n numbers from c on, added once; else nothing
pub none-there :
    (n c x v : ℕ) → ((i : ℕ) → i < n → x ≡ i + c → ⊥) → add_to n (λ i. cond (eqb x (i + c)) v 0) ≡ 0
none-there n c x v f = add_none n (λ i. cond (eqb x (i + c)) v 0) (λ i h. rw (ne_eqb x (i + c) (f i h)))

pub one-there : (n c x v : ℕ) → c ≤ x → x < c + n → add_to n (λ i. cond (eqb x (i + c)) v 0) ≡ v
unfolding add_to
one-there zero c x v h k = absurd (omega arith)
one-there (suc n) c x v h k =
    let next : ℕ → ℕ = λ i. cond (eqb x (i + suc c)) v 0 in
    let s = add_same n (λ i. cond (eqb x (suc i + c)) v 0) next (λ i g. let e : suc i + c ≡ i + suc c = omega arith in rw e) in
    by-eq x c
    (λ e.
    let z = none-there n (suc c) x v (λ i g q. omega arith) in
    rw (s, eq-eqb x (0 + c) (omega arith)) (omega arith))
    (λ ne.
    let r = one-there n (suc c) x v (omega arith) (omega arith) in
    rw (s, ne_eqb x (0 + c) (λ q. ne (omega arith))) (omega arith))

one_at_most : (n c x : ℕ) → add_to n (λ i. cond (eqb x (i + c)) 1 0) ≤ 1
one_at_most n c x =
    by_le c x
    (λ h.
    by_le (c + n) x
    (λ g. let z = none-there n c x 1 (λ i k q. omega arith) in omega arith)
    (λ g. let r = one-there n c x 1 h g in omega arith))
    (λ h. let z = none-there n c x 1 (λ i k q. omega arith) in omega arith)

-- ---- the figures of a board

module _ (number : ℕ) (board finish end : List ℕ) where
  pub figures-none : figures_on number board finish end 0 ≡ []
  unfolding figures_on
  figures-none = refl

  pub figures-here :
      (n : ℕ) → at board n ≡ number
      → figures_on number board finish end (n + 1) ≡ (at finish n - at end n) ∷ figures_on number board finish end n
  unfolding figures_on
  figures-here n e = rw (add-one, eq-eqb (at board n) number e)

  pub figures-there : (n : ℕ) → (at board n ≡ number → ⊥) → figures_on number board finish end (n + 1) ≡ figures_on number board finish end n
  unfolding figures_on
  figures-there n e = rw (add-one, ne_eqb (at board n) number e)

  pub figures-bound :
      (m n : ℕ) → ((i : ℕ) → i < n → at finish i ≤ m) → all_of (λ x. leb x m) (figures_on number board finish end n) ≡ true
  unfolding figures_on all_of
  figures-bound m zero h = refl
  figures-bound m (suc n) h =
      let r = figures-bound m n (λ i k. h i (omega arith)) in
      let q = h n (omega arith) in
      by_bool (eqb (at board n) number)
      (λ e. rw e (and-of (le-leb (at finish n - at end n) m (omega arith)) r))
      (λ e. rw e r)

  pub figures-length :
      (n : ℕ) → length (figures_on number board finish end (suc n)) ≡ cond (eqb (at board n) number) 1 0 + length (figures_on number board finish end n)
  unfolding figures_on
  figures-length n = by_bool (eqb (at board n) number) (λ e. rw e (omega arith)) (λ e. rw e (omega arith))

-- a task stands on one board, so all boards' figures are no more than the tasks
pub figures-few : (board finish end : List ℕ) (n : ℕ) → add_to 8 (λ b. length (figures_on (b + 1) board finish end n)) ≤ n
figures-few board finish end zero =
    let z =
    add_none 8 (λ b. length (figures_on (b + 1) board finish end 0)) (λ b h. ap length (figures-none (b + 1) board finish end)) in
    omega arith
figures-few board finish end (suc n) =
    let here : ℕ → ℕ = λ b. cond (eqb (at board n) (b + 1)) 1 0 in
    let below : ℕ → ℕ = λ b. length (figures_on (b + 1) board finish end n) in
    let r = figures-few board finish end n in
    let s =
    add_same 8 (λ b. length (figures_on (b + 1) board finish end (suc n))) (λ b. here b + below b)
    (λ b h. figures-length (b + 1) board finish end n) in
    let p = add-plus 8 here below in
    let o = one_at_most 8 1 (at board n) in
    omega arith
