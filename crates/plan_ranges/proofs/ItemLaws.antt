-- Walking a list: nothing is kept from a place on, and its items rise.
use Prim.Native.Nat.{ℕ, ◌+◌, ◌≤◌, ◌<◌}
use mathlib.Core.Path.{◌≡◌, refl, sym, ◌∙◌}
use mathlib.Core.Bool.{Bool, true, false, ◌&&◌}
use mathlib.Core.List.{List}
use lib.ListN.{length, get_or, drop}
use lib.Dec.{eqb, ltb, leb}
use borrow.Author.Tests.{eq-eqb, ne_eqb}
use Rattle.laws.proofs.Cases.{by-eq}
use Rattle.laws.specs.Lists.{all_of}
use Rattle.laws.specs.Private.Rise.{rises_from}
use Rattle.laws.proofs.Lists.{all-turn, all_end}
use Rattle.laws.specs.Split.{before}
use Rattle.laws.proofs.Split.{before_here, before-next, before-end}
use Rattle.plan.specs.Value.{blank_from}

-- nothing is kept from a place on: what is gathered so far and the rest make the whole
abbrev pub BlankRest : List ℕ → ℕ → ℕ → Bool → Type 0
BlankRest l n i all = (all && all_of (eqb 0) (drop i l)) ≡ blank_from n l

pub blank-start : (l : List ℕ) (n : ℕ) → BlankRest l n n true
unfolding blank_from
blank-start l n = refl

module _ (l : List ℕ) (n i : ℕ) (all : Bool) (rest : BlankRest l n i all) where
  pub blank_turn : i < length l → BlankRest l n (i + 1) (eqb (get_or l i 0) 0 && all)
  blank_turn h = rw (eqb_swap (get_or l i 0) 0) (gather all (eqb 0 (get_or l i 0)) _ ∙ rw (all-turn (eqb 0) l i 0 h) at rest)
    where
      gather : (a x r : Bool) → ((x && a) && r) ≡ (a && (x && r))
      gather true true r = refl
      gather true false r = refl
      gather false true r = refl
      gather false false r = refl

      eqb_swap : (x y : ℕ) → eqb x y ≡ eqb y x
      eqb_swap x y = by-eq x y (λ e. eq-eqb x y e ∙ sym (eq-eqb y x (sym e))) (λ n. ne_eqb x y n ∙ sym (ne_eqb y x (λ e. n (sym e))))

  pub blank-out : length l ≤ i → all ≡ blank_from n l
  blank-out h = go all ∙ rw (all_end (eqb 0) l i h) at rest
    where
      go : (a : Bool) → a ≡ (a && true)
      go true = refl
      go false = refl

-- the items rise: the four ways of a turn
module _ (key : ℕ → ℕ) (high : ℕ) (l : List ℕ) (last i : ℕ) {x : Bool} (rest : rises_from key high last (before 0 (drop i l)) ≡ x) where
  pub rise-stop : i < length l → get_or l i 0 ≡ 0 → true ≡ x
  unfolding rises_from
  rise-stop h e = rw (before_here 0 l i h e) at rest

  pub rise-out : length l ≤ i → true ≡ x
  unfolding rises_from
  rise-out h = rw (before-end 0 l i h) at rest

  module _ (h : i < length l) (n : get_or l i 0 ≡ 0 → ⊥) {k : ℕ} (q : k ≡ key (get_or l i 0)) where
    pub rise-fail : (ltb last k && leb k high) ≡ false → false ≡ x
    unfolding rises_from
    rise-fail e =
        let f : (ltb last (key (get_or l i 0)) && leb (key (get_or l i 0)) high) ≡ false = rw q at e in
        rw (before-next 0 l i h n, f) at rest

    pub rise-pass : (ltb last k && leb k high) ≡ true → rises_from key high k (before 0 (drop (i + 1) l)) ≡ x
    unfolding rises_from
    rise-pass e =
        let t : (ltb last (key (get_or l i 0)) && leb (key (get_or l i 0)) high) ≡ true = rw q at e in
        rw q (rw (before-next 0 l i h n, t) at rest)
