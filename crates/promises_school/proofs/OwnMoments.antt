-- Lines one after the other: how often a start or an end is said, and what is known after them.
use Prim.Native.Nat.{ℕ, suc, ◌+◌}
use native.Mathlib.Omega.{arith}
use mathlib.Core.Path.{◌≡◌, refl, sym, ap, ◌∙◌}
use mathlib.Core.Logic.{◌≢◌}
use mathlib.Core.Bool.{Bool}
use mathlib.Core.List.{List, [], ◌∷◌, ◌++◌}
use Rattle.laws.proofs.Cases.{by_bool}
use Rattle.school.specs.Tasks.{how_many, first_of}
use Rattle.school.specs.Said.{LogLine}

module _ (p : LogLine → Bool) where
  pub many-append : (l m : List LogLine) → how_many p (l ++ m) ≡ how_many p l + how_many p m
  unfolding how_many
  many-append [] m = omega arith
  many-append (said ∷ l) m = let e = many-append l m in omega arith

  pub first-later : (l m : List LogLine) → how_many p l ≡ 0 → first_of p (l ++ m) ≡ first_of p m
  unfolding how_many first_of
  first-later [] m z = refl
  first-later (said ∷ l) m z =
      by_bool (p said)
      (λ e. let y : 1 + how_many p l ≡ 0 = rw e at z in absurd (omega arith))
      (λ e. let y : 0 + how_many p l ≡ 0 = rw e at z in rw e (first-later l m (omega arith)))

  pub first-here : (l m : List LogLine) → how_many p l ≢ 0 → first_of p (l ++ m) ≡ first_of p l
  unfolding how_many first_of
  first-here [] m n = absurd (n refl)
  first-here (said ∷ l) m n =
      by_bool (p said) (λ e. rw e) (λ e. let y : 0 + how_many p l ≢ 0 = rw e at n in rw e (first-here l m (λ z. y (omega arith))))

-- what is known of a moment before and after some lines: 0 for nothing, or the tick and 1; a line says it where it becomes known
pub data Moment (p : LogLine → Bool) (board : ℕ) (lines : List LogLine) (old new : ℕ) : Type 0 where
  same : new ≡ old → how_many p lines ≡ 0 → Moment p board lines old new
  said :
      (tick : ℕ) → old ≡ 0 → new ≡ suc tick → how_many p lines ≡ 1 → (first_of p lines).board ≡ board → (first_of p lines).tick ≡ tick
      → Moment p board lines old new

pub moment-append :
    (p : LogLine → Bool) (board : ℕ) (l m : List LogLine) (x y z : ℕ) → Moment p board l x y → Moment p board m y z → Moment p board (l ++ m) x z
moment-append p board l m x y z (Moment.same e n) (Moment.same e' n') =
    Moment.same (e' ∙ e) (let q = many-append p l m in omega arith)
moment-append p board l m x y z (Moment.same e n) (Moment.said tick o k h b t) =
    let f = first-later p l m n in
    Moment.said tick (sym e ∙ o) k (let q = many-append p l m in omega arith)
    (ap (λ (s : LogLine). s.board) f ∙ b) (ap (λ (s : LogLine). s.tick) f ∙ t)
moment-append p board l m x y z (Moment.said tick o k h b t) (Moment.same e n) =
    let f = first-here p l m (omega arith) in
    Moment.said tick o (e ∙ k) (let q = many-append p l m in omega arith)
    (ap (λ (s : LogLine). s.board) f ∙ b) (ap (λ (s : LogLine). s.tick) f ∙ t)
moment-append p board l m x y z (Moment.said tick o k h b t) (Moment.said tick' o' k' h' b' t') = absurd (omega arith)

-- what is known after a moment that was known stays
pub moment-stays : (p : LogLine → Bool) (board : ℕ) (l : List LogLine) (x y tick : ℕ) → Moment p board l x y → x ≡ suc tick → y ≡ suc tick
moment-stays p board l x y tick (Moment.same e n) q = e ∙ q
moment-stays p board l x y tick (Moment.said t o k h b s) q = absurd (omega arith)
