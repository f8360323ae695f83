-- Shared holds: a list gathered for them, and a list in which each is made exclusive.
use Prim.Native.Nat.{ℕ, zero, suc, ◌+◌, ◌-◌, ◌%◌, ◌≤◌, ◌<◌}
use mathlib.Core.Path.{◌≡◌, refl, sym, ap, ◌∙◌}
use mathlib.Core.Bool.{Bool, true, false, ◌&&◌, ◌||◌}
use mathlib.Core.List.{List, [], ◌∷◌, ◌++◌, map}
use native.Mathlib.Omega.{arith}
use native.Mathlib.Numerals.{add-one}
use lib.ListN.{length, get_or, drop, set, replicate}
use lib.Seq.{sets}
use borrow.Author.Tests.{eqb-false, ne_eqb}
use Rattle.laws.proofs.Cases.{or_no, or-false}
use Rattle.laws.specs.Lists.{all_of, any_of, rising}
use Rattle.laws.proofs.Lists.{gather-turn, gather-end, any_append}
use Rattle.text_fields.specs.Items.{between, drive_of, is_shared, has_shared, exclusive, holds_ok}
use Rattle.text_fields.proofs.Answers.{items_kept}

-- one was seen, or stands in the rest
pub record SharedRest (l : List ℕ) (i : ℕ) (seen : Bool) : Type 0 where
  pub rest : (seen || any_of is_shared (drop i l)) ≡ has_shared l

pub shared_start : (l : List ℕ) → SharedRest l 0 false
unfolding has_shared
shared_start l = record { rest = refl }

module _ (l : List ℕ) (i : ℕ) (seen : Bool) (q : SharedRest l i seen) where
  pub shared-turn : i < length l → SharedRest l (i + 1) (seen || is_shared (get_or l i 0))
  shared-turn h = record {
    rest = ap (λ (b : Bool). b || any_of is_shared (drop (i + 1) l)) (swapped seen (is_shared (get_or l i 0))) ∙ gather-turn is_shared l i seen q.rest 0 h;
  }
    where
      swapped : (a b : Bool) → (a || b) ≡ (b || a)
      swapped true true = refl
      swapped true false = refl
      swapped false true = refl
      swapped false false = refl

  pub shared-out : length l ≤ i → seen ≡ has_shared l
  shared-out h = gather-end is_shared l i seen q.rest h

-- no place that keeps nothing is shared
no_shared : (n : ℕ) → any_of is_shared (replicate n 0) ≡ false
unfolding any_of
no_shared zero = refl
no_shared (suc n) = no_shared n

pub shared-blank : (l : List ℕ) (n : ℕ) → has_shared (l ++ replicate n 0) ≡ has_shared l
unfolding has_shared
shared-blank l n = any_append is_shared l (replicate n 0) ∙ rw (no_shared n) (or-false (any_of is_shared l))

pub shared_kept : (l : List ℕ) → length l ≤ 64 → has_shared (sets (replicate 64 0) 0 l) ≡ has_shared l
shared_kept l h = ap has_shared (items_kept l h) ∙ shared-blank l (64 - length l)

-- ---- each hold made exclusive

pub exclusive-drive : (h : ℕ) → drive_of (exclusive h) ≡ drive_of h
exclusive-drive h = omega arith

-- what is exclusive stays
pub exclusive-own : (h : ℕ) → is_shared h ≡ false → exclusive h ≡ h
exclusive-own h e = let n = eqb-false (h % 2) 1 e in omega arith

pub none-shared : (l : List ℕ) → has_shared (map exclusive l) ≡ false
unfolding has_shared any_of
none-shared [] = refl
none-shared (h ∷ l) = let e : is_shared (exclusive h) ≡ false = ne_eqb (exclusive h % 2) 1 (λ z. omega arith) in rw e (none-shared l)

pub unshared-own : (l : List ℕ) → has_shared l ≡ false → map exclusive l ≡ l
unfolding has_shared any_of
unshared-own [] e = refl
unshared-own (h ∷ l) e =
    let n = or_no (is_shared h) (any_of is_shared l) e in
    let x = exclusive-own h n.0 in
    let y = unshared-own l n.1 in
    λ i. x i ∷ y i

-- its drives are the same
pub exclusive-fine : (l : List ℕ) → holds_ok (map exclusive l) ≡ holds_ok l
unfolding holds_ok all_of rising
exclusive-fine l = λ i. all l i && rise l i
  where
    all : (l : List ℕ) → all_of (λ h. between 1 32 (drive_of h)) (map exclusive l) ≡ all_of (λ h. between 1 32 (drive_of h)) l
    all [] = refl
    all (h ∷ l) = rw (exclusive-drive h, all l)

    rise : (l : List ℕ) → rising drive_of (map exclusive l) ≡ rising drive_of l
    rise [] = refl
    rise (h ∷ []) = refl
    rise (h ∷ k ∷ l) = rw (exclusive-drive h, exclusive-drive k, rise (k ∷ l))

pub length-map : (l : List ℕ) → length (map exclusive l) ≡ length l
length-map [] = refl
length-map (h ∷ l) = ap suc (length-map l)

map-blank : (l : List ℕ) (n : ℕ) → map exclusive (l ++ replicate n 0) ≡ map exclusive l ++ replicate n 0
map-blank [] zero = refl
map-blank [] (suc n) = ap (λ (r : List ℕ). 0 ∷ r) (map-blank [] n)
map-blank (h ∷ l) n = ap (λ (r : List ℕ). exclusive h ∷ r) (map-blank l n)

pub exclusive-kept : (l : List ℕ) → length l ≤ 64 → map exclusive (sets (replicate 64 0) 0 l) ≡ sets (replicate 64 0) 0 (map exclusive l)
exclusive-kept l h =
    ap (map exclusive) (items_kept l h) ∙ map-blank l (64 - length l)
    ∙ ap (λ (n : ℕ). map exclusive l ++ replicate (64 - n) 0) (sym (length-map l))
    ∙ sym (items_kept (map exclusive l) (omega (arith, length-map l)))

-- the first i holds made exclusive
unfoldable pub front_made : ℕ → List ℕ → List ℕ
front_made zero l = l
front_made (suc i) [] = []
front_made (suc i) (h ∷ l) = exclusive h ∷ front_made i l

pub made-start : (l : List ℕ) → l ≡ front_made 0 l
unfolding front_made
made-start l = refl

made-length : (i : ℕ) (l : List ℕ) → length (front_made i l) ≡ length l
unfolding front_made
made-length zero l = refl
made-length (suc i) [] = refl
made-length (suc i) (h ∷ l) = ap suc (made-length i l)

made-next : (i : ℕ) (l : List ℕ) → i < length l → set (front_made i l) i (exclusive (get_or (front_made i l) i 0)) ≡ front_made (suc i) l
unfolding front_made
made-next i [] h = absurd (omega arith)
made-next zero (x ∷ l) h = refl
made-next (suc i) (x ∷ l) h = ap (λ (r : List ℕ). exclusive x ∷ r) (made-next i l (omega arith))

pub made_again :
    (l : List ℕ) (i : ℕ) {now : List ℕ} {x : ℕ} → now ≡ front_made i l → i < length now → x ≡ exclusive (get_or now i 0)
    → set now i x ≡ front_made (i + 1) l
made_again l i e h q =
    let size = ap length e ∙ made-length i l in
    rw (q, e, add-one) (made-next i l (omega (arith, size)))

pub made-end : (l : List ℕ) (i : ℕ) {now : List ℕ} → now ≡ front_made i l → i ≡ length l → now ≡ map exclusive l
unfolding front_made
made-end l i e z = e ∙ ap (λ (n : ℕ). front_made n l) z ∙ whole l
  where
    whole : (l : List ℕ) → front_made (length l) l ≡ map exclusive l
    whole [] = refl
    whole (h ∷ l) = ap (λ (r : List ℕ). exclusive h ∷ r) (whole l)
