-- A list field is the one spelling of its items: to the text and back.
use Prim.Native.Nat.{ℕ, ◌+◌, ◌*◌, ◌/◌, ◌%◌, ◌<◌}
use mathlib.Core.Path.{◌≡◌, refl, sym, ap, ◌∙◌}
use mathlib.Core.Bool.{Bool, true, false, not, ◌||◌}
use mathlib.Core.List.{List, [], ◌∷◌, map}
use mathlib.Core.Logic.{⊎_elim}
use native.Mathlib.Omega.{arith}
use lib.Dec.{eqb}
use borrow.Author.Tests.{ne_eqb, eqb-true, eqb-false}
use Rattle.laws.proofs.Cases.{by_bool, and_l, and_r, and-of, or_at, or_l, or_r, true-false}
use Rattle.laws.specs.Lists.{all_of, same}
use Rattle.laws.proofs.Lists.{all_append, same-eq, same_refl}
use Rattle.laws.specs.Split.{split_on, join_on}
use Rattle.laws.proofs.Split.{free, join-split, split-join}
use Rattle.laws.specs.Digits.{digits_of}
use Rattle.laws.proofs.Digits.{value-digits}
use Rattle.text.specs.Number.{is_number, value_of}
use Rattle.text_fields.specs.Items.{COMMA, NONE, is_list, list_of, list_text, is_hold, hold_of, hold_text, is_shared}
use Rattle.text_fields.proofs.ListFields.{is_holds, holds_of, holds_text, is_after, after_of, after_text}
use Rattle.text.proofs.Parts.{First, first, first_part}
use Rattle.text.proofs.Numerals.{number-spelt, digits_number, digits-free}

-- ---- joined parts are free of what each is free of

not-eq : (b c : ℕ) → (b ≡ c → ⊥) → not (eqb b c) ≡ true
not-eq b c h = rw (ne_eqb b c h)

pub free-join :
    (c sep : ℕ) (parts : List (List ℕ)) → (sep ≡ c → ⊥) → all_of (free c) parts ≡ true → free c (join_on sep parts) ≡ true
unfolding join_on all_of
free-join c sep [] h a = refl
free-join c sep (f ∷ []) h a = and_l (free c f) true a
free-join c sep (f ∷ g ∷ fs) h a =
    all_append (λ b. not (eqb b c)) f (sep ∷ join_on sep (g ∷ fs))
    ∙ and-of (and_l (free c f) (all_of (free c) (g ∷ fs)) a)
    (and-of (not-eq sep c h) (free-join c sep (g ∷ fs) h (and_r (free c f) (all_of (free c) (g ∷ fs)) a)))

-- ---- any list field whose items have one spelling each

module _
    (is_item : List ℕ → Bool) (item : List ℕ → ℕ) (text : ℕ → List ℕ)
    (spelt : (s : List ℕ) → is_item s ≡ true → text (item s) ≡ s)
    (sound : (x : ℕ) → is_item (text x) ≡ true)
    (back : (x : ℕ) → item (text x) ≡ x)
    (frees : (c x : ℕ) → c < 48 → free c (text x) ≡ true)
  where
    all-spelt : (fs : List (List ℕ)) → all_of is_item fs ≡ true → map text (map item fs) ≡ fs
    unfolding all_of
    all-spelt [] h = refl
    all-spelt (f ∷ fs) h =
        let a = spelt f (and_l (is_item f) (all_of is_item fs) h) in
        let b = all-spelt fs (and_r (is_item f) (all_of is_item fs) h) in
        cc

    all_sound : (l : List ℕ) → all_of is_item (map text l) ≡ true
    unfolding all_of
    all_sound [] = refl
    all_sound (x ∷ l) = and-of (sound x) (all_sound l)

    all_back : (l : List ℕ) → map item (map text l) ≡ l
    all_back [] = refl
    all_back (x ∷ l) = let a = back x in let b = all_back l in cc

    all-free : (c : ℕ) (l : List ℕ) → c < 48 → all_of (free c) (map text l) ≡ true
    unfolding all_of
    all-free c [] h = refl
    all-free c (x ∷ l) h = and-of (frees c x h) (all-free c l h)

    text_of : (l : List (List ℕ)) (f : List ℕ) (fs : List (List ℕ)) → l ≡ f ∷ fs → list_text text (map item l) ≡ join_on COMMA (map text (map item l))
    unfolding list_text
    text_of l f fs e = rw e

    pub list-spelt : (s : List ℕ) → is_list is_item s ≡ true → list_text text (list_of item s) ≡ s
    unfolding is_list list_of list_text
    list-spelt s h =
        by_bool (same s NONE)
        (λ e. rw e (sym (same-eq s NONE e)))
        (λ e. rw e (go (rw e at h) (first_part COMMA s)))
      where
        go : all_of is_item (split_on COMMA s) ≡ true → First COMMA s → list_text text (map item (split_on COMMA s)) ≡ s
        go a (first later f) =
            text_of (split_on COMMA s) _ later f
            ∙ ap (join_on COMMA) (all-spelt (split_on COMMA s) a)
            ∙ join-split COMMA s

    -- no list but the empty one is written as the mark
    marked : (s : List ℕ) → free 45 s ≡ true → same s NONE ≡ false
    unfolding all_of
    marked s h =
        by_bool (same s NONE)
        (λ e. let q : s ≡ NONE = same-eq s NONE e in true-false (ap (free 45) (sym q) ∙ h) refl)
        (λ e. e)

    pub list_back : (l : List ℕ) → (is_list is_item (list_text text l) ≡ true) × (list_of item (list_text text l) ≡ l)
    unfolding is_list list_of list_text
    list_back [] = (or_l (all_of is_item (split_on COMMA NONE)) (same_refl NONE), rw (same_refl NONE))
    list_back (x ∷ l) =
        let m = marked (join_on COMMA (map text (x ∷ l))) (free-join 45 COMMA (map text (x ∷ l)) (λ e. omega arith) (all-free 45 (x ∷ l) (omega arith))) in
        let j = split-join COMMA (text x) (map text l) (all-free COMMA (x ∷ l) (omega arith)) in (
          or_r (same (join_on COMMA (map text (x ∷ l))) NONE) (ap (all_of is_item) j ∙ all_sound (x ∷ l)),
          rw m (ap (map item) j ∙ all_back (x ∷ l)),
        )

    -- TAB and LF do not stand in it
    pub list-free : (c : ℕ) (l : List ℕ) → c < 44 → free c (list_text text l) ≡ true
    unfolding list_text all_of
    list-free c [] h = and-of (not-eq 45 c (λ e. omega arith)) refl
    list-free c (x ∷ l) h = free-join c COMMA (map text (x ∷ l)) (λ e. omega arith) (all-free c (x ∷ l) (omega arith))

-- ---- the holds

pub hold-spelt : (s : List ℕ) → is_hold s ≡ true → hold_text (hold_of s) ≡ s
unfolding is_hold hold_of
hold-spelt [] h = true-false h refl
hold-spelt (b ∷ s) h =
    let n = number-spelt s (and_r (eqb b 101 || eqb b 115) (is_number s) h) in
    by_bool (eqb b 115)
    (λ e. rw e (shared (value_of s) b s (eqb-true b 115 e) n))
    (λ e. rw e (alone (value_of s) b s (eqb-true b 101 (letter e)) n))
  where
    letter : eqb b 115 ≡ false → eqb b 101 ≡ true
    letter e =
        ⊎_elim (λ q. q) (λ q. true-false q e)
        (or_at (eqb b 101) (eqb b 115) (and_l (eqb b 101 || eqb b 115) (is_number s) h))

    shared : (v b : ℕ) (s : List ℕ) → b ≡ 115 → digits_of v ≡ s → hold_text (v * 2 + 1) ≡ b ∷ s
    shared v b s e n =
        let r : (v * 2 + 1) % 2 ≡ 1 = omega arith in
        let d : (v * 2 + 1) / 2 ≡ v = omega arith in
        rw (r, d, n, e)

    alone : (v b : ℕ) (s : List ℕ) → b ≡ 101 → digits_of v ≡ s → hold_text (v * 2 + 0) ≡ b ∷ s
    alone v b s e n =
        let r : (v * 2 + 0) % 2 ≡ 0 = omega arith in
        let d : (v * 2 + 0) / 2 ≡ v = omega arith in
        rw (r, d, n, e)

pub hold-sound : (x : ℕ) → is_hold (hold_text x) ≡ true
unfolding is_hold
hold-sound x =
    by_bool (is_shared x) (λ e. rw e (digits_number (x / 2))) (λ e. rw e (digits_number (x / 2)))

pub hold-back : (x : ℕ) → hold_of (hold_text x) ≡ x
unfolding hold_of
hold-back x =
    by_bool (is_shared x)
    (λ e. let r = eqb-true (x % 2) 1 e in rw (e, value-digits) (omega arith))
    (λ e. let r = eqb-false (x % 2) 1 e in rw (e, value-digits) (omega (arith, r)))

pub hold-free : (c x : ℕ) → c < 48 → free c (hold_text x) ≡ true
unfolding all_of
hold-free c x h =
    by_bool (is_shared x)
    (λ e. rw e (and-of (not-eq 115 c (λ q. omega arith)) (digits-free c (x / 2) h)))
    (λ e. rw e (and-of (not-eq 101 c (λ q. omega arith)) (digits-free c (x / 2) h)))

pub holds-spelt : (s : List ℕ) → is_holds s ≡ true → holds_text (holds_of s) ≡ s
holds-spelt s h = list-spelt is_hold hold_of hold_text hold-spelt hold-sound hold-back hold-free s h

pub holds-back : (l : List ℕ) → (is_holds (holds_text l) ≡ true) × (holds_of (holds_text l) ≡ l)
holds-back l = list_back is_hold hold_of hold_text hold-spelt hold-sound hold-back hold-free l

pub holds-free : (c : ℕ) (l : List ℕ) → c < 44 → free c (holds_text l) ≡ true
holds-free c l h = list-free is_hold hold_of hold_text hold-spelt hold-sound hold-back hold-free c l h

-- ---- the tasks to come after

pub after-spelt : (s : List ℕ) → is_after s ≡ true → after_text (after_of s) ≡ s
after-spelt s h = list-spelt is_number value_of digits_of number-spelt digits_number value-digits digits-free s h

pub after-back : (l : List ℕ) → (is_after (after_text l) ≡ true) × (after_of (after_text l) ≡ l)
after-back l = list_back is_number value_of digits_of number-spelt digits_number value-digits digits-free l

pub after_free : (c : ℕ) (l : List ℕ) → c < 44 → free c (after_text l) ≡ true
after_free c l h = list-free is_number value_of digits_of number-spelt digits_number value-digits digits-free c l h
