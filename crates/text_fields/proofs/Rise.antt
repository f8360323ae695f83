-- The readers of list fields: where a misspelt list stops, and a list that rises, item by item.
use Prim.Native.Nat.{ℕ, zero, suc, ◌+◌, ◌-◌, ◌≤◌, ◌<◌, min}
use mathlib.Core.Path.{◌≡◌, refl, sym, ap, ◌∙◌}
use mathlib.Core.Logic.{⊎_elim}
use mathlib.Core.Bool.{Bool, true, false, cond, ◌&&◌, ◌||◌}
use mathlib.Core.List.{List, [], ◌∷◌, map}
use native.Mathlib.Omega.{arith}
use native.Mathlib.Numerals.{add-one}
use lib.ListN.{length, set, replicate, length-drop}
use lib.Seq.{sets}
use lib.Dec.{leb, ltb}
use borrow.Author.Tests.{leb-true, leb-false, ltb-true, ltb-false, le-leb, lt-leb, lt-ltb, le-ltb}
use Rattle.laws.proofs.Cases.{by_bool, by-eq, and_l, and_r, or_at, or_l, or_r, true-false}
use Rattle.laws.specs.Lists.{all_of, first_not, rising, same}
use Rattle.laws.specs.Private.Rise.{rises_from}
use Rattle.laws.proofs.Rise.{rises-is}
use Rattle.laws.specs.Split.{index_of, skip_on, split_on, before, after}
use Rattle.laws.proofs.Split.{index-le, begin-first, begin-next}
use Rattle.text.specs.Number.{is_number, value_of, number_stop}
use Rattle.text_fields.specs.Items.{Items, COMMA, NONE, between, is_list, list_of, hold_stop, list_stop, no_items, items_of, holds_ok, holds_read, after_ok, after_read}
use Rattle.text_fields.proofs.ListFields.{is_after, after_of}
use Rattle.text_fields.specs.Private.Lettered.{is_item, item_of, item_stop, digits_in, key_of, list_ok, parts_stop, items_read, list_read}
use Rattle.text_fields.proofs.ItemLaws.{key-item}
use Rattle.text.proofs.Parts.{part_length, parts_last, parts_more, after_less, First, first, first_part}

-- ---- a list that rises from a key, up to a highest

module _ (key : ℕ → ℕ) (high : ℕ) where
  rises-count : (last : ℕ) (l : List ℕ) → rises_from key high last l ≡ true → last ≤ high → last + length l ≤ high
  unfolding rises_from
  rises-count last [] h g = omega arith
  rises-count last (x ∷ l) h g =
      let a = and_l (ltb last (key x) && leb (key x) high) (rises_from key high (key x) l) h in
      let low = ltb-true last (key x) (and_l (ltb last (key x)) (leb (key x) high) a) in
      let top = leb-true (key x) high (and_r (ltb last (key x)) (leb (key x) high) a) in
      let r = rises-count (key x) l (and_r (ltb last (key x) && leb (key x) high) (rises_from key high (key x) l) h) top in
      omega arith

  -- so there are no more of them than numbers
  pub fine-count : (l : List ℕ) → (all_of (λ x. between 1 high (key x)) l && rising key l) ≡ true → length l ≤ high
  fine-count l h = let r = rises-count 0 l (sym (rises-is key high l) ∙ h) (omega arith) in omega arith

  rises_next : (last x k : ℕ) (l : List ℕ) → key x ≡ k → last < k → k ≤ high → rises_from key high last (x ∷ l) ≡ rises_from key high k l
  unfolding rises_from
  rises_next last x k l e p q = rw (e, lt-ltb last k p, le-leb k high q)

  rises-stop :
      (last x k : ℕ) (l : List ℕ) → key x ≡ k → (leb k last || ltb high k) ≡ true
      → rises_from key high last (x ∷ l) ≡ false
  unfolding rises_from
  rises-stop last x k l e t =
      rw e
      (⊎_elim
      (λ h. rw (le-ltb last k (leb-true k last h)))
      (λ h. rw (lt-leb k high (ltb-true high k h)) (no (ltb last k)))
      (or_at (leb k last) (ltb high k) t))
    where
      no : (b : Bool) → ((b && false) && rises_from key high k l) ≡ false
      no true = refl
      no false = refl

-- ---- tests of every part

module _ (p : List ℕ → Bool) (rest part : List ℕ) (x : Bool) (e : part ≡ before COMMA rest) (inv : all_of p (split_on COMMA rest) ≡ x) where
  pub parts-stop : false ≡ p part → false ≡ x
  unfolding all_of
  parts-stop f = go (first_part COMMA rest)
    where
      go : First COMMA rest → false ≡ x
      go (first later g) =
          let g' : split_on COMMA rest ≡ part ∷ later = g ∙ rw e in
          sym (ap (all_of p) g' ∙ rw (← f)) ∙ inv

  pub parts-end : true ≡ p part → length part ≡ length rest → true ≡ x
  unfolding all_of
  parts-end f g = sym (ap (all_of p) (parts_last COMMA rest part e g) ∙ rw (← f)) ∙ inv

  pub parts_next :
      (more : List ℕ) → true ≡ p part → (length part ≡ length rest → ⊥) → more ≡ after COMMA rest
      → all_of p (split_on COMMA more) ≡ x
  unfolding all_of
  parts_next more f g m = rw m (sym (ap (all_of p) (parts_more COMMA rest part e g) ∙ rw (← f)) ∙ inv)

pub first_passes : (p : List ℕ → Bool) (rest part : List ℕ) → part ≡ before COMMA rest → all_of p (split_on COMMA rest) ≡ true → p part ≡ true
first_passes p rest part e inv = by_bool (p part) (λ h. h) (λ h. true-false refl (sym (parts-stop p rest part true e inv (sym h))))

-- ---- where the first misspelt part stops

module _ (lettered : Bool) (rest part : List ℕ) (e : part ≡ before COMMA rest) where
  pub stop-here : is_item lettered part ≡ false → parts_stop lettered rest ≡ item_stop lettered part
  unfolding parts_stop first_not
  stop-here h = go (first_part COMMA rest)
    where
      go : First COMMA rest → parts_stop lettered rest ≡ item_stop lettered part
      go (first later f) =
          let g : split_on COMMA rest ≡ part ∷ later = f ∙ rw e in
          rw (g, h, begin-first COMMA rest) (omega arith)

  pub stop-next :
      is_item lettered part ≡ true → (length part ≡ length rest → ⊥) → {more : List ℕ} → more ≡ after COMMA rest
      → parts_stop lettered rest ≡ (length rest - length more) + parts_stop lettered more
  unfolding parts_stop first_not
  stop-next h n m =
      let i = part_length COMMA rest part e in
      let l = index-le COMMA rest in
      let f = parts_more COMMA rest part e n in
      let w = first_not (is_item lettered) (split_on COMMA (after COMMA rest)) in
      let b = begin-next COMMA w rest (omega (arith, i, l, n)) in
      let d = length-drop (suc (index_of COMMA rest)) rest in
      rw (m, f, h, b) (omega (arith, d, i, l, n))

  pub stop-last : is_item lettered part ≡ true → length part ≡ length rest → parts_stop lettered rest ≡ length rest
  unfolding parts_stop first_not item_stop hold_stop number_stop skip_on
  stop-last h n =
      let f = parts_last COMMA rest part e n in
      let z : length (skip_on COMMA 1 rest) ≡ 0 = omega (arith, length-drop (suc (index_of COMMA rest)) rest, part_length COMMA rest part e) in
      by_bool lettered (λ b. rw (f, h, b) (omega (arith, z))) (λ b. rw (f, h, b) (omega (arith, z)))

-- a refused list, by what is left of it
module _
    (lettered : Bool) (s rest part : List ℕ) (e : part ≡ before COMMA rest) (within : length rest ≤ length s)
    (all : all_of (is_item lettered) (split_on COMMA rest) ≡ all_of (is_item lettered) (split_on COMMA s))
    (stops : length s - length rest + parts_stop lettered rest ≡ parts_stop lettered s)
  where
    pub refused-three :
        false ≡ is_item lettered part → {stop : ℕ} → stop ≡ item_stop lettered part
        → no_items 3 (length s - length rest + stop)
        ≡ no_items (cond (all_of (is_item lettered) (split_on COMMA s)) 4 3) (parts_stop lettered s)
    refused-three n q =
        let no = sym (parts-stop (is_item lettered) rest part _ e all n) in
        let here = stop-here lettered rest part e (sym n) in
        rw (no, ← stops, here, q)

    pub refused-four :
        true ≡ is_item lettered part → length part ≡ length rest
        → no_items 4 (length s) ≡ no_items (cond (all_of (is_item lettered) (split_on COMMA s)) 4 3) (parts_stop lettered s)
    refused-four n h =
        let yes = sym (parts-end (is_item lettered) rest part _ e all n h) in
        let last = stop-last lettered rest part e (sym n) h in
        let whole : length s ≡ length s - length rest + length rest = omega arith in
        rw (yes, ← stops, last) (ap (no_items 4) whole)

    pub refused-next :
        true ≡ is_item lettered part → (length part ≡ length rest → ⊥) → {more : List ℕ} → more ≡ after COMMA rest → length more < length rest
        → length s - length more + parts_stop lettered more ≡ parts_stop lettered s
    refused-next n h m less = let next = stop-next lettered rest part e (sym n) h m in omega (arith, next, stops, within, less)

-- where every part is an item, the reader comes to the end
stop-whole : (lettered : Bool) (s : List ℕ) → all_of (is_item lettered) (split_on COMMA s) ≡ true → parts_stop lettered s ≡ length s
stop-whole lettered s a = go (suc (length s)) s (omega arith) a
  where
    go : (f : ℕ) (s : List ℕ) → length s < f → all_of (is_item lettered) (split_on COMMA s) ≡ true → parts_stop lettered s ≡ length s
    go zero s h a = absurd (omega arith)
    go (suc f) s h a =
        let item = first_passes (is_item lettered) s (before COMMA s) refl a in
        by-eq (length (before COMMA s)) (length s)
        (λ n. stop-last lettered s (before COMMA s) refl item n)
        (λ n.
        let less = after_less COMMA s (before COMMA s) refl (after COMMA s) n refl in
        let all = parts_next (is_item lettered) s (before COMMA s) true refl a (after COMMA s) (sym item) n refl in
        stop-next lettered s (before COMMA s) refl item n refl ∙ rw (go f (after COMMA s) (omega arith) all) (omega arith))

-- ---- the answer of a reader that keeps items from place n on, and has a list yet to read

unfoldable pub kept : Bool → ℕ → ℕ → List ℕ → Items
kept fine stop n items = cond fine (record { code = 0; stop = stop; count = n; items = items }) (no_items 4 stop)

abbrev pub items_left : Bool → ℕ → ℕ → List ℕ → ℕ → ℕ → List (List ℕ) → Items
items_left lettered high stop items n last parts =
    let l = map (item_of lettered) parts in
    kept (rises_from (key_of lettered) high last l) stop (n + length l) (sets items n l)

kept-start : (fine : Bool) (stop : ℕ) (l : List ℕ) → kept fine stop (0 + length l) (sets (replicate 64 0) 0 l) ≡ items_of true fine stop l
unfolding kept
kept-start true stop l =
    let e : 0 + length l ≡ length l = omega arith in
    ap (λ (n : ℕ). record { code = 0; stop = stop; count = n; items = sets (replicate 64 0) 0 l }) e
kept-start false stop l = refl

-- the answer where every part is an item
unfoldable pub spelt_read : Bool → ℕ → ℕ → List (List ℕ) → Items
spelt_read lettered high stop parts = let l = map (item_of lettered) parts in items_of true (list_ok lettered high l) stop l

module _ (lettered : Bool) (high : ℕ) (s : List ℕ) where
  abbrev parts : List (List ℕ)
  parts = split_on COMMA s

  pub items-start : (stop : ℕ) → items_left lettered high stop (replicate 64 0) 0 0 parts ≡ spelt_read lettered high stop parts
  unfolding list_ok spelt_read
  items-start stop =
      let l = map (item_of lettered) parts in
      ap (λ (b : Bool). kept b stop (0 + length l) (sets (replicate 64 0) 0 l)) (sym (rises-is (key_of lettered) high l))
      ∙ kept-start (all_of (λ x. between 1 high (key_of lettered x)) l && rising (key_of lettered) l) stop l

  pub all-spelt : all_of (is_item lettered) parts ≡ true → spelt_read lettered high (length s) parts ≡ items_read lettered high s
  unfolding items_read spelt_read
  all-spelt a = rw (a, stop-whole lettered s a)

  pub refused-is :
      (all_of (is_item lettered) parts ≡ true → no_items 4 (length s) ≡ spelt_read lettered high (length s) parts)
      → no_items (cond (all_of (is_item lettered) parts) 4 3) (parts_stop lettered s) ≡ items_read lettered high s
  unfolding items_read spelt_read
  refused-is f = by_bool (all_of (is_item lettered) parts) (λ a. rw (a, stop-whole lettered s a) (f a)) (λ a. rw a)

-- the reader's test of a number: above the last, and not above the highest
abbrev pub refused : ℕ → ℕ → ℕ → Bool
refused last high k = leb k last || ltb high k

pub passed : (last high k : ℕ) → refused last high k ≡ false → (last < k) × (k ≤ high)
passed last high k t = (
  leb-false k last (by_bool (leb k last) (λ h. true-false (or_l (ltb high k) h) t) (λ h. h)),
  ltb-false high k (by_bool (ltb high k) (λ h. true-false (or_r (leb k last) h) t) (λ h. h)),
)

module _
    (lettered : Bool) (high stop : ℕ) (items : List ℕ) (n last : ℕ) (rest part : List ℕ) (k : ℕ) (x : Items)
    (e : part ≡ before COMMA rest) (q : k ≡ value_of (digits_in lettered part))
    (inv : items_left lettered high stop items n last (split_on COMMA rest) ≡ x)
  where
    here : key_of lettered (item_of lettered part) ≡ k
    here = key-item lettered part ∙ sym q

    pub refuse : refused last high k ≡ true → no_items 4 stop ≡ x
    unfolding kept
    refuse t = go (first_part COMMA rest)
      where
        go : First COMMA rest → no_items 4 stop ≡ x
        go (first later f) =
            let l = map (item_of lettered) later in
            let f' : split_on COMMA rest ≡ part ∷ later = f ∙ rw e in
            sym
            (ap (items_left lettered high stop items n last) f'
            ∙ ap (λ (b : Bool). kept b stop (n + suc (length l)) (sets items n (item_of lettered part ∷ l)))
            (rises-stop (key_of lettered) high last (item_of lettered part) k l here t))
            ∙ inv

    -- one item kept
    keep :
        (later : List (List ℕ)) (y : ℕ) → refused last high k ≡ false → y ≡ item_of lettered part
        → split_on COMMA rest ≡ part ∷ later → items_left lettered high stop (set items n y) (n + 1) k later ≡ x
    keep later y t i f =
        let l = map (item_of lettered) later in
        let p = passed last high k t in
        let c : n + suc (length l) ≡ n + 1 + length l = omega arith in
        rw i
        (sym
        (ap (items_left lettered high stop items n last) f
        ∙ ap (λ (b : Bool). kept b stop (n + suc (length l)) (sets items n (item_of lettered part ∷ l)))
        (rises_next (key_of lettered) high last (item_of lettered part) k l here p.0 p.1)
        ∙ rw (c, add-one))
        ∙ inv)

    pub keep-last :
        (y : ℕ) → refused last high k ≡ false → y ≡ item_of lettered part → length part ≡ length rest
        → record { code = 0; stop = stop; count = n + 1; items = set items n y } ≡ x
    unfolding kept rises_from
    keep-last y t i h =
        let c : n + 1 + 0 ≡ n + 1 = omega arith in
        ap (λ (m : ℕ). kept true stop m (set items n y)) (sym c) ∙ keep [] y t i (parts_last COMMA rest part e h)

    pub keep-more :
        (more : List ℕ) (y : ℕ) → refused last high k ≡ false → y ≡ item_of lettered part
        → (length part ≡ length rest → ⊥) → more ≡ after COMMA rest
        → items_left lettered high stop (set items n y) (n + 1) k (split_on COMMA more) ≡ x
    keep-more more y t i h m = rw m (keep (split_on COMMA (after COMMA rest)) y t i (parts_more COMMA rest part e h))

pub refuse-over : (last high k : ℕ) → high ≤ 64 → 1000000 < k → refused last high k ≡ true
refuse-over last high k h g = or_r (leb k last) (lt-ltb high k (omega arith))

-- ---- the whole field

module _ (lettered : Bool) (high : ℕ) (s : List ℕ) (t : Bool) (e : t ≡ same s NONE) where
  pub list-none : t ≡ true → no_items 0 1 ≡ list_read lettered high s
  unfolding list_read is_list list_of list_stop list_ok all_of rising
  list-none h = let f : same s NONE ≡ true = sym e ∙ h in rw f

  pub list-items : t ≡ false → items_read lettered high s ≡ list_read lettered high s
  unfolding list_read is_list list_of list_stop items_read parts_stop
  list-items h = let f : same s NONE ≡ false = sym e ∙ h in rw f

pub holds-is : (s : List ℕ) → list_read true 32 s ≡ holds_read s
unfolding list_read holds_read list_ok holds_ok is_item item_of item_stop key_of
holds-is s = refl

pub after_is : (s : List ℕ) (tasks high : ℕ) → high ≡ min tasks 64 → list_read false high s ≡ after_read s tasks
unfolding list_read after_read list_ok after_ok is_item item_of item_stop key_of
after_is s tasks high e =
    ap
    (λ (n : ℕ). items_of (is_after s) (all_of (between 1 n) (after_of s) && rising (λ m. m) (after_of s)) (list_stop is_number number_stop s) (after_of s))
    e
