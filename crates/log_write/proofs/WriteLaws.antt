-- Writing lines, one part after the other.
use Prim.Native.Nat.{ℕ, ◌+◌, ◌*◌, ◌≤◌, ◌<◌}
use mathlib.Core.Path.{◌≡◌, refl, sym, ap, ◌∙◌}
use mathlib.Core.Bool.{Bool, true, false, not, cond, ◌&&◌}
use mathlib.Core.List.{List, [], ◌∷◌, ◌++◌, map, append_assoc}
use native.Mathlib.Omega.{arith}
use native.Mathlib.Numerals.{add-one}
use lib.Dec.{leb}
use lib.ListN.{length, get_or, drop, drop_of_length-le, length-append}
use lib.Seq.{sets, length-sets, drop-cons}
use borrow.Author.Tests.{le-leb, lt-leb, leb-true, not-true, not-false}
use Rattle.laws.specs.Digits.{digits_of}
use Rattle.laws.proofs.Cases.{by_le}
use Rattle.laws.proofs.Sets.{sets-append}
use Rattle.laws.specs.Split.{join_on}
use Rattle.laws.proofs.Width.{ten-digits}
use Rattle.text.specs.Put.{Put}
use Rattle.log_write.specs.Lines.{numbers_line, line_most, Lined}
use Rattle.log_write.specs.Private.Wrote.{Wrote}
use Rattle.log_write.specs.Short.{line_to, short_to, short_line}

-- ---- one text after the other

pub whole :
    {m : List ℕ} {p : ℕ} {xs m' : List ℕ} {p' : ℕ} → p + length xs ≤ length m → Put m p xs m' p'
    → Wrote m p xs (length xs) m' p'
whole {m} {p} {xs} h w =
    let e = le-leb (p + length xs) (length m) h in
    record { place = w.place ∙ rw e; bytes = w.bytes ∙ rw e; small = omega arith }

pub looser : {out : List ℕ} {at : ℕ} {xs : List ℕ} {a b : ℕ} {m : List ℕ} {p : ℕ} → a ≤ b → Wrote out at xs a m p → Wrote out at xs b m p
looser h w = record { place = w.place; bytes = w.bytes; small = omega (arith, w.small) }

pub also :
    {out : List ℕ} {at : ℕ} {xs : List ℕ} {a : ℕ} {m : List ℕ} {p : ℕ} {ys : List ℕ} {b : ℕ} {m' : List ℕ} {p' : ℕ}
    → Wrote out at xs a m p → Wrote m p ys b m' p' → Wrote out at (xs ++ ys) (a + b) m' p'
also {out} {at} {xs} {a} {m} {p} {ys} v w = record {
  place = omega (arith, v.place, w.place, length-append xs ys);
  bytes = w.bytes ∙ rw (v.bytes, v.place) (sets-append out at xs ys);
  small = omega (arith, v.small, w.small, length-append xs ys);
}

pub wrote-length : {out : List ℕ} {at : ℕ} {xs : List ℕ} {a : ℕ} {m : List ℕ} {p : ℕ} → Wrote out at xs a m p → length m ≡ length out
wrote-length w = rw (w.bytes, length-sets)

pub nothing : (out : List ℕ) (at a : ℕ) → Wrote out at [] a out at
nothing out at a = record { place = omega arith; bytes = refl; small = omega arith }

-- ---- a line of numbers

-- numbers, each after a tab, and the line's end
unfoldable pub tabbed : List ℕ → List ℕ → List ℕ
tabbed end [] = end
tabbed end (n ∷ l) = (9 ∷ digits_of n) ++ tabbed end l

line-tabbed : (end word l : List ℕ) → join_on 9 (word ∷ map digits_of l) ++ end ≡ word ++ tabbed end l
unfolding join_on tabbed
line-tabbed end word [] = refl
line-tabbed end word (n ∷ l) =
    append_assoc word (9 ∷ join_on 9 (digits_of n ∷ map digits_of l)) end
    ∙ ap (λ (s : List ℕ). word ++ (9 ∷ s)) (line-tabbed end (digits_of n) l)

pub to-tabbed : (end word l : List ℕ) → line_to end word l ≡ word ++ tabbed end l
unfolding line_to
to-tabbed end word l = line-tabbed end word l

pub to-numbers : (word l : List ℕ) → line_to (10 ∷ []) word l ≡ numbers_line word l
unfolding line_to numbers_line
to-numbers word l = refl

same_test : (n : ℕ) → leb (1 + 11 * n) 45 ≡ leb n 4
same_test n =
    by_le n 4 (λ h. le-leb (1 + 11 * n) 45 (omega arith) ∙ sym (le-leb n 4 h)) (λ h. lt-leb (1 + 11 * n) 45 (omega arith) ∙ sym (lt-leb n 4 h))

pub to-short : (word l : List ℕ) → short_to (10 ∷ []) word l ≡ short_line word l
to-short word l =
    ap (λ (b : Bool). cond (leb (length word) 7 && b) (line_to (10 ∷ []) word l) []) (same_test (length l))
    ∙ ap (λ (t : List ℕ). cond (leb (length word) 7 && leb (length l) 4) t []) (to-numbers word l)

-- a text is being written from a place on, and this is left of it
pub record Left (out : List ℕ) (from : ℕ) (text now : List ℕ) (place : ℕ) (rest : List ℕ) : Type 0 where
  pub stays : place + length rest ≡ from + length text
  pub bytes : sets now place rest ≡ sets out from text

module _ {out : List ℕ} {from : ℕ} {text : List ℕ} where
  pub left-turn :
      {m : List ℕ} {p : ℕ} (x rest : List ℕ) {a : ℕ} {m' : List ℕ} {p' : ℕ} → Left out from text m p (x ++ rest)
      → Wrote m p x a m' p' → Left out from text m' p' rest
  left-turn {m} {p} x rest s w = record {
    stays = omega (arith, s.stays, w.place, length-append x rest);
    bytes = rw (w.bytes, w.place) (sets-append m p x rest ∙ s.bytes);
  }

  pub left-last :
      {m : List ℕ} {p : ℕ} {x : List ℕ} {a b : ℕ} {m' : List ℕ} {p' : ℕ} → Left out from text m p x → Wrote m p x a m' p'
      → length text ≤ b → Wrote out from text b m' p'
  left-last s w h = record {
    place = omega (arith, s.stays, w.place);
    bytes = w.bytes ∙ s.bytes;
    small = h;
  }

  pub left-all : Left out from text out from text
  left-all = record { stays = refl; bytes = refl }

  module _ (end l : List ℕ) (i : ℕ) {m : List ℕ} {p : ℕ} (s : Left out from text m p (tabbed end (drop i l))) where
    tab-next :
        i < length l → tabbed end (drop i l) ≡ (9 ∷ []) ++ (digits_of (get_or l i 0) ++ tabbed end (drop (i + 1) l))
    unfolding tabbed
    tab-next h = rw (add-one, drop-cons l i 0)

    module _
        (h : i < length l) (fits : p + 11 ≤ length m) (small : get_or l i 0 < 4294967296)
        {m' : List ℕ} {p' : ℕ} {m'' : List ℕ} {p'' : ℕ}
        (v : Put m p (9 ∷ []) m' p') (w : Put m' p' (digits_of (get_or l i 0)) m'' p'')
      where
        tab-wrote : Wrote m p (9 ∷ []) 1 m' p'
        tab-wrote = whole (omega arith) v

        number-wrote : Wrote m' p' (digits_of (get_or l i 0)) (length (digits_of (get_or l i 0))) m'' p''
        number-wrote =
            whole
            (omega (arith, ten-digits (get_or l i 0) small, wrote-length tab-wrote, tab-wrote.place))
            w

        pub number-turn : Left out from text m'' p'' (tabbed end (drop (i + 1) l))
        number-turn =
            left-turn (digits_of (get_or l i 0)) (tabbed end (drop (i + 1) l))
            (left-turn (9 ∷ []) (digits_of (get_or l i 0) ++ tabbed end (drop (i + 1) l)) (rw (tab-next h) at s) tab-wrote)
            number-wrote

        pub number-place : p'' ≤ p + 11
        number-place =
            omega (arith, ten-digits (get_or l i 0) small, tab-wrote.place, number-wrote.place)

    pub line-end :
        {b : ℕ} {m' : List ℕ} {p' : ℕ} → length l ≤ i → p + length end ≤ length m → p + length end ≤ from + b → Put m p end m' p'
        → Wrote out from text b m' p'
    unfolding tabbed
    line-end h fits g w =
        let r : Left out from text m p end = rw (drop_of_length-le l h) at s in
        left-last r (whole fits w) (omega (arith, r.stays))

-- the word, then the numbers
pub line-whole :
    (end l : List ℕ) {out : List ℕ} {at : ℕ} {word m : List ℕ} {p : ℕ} {m' : List ℕ} {p' : ℕ} → length word ≤ 7
    → Wrote out at word (length word) m p → Wrote m p (tabbed end l) (length end + 11 * length l) m' p'
    → Wrote out at (line_to end word l) (7 + length end + 11 * length l) m' p'
line-whole end l {word = word} h v w = rw to-tabbed (looser {a = length word + (length end + 11 * length l)} (omega arith) (also v w))

-- ---- where there is room, and where there is none

module _ {out : List ℕ} {from : ℕ} {line : List ℕ} {most : ℕ} where
  pub lined-none : length out < from + line_most → Lined out from line most out from
  lined-none l =
      let h = lt-leb (from + line_most) (length out) l in
      record { place = rw h; bytes = rw h; small = λ fits. absurd (omega arith) }

  module _ {m : List ℕ} {p : ℕ} where
    pub lined-all : from + line_most ≤ length out → Wrote out from line most m p → Lined out from line most m p
    lined-all fits w =
        let h = le-leb (from + line_most) (length out) fits in
        record { place = rw h w.place; bytes = rw h w.bytes; small = λ _. w.small }

    pub lined-looser : {b : ℕ} → most ≤ b → Lined out from line most m p → Lined out from line b m p
    lined-looser h w = record { place = w.place; bytes = w.bytes; small = λ fits. omega (arith, w.small fits) }

    pub wrote-line : from + line_most ≤ length out → Lined out from line most m p → Wrote out from line most m p
    wrote-line fits w =
        let h = le-leb (from + line_most) (length out) fits in
        record { place = rw h at w.place; bytes = rw h at w.bytes; small = w.small fits }

-- ---- a line that could be too long

lined-nothing : {out : List ℕ} {from most : ℕ} → Lined out from [] most out from
lined-nothing {out} {from} =
    by_le (from + line_most) (length out)
    (λ h. let e = le-leb (from + line_most) (length out) h in record { place = rw e (omega arith); bytes = rw e; small = λ _. omega arith })
    (λ h. lined-none h)

pub short-rest : (end l : List ℕ) {short : Bool} → short ≡ leb (length end + 11 * length l) 45 → not short ≡ false → length end + 11 * length l ≤ 45
short-rest end l {short} s n = leb-true (length end + 11 * length l) 45 (sym s ∙ not-false short n)

module _ (end word l : List ℕ) {out : List ℕ} {from most : ℕ} where
  pub long-word : 7 < length word → Lined out from (short_to end word l) most out from
  long-word h = rw (lt-leb (length word) 7 h) lined-nothing

  module _ {short : Bool} (s : short ≡ leb (length end + 11 * length l) 45) where
    pub long_rest : length word ≤ 7 → not short ≡ true → Lined out from (short_to end word l) most out from
    long_rest h n = rw (le-leb (length word) 7 h, sym s ∙ not-true short n) lined-nothing

    pub short-all :
        length word ≤ 7 → not short ≡ false → {m : List ℕ} {p : ℕ} → Lined out from (line_to end word l) most m p
        → Lined out from (short_to end word l) most m p
    short-all h n w = rw (le-leb (length word) 7 h, sym s ∙ not-false short n) w
