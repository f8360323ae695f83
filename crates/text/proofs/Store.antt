-- Writing into lent bytes.
use Prim.Native.Nat.{ℕ, suc, ◌+◌, ◌-◌, ◌/◌, ◌%◌, ◌≤◌, ◌<◌}
use mathlib.Core.Path.{◌≡◌, refl, sym, ap, ◌∙◌}
use mathlib.Core.Bool.{true, false}
use mathlib.Core.List.{List, [], ◌∷◌, ◌++◌, append_assoc, append-nil}
use native.Mathlib.Omega.{arith}
use lib.ListN.{length, take, drop, get_or, set, drop_of_length-le, length-append, length-drop}
use lib.Seq.{drop-cons, sets}
use native.Mathlib.Numerals.{add-one}
use Rattle.std.proofs.lemmas.List.Edits.{paste_all, sets-eq}
use Rattle.std.proofs.lemmas.Slice.{put_mid-paste}
use Rattle.std.proofs.lemmas.List.{drop-set}
use borrow.Rule.Slice.PartMut.{put_mid}
use lib.Dec.{leb}
use borrow.Author.Tests.{le-leb, leb-true}
use Rattle.laws.proofs.Cases.{by_le}
use Rattle.laws.specs.Digits.{digits_of}
use Rattle.laws.proofs.Digits.{digits-small, digits-big}
use Rattle.text.specs.Put.{Put}
use Rattle.text.proofs.Spell.{width_small, width-big}

pub put-none : (out : List ℕ) (at : ℕ) (text : List ℕ) → false ≡ leb (at + length text) (length out) → Put out at text out at
put-none out at text e = record { place = rw (← e); bytes = rw (← e) }

pub put_whole :
    (out : List ℕ) (at : ℕ) (text written : List ℕ) (r : ℕ) → at + length text ≤ length out → r ≡ at + length text
    → written ≡ sets out at text → Put out at text written r
put_whole out at text written r h p q =
    let e = le-leb (at + length text) (length out) h in record { place = rw e p; bytes = rw e q }

-- a part of the bytes, written over, is a run of stores
pub stored : (out : List ℕ) (at k : ℕ) (text : List ℕ) → at + length text ≤ length out → k ≡ length text → put_mid at k out text ≡ sets out at text
stored out at k text h e =
    put_mid-paste at k out text text (length text) refl (sym e) refl
    ∙ paste_all out at text (length text) refl
    ∙ sym (append_assoc (take at out) text (drop (at + length text) out))
    ∙ sym (sets-eq text out at h)

pub put-stored :
    (out : List ℕ) (at k : ℕ) (text written : List ℕ) → true ≡ leb (at + length text) (length out) → k ≡ length text
    → written ≡ text → Put out at text (put_mid at k out written) (at + length text)
put-stored out at k text written h e w =
    let room = leb-true (at + length text) (length out) (sym h) in
    put_whole out at text _ _ room refl (ap (put_mid at k out) w ∙ stored out at k text room e)

-- ---- byte after byte

pub copy_start : (out : List ℕ) (at : ℕ) (s : List ℕ) → sets out (at + 0) (drop 0 s) ≡ sets out at s
copy_start out at s = let e : at + 0 ≡ at = omega arith in rw e

pub copy-turn :
    (out : List ℕ) (at : ℕ) (s : List ℕ) (i : ℕ) (x : List ℕ) → i < length s → sets out (at + i) (drop i s) ≡ x
    → sets (set out (at + i) (get_or s i 0)) (at + (i + 1)) (drop (i + 1) s) ≡ x
copy-turn out at s i x h p =
    let e : at + (i + 1) ≡ suc (at + i) = omega arith in rw (e, add-one) (rw (drop-cons s i 0 h) at p)

pub copy-end :
    (out : List ℕ) (at : ℕ) (s : List ℕ) (i : ℕ) (x : List ℕ) → length s ≤ i → sets out (at + i) (drop i s) ≡ x → out ≡ x
copy-end out at s i x h p = rw (drop_of_length-le s h) at p

-- ---- digit before digit

pub some-digits : (n : ℕ) → 0 < length (digits_of n)
some-digits n = by_le 10 n (λ h. omega (arith, width-big n h)) (λ h. omega (arith, width_small n h))

-- the digits yet to write before place i, and those that stand from there on, are the digits of n
pub record DigitsLeft (n : ℕ) (out : List ℕ) (i rest : ℕ) : Type 0 where
  pub some : 0 < i → digits_of rest ++ drop i out ≡ digits_of n
  pub none : i ≡ 0 → out ≡ digits_of n

pub digits-start : (n : ℕ) (out : List ℕ) → length out ≡ length (digits_of n) → DigitsLeft n out (length out) n
digits-start n out long = record {
  some = λ h. rw (drop_of_length-le out {i = length out} (omega arith)) (append-nil (digits_of n));
  none = λ h. absurd (omega (arith, some-digits n));
}

module _ (n : ℕ) (out : List ℕ) (e rest : ℕ) (h : e < length out) (long : length out ≡ length (digits_of n)) where
  abbrev digit : ℕ
  digit = 48 + rest % 10

  digits-turn-at : digits_of rest ++ drop (e + 1) out ≡ digits_of n → DigitsLeft n (set out e digit) e (rest / 10)
  digits-turn-at whole =
      let size : length (digits_of rest) + (length out - (e + 1)) ≡ length (digits_of n) = simp (length-append, length-drop) at (ap length whole) in
      by_le 10 rest
      (λ g.
      let more = width-big rest g in
      let some = some-digits (rest / 10) in
      record {
        some = λ z. rw (drop-set out e digit h) (sym (append_assoc (digits_of (rest / 10)) (digit ∷ []) (drop (e + 1) out)) ∙ (rw (digits-big rest g) at whole));
        none = λ z. absurd (omega (arith, more, some, size));
      })
      (λ g.
      let one = width_small rest g in
      record {
        some = λ z. absurd (omega (arith, one, size));
        none = λ z.
            let m : rest % 10 ≡ rest = omega arith in
            let q = rw (digits-small rest g) at whole in
            let d : drop e (set out e digit) ≡ digits_of n = rw (drop-set out e digit h, m) q in ap (λ (k : ℕ). drop k (set out e digit)) (sym z) ∙ d;
      })

pub digits-turn :
    (n : ℕ) (out : List ℕ) (i rest : ℕ) → DigitsLeft n out i rest → 0 < i → i ≤ length out → length out ≡ length (digits_of n)
    → DigitsLeft n (set out (i - 1) (48 + rest % 10)) (i - 1) (rest / 10)
digits-turn n out i rest q h g long =
    let e : i - 1 + 1 ≡ i = omega arith in
    digits-turn-at n out (i - 1) rest (omega arith) long (rw e (q.some h))

-- where one place is left, one digit is
module _ (n : ℕ) (out : List ℕ) (rest : ℕ) {i : ℕ} (one : i ≡ 1) (left : DigitsLeft n out i rest) (long : length out ≡ length (digits_of n)) where
  whole : digits_of rest ++ drop 1 out ≡ digits_of n
  whole = rw one at (left.some (omega (arith, one)))

  pub digit-left : rest < 10
  digit-left =
      by_le 10 rest
      (λ g.
      let size : length (digits_of rest) + (length out - 1) ≡ length (digits_of n) = simp (length-append, length-drop) at (ap length whole) in
      absurd (omega (arith, width-big rest g, some-digits (rest / 10), some-digits n, size)))
      (λ g. g)

  pub digits-done : set out 0 (48 + rest) ≡ digits_of n
  digits-done =
      let small : rest % 10 ≡ rest = omega (arith, digit-left) in
      let turned = (digits-turn n out 1 rest (rw one at left) (omega arith) (omega (arith, some-digits n)) long).none refl in
      rw small at turned
