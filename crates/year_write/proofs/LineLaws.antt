-- The lines of a report, field by field.
use Prim.Native.Nat.{ℕ, ◌+◌, ◌*◌, ◌/◌, ◌≤◌, ◌<◌}
use mathlib.Core.Path.{◌≡◌, refl, ap, ◌∙◌}
use mathlib.Core.Bool.{not}
use mathlib.Core.List.{List, [], ◌∷◌, ◌++◌, append_assoc}
use native.Mathlib.Omega.{arith}
use native.Mathlib.Numerals.{add-one}
use lib.Dec.{eqb}
use lib.ListN.{length}
use borrow.Author.Tests.{eq-eqb, ne_eqb}
use Rattle.laws.specs.Digits.{digits_of}
use Rattle.laws.specs.Split.{join_on}
use Rattle.laws.proofs.Cases.{by_le}
use Rattle.laws.proofs.Width.{ten-digits}
use Rattle.text.specs.Bytes.{bytes}
use Rattle.text.specs.Line.{TAB, LF, line_text, number_or, lines_below}
use Rattle.text.specs.Put.{Put}
use Rattle.text.proofs.Spell.{width_small, width-big}
use Rattle.log_write.specs.Lines.{numbers_line}
use Rattle.log_write.specs.Private.Wrote.{Wrote}
use Rattle.log_write.proofs.WriteLaws.{whole, looser, also, wrote-length, nothing}
use Rattle.year_rules.specs.declared.Tally.{Tally}
use Rattle.year_rules.specs.declared.Totals.{Totals}
use Rattle.year_write.specs.Report.{tally_fields, board_line, board_lines}
use Rattle.year_write.specs.Private.Tails.{tally_tail}

-- ---- how long a number is

one_more : (b w : ℕ) → ((m : ℕ) → m < b → length (digits_of m) ≤ w) → (n : ℕ) → n < b * 10 → length (digits_of n) ≤ w + 1
one_more b w f n h =
    by_le 10 n
    (λ g. let r = f (n / 10) (omega arith) in omega (arith, width-big n g))
    (λ g. omega (arith, width_small n g))

fifteen_digits : (n : ℕ) → n < 429496729600000 → length (digits_of n) ≤ 15
fifteen_digits n h =
    one_more 42949672960000 14
    (one_more 4294967296000 13 (one_more 429496729600 12 (one_more 42949672960 11 (one_more 4294967296 10 ten-digits))))
    n
    h

twenty-digits : (n : ℕ) → n < 18446744073709551616 → length (digits_of n) ≤ 20
twenty-digits n h =
    one_more 4294967296000000000 19
    (one_more 429496729600000000 18
    (one_more 42949672960000000 17 (one_more 4294967296000000 16 (one_more 429496729600000 15 fifteen_digits))))
    n
    (omega arith)

-- ---- one field

pub field-wrote :
    {n : ℕ} {out : List ℕ} {p : ℕ} {m : List ℕ} {q : ℕ} {m' : List ℕ} {q' : ℕ} → n < 18446744073709551616 → p + 21 ≤ length out
    → Put out p (9 ∷ []) m q → Put m q (digits_of n) m' q' → Wrote out p (9 ∷ digits_of n) 21 m' q'
field-wrote {n} h fits v w =
    let d = twenty-digits n h in
    let tab = whole (omega arith) v in
    looser (omega arith) (also tab (whole (omega (arith, tab.place, wrote-length tab)) w))

pub short-wrote :
    {n : ℕ} {out : List ℕ} {p : ℕ} {m : List ℕ} {q : ℕ} → n < 4294967296 → Wrote out p (9 ∷ digits_of n) 21 m q
    → Wrote out p (9 ∷ digits_of n) 11 m q
short-wrote {n} h w = let d = ten-digits n h in record { place = w.place; bytes = w.bytes; small = omega arith }

pub none-wrote :
    (ended n : ℕ) {out : List ℕ} {p : ℕ} {m : List ℕ} {q : ℕ} → ended ≡ 0 → p + 21 ≤ length out → Put out p (9 ∷ 45 ∷ []) m q
    → Wrote out p (9 ∷ number_or (not (eqb ended 0)) n) 11 m q
none-wrote ended n z fits w = rw (eq-eqb ended 0 z) (looser (omega arith) (whole (omega arith) w))

pub some-wrote :
    (ended n : ℕ) {out : List ℕ} {p : ℕ} {m : List ℕ} {q : ℕ} → (ended ≡ 0 → ⊥) → Wrote out p (9 ∷ digits_of n) 11 m q
    → Wrote out p (9 ∷ number_or (not (eqb ended 0)) n) 11 m q
some-wrote ended n s w = rw (ne_eqb ended 0 s) w

-- ---- where a text that is written in parts has come to

pub record By (out : List ℕ) (at k : ℕ) (m : List ℕ) (p : ℕ) : Type 0 where
  pub place : p ≤ at + k
  pub size : length m ≡ length out

pub by-wrote : {out : List ℕ} {at : ℕ} {text : List ℕ} {a : ℕ} {m : List ℕ} {p : ℕ} → Wrote out at text a m p → By out at a m p
by-wrote w = record { place = omega (arith, w.place, w.small); size = wrote-length w }

pub by_next :
    {out : List ℕ} {at k : ℕ} {m : List ℕ} {p : ℕ} {text : List ℕ} {a : ℕ} {m' : List ℕ} {p' : ℕ} → By out at k m p
    → Wrote m p text a m' p' → By out at (k + a) m' p'
by_next b w = record { place = omega (arith, b.place, w.place, w.small); size = wrote-length w ∙ b.size }

-- ---- a line's end, and a line

pub tail-wrote :
    (tally : Tally) {out : List ℕ} {at : ℕ} {m1 : List ℕ} {p1 : ℕ} {m2 : List ℕ} {p2 : ℕ} {m3 : List ℕ} {p3 : ℕ} {m4 : List ℕ} {p4 : ℕ} {m5 : List ℕ} {p5 : ℕ}
    → Wrote out at (9 ∷ digits_of tally.ended) 11 m1 p1 → Wrote m1 p1 (9 ∷ digits_of tally.sum) 21 m2 p2
    → Wrote m2 p2 (9 ∷ number_or (not (eqb tally.ended 0)) tally.greatest) 11 m3 p3 → Wrote m3 p3 (9 ∷ number_or (not (eqb tally.ended 0)) tally.least) 11 m4 p4
    → p4 + 1 ≤ length m4 → Put m4 p4 (10 ∷ []) m5 p5 → Wrote out at (tally_tail tally) 55 m5 p5
unfolding tally_tail
tail-wrote tally x y z u h v = also x (also y (also z (also u (whole h v))))

-- fields, each after a tab, and the line's end
unfoldable tabs : List (List ℕ) → List ℕ
tabs [] = LF ∷ []
tabs (f ∷ fields) = (TAB ∷ f) ++ tabs fields

line-tabs : (word : List ℕ) (fields : List (List ℕ)) → line_text (word ∷ fields) ≡ word ++ tabs fields
unfolding join_on tabs
line-tabs word [] = refl
line-tabs word (f ∷ fields) =
    append_assoc word (TAB ∷ join_on TAB (f ∷ fields)) (LF ∷ []) ∙ ap (λ (l : List ℕ). word ++ (TAB ∷ l)) (line-tabs f fields)

tally-tabs : (tally : Tally) → tabs (tally_fields tally) ≡ tally_tail tally
unfolding tabs tally_tail
tally-tabs tally = refl

pub all-wrote :
    (tally : Tally) {out : List ℕ} {at : ℕ} {m1 : List ℕ} {p1 : ℕ} {m2 : List ℕ} {p2 : ℕ} → at + 68 ≤ length out
    → Put out at (bytes "all") m1 p1 → Wrote m1 p1 (tally_tail tally) 55 m2 p2
    → Wrote out at (line_text (bytes "all" ∷ tally_fields tally)) 58 m2 p2
all-wrote tally fits v w =
    rw (line-tabs (bytes "all") (tally_fields tally), tally-tabs tally) (also (whole (omega arith) v) w)

board-text : (number : ℕ) (tally : Tally) → line_text (bytes "board" ∷ digits_of number ∷ tally_fields tally) ≡ bytes "board" ++ ((9 ∷ digits_of number) ++ tally_tail tally)
unfolding tabs
board-text number tally =
    line-tabs (bytes "board") (digits_of number ∷ tally_fields tally)
    ∙ ap (λ (l : List ℕ). bytes "board" ++ ((9 ∷ digits_of number) ++ l)) (tally-tabs tally)

pub board-wrote :
    (number : ℕ) (tally : Tally) {out : List ℕ} {at : ℕ} {m1 : List ℕ} {p1 : ℕ} {m2 : List ℕ} {p2 : ℕ} {m3 : List ℕ} {p3 : ℕ}
    → at + 81 ≤ length out → Put out at (bytes "board") m1 p1 → Wrote m1 p1 (9 ∷ digits_of number) 11 m2 p2
    → Wrote m2 p2 (tally_tail tally) 55 m3 p3 → Wrote out at (line_text (bytes "board" ∷ digits_of number ∷ tally_fields tally)) 71 m3 p3
board-wrote number tally fits v w u = rw (board-text number tally) (also (whole (omega arith) v) (also w u))

logs-text : (a b : ℕ) → numbers_line (bytes "logs") (a ∷ b ∷ []) ≡ bytes "logs" ++ ((9 ∷ digits_of a) ++ ((9 ∷ digits_of b) ++ (10 ∷ [])))
unfolding numbers_line tabs
logs-text a b = line-tabs (bytes "logs") (digits_of a ∷ digits_of b ∷ [])

pub logs-wrote :
    (a b : ℕ) {out m1 : List ℕ} {p1 : ℕ} {m2 : List ℕ} {p2 : ℕ} {m3 : List ℕ} {p3 : ℕ} {m4 : List ℕ} {p4 : ℕ} → 47 ≤ length out
    → Put out 0 (bytes "logs") m1 p1 → Wrote m1 p1 (9 ∷ digits_of a) 11 m2 p2 → Wrote m2 p2 (9 ∷ digits_of b) 11 m3 p3
    → p3 + 1 ≤ length m3 → Put m3 p3 (10 ∷ []) m4 p4 → Wrote out 0 (numbers_line (bytes "logs") (a ∷ b ∷ [])) 27 m4 p4
logs-wrote a b fits v w u h x = rw (logs-text a b) (also (whole (omega arith) v) (also w (also u (whole h x))))

-- ---- the boards

module _ (totals : Totals) where
  abbrev pub Below : ℕ → List ℕ → ℕ → List ℕ → ℕ → Type 0
  Below n out at m p = Wrote out at (board_lines totals n) (71 * n) m p

  pub boards-none : (out : List ℕ) (at : ℕ) → Below 0 out at out at
  unfolding lines_below
  boards-none out at = nothing out at 0

  pub boards-turn :
      (n : ℕ) {out : List ℕ} {at : ℕ} {m : List ℕ} {p : ℕ} {m' : List ℕ} {p' : ℕ} → Below n out at m p
      → Wrote m p (board_line totals n) 71 m' p' → Below (n + 1) out at m' p'
  unfolding lines_below
  boards-turn n v w = rw add-one (looser (omega arith) (also v w))
