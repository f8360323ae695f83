-- The line of a drive, part by part.
use Prim.Native.Nat.{ℕ, ◌+◌, ◌*◌, ◌≤◌, ◌<◌}
use mathlib.Core.Path.{◌≡◌, sym, ap, subst, ◌∙◌}
use mathlib.Core.Logic.{◌≢◌}
use mathlib.Core.Bool.{not}
use mathlib.Core.List.{List, [], ◌∷◌, ◌++◌, append_assoc}
use native.Mathlib.Omega.{arith}
use lib.Dec.{eqb}
use lib.ListN.{length, get_or, drop, drop_of_length-le, length-take}
use borrow.Author.Tests.{eq-eqb, ne_eqb}
use Rattle.laws.specs.Digits.{digits_of}
use Rattle.laws.specs.Split.{index_of, join_on}
use Rattle.laws.proofs.Width.{ten-digits}
use Rattle.text.specs.Bytes.{bytes}
use Rattle.text.specs.Put.{Put}
use Rattle.text.specs.Line.{number_or}
use Rattle.text_fields.specs.Items.{list_text}
use Rattle.plan.specs.Value.{items}
use Rattle.plan_write.proofs.WriteLaws.{later_text, list-none, list-some, later-turn}
use Rattle.book.specs.declared.Book.{Book}
use Rattle.ask_drives.specs.Sheets.{made_of, on_drive_of}
use Rattle.ask_drives.specs.declared.SheetResult.{SheetResult}
use Rattle.ask_drives.specs.declared.OnDrive.{OnDrive}
use Rattle.log_write.specs.Lines.{refused_line}
use Rattle.log_write.specs.Answers.{Answered}
use Rattle.log_write.specs.Private.Wrote.{Wrote}
use Rattle.log_write.proofs.WriteLaws.{whole, looser, also, nothing, wrote-length, Left, left-turn, left-last}
use Rattle.desk_answers.proofs.AnswerLaws.{answered, unless-no, unless-yes}
use Rattle.desk_answers.specs.Questions.{drive_line, drive_answer}

pub after-wrote :
    {b n : ℕ} {out : List ℕ} {p : ℕ} {m : List ℕ} {q : ℕ} {m' : List ℕ} {q' : ℕ} → n < 4294967296 → p + 11 ≤ length out → Put out p (b ∷ []) m q
    → Put m q (digits_of n) m' q' → Wrote out p (b ∷ digits_of n) 11 m' q'
after-wrote {b} {n} h fits v w =
    let d = ten-digits n h in
    let first = whole (omega arith) v in
    looser (omega arith) (also first (whole (omega (arith, first.place, wrote-length first)) w))

-- ---- the holders, joined by commas or a dash

pub dash-wrote : (l : List ℕ) {out : List ℕ} {p : ℕ} {m : List ℕ} {q : ℕ} → length l ≡ 0 → p + 2 ≤ length out → Put out p (9 ∷ 45 ∷ []) m q → Wrote out p (9 ∷ list_text digits_of l) (2 + 11 * length l) m q
dash-wrote l {out} {p} {m} {q} h fits w =
    let e = sym (list-none digits_of l h) in
    subst (λ (s : List ℕ). Wrote out p (9 ∷ s) (2 + 11 * length l) m q) e (looser (omega arith) (whole fits w))

-- what is left of the items after the first while they are written
abbrev pub Rest : List ℕ → ℕ → List ℕ → ℕ → List ℕ → ℕ → Type 0
Rest l i out from m p = Left out from (later_text digits_of l) m p (later_text digits_of (drop i l))

pub rest-turn :
    (l : List ℕ) (i : ℕ) {out : List ℕ} {from : ℕ} {m : List ℕ} {p : ℕ} {m' : List ℕ} {p' n : ℕ} → i < length l → n ≡ get_or l i 0 → Rest l i out from m p
    → Wrote m p (44 ∷ digits_of n) 11 m' p' → Rest l (i + 1) out from m' p'
rest-turn l i {out} {from} {m} {p} {m'} {p'} h q s w =
    let s' : Left out from (later_text digits_of l) m p ((44 ∷ digits_of (get_or l i 0)) ++ later_text digits_of (drop (i + 1) l)) =
    subst (λ (t : List ℕ). Left out from (later_text digits_of l) m p t) (later-turn digits_of l i h) s in
    let w' : Wrote m p (44 ∷ digits_of (get_or l i 0)) 11 m' p' = rw q at w in
    left-turn (44 ∷ digits_of (get_or l i 0)) (later_text digits_of (drop (i + 1) l)) s' w'

later-end : (l : List ℕ) (i : ℕ) → length l ≤ i → later_text digits_of (drop i l) ≡ []
unfolding later_text
later-end l i h = ap (later_text digits_of) (drop_of_length-le l h)

pub items-wrote :
    {l : List ℕ} (first : ℕ) (others : List ℕ) (i : ℕ) {n : ℕ} {out : List ℕ} {p : ℕ} {m : List ℕ} {q : ℕ} {m' : List ℕ} {q' : ℕ} → l ≡ first ∷ others
    → length others ≤ i → n ≡ first → Wrote out p (9 ∷ digits_of n) 11 m q → Rest others i m q m' q' → q' ≤ p + 11 * length l
    → Wrote out p (9 ∷ list_text digits_of l) (2 + 11 * length l) m' q'
items-wrote {l} first others i {n} {out} {p} {m} {q} {m'} {q'} some h e v s few =
    let r : Left m q (later_text digits_of others) m' q' [] =
    subst (λ (t : List ℕ). Left m q (later_text digits_of others) m' q' t) (later-end others i h) s in
    let w : Wrote m q (later_text digits_of others) (length (later_text digits_of others)) m' q' = left-last r (nothing m' q' 0) (omega arith) in
    let v' : Wrote out p (9 ∷ digits_of first) 11 m q = rw e at v in
    let x = also v' w in
    let t = ap (λ (s : List ℕ). 9 ∷ s) (sym (list-some digits_of first others some)) in
    let y : Wrote out p (9 ∷ list_text digits_of l) (11 + length (later_text digits_of others)) m' q' =
    subst (λ (s : List ℕ). Wrote out p s (11 + length (later_text digits_of others)) m' q') t x in
    record { place = y.place; bytes = y.bytes; small = omega (arith, y.place) }

-- ---- who is next

pub next-none : (task : ℕ) {out : List ℕ} {p : ℕ} {m : List ℕ} {q : ℕ} → task ≡ 0 → p + 11 ≤ length out → Put out p (9 ∷ 45 ∷ []) m q → Wrote out p (9 ∷ number_or (not (eqb task 0)) task) 11 m q
next-none task z fits w = rw (eq-eqb task 0 z) (looser (omega arith) (whole (omega arith) w))

pub next-some : (task : ℕ) {n : ℕ} {out : List ℕ} {p : ℕ} {m : List ℕ} {q : ℕ} → task ≢ 0 → n ≡ task → Wrote out p (9 ∷ digits_of n) 11 m q → Wrote out p (9 ∷ number_or (not (eqb task 0)) task) 11 m q
next-some task {n} h e w = rw (ne_eqb task 0 h) (rw e at w)

-- ---- the whole line

joined : (a b c d e : List ℕ) → join_on 9 (a ∷ b ∷ c ∷ d ∷ []) ++ e ≡ a ++ ((9 ∷ b) ++ ((9 ∷ c) ++ ((9 ∷ d) ++ e)))
unfolding join_on
joined a b c d e =
    append_assoc a (9 ∷ join_on 9 (b ∷ c ∷ d ∷ [])) e
    ∙ ap (λ (s : List ℕ). a ++ (9 ∷ s))
    (append_assoc b (9 ∷ join_on 9 (c ∷ d ∷ [])) e ∙ ap (λ (s : List ℕ). b ++ (9 ∷ s)) (append_assoc c (9 ∷ d) e))

pub few-items : (running : List ℕ) {l : List ℕ} → length running ≡ 8 → l ≡ items running → length l ≤ 8
few-items running s e = rw e (omega (arith, length-take (index_of 0 running) running))

module _ (drive next : ℕ) (running : List ℕ) {out : List ℕ} (s : length out ≡ 3432) {m : List ℕ} {p : ℕ} (v : Put out 0 (bytes "drive") m p) where
  word : Wrote out 0 (bytes "drive") 5 m p
  word = whole (omega arith) v

  pub drive-room : p + 11 ≤ length m
  drive-room = omega (arith, word.place, wrote-length word)

  module _ {m1 : List ℕ} {p1 : ℕ} (w : Wrote m p (9 ∷ digits_of drive) 11 m1 p1) where
    pub items-room : (l : List ℕ) → length l ≤ 8 → p1 + 2 + 11 * length l ≤ length m1
    items-room l few = omega (arith, word.place, wrote-length word, w.place, w.small, wrote-length w)

    module _ {l : List ℕ} (e : l ≡ items running) (few : length l ≤ 8) {m2 : List ℕ} {p2 : ℕ} (x : Wrote m1 p1 (9 ∷ list_text digits_of l) (2 + 11 * length l) m2 p2) where
      pub next-room : p2 + 11 ≤ length m2
      next-room =
          omega
          (arith, word.place, wrote-length word, w.place, w.small, wrote-length w, x.place, x.small, wrote-length x)

      pub drive-wrote :
          {m3 : List ℕ} {p3 : ℕ} {m4 : List ℕ} {p4 : ℕ} → Wrote m2 p2 (9 ∷ number_or (not (eqb next 0)) next) 11 m3 p3 → Put m3 p3 (10 ∷ []) m4 p4
          → Answered out (drive_line drive (items running) next) m4 p4
      unfolding drive_line
      drive-wrote {m3} {p3} {m4} {p4} y z =
          let lf : List ℕ = 10 ∷ [] in
          let f : p3 + length lf ≤ length m3 =
          omega
          (arith, word.place, wrote-length word, w.place, w.small, wrote-length w, x.place, x.small, wrote-length x, y.place, y.small, wrote-length y) in
          let last : Wrote m3 p3 (10 ∷ []) 1 m4 p4 = whole f z in
          let all = also word (also w (also x (also y last))) in
          let t = sym (joined (bytes "drive") (digits_of drive) (list_text digits_of l) (number_or (not (eqb next 0)) next) (10 ∷ [])) in
          let g = answered (omega (arith, few)) all in
          rw (← e, ← t) g

-- ---- the answer

module _ (book : Book) (drive : ℕ) {made : SheetResult} (a : made ≡ made_of book) {on : OnDrive} (b : on ≡ on_drive_of book made.sheet drive) where
  its : on ≡ on_drive_of book (made_of book).sheet drive
  its = b ∙ ap (λ (x : SheetResult). on_drive_of book x.sheet drive) a

  pub drive-no : {out m : List ℕ} {p : ℕ} → on.answer.code ≢ 0 → Answered out (refused_line on.answer) m p → Answered out (drive_answer book drive) m p
  unfolding drive_answer
  drive-no n w = unless-no (on_drive_of book (made_of book).sheet drive).answer _ (rw its at n) (rw its at w)

  pub drive-yes : {out m : List ℕ} {p : ℕ} → on.answer.code ≡ 0 → Answered out (drive_line drive (items on.running) on.next) m p → Answered out (drive_answer book drive) m p
  unfolding drive_answer
  drive-yes z w = unless-yes (on_drive_of book (made_of book).sheet drive).answer _ (rw its at z) (rw its at w)
