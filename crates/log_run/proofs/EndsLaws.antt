-- The lines of ends.txt, one after the other.
use Prim.Native.Nat.{ℕ, zero, suc, ◌+◌, ◌*◌, ◌≤◌, ◌<◌}
use mathlib.Core.Path.{◌≡◌, refl, sym, ap, ◌∙◌}
use mathlib.Core.Logic.{◌≢◌}
use mathlib.Core.List.{List, [], ◌++◌}
use native.Mathlib.Omega.{arith}
use lib.ListN.{length}
use borrow.Author.Tests.{eq-eqb, ne_eqb}
use Rattle.laws.proofs.Cases.{by-eq}
use Rattle.laws.specs.Split.{after}
use Rattle.text.specs.Line.{LF}
use Rattle.book.specs.declared.Book.{Book}
use Rattle.book.proofs.Sizes.{Sized}
use Rattle.log_read.specs.Entries.{next_entry, entry_code}
use Rattle.log_read.specs.Said.{Entry}
use Rattle.log_read.proofs.TextLaws.{line-used}
use Rattle.log_run.specs.Log.{told_of, told_log, ends_log, rest_log}
use Rattle.log_run.specs.declared.StepOutcome.{StepOutcome}
use Rattle.log_write.specs.Private.Wrote.{Wrote}
use Rattle.log_run.specs.Answers.{within}
use Rattle.log_run.specs.Private.Writes.{told_in, told_most}
use Rattle.log_run.specs.Private.Room.{room_for, ends_most}
use Rattle.log_run.proofs.ShortLaws.{next-short, short-within}
use Rattle.log_run.proofs.ReportLaws.{Told, told-sized, told_wrote}
use Rattle.log_write.proofs.WriteLaws.{Left, left-turn, left-last, nothing, wrote-length}

-- ---- the fuel is enough

ends-empty : (f : ℕ) (book : Book) (n : ℕ) (s : List ℕ) → length s ≡ 0 → ends_log f book n s ≡ []
unfolding ends_log
ends-empty zero book n s h = refl
ends-empty (suc f) book n s h = rw (eq-eqb (length s) 0 h, ends_log)

-- what the first line prints, and the book after it
abbrev pub first_log : Book → ℕ → List ℕ → List ℕ
first_log book n s = told_log book (next_entry s) (told_of n book (next_entry s))

abbrev pub first_book : Book → ℕ → List ℕ → Book
first_book book n s = (told_of n book (next_entry s)).book

module _ (f : ℕ) (book : Book) (n : ℕ) (s : List ℕ) (some : length s ≢ 0) where
  ends-stop : entry_code (next_entry s) ≢ 0 → ends_log (suc f) book n s ≡ first_log book n s ++ []
  unfolding ends_log
  ends-stop h = rw (ne_eqb (length s) 0 some, ne_eqb (entry_code (next_entry s)) 0 h, ends_log)

  ends-turn :
      entry_code (next_entry s) ≡ 0
      → ends_log (suc f) book n s ≡ first_log book n s ++ ends_log f (first_book book n s) (n + 1) (after LF s)
  unfolding ends_log
  ends-turn z = rw (ne_eqb (length s) 0 some, eq-eqb (entry_code (next_entry s)) 0 z, ends_log)

fuel : (f g : ℕ) (book : Book) (n : ℕ) (s : List ℕ) → length s ≤ f → length s ≤ g → ends_log f book n s ≡ ends_log g book n s
fuel zero g book n s p q = ends-empty zero book n s (omega arith) ∙ sym (ends-empty g book n s (omega arith))
fuel (suc f) zero book n s p q = ends-empty (suc f) book n s (omega arith) ∙ sym (ends-empty zero book n s (omega arith))
fuel (suc f) (suc g) book n s p q =
    by-eq (length s) 0
    (λ z. ends-empty (suc f) book n s z ∙ sym (ends-empty (suc g) book n s z))
    (λ some.
    by-eq (entry_code (next_entry s)) 0
    (λ t.
    ends-turn f book n s some t
    ∙ ap (λ (l : List ℕ). first_log book n s ++ l)
    (fuel f g (first_book book n s) (n + 1) (after LF s) (omega (arith, line-used s t)) (omega (arith, line-used s t)))
    ∙ sym (ends-turn g book n s some t))
    (λ h. ends-stop f book n s some h ∙ sym (ends-stop g book n s some h)))

module _ (book : Book) (n : ℕ) (s : List ℕ) where
  rest-none : length s ≡ 0 → rest_log book n s ≡ []
  rest-none h = ends-empty (length s) book n s h

  module _ (some : 0 < length s) where
    more-fuel : rest_log book n s ≡ ends_log (suc (length s)) book n s
    more-fuel = fuel (length s) (suc (length s)) book n s (omega arith) (omega arith)

    rest-stop : entry_code (next_entry s) ≢ 0 → rest_log book n s ≡ first_log book n s ++ []
    rest-stop h = more-fuel ∙ ends-stop (length s) book n s (λ z. omega arith) h

    rest-turn :
        entry_code (next_entry s) ≡ 0 → rest_log book n s ≡ first_log book n s ++ rest_log (first_book book n s) (n + 1) (after LF s)
    rest-turn t =
        more-fuel
        ∙ ends-turn (length s) book n s (λ z. omega arith) t
        ∙ ap (λ (l : List ℕ). first_log book n s ++ l)
        (fuel (length s) (length (after LF s)) (first_book book n s) (n + 1) (after LF s)
        (omega (arith, line-used s t)) (omega arith))

-- ---- the walk over the lines

pub record Walk
    (out : List ℕ) (from : ℕ) (opened : Book) (first : ℕ) (ends now : List ℕ) (book : Book) (place line : ℕ) (rest : List ℕ) :
    Type 0 where
  pub kept : length now ≡ length out
  pub sized : Sized book
  pub lines : line + length rest ≤ length ends + 2
  pub room : place + room_for book + 6 * length rest ≤ from + room_for opened + 6 * length ends
  pub left : Left out from (rest_log opened first ends) now place (rest_log book line rest)

module _ {out : List ℕ} {from : ℕ} {opened : Book} {first : ℕ} {ends : List ℕ} where
  pub walk_start : first ≤ 2 → Sized opened → Walk out from opened first ends out opened from first ends
  walk_start h s = record { kept = refl; sized = s; lines = omega arith; room = omega arith; left = record { stays = refl; bytes = refl } }

  module _
      {m : List ℕ} {book : Book} {place line : ℕ} {rest : List ℕ} (w : Walk out from opened first ends m book place line rest)
    where
      pub walk_end : length rest ≤ 0 → Wrote out from (rest_log opened first ends) (ends_most opened ends) m place
      walk_end h =
          let e = rest-none book line rest (omega arith) in
          let l : Left out from (rest_log opened first ends) m place [] = rw e at w.left in
          left-last l (nothing m place 0) (omega (arith, l.stays, w.room))

      module _
          (some : 0 < length rest) {m' : List ℕ} {place' : ℕ}
          (told : Told m place book (first_log book line rest) (first_book book line rest) m' place')
        where
          walk-stop : entry_code (next_entry rest) ≢ 0 → Wrote out from (rest_log opened first ends) (ends_most opened ends) m' place'
          walk-stop h =
              let l = rw (rest-stop book line rest some h) at w.left in
              let x = left-turn (first_log book line rest) [] l told.wrote in
              left-last x (nothing m' place' 0) (omega (arith, x.stays, w.room, told.paid, told.wrote.place))

          walk_turn :
              entry_code (next_entry rest) ≡ 0 → Walk out from opened first ends m' (first_book book line rest) place' (line + 1) (after LF rest)
          walk_turn z =
              let u = line-used rest z in
              let l = rw (rest-turn book line rest some z) at w.left in
              record {
                kept = wrote-length told.wrote ∙ w.kept;
                sized = told-sized line book (next_entry rest) w.sized;
                lines = omega (arith, w.lines);
                room = omega (arith, w.room, told.paid, told.wrote.place);
                left = left-turn (first_log book line rest) _ l told.wrote;
              }

      -- the line that was read can be answered, since its column is short
      pub walk-short : length ends ≤ 32768 → {entry : Entry} → entry ≡ next_entry rest → within entry ≡ next_entry rest
      walk-short h n = ap within n ∙ short-within (next_entry rest) (next-short rest (omega (arith, w.lines)))

      pub walk-less : {next : List ℕ} → entry_code (next_entry rest) ≡ 0 → next ≡ after LF rest → length next < length rest
      walk-less z q = rw q (omega (arith, line-used rest z))

      -- the same of what the code has: an entry, its answer and what was written
      module _
          {entry : Entry} (n : entry ≡ next_entry rest) (some : 0 < length rest) {r : StepOutcome} (q : r ≡ told_of line book entry)
          {m' : List ℕ} {place' : ℕ} (v : Wrote m place (told_in entry book.mark r) (told_most entry book.mark r) m' place')
        where
          first-told : Told m place book (first_log book line rest) (first_book book line rest) m' place'
          first-told = rw n at (told_wrote line book entry w.sized (rw q at v))

          pub walk-stops : entry_code (next_entry rest) ≢ 0 → Wrote out from (rest_log opened first ends) (ends_most opened ends) m' place'
          walk-stops h = walk-stop some first-told h

          pub walk-goes :
              {next : List ℕ} → entry_code (next_entry rest) ≡ 0 → next ≡ after LF rest → Walk out from opened first ends m' r.book place' (line + 1) next
          walk-goes z u = rw (u, q, n) (walk_turn some first-told z)
