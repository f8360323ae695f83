-- A log goes on, after some lines of ends.txt, with the book that they leave.
use Prim.Native.Nat.{ℕ, zero, suc, ◌+◌, ◌-◌, ◌≤◌, ◌<◌}
use native.Mathlib.Omega.{arith}
use mathlib.Core.Path.{◌≡◌, refl, sym, ap, ◌∙◌}
use mathlib.Core.Bool.{Bool, true, false, cond}
use mathlib.Core.List.{List, [], ◌∷◌, ◌++◌, append_assoc, append-nil}
use lib.Dec.{eqb}
use lib.ListN.{length, length-drop}
use borrow.Author.Tests.{eq-eqb, eqb-false}
use Rattle.laws.specs.Split.{after, skip_on}
use Rattle.laws.proofs.Cases.{by_bool}
use Rattle.text.specs.Line.{LF, skip}
use Rattle.theory.specs.Words.Events.{Event}
use Rattle.book.specs.Words.Event.{book_told}
use Rattle.book.specs.declared.Book.{Book}
use Rattle.log_read.specs.Entries.{next_entry, entry_code}
use Rattle.log_read.specs.Said.{Entry}
use Rattle.log_read.specs.Said.Entry.{End, Drop, Refused}
use Rattle.log_run.specs.Log.{told_of, told_log, ends_log, rest_log}
use Rattle.promises.specs.Runs.{book_after}
use Rattle.promises.specs.Logs.{said_before, said_in}

after-short : (ends : List ℕ) → (length ends ≡ 0 → ⊥) → length (after LF ends) < length ends
after-short ends n = simp length-drop (omega arith)

-- more turns than bytes change nothing
enough :
    (f g : ℕ) (book : Book) (line : ℕ) (ends : List ℕ) → length ends ≤ f → length ends ≤ g
    → ends_log f book line ends ≡ ends_log g book line ends
unfolding ends_log
enough zero zero book line ends a b = refl
enough zero (suc g) book line ends a b = rw (eq-eqb (length ends) 0 (omega arith))
enough (suc f) zero book line ends a b = rw (eq-eqb (length ends) 0 (omega arith))
enough (suc f) (suc g) book line ends a b =
    by_bool (eqb (length ends) 0) (λ e. rw e)
    (λ e.
    let short = after-short ends (eqb-false (length ends) 0 e) in
    let entry = next_entry ends in
    let rest = enough f g (told_of line book entry).book (line + 1) (after LF ends) (omega arith) (omega arith) in
    ap (λ (l : List ℕ). cond (eqb (length ends) 0) [] (told_log book entry (told_of line book entry) ++ cond (eqb (entry_code entry) 0) l [])) rest)

-- one line, where all n lines say a report or drop
module _ (fuel m n : ℕ) (book : Book) (line : ℕ) (ends : List ℕ) (later : List Event)
    (more :
    (next : Book)
    → ends_log fuel next (line + 1) ends
    ≡ ends_log n next (line + 1) ends ++ ends_log m (book_after next later) (line + 1 + n) (skip n ends)) where
  abbrev Turn : Entry → Type 0
  Turn entry =
      told_log book entry (told_of line book entry) ++ cond (eqb (entry_code entry) 0) (ends_log fuel (told_of line book entry).book (line + 1) ends) []
      ≡ (told_log book entry (told_of line book entry) ++ cond (eqb (entry_code entry) 0) (ends_log n (told_of line book entry).book (line + 1) ends) [])
      ++ ends_log m (book_after book (said_before entry later)) (line + suc n) (skip n ends)

  one-turn : (said : List ℕ) (next after-it : Book) → book_after next later ≡ after-it
      → said ++ ends_log fuel next (line + 1) ends ≡ (said ++ ends_log n next (line + 1) ends) ++ ends_log m after-it (line + suc n) (skip n ends)
  one-turn said next after-it e =
      let at : line + 1 + n ≡ line + suc n = omega arith in
      ap (λ (l : List ℕ). said ++ l) (more next ∙ (λ i. ends_log n next (line + 1) ends ++ ends_log m (e i) (at i) (skip n ends)))
      ∙ sym (append_assoc said (ends_log n next (line + 1) ends) (ends_log m after-it (line + suc n) (skip n ends)))

  turn : (entry : Entry) → length (said_before entry later) ≡ suc n → Turn entry
  unfolding told_of book_after
  turn (End task tick) l = one-turn (told_log book (End task tick) (told_of line book (End task tick))) (book_told book (Event.ends task tick)) _ refl
  turn (Drop task) l = one-turn (told_log book (Drop task) (told_of line book (Drop task))) (book_told book (Event.drops task)) _ refl
  turn (Refused code column) l = absurd (omega arith)

-- so they are n lines of at least a byte each
said-short : (entry : Entry) (later : List Event) (n : ℕ) → length (said_before entry later) ≡ suc n → length later ≡ n
said-short (End task tick) later n e = omega arith
said-short (Drop task) later n e = omega arith
said-short (Refused code column) later n e = absurd (omega arith)

module _ where
  pub goes : (n fuel m : ℕ) (book : Book) (line : ℕ) (ends : List ℕ) → fuel ≡ n + m → length (said_in n ends) ≡ n
      → ends_log fuel book line ends ≡ ends_log n book line ends ++ ends_log m (book_after book (said_in n ends)) (line + n) (skip n ends)
  unfolding ends_log said_in book_after skip_on
  goes zero fuel m book line ends e l = let q : line + 0 ≡ line = omega arith in let p : fuel ≡ m = omega arith in rw (q, p)
  goes (suc n) zero m book line ends e l = absurd (omega arith)
  goes (suc n) (suc fuel) m book line ends e l =
      by_bool (eqb (length ends) 0)
      (λ z. let y : 0 ≡ suc n = rw z at l in absurd (omega arith))
      (λ z.
      let said : length (said_before (next_entry ends) (said_in n (after LF ends))) ≡ suc n = rw z at l in
      rw z
      (turn fuel m n book line (after LF ends) (said_in n (after LF ends))
      (λ next. goes n fuel m next (line + 1) (after LF ends) (omega arith) (said-short (next_entry ends) (said_in n (after LF ends)) n said))
      (next_entry ends) said))

bytes_left : (n : ℕ) (ends : List ℕ) → length (said_in n ends) ≡ n → n + length (skip n ends) ≤ length ends
unfolding said_in skip_on
bytes_left zero ends l = omega arith
bytes_left (suc n) ends l =
    by_bool (eqb (length ends) 0)
    (λ z. let y : 0 ≡ suc n = rw z at l in absurd (omega arith))
    (λ z.
    let said : length (said_before (next_entry ends) (said_in n (after LF ends))) ≡ suc n = rw z at l in
    let rest = bytes_left n (after LF ends) (said-short (next_entry ends) (said_in n (after LF ends)) n said) in
    let short = after-short ends (eqb-false (length ends) 0 z) in
    omega arith)

pub log-goes-on :
    (book : Book) (line n : ℕ) (ends : List ℕ) → length (said_in n ends) ≡ n
    → rest_log book line ends ≡ ends_log n book line ends ++ rest_log (book_after book (said_in n ends)) (line + n) (skip n ends)
log-goes-on book line n ends l =
    let left = bytes_left n ends l in
    goes n (length ends) (length ends - n) book line ends (omega arith) l
    ∙ ap (λ (s : List ℕ). ends_log n book line ends ++ s)
    (enough (length ends - n) (length (skip n ends)) (book_after book (said_in n ends)) (line + n) (skip n ends) (omega arith) (omega arith))

-- one line more
pub said-snoc :
    (k : ℕ) (ends : List ℕ) (event : Event) → length (said_in k ends) ≡ k → eqb (length (skip k ends)) 0 ≡ false
    → ((later : List Event) → said_before (next_entry (skip k ends)) later ≡ event ∷ later)
    → said_in (suc k) ends ≡ said_in k ends ++ (event ∷ [])
unfolding said_in skip_on
said-snoc zero ends event l some is = rw some (is [])
said-snoc (suc k) ends event l some is =
    by_bool (eqb (length ends) 0)
    (λ z. let y : 0 ≡ suc k = rw z at l in absurd (omega arith))
    (λ z.
    let said : length (said_before (next_entry ends) (said_in k (after LF ends))) ≡ suc k = rw z at l in
    let more = said-snoc k (after LF ends) event (said-short (next_entry ends) (said_in k (after LF ends)) k said) some is in
    rw z (front (next_entry ends) (said_in k (after LF ends)) (said_in (suc k) (after LF ends)) said more))
  where
    front :
        (entry : Entry) (later longer : List Event) → length (said_before entry later) ≡ suc k → longer ≡ later ++ (event ∷ [])
        → said_before entry longer ≡ said_before entry later ++ (event ∷ [])
    front (End task tick) later longer e q = ap (λ (l : List Event). Event.ends task tick ∷ l) q
    front (Drop task) later longer e q = ap (λ (l : List Event). Event.drops task ∷ l) q
    front (Refused code column) later longer e q = absurd (omega arith)

one_line :
    (book : Book) (line : ℕ) (ends : List ℕ) → eqb (length ends) 0 ≡ false
    → ends_log 1 book line ends ≡ told_log book (next_entry ends) (told_of line book (next_entry ends))
unfolding ends_log
one_line book line ends some =
    rw some
    (ap (λ (l : List ℕ). told_log book (next_entry ends) (told_of line book (next_entry ends)) ++ l) (either (eqb (entry_code (next_entry ends)) 0))
    ∙ append-nil (told_log book (next_entry ends) (told_of line book (next_entry ends))))
  where
    either : (b : Bool) → cond {A = List ℕ} b [] [] ≡ []
    either true = refl
    either false = refl

pub turn_more :
    (k : ℕ) (book : Book) (line : ℕ) (ends : List ℕ) → length (said_in k ends) ≡ k → eqb (length (skip k ends)) 0 ≡ false
    → ends_log (suc k) book line ends
    ≡ ends_log k book line ends
    ++ told_log (book_after book (said_in k ends)) (next_entry (skip k ends)) (told_of (line + k) (book_after book (said_in k ends)) (next_entry (skip k ends)))
turn_more k book line ends l some =
    goes k (suc k) 1 book line ends (omega arith) l
    ∙ ap (λ (s : List ℕ). ends_log k book line ends ++ s) (one_line (book_after book (said_in k ends)) (line + k) (skip k ends) some)
