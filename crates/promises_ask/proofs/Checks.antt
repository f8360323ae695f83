-- The refusals of the calls on a sheet, and what they hand back.
use Prim.Native.Nat.{ℕ, ◌+◌, ◌-◌, ◌≤◌, ◌<◌}
use native.Mathlib.Omega.{arith}
use mathlib.Core.Path.{◌≡◌, refl, sym, ap, subst, ◌∙◌}
use mathlib.Core.Bool.{Bool, true, false, cond}
use mathlib.Core.List.{List, [], ◌∷◌}
use mathlib.Core.Logic.{◌≢◌, ◌↔◌, ◌⊎◌, inl, inr, ⊎_elim}
use lib.Dec.{leb}
use lib.ListN.{length}
use borrow.Author.Tests.{eq-eqb, ne_eqb, le-leb, leb-true}
use Rattle.laws.proofs.Cases.{by_bool, by-eq, by_le, and_l, and_r, and-of, true-false}
use Rattle.laws.proofs.Lists.{same_refl}
use Rattle.theory.specs.Words.Events.{Event}
use Rattle.text_fields.specs.Items.{between}
use Rattle.plan.specs.Answer.{refuse, granted}
use Rattle.plan.specs.Value.{at, row, items}
use Rattle.plan.specs.declared.Plan.{Plan}
use Rattle.book_holders.specs.Holders.{holders_of}
use Rattle.ask_sheet.specs.Sets.{renewed_by, same_sheet}
use Rattle.ask_sheet.specs.declared.Sheet.{Sheet}
use Rattle.book.specs.View.{plan_in}
use Rattle.book.specs.Sound.{is_sound}
use Rattle.book.specs.Report.{report_answer, reported_of}
use Rattle.book.specs.Drop.{drop_answer, dropped_of}
use Rattle.book.specs.Words.Event.{book_told}
use Rattle.book.specs.declared.Book.{Book}
use Rattle.book.specs.declared.BookResult.{BookResult}
use Rattle.ask_drives.specs.Sheets.{sheet_in, is_own, made_of, kept_with, reported_with, dropped_with, no_drive, on_drive_of, standing_in, updated_in}
use Rattle.ask_drives.specs.declared.BookAndSheet.{BookAndSheet}
use Rattle.ask_drives.proofs.Keep.{same-sheet, update-is}
use Rattle.promises.specs.Ladder.{Rung, ◌when◌, From, Ladder}
use Rattle.promises.specs.Checks.{report_checks, drop_checks}
use Rattle.promises.specs.Runs.{book_after}
use Rattle.promises.proofs.Demand1.{report-checks, drop-checks}
use Rattle.promises.proofs.Ladder.{First, distinct, ladder_of}
use Rattle.promises.proofs.RunView.{Good, good-event}
use Rattle.promises_ask.specs.Words.{NotOwn, MakingSays, KeepingSays, DriveSays, later, report_sheet_checks, drop_sheet_checks, asking_checks, kept_told, sheet_after}
use Rattle.promises_ask.proofs.Drives.{drive-says, running-is, at-most-eight}

-- the test of 9 as a fact
pub own-said : (book : Book) (sheet : Sheet) → is_own book sheet ≡ true → (is_sound book ≡ true) × (sheet ≡ sheet_in book)
own-said book sheet h =
    (and_l (is_sound book) (same_sheet sheet (sheet_in book)) h, same-sheet sheet (sheet_in book) (and_r (is_sound book) (same_sheet sheet (sheet_in book)) h))

same-own : (a b : Sheet) → a ≡ b → same_sheet a b ≡ true
same-own a b e = rw e (and-of (same_refl b.running) (same_refl b.next))

pub own_of : (book : Book) (sheet : Sheet) → is_sound book ≡ true → sheet ≡ sheet_in book → is_own book sheet ≡ true
own_of book sheet s e = and-of s (same-own sheet (sheet_in book) e)

other-said : (book : Book) (sheet : Sheet) → is_own book sheet ≡ false → NotOwn book sheet
other-said book sheet h = by_bool (is_sound book) (λ s. inr (λ e. true-false (own_of book sheet s e) h)) (λ s. inl s)

not-other : (book : Book) (sheet : Sheet) → is_own book sheet ≡ true → NotOwn book sheet → ⊥
not-other book sheet h n =
    let r = own-said book sheet h in ⊎_elim (λ s. true-false r.0 s) (λ e. e r.1) n

-- making
pub making-says : (book : Book) → MakingSays book (made_of book)
unfolding made_of
making-says book = by_bool (is_sound book) (λ s. MakingSays.made s (rw s)) (λ s. MakingSays.refused s (rw s))

made_code : (book : Book) (sound : Bool) → is_sound book ≡ sound → (made_of book).answer.code ≡ cond sound 0 9
unfolding made_of
made_code book true e = rw e
made_code book false e = rw e

pub making-ladder : (book : Book) → Ladder (9 when (is_sound book ≡ false) ∷ []) (made_of book).answer.code
making-ladder book =
    let checks = 9 when (is_sound book ≡ false) ∷ [] in
    by_bool (is_sound book)
    (λ s. subst (Ladder checks) (sym (made_code book true s)) (ladder_of checks 0 refl (First.past (λ z. true-false s z) (First.end refl))))
    (λ s. subst (Ladder checks) (sym (made_code book false s)) (ladder_of checks 9 refl (First.here s refl)))

-- a report or a drop with its sheet
pub keeping-says : (book : Book) (sheet : Sheet) (told : BookResult) → KeepingSays book sheet told (kept_with book sheet told)
unfolding kept_with
keeping-says book sheet told =
    by_bool (is_own book sheet)
    (λ o.
    by-eq told.answer.code 0
    (λ z. KeepingSays.taken z (rw (o, eq-eqb told.answer.code 0 z)))
    (λ n. KeepingSays.refused n (rw (o, ne_eqb told.answer.code 0 n))))
    (λ o. KeepingSays.other (other-said book sheet o) (rw o))

-- what has passed may be said in other words
passed-as : (P Q : Type 0) → (P ↔ Q) → (rungs : List Rung) (code : ℕ) → From P rungs code → From Q rungs code
passed-as P Q e [] code f = (λ z. e.0 (f.0 z), λ q. f.1 (e.1 q))
passed-as P Q e (rung ∷ rest) code f = (
  (λ z. let r = f.0.0 z in (e.0 r.0, r.1), λ q. f.0.1 (e.1 q.0, q.1)),
  passed-as (P × (rung.applies → ⊥)) (Q × (rung.applies → ⊥)) (λ r. (e.0 r.0, r.1), λ r. (e.1 r.0, r.1)) rest code f.1,
)

-- a ladder whose first condition is wider: where that holds the code is its number, else what it was
module _ (A B : Type 0) (rest : List Rung) (code : ℕ) where
  pub wider-here : distinct (9 when B ∷ rest) ≡ true → B → Ladder (9 when B ∷ rest) 9
  wider-here d b = ladder_of (9 when B ∷ rest) 9 d (First.here b refl)

  pub wider-past : (A → B) → (B → ⊥) → Ladder (9 when A ∷ rest) code → Ladder (9 when B ∷ rest) code
  wider-past f n l = (
    (λ z. absurd (n (f (l.0.0 z).1)), λ q. absurd (n q.1)),
    passed-as (Unit × (A → ⊥)) (Unit × (B → ⊥)) ((λ p. (tt, n)), (λ p. (tt, λ a. n (f a)))) rest code l.1,
  )

module _ (book : Book) (sheet : Sheet) where
  kept-own : (told : BookResult) → is_own book sheet ≡ true → (kept_with book sheet told).result.answer.code ≡ told.answer.code
  unfolding kept_with
  kept-own told o = rw o

  kept-other : (told : BookResult) → is_own book sheet ≡ false → (kept_with book sheet told).result.answer.code ≡ 9
  unfolding kept_with
  kept-other told o = rw o

  pub report-ladder : (task tick : ℕ) → Ladder (report_sheet_checks book sheet task tick) (reported_with book sheet task tick).result.answer.code
  report-ladder task tick =
      let told = reported_of book task tick in
      let checks = report_sheet_checks book sheet task tick in
      by_bool (is_own book sheet)
      (λ o.
      subst (Ladder checks) (sym (kept-own told o))
      (wider-past (is_sound book ≡ false) (NotOwn book sheet) (later (report_checks book task tick)) told.answer.code inl (not-other book sheet o) (report-checks book task tick)))
      (λ o.
      subst (Ladder checks) (sym (kept-other told o))
      (wider-here (is_sound book ≡ false) (NotOwn book sheet) (later (report_checks book task tick)) 9 refl (other-said book sheet o)))

  pub drop-ladder : (task : ℕ) → Ladder (drop_sheet_checks book sheet task) (dropped_with book sheet task).result.answer.code
  drop-ladder task =
      let told = dropped_of book task in
      let checks = drop_sheet_checks book sheet task in
      by_bool (is_own book sheet)
      (λ o.
      subst (Ladder checks) (sym (kept-own told o))
      (wider-past (is_sound book ≡ false) (NotOwn book sheet) (later (drop_checks book task)) told.answer.code inl (not-other book sheet o) (drop-checks book task)))
      (λ o.
      subst (Ladder checks) (sym (kept-other told o))
      (wider-here (is_sound book ≡ false) (NotOwn book sheet) (later (drop_checks book task)) 9 refl (other-said book sheet o)))

  -- asking
  far : (drive : ℕ) → between 1 32 drive ≡ false → (drive < 1) ⊎ (32 < drive)
  far drive h =
      by_le 1 drive
      (λ a. by_le drive 32 (λ b. true-false (and-of (le-leb 1 drive a) (le-leb drive 32 b)) h) (λ b. inr b))
      (λ a. inl a)

  near : (drive : ℕ) → between 1 32 drive ≡ true → (1 ≤ drive) × (drive ≤ 32)
  near drive h = (leb-true 1 drive (and_l (leb 1 drive) (leb drive 32) h), leb-true drive 32 (and_r (leb 1 drive) (leb drive 32) h))

  pub asking-ladder : (drive : ℕ) → Ladder (asking_checks book sheet drive) (on_drive_of book sheet drive).answer.code
  unfolding on_drive_of
  asking-ladder drive =
      by_bool (is_own book sheet)
      (λ o.
      by_bool (between 1 32 drive)
      (λ b.
      let r = near drive b in
      rw (o, b) (ladder_of (asking_checks book sheet drive) 0 refl (First.past (not-other book sheet o) (First.past (λ f. ⊎_elim (λ x. omega (arith, r.0)) (λ x. omega (arith, r.1)) f) (First.end refl)))))
      (λ b. rw (o, b) (ladder_of (asking_checks book sheet drive) 21 refl (First.past (not-other book sheet o) (First.here (far drive b) refl)))))
      (λ o. rw o (ladder_of (asking_checks book sheet drive) 9 refl (First.here (other-said book sheet o) refl)))

  pub refused_says :
      (drive : ℕ) → (on_drive_of book sheet drive).answer.code ≢ 0
      → (on_drive_of book sheet drive ≡ no_drive (refuse 9 0 0)) ⊎ (on_drive_of book sheet drive ≡ no_drive (refuse 21 drive 0))
  unfolding on_drive_of
  refused_says drive n =
      by_bool (is_own book sheet)
      (λ o. by_bool (between 1 32 drive) (λ b. absurd (n (rw (o, b)))) (λ b. inr (rw (o, b))))
      (λ o. inl (rw o))

  pub asking-says :
      Good book → sheet ≡ sheet_in book → (drive : ℕ) → 1 ≤ drive → drive ≤ 32 → DriveSays book drive (on_drive_of book sheet drive)
  unfolding on_drive_of
  asking-says g e drive from to =
      let o = own_of book sheet g.sound e in
      let b : between 1 32 drive ≡ true = and-of (le-leb 1 drive from) (le-leb drive 32 to) in
      let back : drive - 1 + 1 ≡ drive = omega arith in
      rw (o, b)
      (subst (λ (n : ℕ). DriveSays book n (record { answer = granted; running = row 8 sheet.running (drive - 1); next = at sheet.next (drive - 1) })) back
      (drive-says book g (drive - 1) (omega arith) (ap (λ (s : Sheet). row 8 s.running (drive - 1)) e) (ap (λ (s : Sheet). at s.next (drive - 1)) e)))

-- along a run
abbrev told_of : Book → Event → BookResult
told_of book (Event.ends task tick) = reported_of book task tick
told_of book (Event.drops task) = dropped_of book task

refused-book : (book : Book) (event : Event) → (told_of book event).answer.code ≢ 0 → (told_of book event).book ≡ book
unfolding reported_of dropped_of
refused-book book (Event.ends task tick) n = rw (ne_eqb (report_answer book task tick).code 0 n)
refused-book book (Event.drops task) n = rw (ne_eqb (drop_answer book task).code 0 n)

kept-told : (book : Book) (event : Event) → is_sound book ≡ true → kept_told book (sheet_in book) event ≡ record { result = told_of book event; sheet = sheet_in (told_of book event).book }
unfolding kept_with
kept-told book event s = go event
  where
    one : (event : Event) → kept_with book (sheet_in book) (told_of book event) ≡ record { result = told_of book event; sheet = sheet_in (told_of book event).book }
    one event =
        let told = told_of book event in
        let o = own_of book (sheet_in book) s refl in
        by-eq told.answer.code 0
        (λ z. rw (o, eq-eqb told.answer.code 0 z))
        (λ n. rw (o, ne_eqb told.answer.code 0 n) (λ i. record { result = told; sheet = sheet_in (sym (refused-book book event n) i) }))

    go : (event : Event) → kept_told book (sheet_in book) event ≡ record { result = told_of book event; sheet = sheet_in (told_of book event).book }
    go (Event.ends task tick) = one (Event.ends task tick)
    go (Event.drops task) = one (Event.drops task)

pub sheet-along : (book : Book) (events : List Event) → Good book → sheet_after book (sheet_in book) events ≡ sheet_in (book_after book events)
unfolding sheet_after book_after
sheet-along book [] g = refl
sheet-along book (Event.ends task tick ∷ rest) g =
    ap (λ (k : BookAndSheet). sheet_after k.result.book k.sheet rest) (kept-told book (Event.ends task tick) g.sound)
    ∙ sheet-along (book_told book (Event.ends task tick)) rest (good-event book (Event.ends task tick) g)
sheet-along book (Event.drops task ∷ rest) g =
    ap (λ (k : BookAndSheet). sheet_after k.result.book k.sheet rest) (kept-told book (Event.drops task) g.sound)
    ∙ sheet-along (book_told book (Event.drops task)) rest (good-event book (Event.drops task) g)

-- the update of a book's own sheet
pub renewed-fresh :
    (book after : Book) → plan_in after ≡ plan_in book → length book.holds ≡ 2048 → updated_in (sheet_in book) (standing_in book) after ≡ sheet_in after
renewed-fresh book after plan size =
    let holds : after.holds ≡ book.holds = ap (λ (p : Plan). p.holds) plan in
    (λ i. renewed_by (holders_of (holds i)).held after.begin (standing_in book) (standing_in after) (sheet_in book))
    ∙ update-is book after plan size (sheet_in book) refl

pub at_most : (book : Book) → Good book → (drive : ℕ) → 1 ≤ drive → drive ≤ 32 → length (items (on_drive_of book (sheet_in book) drive).running) ≤ 8
unfolding on_drive_of
at_most book g drive from to =
    let o = own_of book (sheet_in book) g.sound refl in
    let b : between 1 32 drive ≡ true = and-of (le-leb 1 drive from) (le-leb drive 32 to) in
    rw (o, b) (subst (λ (l : List ℕ). length l ≤ 8) (sym (running-is book g (drive - 1) (omega arith))) (at-most-eight book g (drive - 1)))
