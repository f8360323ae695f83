-- A sheet kept through a step of its book is the sheet of the book after it.
use Prim.Native.Nat.{ℕ}
use Rattle.std.specs.Prelude.{Result, Ok, Err, is_ok}
use mathlib.Core.Path.{◌≡◌, sym, ap, ◌∙◌}
use mathlib.Core.Bool.{Bool, true, false, cond}
use mathlib.Core.List.{List}
use lib.Dec.{eqb}
use lib.ListN.{length}
use Rattle.laws.proofs.Cases.{by_bool, and_l, and_r, and_no}
use Rattle.laws.specs.Lists.{same}
use Rattle.laws.proofs.Lists.{same-eq}
use Rattle.theory.specs.Book as theory-book
use Rattle.plan.specs.Answer.{refuse}
use Rattle.plan.specs.declared.Plan.{Plan}
use Rattle.book_holders.specs.Holders.{holders_of}
use Rattle.book_holders.specs.declared.Holders.{Holders}
use Rattle.ask_sheet.specs.Sheet.{sheet_of}
use Rattle.ask_sheet.specs.Sets.{standing_of, sheet_by, renewed_by, same_sheet}
use Rattle.ask_sheet.specs.declared.Sheet.{Sheet}
use Rattle.ask_sheet.specs.declared.Standing.{Standing}
use Rattle.ask_sheet.proofs.Renewed.{renewed-is}
use Rattle.ask_sheet.proofs.Seen.{sheet-seen}
use Rattle.book.specs.View.{plan_in, book_view}
use Rattle.book.specs.Sound.{is_sound}
use Rattle.book.specs.declared.Book.{Book}
use Rattle.book.specs.declared.BookResult.{BookResult}
use Rattle.ask_drives.specs.Sheets.{sheet_in, is_own, kept_with, standing_in}
use Rattle.ask_drives.specs.Seen.{seen_of}
use Rattle.ask_drives.specs.declared.SheetCheck.{SheetCheck}

-- two sheets that say the same are one
pub same-sheet : (a b : Sheet) → same_sheet a b ≡ true → a ≡ b
same-sheet a b h =
    let r = same-eq a.running b.running (and_l (same a.running b.running) (same a.next b.next) h) in
    let n = same-eq a.next b.next (and_r (same a.running b.running) (same a.next b.next) h) in
    λ i. record { running = r i; next = n i }

module _ (holds : List ℕ) (size : length holds ≡ 2048) (tasks : ℕ) (begin : List ℕ) (book : theory-book.Book) where
  -- worked out by the sets of those that hold, run and wait
  pub fresh-is :
      {all : Holders} → all ≡ holders_of holds → {now : Standing} → now ≡ standing_of tasks book → {sheet : Sheet}
      → sheet ≡ sheet_by all.held begin now → sheet ≡ sheet_of tasks holds begin book
  fresh-is {all} e {now} f q =
      q ∙ ap (λ (h : Holders). sheet_by h.held begin now) e ∙ ap (sheet_by (holders_of holds).held begin) f
      ∙ sheet-seen holds size tasks begin book

-- the update by the same sets
pub renewed-by :
    (holds : List ℕ) (tasks : ℕ) (begin : List ℕ) (book : theory-book.Book) (sheet : Sheet) (before : Standing) {all : Holders} → all ≡ holders_of holds
    → {now : Standing} → now ≡ standing_of tasks book → {next : Sheet} → next ≡ renewed_by all.held begin before now sheet
    → next ≡ renewed_by (holders_of holds).held begin before (standing_of tasks book) sheet
renewed-by holds tasks begin book sheet before {all} e {now} f q =
    q ∙ ap (λ (h : Holders). renewed_by h.held begin before now sheet) e
    ∙ ap (λ (s : Standing). renewed_by (holders_of holds).held begin before s sheet) f

-- what a report or a drop does to a book
pub record Step (book : Book) (handed : BookResult) : Type 0 where
  pub unsound : is_sound book ≡ false → handed ≡ record { answer = refuse 9 0 0; book = book }
  pub plan : plan_in handed.book ≡ plan_in book

-- the update of a book's own sheet is the sheet of a book on the same plan
module _ (book after : Book) (plan : plan_in after ≡ plan_in book) (size : length book.holds ≡ 2048) (sheet : Sheet) where
  pub update-is :
      sheet ≡ sheet_in book
      → renewed_by (holders_of book.holds).held after.begin (standing_in book) (standing_in after) sheet ≡ sheet_in after
  update-is own =
      let held = (holders_of book.holds).held in
      let begins : after.begin ≡ book.begin = ap (λ (p : Plan). p.begin) plan in
      let holds : after.holds ≡ book.holds = ap (λ (p : Plan). p.holds) plan in
      ap (λ (b : List ℕ). renewed_by held b (standing_in book) (standing_in after) sheet) begins
      ∙ ap (renewed_by held book.begin (standing_in book) (standing_in after)) (own ∙ sym (sheet-seen book.holds size book.tasks book.begin (book_view book)))
      ∙ renewed-is held book.begin (standing_in book) (standing_in after)
      ∙ sheet-seen book.holds size after.tasks book.begin (book_view after)
      ∙ (λ i. sheet_of after.tasks (sym holds i) (sym begins i) (book_view after))

-- what is looked at of a sheet that is the book's
module _ (book : Book) (sheet : Sheet) where
  abbrev of : SheetCheck
  of = record { held = (holders_of book.holds).held; before = standing_in book }

  pub ok-own : is_ok (seen_of book sheet) ≡ same_sheet sheet (sheet_in book)
  ok-own = by_bool (same_sheet sheet (sheet_in book)) (λ o. rw o) (λ o. rw o)

  own-seen : {seen : SheetCheck} → Ok seen ≡ seen_of book sheet → (same_sheet sheet (sheet_in book) ≡ true) × (seen ≡ of)
  own-seen {seen} q =
      by_bool (same_sheet sheet (sheet_in book))
      (λ o. let z : ◌≡◌ {A = Result SheetCheck SheetCheck} (Ok seen) (Ok of) = q ∙ rw o in (o, cc))
      (λ o. let z : ◌≡◌ {A = Result SheetCheck SheetCheck} (Ok seen) (Err of) = q ∙ rw o in absurd cc)

  not-own : {seen : SheetCheck} → Err seen ≡ seen_of book sheet → is_own book sheet ≡ false
  not-own {seen} q =
      by_bool (same_sheet sheet (sheet_in book))
      (λ o. let z : ◌≡◌ {A = Result SheetCheck SheetCheck} (Err seen) (Ok of) = q ∙ rw o in absurd cc)
      (λ o. rw o (and_no (is_sound book)))

  -- one that is not is handed back with the book
  pub other-kept :
      {seen : SheetCheck} → Err seen ≡ seen_of book sheet → (handed : BookResult)
      → record { result = record { answer = refuse 9 0 0; book = book }; sheet = sheet } ≡ kept_with book sheet handed
  unfolding kept_with
  other-kept q handed = rw (not-own q)

  module _ (size : length book.holds ≡ 2048) (step : BookResult) (made : Step book step) where
    abbrev renewed : BookResult → Sheet
    renewed handed =
        cond (eqb handed.answer.code 0)
        (renewed_by (holders_of book.holds).held handed.book.begin (standing_in book) (standing_in handed.book) sheet) sheet

    own-kept : same_sheet sheet (sheet_in book) ≡ true → record { result = step; sheet = renewed step } ≡ kept_with book sheet step
    unfolding kept_with
    own-kept o =
        by_bool (is_sound book)
        (λ s.
        let mine : is_own book sheet ≡ true = rw (s, o) in
        by_bool (eqb step.answer.code 0)
        (λ z.
        rw (mine, z) (λ i. record { result = step; sheet = update-is book step.book made.plan size sheet (same-sheet sheet (sheet_in book) o) i }))
        (λ z. rw (mine, z)))
        (λ s.
        let mine : is_own book sheet ≡ false = rw s in
        rw (mine, made.unsound s))

    pub step-kept :
        {seen : SheetCheck} → Ok seen ≡ seen_of book sheet → {handed : BookResult} → handed ≡ step → {next : Sheet}
        → next ≡ cond (eqb handed.answer.code 0) (renewed_by seen.held handed.book.begin seen.before (standing_in handed.book) sheet) sheet
        → record { result = handed; sheet = next } ≡ kept_with book sheet step
    step-kept {seen} q {handed} h {next} k =
        let mine = own-seen q in
        let to : next ≡ renewed step = k ∙ (λ j. cond (eqb (h j).answer.code 0) (renewed_by (mine.1 j).held (h j).book.begin (mine.1 j).before (standing_in (h j).book) sheet) sheet) in
        (λ i. record { result = h i; sheet = to i }) ∙ own-kept mine.0

-- what is looked at, as it is worked out
pub seen-is :
    (book : Book) (sheet : Sheet) → length book.holds ≡ 2048 → {all : Holders} → all ≡ holders_of book.holds → {now : Standing} → now ≡ standing_in book
    → {again : Sheet} → again ≡ sheet_by all.held book.begin now → {b : Bool} → b ≡ same_sheet sheet again
    → cond b (Ok (record { held = all.held; before = now })) (Err (record { held = all.held; before = now })) ≡ seen_of book sheet
seen-is book sheet size {all} e {now} f {again} q {b} s =
    let fresh = fresh-is book.holds size book.tasks book.begin (book_view book) e f q in
    λ i. cond ((s ∙ ap (same_sheet sheet) fresh) i) (Ok (record { held = (e i).held; before = f i })) (Err (record { held = (e i).held; before = f i }))
