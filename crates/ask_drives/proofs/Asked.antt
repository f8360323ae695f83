-- What is answered about a drive, and a sheet that is made.
use Prim.Native.Nat.{ℕ, ◌-◌, ◌≤◌, ◌<◌}
use native.Mathlib.Omega.{arith}
use Rattle.std.specs.Prelude.{Result, is_ok}
use mathlib.Core.Path.{◌≡◌, sym, ap, ◌∙◌}
use mathlib.Core.Bool.{Bool, true, false, ◌&&◌}
use mathlib.Core.List.{List}
use lib.Dec.{leb}
use borrow.Author.Tests.{leb-true}
use Rattle.laws.proofs.Cases.{and_l, and_r}
use Rattle.text_fields.specs.Items.{between}
use Rattle.plan.specs.Answer.{refuse, granted}
use Rattle.plan.specs.Value.{at, row}
use Rattle.plan.specs.declared.Answer.{Answer}
use Rattle.ask_sheet.specs.Sheet.{zero_sheet}
use Rattle.ask_sheet.specs.declared.Sheet.{Sheet}
use Rattle.book.specs.Sound.{is_sound}
use Rattle.book.specs.declared.Book.{Book}
use Rattle.ask_drives.specs.Sheets.{sheet_in, is_own, made_of, no_drive, on_drive_of}
use Rattle.ask_drives.specs.Seen.{seen_of}
use Rattle.ask_drives.specs.declared.SheetResult.{SheetResult}
use Rattle.ask_drives.specs.declared.OnDrive.{OnDrive}
use Rattle.ask_drives.specs.declared.SheetCheck.{SheetCheck}
use Rattle.ask_drives.proofs.Keep.{ok-own}

module _ (book : Book) {sound : Bool} (known_is : sound ≡ is_sound book) where
  pub made-refused :
      sound ≡ false → {answer : Answer} → answer ≡ refuse 9 0 0 → {sheet : Sheet} → sheet ≡ zero_sheet
      → ◌≡◌ {A = SheetResult} (record { answer = answer; sheet = sheet }) (made_of book)
  unfolding made_of
  made-refused h e f =
      let s : is_sound book ≡ false = sym known_is ∙ h in
      rw s (λ i. record { answer = e i; sheet = f i })

  pub made-granted :
      sound ≡ true → {answer : Answer} → answer ≡ granted → {sheet : Sheet} → sheet ≡ sheet_in book
      → ◌≡◌ {A = SheetResult} (record { answer = answer; sheet = sheet }) (made_of book)
  unfolding made_of
  made-granted h e f =
      let s : is_sound book ≡ true = sym known_is ∙ h in
      rw s (λ i. record { answer = e i; sheet = f i })

  module _ (sheet : Sheet) (drive : ℕ) {seen : Result SheetCheck SheetCheck} (look : seen ≡ seen_of book sheet) where
    own_is : (sound && is_ok seen) ≡ is_own book sheet
    own_is = λ i. known_is i && (ap (λ (o : Result SheetCheck SheetCheck). is_ok o) look ∙ ok-own book sheet) i

    pub asked-other :
        (sound && is_ok seen) ≡ false → {answer : Answer} → answer ≡ refuse 9 0 0 → {r : OnDrive} → r ≡ no_drive answer
        → r ≡ on_drive_of book sheet drive
    unfolding on_drive_of
    asked-other h e q =
        let s : is_own book sheet ≡ false = sym own_is ∙ h in
        q ∙ ap no_drive e ∙ (rw s)

    pub asked-far :
        (sound && is_ok seen) ≡ true → between 1 32 drive ≡ false → {answer : Answer} → answer ≡ refuse 21 drive 0
        → {r : OnDrive} → r ≡ no_drive answer → r ≡ on_drive_of book sheet drive
    unfolding on_drive_of
    asked-far h far e q =
        let s : is_own book sheet ≡ true = sym own_is ∙ h in
        q ∙ ap no_drive e ∙ (rw (s, far))

    pub asked-near :
        (sound && is_ok seen) ≡ true → between 1 32 drive ≡ true → {answer : Answer} → answer ≡ granted
        → {running : List ℕ} → running ≡ row 8 sheet.running (drive - 1)
        → record { answer = answer; running = running; next = at sheet.next (drive - 1) } ≡ on_drive_of book sheet drive
    unfolding on_drive_of
    asked-near h near e q =
        let s : is_own book sheet ≡ true = sym own_is ∙ h in
        rw (s, near) (λ i. record { answer = e i; running = q i; next = at sheet.next (drive - 1) })

pub drive-low : (drive : ℕ) → between 1 32 drive ≡ true → (1 ≤ drive) × (drive - 1 < 32)
drive-low drive near =
    let from : 1 ≤ drive = leb-true 1 drive (and_l (leb 1 drive) (leb drive 32) near) in
    let to : drive ≤ 32 = leb-true drive 32 (and_r (leb 1 drive) (leb drive 32) near) in
    (from, omega arith)
