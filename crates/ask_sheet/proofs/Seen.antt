-- The sheet by sets is the sheet worked out from the holds.
use Prim.Native.Nat.{ℕ, ◌+◌, ◌*◌, ◌≤◌, ◌<◌, min}
use native.Mathlib.Numerals.{add-one}
use native.Mathlib.Omega.{arith}
use mathlib.Core.Path.{◌≡◌, refl, sym, ap, ◌∙◌}
use mathlib.Core.Bool.{Bool, true, false, ◌&&◌}
use mathlib.Core.List.{List}
use lib.Bits.{bit_and}
use lib.Dec.{eqb, ltb}
use lib.ListN.{length, take, drop_of_length-le}
use Rattle.laws.specs.Bits.{has, set_of}
use Rattle.laws.specs.Lists.{any_of}
use Rattle.laws.specs.Split.{index_of}
use Rattle.laws.proofs.Bits.{has-and, has-set, has-below}
use Rattle.laws.proofs.Noted.{set_at}
use Rattle.theory.specs.Book.{Book}
use Rattle.theory.specs.Figure.{has_begun}
use Rattle.text_fields.specs.Items.{drive_of}
use Rattle.plan.specs.Value.{at, items}
use Rattle.book_view.proofs.Short.{short}
use Rattle.book_holders.specs.Holders.{holds_drive, holders_of}
use Rattle.ask_sheet.specs.Sheet.{is_waiting, numbers, soonest, holders_who, sheet_of}
use Rattle.ask_sheet.specs.Sets.{standing_of, members, sheet_by}
use Rattle.ask_sheet.proofs.Numbers.{numbers-within, numbers-passed}
use Rattle.ask_sheet.proofs.Renewed.{sheet-same}

swap : (a b c : Bool) → (a && (b && c)) ≡ (b && (a && c))
swap true b c = refl
swap false true c = refl
swap false false c = refl

module _ (holds : List ℕ) (size : length holds ≡ 2048) where
  -- a task without a place holds nothing
  holds-past : (drive k : ℕ) → 64 ≤ k → holds_drive holds drive k ≡ false
  unfolding any_of index_of
  holds-past drive k h =
      ap (λ (r : List ℕ). any_of (λ h. eqb drive (drive_of h)) (items (take 32 r))) (drop_of_length-le holds {i = 32 * k} (omega arith))

  module _ (d : ℕ) (low : d < 32) (tasks : ℕ) (kind : ℕ → Bool) where
    abbrev held : ℕ
    held = at (holders_of holds).held d

    held-is : (k : ℕ) → k < 64 → has held k ≡ holds_drive holds (d + 1) k
    unfolding holders_of
    held-is k h =
        ap (λ (set : ℕ). has set k) (set_at 32 (λ d. holds_drive holds (d + 1)) 64 d low) ∙ has-below 64 (holds_drive holds (d + 1)) k h

    who-is : members (bit_and held (set_of (min tasks 64) kind)) ≡ holders_who tasks holds kind d
    who-is =
        let n = min tasks 64 in
        let set = set_of n kind in
        numbers-within n 64 (λ k. holds_drive holds (d + 1) k && kind k) (has (bit_and held set)) (omega arith)
        (λ k h.
        has-and held set k ∙ rw (held-is k h, has-set n kind k) (swap (holds_drive holds (d + 1) k) (ltb k n) (kind k)))
        ∙ short (List ℕ) 64 (λ m. numbers m (λ k. holds_drive holds (d + 1) k && kind k))
        (λ m h. ap (λ (x : ℕ). numbers x (λ k. holds_drive holds (d + 1) k && kind k)) (sym (add-one m)) ∙ numbers-passed m (λ k. holds_drive holds (d + 1) k && kind k) (rw (holds-past (d + 1) m h))) tasks

  pub sheet-seen :
      (tasks : ℕ) (begin : List ℕ) (book : Book) → sheet_by (holders_of holds).held begin (standing_of tasks book) ≡ sheet_of tasks holds begin book
  unfolding sheet_by sheet_of
  sheet-seen tasks begin book =
      let held : List ℕ = (holders_of holds).held in
      let now = standing_of tasks book in
      sheet-same (λ d. members (bit_and (at held d) now.runs)) (holders_who tasks holds (has_begun book))
      (λ d. soonest (at begin) 0 (members (bit_and (at held d) now.waits))) (λ d. soonest (at begin) 0 (holders_who tasks holds (is_waiting book) d))
      (λ d h. who-is d h tasks (has_begun book)) (λ d h. ap (soonest (at begin) 0) (who-is d h tasks (is_waiting book)))
