-- The same by sets of tasks, task k as bit k: who holds each drive, who runs and who waits.
use Rattle.std.specs.Prelude.{ℕ, min, Bool, cond, ◌&&◌, List, eqb}
use Rattle.std.specs.Int.Bits.{bit_and}
use Rattle.laws.specs.Bits.{has, set_of}
use Rattle.laws.specs.Each.{each, rows}
use Rattle.laws.specs.Lists.{same}
use Rattle.theory.specs.Book.{Book}
use Rattle.theory.specs.Figure.{has_begun}
use Rattle.plan.specs.Value.{at, row}
use Rattle.ask_sheet.specs.Sheet.{is_waiting, numbers, soonest, eight, sheet_with}
use Rattle.ask_sheet.specs.declared.Sheet.{Sheet}
use Rattle.ask_sheet.specs.declared.Standing.{Standing}

-- of the first 64 of T tasks those that run, and those that wait
abbrev pub standing_of : ℕ → Book → Standing
standing_of tasks book = record { runs = set_of (min tasks 64) (has_begun book); waits = set_of (min tasks 64) (is_waiting book) }

-- the numbers of a set's tasks
abbrev pub members : ℕ → List ℕ
members set = numbers 64 (has set)

-- the sheet of those that hold each drive
unfoldable pub sheet_by : List ℕ → List ℕ → Standing → Sheet
sheet_by held begin now =
    sheet_with (λ d. members (bit_and (at held d) now.runs)) (λ d. soonest (at begin) 0 (members (bit_and (at held d) now.waits)))

-- a drive whose holders run as before keeps its places, any other is worked out afresh
unfoldable pub running_again : List ℕ → ℕ → ℕ → List ℕ → List ℕ
running_again held was is running =
    rows 8 32
    (λ d.
    cond (eqb (bit_and (at held d) was) (bit_and (at held d) is)) (row 8 running d) (eight (members (bit_and (at held d) is))))
    running

-- and the same of who is next
unfoldable pub next_again : List ℕ → List ℕ → ℕ → ℕ → List ℕ → List ℕ
next_again held begin was is next =
    each 32
    (λ d.
    cond (eqb (bit_and (at held d) was) (bit_and (at held d) is)) (at next d) (soonest (at begin) 0 (members (bit_and (at held d) is))))
    next

-- The sheet updated, where before ran and waited others
abbrev pub renewed_by : List ℕ → List ℕ → Standing → Standing → Sheet → Sheet
renewed_by held begin before after sheet = record {
  running = running_again held before.runs after.runs sheet.running;
  next = next_again held begin before.waits after.waits sheet.next;
}

-- two sheets say the same
abbrev pub same_sheet : Sheet → Sheet → Bool
same_sheet a b = same a.running b.running && same a.next b.next
