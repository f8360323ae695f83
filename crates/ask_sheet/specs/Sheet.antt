-- A drive sheet: for each drive its running holders by rising task number, and who is next.
use Rattle.std.specs.Prelude.{ℕ, zero, suc, ◌+◌, ◌-◌, Bool, not, cond, ◌&&◌, ◌||◌, List, [], ◌∷◌, ◌++◌, eqb, ltb, replicate}
use Rattle.laws.specs.Each.{each, rows}
use Rattle.theory.specs.Book.{Book, waiting, running, is_dropped}
use Rattle.theory.specs.Figure.{has_begun}
use Rattle.plan.specs.Value.{at}
use Rattle.book_holders.specs.Holders.{holds_drive}
use Rattle.ask_sheet.specs.declared.Sheet.{Sheet}

-- A task counts as waiting, unless it is dropped, until the clock reaches its start
abbrev pub is_waiting : Book → ℕ → Bool
is_waiting book i =
    not (is_dropped book.dropped i)
    && (waiting book.mark i || (running book.mark i && ltb book.clock (book.start i)))

-- the numbers, from 1, of those below n that are picked, rising
unfoldable pub numbers : ℕ → (ℕ → Bool) → List ℕ
numbers zero w = []
numbers (suc n) w = cond (w n) (numbers n w ++ (suc n ∷ [])) (numbers n w)

-- of two task numbers, 0 being nobody, the first, unless it is nobody or the second is planned to start sooner
abbrev pub sooner : (ℕ → ℕ) → ℕ → ℕ → ℕ
sooner begin a b = cond (eqb a 0 || ltb (begin (b - 1)) (begin (a - 1))) b a

-- of a number and a list of numbers the one of least planned start, the first if equal
unfoldable pub soonest : (ℕ → ℕ) → ℕ → List ℕ → ℕ
soonest begin first [] = first
soonest begin first (k ∷ l) = soonest begin (sooner begin first k) l

-- the eight places of a drive: the first eight of a list, 0 past its last
abbrev pub eight : List ℕ → List ℕ
eight l = each 8 (at l) (replicate 8 0)

-- the sheet of these lines: drive d + 1 has the places from 8 d, and place d
unfoldable pub sheet_with : (ℕ → List ℕ) → (ℕ → ℕ) → Sheet
sheet_with on next = record { running = rows 8 32 (λ d. eight (on d)) (replicate 256 0); next = each 32 next (replicate 32 0) }

-- those of T tasks that hold drive d + 1 and are of a kind
abbrev pub holders_who : ℕ → List ℕ → (ℕ → Bool) → ℕ → List ℕ
holders_who tasks holds kind d = numbers tasks (λ k. holds_drive holds (d + 1) k && kind k)

-- The sheet worked out afresh: of T tasks by their holds and planned starts, for each drive its running holders,
-- and its waiting holder of least planned start, lowest number if equal
unfoldable pub sheet_of : ℕ → List ℕ → List ℕ → Book → Sheet
sheet_of tasks holds begin book =
    sheet_with (holders_who tasks holds (has_begun book)) (λ d. soonest (at begin) 0 (holders_who tasks holds (is_waiting book) d))

abbrev pub zero_sheet : Sheet
zero_sheet = record { running = replicate 256 0; next = replicate 32 0 }
