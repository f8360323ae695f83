-- What is answered to a question about one drive or one task.
use Rattle.std.specs.Prelude.{ℕ, ◌-◌, not, List, [], ◌∷◌, ◌++◌, eqb, take}
use Rattle.laws.specs.Digits.{digits_of}
use Rattle.text.specs.Bytes.{bytes}
use Rattle.text.specs.Line.{line_text, number_or}
use Rattle.text_fields.specs.Items.{list_text}
use Rattle.theory.specs.Book.{ended}
use Rattle.plan.specs.Value.{at, items}
use Rattle.book.specs.declared.Book.{Book}
use Rattle.ask_why.specs.declared.Chain.{Chain}
use Rattle.ask_why.specs.Why.{why_of}
use Rattle.ask_drives.specs.Sheets.{made_of, on_drive_of}
use Rattle.log_write.specs.Lines.{numbers_line}
use Rattle.desk_answers.specs.Answers.{unless_refused, lines_each, known_line}

-- `drive`, n, running holders joined by commas or `-`, the next holder or `-`
unfoldable pub drive_line : ℕ → List ℕ → ℕ → List ℕ
drive_line drive holders next =
    line_text (bytes "drive" ∷ digits_of drive ∷ list_text digits_of holders ∷ number_or (not (eqb next 0)) next ∷ [])

-- what the book's own sheet says of the drive
unfoldable pub drive_answer : Book → ℕ → List ℕ
drive_answer book drive =
    let on = on_drive_of book (made_of book).sheet drive in
    unless_refused on.answer (drive_line drive (items on.running) on.next)

-- `link`, task, board, start, end or `-`
abbrev pub link_line : Book → ℕ → List ℕ
link_line book task =
    known_line (bytes "link") (task ∷ at book.board (task - 1) ∷ at book.start (task - 1) ∷ [])
    (ended (at book.mark) (task - 1)) (at book.end (task - 1))

abbrev pub links_in : Chain → List ℕ
links_in chain = take chain.count chain.links

-- a line for each link from the asked task on, and `why`, task, how many
unfoldable pub why_answer : Book → ℕ → List ℕ
why_answer book task =
    let chain = why_of book task in
    unless_refused chain.answer
    (lines_each (link_line book) (links_in chain) ++ numbers_line (bytes "why") (task ∷ chain.count ∷ []))
