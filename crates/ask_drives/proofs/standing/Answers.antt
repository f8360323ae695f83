use mathlib.Core.Path.{ap, ◌∙◌}
use Rattle.book.specs.declared.Book.{Book}
use Rattle.ask_drives.specs.Sheets.{standing_in}
use Rattle.ask_drives.proofs.standing.Goals as goal

pub returns : goal.returns
returns c = c.standing_of.ensures ∙ ap (λ (b : Book). standing_in b) c.view.ensures
