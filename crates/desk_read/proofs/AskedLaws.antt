-- What a reader's answer asks tells the whole answer.
use mathlib.Core.Path.{◌≡◌, refl, sym, ap, ◌∙◌}
use Rattle.std.specs.Prelude.{Result, Ok, Err}
use Rattle.log_read.specs.Said.Entry.{End, Drop, Refused}
use Rattle.log_read.specs.declared.Entry.TheVariants as entry
use Rattle.log_read.specs.declared.LineFault.{LineFault}
use Rattle.desk_read.specs.Asked.{DeskLine, asked}
use Rattle.desk_read.specs.Asked.DeskLine.{Step, Rule, Early, Exact, Now, Drive, Why}
use Rattle.desk_read.specs.declared.DeskLine as line
use Rattle.desk_read.specs.declared.DeskLine.TheVariants as read

abbrev answer_of : DeskLine → Result line.DeskLine LineFault
answer_of (Step (End task tick)) = Ok (read.Step (entry.End task tick))
answer_of (Step (Drop task)) = Ok (read.Step (entry.Drop task))
answer_of (Step (Refused code column)) = Err (record { number = code; column = column })
answer_of Rule = Ok read.Rule
answer_of Early = Ok read.Early
answer_of Exact = Ok read.Exact
answer_of Now = Ok read.Now
answer_of (Drive drive) = Ok (read.Drive drive)
answer_of (Why task) = Ok (read.Why task)

of-asked : (r : Result line.DeskLine LineFault) → answer_of (asked r) ≡ r
of-asked (Ok (read.Step (entry.End task tick))) = refl
of-asked (Ok (read.Step (entry.Drop task))) = refl
of-asked (Ok read.Rule) = refl
of-asked (Ok read.Early) = refl
of-asked (Ok read.Exact) = refl
of-asked (Ok read.Now) = refl
of-asked (Ok (read.Drive drive)) = refl
of-asked (Ok (read.Why task)) = refl
of-asked (Err fault) = refl

pub asked-whole : (a b : Result line.DeskLine LineFault) → asked a ≡ asked b → a ≡ b
asked-whole a b e = sym (of-asked a) ∙ ap answer_of e ∙ of-asked b
