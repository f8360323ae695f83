-- The line that a reader's answer is tells the whole answer.
use mathlib.Core.Path.{◌≡◌, refl, sym, ap, ◌∙◌}
use Rattle.std.specs.Prelude.{Result, Ok, Err}
use Rattle.text_fields.specs.declared.Fault.{Fault}
use Rattle.text_fields.proofs.SaidLaws.{kind_for, of-fault}
use Rattle.engine_read.specs.declared.LengthEntry.{LengthEntry}
use Rattle.engine_read.specs.Said.{LengthLine, line_in}
use Rattle.engine_read.specs.Said.{Length, Drop, Refused}

abbrev answer_of : LengthLine → Result LengthEntry Fault
answer_of (Length task ticks) = Ok (LengthEntry.Length task ticks)
answer_of (Drop task) = Ok (LengthEntry.Drop task)
answer_of (Refused code column) = Err (record { kind = kind_for code; column = column })

of-line : (r : Result LengthEntry Fault) → answer_of (line_in r) ≡ r
of-line (Ok (LengthEntry.Length task ticks)) = refl
of-line (Ok (LengthEntry.Drop task)) = refl
of-line (Err fault) = ap (λ (f : Fault). Err f) (of-fault fault)

pub line-whole : (a b : Result LengthEntry Fault) → line_in a ≡ line_in b → a ≡ b
line-whole a b e = sym (of-line a) ∙ ap answer_of e ∙ of-line b
