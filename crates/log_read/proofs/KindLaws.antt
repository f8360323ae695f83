-- A line of ends.txt is refused by the number of a `FieldFault`: a `LineFault` that a reader answers is a `Fault`.
use Prim.Native.Nat.{ℕ}
use mathlib.Core.Path.{◌≡◌}
use mathlib.Core.Bool.{Bool}
use mathlib.Core.List.{List}
use Rattle.text_fields.proofs.Codes.{IsKind, worst-kind}
use Rattle.log_read.specs.Entries.{entry_of, next_entry}
use Rattle.log_read.specs.Said.Entry.{Refused}
use Rattle.log_read.proofs.TextLaws.{entry-refused, next-refused}

pub entry-kind : (ended : Bool) (line : List ℕ) {code column : ℕ} → entry_of ended line ≡ Refused code column → IsKind code
entry-kind ended line e = entry-refused IsKind worst-kind ended line e

pub next-kind : (s : List ℕ) {code column : ℕ} → next_entry s ≡ Refused code column → IsKind code
next-kind s e = next-refused IsKind worst-kind s e
