-- What is said of a reader's answer tells the whole answer.
use Prim.Native.Nat.{ℕ}
use mathlib.Core.Path.{◌≡◌, refl, sym, ap, ◌∙◌}
use Rattle.std.specs.Prelude.{Result, Ok, Err}
use Rattle.log_read.specs.declared.LineFault.{LineFault}
use Rattle.log_read.specs.Said.{Entry, Choice, said, chosen}
use Rattle.log_read.specs.Said.Entry.{End, Drop, Refused}
use Rattle.log_read.specs.Said.Choice.{Unsaid, Chosen, Malformed}
use Rattle.log_read.specs.declared.Entry as entry
use Rattle.log_read.specs.declared.Entry.TheVariants as read
use Rattle.log_read.specs.declared.Choice as choice
use Rattle.log_read.specs.declared.Choice.TheVariants as first

abbrev answer_of : Entry → Result entry.Entry LineFault
answer_of (End task tick) = Ok (read.End task tick)
answer_of (Drop task) = Ok (read.Drop task)
answer_of (Refused code column) = Err (record { number = code; column = column })

of-said : (r : Result entry.Entry LineFault) → answer_of (said r) ≡ r
of-said (Ok (read.End task tick)) = refl
of-said (Ok (read.Drop task)) = refl
of-said (Err fault) = refl

pub said-whole : (a b : Result entry.Entry LineFault) → said a ≡ said b → a ≡ b
said-whole a b e = sym (of-said a) ∙ ap answer_of e ∙ of-said b

abbrev first_of : Choice → Result choice.Choice ℕ
first_of Unsaid = Ok first.Unsaid
first_of Chosen = Ok first.Chosen
first_of (Malformed column) = Err column

of-chosen : (r : Result choice.Choice ℕ) → first_of (chosen r) ≡ r
of-chosen (Ok first.Unsaid) = refl
of-chosen (Ok first.Chosen) = refl
of-chosen (Err column) = refl

pub chosen-whole : (a b : Result choice.Choice ℕ) → chosen a ≡ chosen b → a ≡ b
chosen-whole a b e = sym (of-chosen a) ∙ ap first_of e ∙ of-chosen b

-- what the first line says, by the cases that the code tells apart
module _ {read : Result choice.Choice ℕ} where
  pub said-unsaid : {this : choice.Choice} → read ≡ Ok this → this ≡ first.Unsaid → chosen read ≡ Unsaid
  said-unsaid p q = rw (p, q) refl

  pub said-chosen : {this : choice.Choice} → read ≡ Ok this → this ≡ first.Chosen → chosen read ≡ Chosen
  said-chosen p q = rw (p, q) refl

  pub said-malformed : {column : ℕ} → read ≡ Err column → chosen read ≡ Malformed column
  said-malformed p = rw p refl
