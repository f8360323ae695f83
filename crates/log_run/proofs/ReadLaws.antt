-- What is said of the answer that a reader gave, by the cases that the code tells apart.
use Prim.Native.Nat.{ℕ, min}
use mathlib.Core.Path.{◌≡◌, refl}
use Rattle.std.specs.Prelude.{Result, Ok, Err}
use Rattle.log_read.specs.Said.{said, Entry as entry}
use Rattle.log_read.specs.declared.LineFault.{LineFault}
use Rattle.log_read.specs.declared.Entry.{Entry}
use Rattle.log_read.specs.declared.Entry.TheVariants.{End, Drop}
use Rattle.log_run.specs.Answers.{within}

module _ {read : Result Entry LineFault} where
  pub said-end : {this : Entry} {task tick : ℕ} → read ≡ Ok this → this ≡ End task tick → within (said read) ≡ entry.End task tick
  said-end p q = rw (p, q) refl

  pub said-drop : {this : Entry} {task : ℕ} → read ≡ Ok this → this ≡ Drop task → within (said read) ≡ entry.Drop task
  said-drop p q = rw (p, q) refl

  pub said-refused : {fault : LineFault} → read ≡ Err fault → within (said read) ≡ entry.Refused fault.number (min fault.column 4294967295)
  said-refused p = rw p refl
