use Prim.Native.Nat.{min}
use mathlib.Core.Path.{◌≡◌}
use borrow.Author.Rules.{rules}
use Rattle.ask_sheet.proofs.standing_of.Goals as goal

pub returns : goal.returns
returns c =
    let n : c.places-n.result ≡ min c.args.book.now.plan.tasks 64 = search rules in
    λ i. record { runs = (rw n at c.running_set.ensures) i; waits = (rw n at c.waiting_set.ensures) i }
