use Rattle.theory.specs.Exact.{latest_end}
use Rattle.book_view.specs.View.{laid}
use Rattle.book.specs.View.{book_view}
use Rattle.ask_exact.specs.Step.{plan_by}
use mathlib.Core.List.{[]}
use mathlib.Core.Path.{◌≡◌}
use Prim.Native.Nat.{◌≤◌}
use Rattle.ask_exact.proofs.ends_at_latest.Given as goal

abbrev pub invariant-loop-j : goal.invariant-loop-j
invariant-loop-j l = (l.j ≤ l.tasks) × (l.ends ≡ laid l.j (latest_end (plan_by l.book []) (book_view l.book)))
