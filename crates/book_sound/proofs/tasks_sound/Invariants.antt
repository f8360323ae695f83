use Rattle.theory.specs.Book.{task_test}
use Rattle.laws.specs.Every.{every}
use mathlib.Core.Bool.{true}
use Rattle.book_view.specs.Shown.{book_shown}
use Rattle.book_sound.specs.Private.Lent.{plan_by}
use mathlib.Core.Path.{◌≡◌}
use Prim.Native.Nat.{◌≤◌}
use Rattle.book_sound.proofs.tasks_sound.Given as goal

abbrev pub invariant-loop-i : goal.invariant-loop-i
invariant-loop-i l = (l.i ≤ l.book.plan.tasks) × (every l.i (task_test (plan_by l.book l.waits) (book_shown l.book)) ≡ true)
