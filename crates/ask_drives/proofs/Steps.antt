-- A report and a drop as steps of a book.
use Prim.Native.Nat.{ℕ, ◌-◌}
use native.Mathlib.Omega.{arith}
use mathlib.Core.Path.{◌≡◌}
use mathlib.Core.Bool.{true, false}
use mathlib.Core.Logic.{◌≢◌}
use Rattle.laws.proofs.Cases.{by_bool}
use Rattle.plan.specs.Answer.{refuse, is_granted}
use Rattle.book.specs.View.{plan_in}
use Rattle.book.specs.Sound.{is_sound}
use Rattle.book.specs.Report.{code_of, report_answer, reported_of}
use Rattle.book.specs.Drop.{drop_code_of, drop_answer, dropped_of}
use Rattle.book.specs.declared.Book.{Book}
use Rattle.book.proofs.Sizes.{plan-next, plan-dropped}
use Rattle.ask_drives.proofs.Keep.{Step}

module _ (book : Book) (task tick : ℕ) where
  unsound-report : is_sound book ≡ false → reported_of book task tick ≡ record { answer = refuse 9 0 0; book = book }
  unfolding reported_of report_answer
  unsound-report h = rw h

  plan-reported : plan_in (reported_of book task tick).book ≡ plan_in book
  unfolding reported_of
  plan-reported = by_bool (is_granted (report_answer book task tick)) (λ g. rw g (plan-next book (task - 1) tick)) (λ g. rw g)

  pub report-step : Step book (reported_of book task tick)
  report-step = record { unsound = unsound-report; plan = plan-reported }

-- no task has the number 0: a report of it is refused, and the book stays
module _ (book : Book) (tick : ℕ) where
  none-reported : is_sound book ≡ true → reported_of book 0 tick ≡ record { answer = refuse 10 0 tick; book = book }
  unfolding reported_of report_answer code_of
  none-reported h = rw h

  pub report-nobody : (reported_of book 0 tick).answer.code ≢ 0
  report-nobody =
      by_bool (is_sound book)
      (λ s z. let e = rw (none-reported s) at z in omega (arith, e))
      (λ s z. let e = rw (unsound-report book 0 tick s) at z in omega (arith, e))

  pub report-unmoved : (reported_of book 0 tick).book ≡ book
  report-unmoved = by_bool (is_sound book) (λ s. rw (none-reported s)) (λ s. rw (unsound-report book 0 tick s))

module _ (book : Book) (task : ℕ) where
  unsound-drop : is_sound book ≡ false → dropped_of book task ≡ record { answer = refuse 9 0 0; book = book }
  unfolding dropped_of drop_answer
  unsound-drop h = rw h

  plan-kept : plan_in (dropped_of book task).book ≡ plan_in book
  unfolding dropped_of
  plan-kept = by_bool (is_granted (drop_answer book task)) (λ g. rw g (plan-dropped book (task - 1))) (λ g. rw g)

  pub drop-step : Step book (dropped_of book task)
  drop-step = record { unsound = unsound-drop; plan = plan-kept }

-- likewise a drop of the number 0
module _ (book : Book) where
  none_dropped : is_sound book ≡ true → dropped_of book 0 ≡ record { answer = refuse 10 0 0; book = book }
  unfolding dropped_of drop_answer drop_code_of
  none_dropped h = rw h

  pub drop-nobody : (dropped_of book 0).answer.code ≢ 0
  drop-nobody =
      by_bool (is_sound book)
      (λ s z. let e = rw (none_dropped s) at z in omega (arith, e))
      (λ s z. let e = rw (unsound-drop book 0 s) at z in omega (arith, e))

  pub drop-unmoved : (dropped_of book 0).book ≡ book
  drop-unmoved = by_bool (is_sound book) (λ s. rw (none_dropped s)) (λ s. rw (unsound-drop book 0 s))
