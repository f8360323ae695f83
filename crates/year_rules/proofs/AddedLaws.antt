-- What a call adds, case by case; and that totals within their bounds stay there.
use Prim.Native.Nat.{ℕ, ◌+◌, ◌≤◌, ◌<◌}
use mathlib.Core.Path.{◌≡◌, ap}
use mathlib.Core.Bool.{true, false}
use mathlib.Core.List.{List}
use native.Mathlib.Omega.{arith}
use borrow.Author.Tests.{le-leb, lt-leb}
use Rattle.laws.proofs.Cases.{by_bool, by_le, true-false}
use Rattle.plan.specs.Answer.{refuse, granted, is_granted}
use Rattle.plan.specs.Value.{is_accepted}
use Rattle.plan.specs.declared.Plan.{Plan}
use Rattle.book_view.proofs.Accepted.{plan-facts}
use Rattle.school.specs.Tests.{unread, judged_of}
use Rattle.school.specs.declared.JudgedLog.{JudgedLog}
use Rattle.year_rules.specs.Figures.{figures_on}
use Rattle.year_rules.specs.Totals.{logs_most, totals_ok, with_figures, with_refused, with_judged, not_added, added_of}
use Rattle.year_rules.specs.declared.Totals.{Totals}
use Rattle.year_rules.proofs.BoardLaws.{figures-bound, figures-few}
use Rattle.year_rules.proofs.BoundLaws.{InBounds, facts-ok, refused-in, figures-in}

-- the figures of a judged log, board by board
abbrev pub figures_in : Plan → JudgedLog → ℕ → List ℕ
figures_in plan judged b = figures_on (b + 1) plan.board plan.finish judged.end plan.tasks

module _ (plan : Plan) (log : List ℕ) where
  judged-not : is_accepted plan ≡ false → judged_of plan log ≡ unread (refuse 9 0 0)
  unfolding judged_of
  judged-not h = rw h

  pub judged-accepted : is_granted (judged_of plan log).answer ≡ true → is_accepted plan ≡ true
  judged-accepted h =
      by_bool (is_accepted plan) (λ e. e)
      (λ e. true-false h (ap (λ (j : JudgedLog). is_granted j.answer) (judged-not e)))

module _ (totals : Totals) (plan : Plan) (judged : JudgedLog) where
  pub judged-adds : is_granted judged.answer ≡ true → with_judged totals plan judged ≡ with_figures totals (figures_in plan judged)
  unfolding with_judged
  judged-adds h = rw h

  pub judged-adds-none : is_granted judged.answer ≡ false → with_judged totals plan judged ≡ with_refused totals
  unfolding with_judged
  judged-adds-none h = rw h

module _ (totals : Totals) (plan : Plan) (log : List ℕ) where
  pub added-nine : totals_ok totals ≡ false → added_of totals plan log ≡ not_added (refuse 9 0 0) totals
  unfolding added_of
  added-nine h = rw h

  pub added_full :
      totals_ok totals ≡ true → logs_most ≤ totals.accepted + totals.refused → added_of totals plan log ≡ not_added (refuse 28 0 0) totals
  unfolding added_of
  added_full h f = rw (h, le-leb logs_most (totals.accepted + totals.refused) f)

  pub added-on :
      totals_ok totals ≡ true → totals.accepted + totals.refused < logs_most
      → added_of totals plan log
      ≡ record { answer = granted; judged = judged_of plan log; totals = with_judged totals plan (judged_of plan log) }
  unfolding added_of
  added-on h f = rw (h, lt-leb logs_most (totals.accepted + totals.refused) f)

  judged-in : InBounds totals → totals.accepted + totals.refused < logs_most → InBounds (with_judged totals plan (judged_of plan log))
  judged-in ok room =
      let judged = judged_of plan log in
      by_bool (is_granted judged.answer)
      (λ h.
      let facts = plan-facts plan (judged-accepted plan log h) in
      let few = facts.tasks-to in
      let all = figures-few plan.board plan.finish judged.end plan.tasks in
      rw (judged-adds totals plan judged h)
      (figures-in totals ok room (figures_in plan judged) (omega arith)
      (λ b. figures-bound (b + 1) plan.board plan.finish judged.end 1000000 plan.tasks (λ i l. (facts.task i l).by_most))))
      (λ h. rw (judged-adds-none totals plan judged h) (refused-in totals ok room))

  pub added-in : InBounds totals → InBounds (added_of totals plan log).totals
  added-in ok =
      let h = facts-ok totals ok in
      by_le logs_most (totals.accepted + totals.refused)
      (λ f. rw (added_full h f) ok)
      (λ f. rw (added-on h f) (judged-in ok f))
