-- The timetable that was given is the one solution of the two lines, and nobody is late in it.
use Prim.Native.Nat.{ℕ, ◌+◌, ◌≤◌, ◌<◌}
use native.Mathlib.Omega.{arith}
use mathlib.Core.Path.{◌≡◌, sym, ap, ◌∙◌}
use mathlib.Core.Bool.{cond}
use Rattle.theory.specs.Plan as theory-plan
use Rattle.theory.specs.Book.{is_dropped}
use Rattle.theory.proofs.Facts.{Lawful}
use Rattle.theory.specs.Times.{end_time}
use Rattle.theory.specs.Words.Lines.{TwoLines}
use Rattle.theory.proofs.Solved.{start-same, solves, only-starts, only-ends}
use Rattle.theory.proofs.Bounds.{start-by, end_by}
use Rattle.plan.specs.Answer.{granted}
use Rattle.plan.specs.Value.{at}
use Rattle.plan.specs.declared.Plan.{Plan}
use Rattle.book_view.specs.View.{plan_for}
use Rattle.book_view.proofs.Accepted.{plan-lawful}
use Rattle.book.specs.Open.{rule_number}
use Rattle.book.specs.declared.Rule.{Rule}
use Rattle.engine.specs.Timetable.{timetable_of}
use Rattle.engine.specs.declared.Lengths.{Lengths}
use Rattle.promises_engine.proofs.Said.{Given, given-of}

module _ (plan : Plan) (rule : Rule) (given : Lengths) (taken : (timetable_of plan rule given).answer ≡ granted) where
  abbrev seen : theory-plan.Plan
  seen = plan_for (rule_number rule) plan

  abbrev lasts : ℕ → ℕ
  lasts = at given.length

  abbrev gone : ℕ → ℕ
  gone = at given.dropped

  table : Given plan rule given
  table = given-of plan rule given taken

  law : Lawful seen
  law = plan-lawful plan table.ok (rule_number rule)

  pub table-lines : TwoLines seen lasts gone (at (timetable_of plan rule given).start) (at (timetable_of plan rule given).end)
  table-lines = record {
    starts = λ i l.
        table.starts i l ∙ start-same seen gone (end_time seen lasts gone) _ i (λ j lj w. sym (table.ends j lj));
    ends = λ i l.
        table.ends i l
        ∙ (solves seen law lasts gone).ends i l
        ∙ ap (λ (s : ℕ). s + cond (is_dropped gone i) 0 (lasts i)) (sym (table.starts i l));
  }

  pub table-only :
      (start end : ℕ → ℕ) → TwoLines seen lasts gone start end → (i : ℕ) → i < plan.tasks
      → (start i ≡ at (timetable_of plan rule given).start i) × (end i ≡ at (timetable_of plan rule given).end i)
  table-only start end lines i l =
      (only-starts seen law lasts gone start end lines i l ∙ sym (table.starts i l), only-ends seen law lasts gone start end lines i l ∙ sym (table.ends i l))

  pub table-in-time :
      (i : ℕ) → i < plan.tasks
      → (at (timetable_of plan rule given).start i ≤ at plan.begin i) × (at (timetable_of plan rule given).end i ≤ at plan.finish i)
  table-in-time i l =
      let lines = solves seen law lasts gone in
      let s = start-by seen lasts gone _ _ lines law table.fits i l in
      let e = end_by seen lasts gone _ _ lines law table.fits i l in
      (omega (arith, table.starts i l), omega (arith, table.ends i l))
