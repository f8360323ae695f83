-- What an opened book prints, and which of its cases the first line of ends.txt is.
use Prim.Native.Nat.{ℕ, suc, ◌≤◌}
use mathlib.Core.Path.{◌≡◌, sym, ap, ◌∙◌}
use mathlib.Core.List.{List, ◌++◌}
use native.Mathlib.Omega.{arith}
use lib.ListN.{length, replicate, length-drop}
use Rattle.laws.specs.Split.{index_of, after}
use Rattle.text.specs.Line.{LF}
use Rattle.plan.specs.Answer.{granted}
use Rattle.plan.specs.declared.Plan.{Plan}
use Rattle.book_view.proofs.Laid.{zeros-laid}
use Rattle.book.specs.Open.{rule_number, blank_book, opened_on}
use Rattle.book.specs.View.{lay_out}
use Rattle.book.specs.declared.Rule.{Rule}
use Rattle.log_run.specs.Lines.{run_line, start_lines, early_line}
use Rattle.log_run.specs.Log.{shown_after, open_log}
use Rattle.log_run.specs.Private.Writes.{starts_in, opened_in}
use Rattle.log_run.proofs.BookLaws.{opened-tasks}
use Rattle.log_run.proofs.ReportLaws.{starts-same}

module _ (plan : Plan) (rule : Rule) where
  blank-mark : (blank_book (rule_number rule) plan).mark ≡ replicate 64 0
  unfolding lay_out
  blank-mark = sym (zeros-laid plan.tasks)

  pub opened-same : opened_in (opened_on plan rule) (shown_after granted (opened_on plan rule)).early ≡ open_log plan rule
  unfolding open_log
  opened-same =
      let book = opened_on plan rule in
      ap (λ (x : List ℕ). run_line book ++ (x ++ early_line (shown_after granted book)))
      (ap (λ (m : List ℕ). starts_in m book book.tasks) (sym blank-mark)
      ∙ sym (starts-same (blank_book (rule_number rule) plan) book book.tasks)
      ∙ ap (start_lines (blank_book (rule_number rule) plan) book) (opened-tasks plan rule))

pub rest-less : (s : List ℕ) {rest : List ℕ} → rest ≡ after LF s → length rest ≤ length s
rest-less s u = rw u (omega (arith, length-drop (suc (index_of LF s)) s))
