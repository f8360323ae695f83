use mathlib.Core.Path.{sym, ◌∙◌}
use Rattle.desk_answers.proofs.AnswerLaws.{refusal-some, refusal-none, early-no, early-yes}
use borrow.Author.Rules.{rules}
use Rattle.desk_answers.proofs.answer_early.Goals as goal

pub returns-in-Some : goal.returns-in-Some
returns-in-Some c = let r = refusal-some _ (sym c.in-Some.is ∙ c.refusal.ensures) in early-no _ c.minimum_early-figure.ensures r.0 (rw r.1 at c.answer_refused.ensures)

pub returns : goal.returns
returns c = early-yes _ c.minimum_early-figure.ensures (refusal-none _ (sym c.in_default.is ∙ c.refusal.ensures)) (search rules) c.put_early.ensures
