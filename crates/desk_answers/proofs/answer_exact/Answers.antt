use mathlib.Core.Path.{sym, ◌∙◌}
use Rattle.desk_answers.proofs.AnswerLaws.{refusal-some, refusal-none, exact-no, exact-yes}
use borrow.Author.Rules.{rules}
use Rattle.desk_answers.proofs.answer_exact.Goals as goal

pub returns-in-Some : goal.returns-in-Some
returns-in-Some c = let r = refusal-some _ (sym c.in-Some.is ∙ c.refusal.ensures) in exact-no _ c.exact_early-exact.ensures r.0 (rw r.1 at c.answer_refused.ensures)

pub returns : goal.returns
returns c = exact-yes _ c.exact_early-exact.ensures (refusal-none _ (sym c.in_default.is ∙ c.refusal.ensures)) (search rules) c.then_some.ensures c.put_exact.ensures
