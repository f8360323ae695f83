use Rattle.desk_answers.proofs.AnswerLaws.{refusal-some, refusal-none}
use native.Mathlib.Omega.{arith}
use mathlib.Core.Path.{refl, sym, ◌∙◌}
use lib.ListN.{length-take}
use Rattle.desk_answers.proofs.ChainLaws.{why-no, why-yes}
use borrow.Author.Rules.{rules}
use Rattle.desk_answers.proofs.chain.answer_why.Goals as goal

pub returns-in-Some : goal.returns-in-Some
returns-in-Some c = let r = refusal-some _ (sym c.in-Some.is ∙ c.refusal.ensures) in why-no c.args.book.now _ c.why-chain.ensures r.0 (rw r.1 at c.answer_refused.ensures)

pub put_links-place-requires : goal.put_links-place-requires
put_links-place-requires c = (omega (arith, c.min-count.ensures, length-take c.min-count.result c.why-chain.result.links), search rules)

pub returns : goal.returns
returns c = why-yes c.args.book.now _ c.why-chain.ensures (refusal-none _ (sym c.in_default.is ∙ c.refusal.ensures)) (search rules) c.min-count.ensures refl c.put_links-place.ensures c.put_why.ensures
