use Rattle.book_view.proofs.Laid.{zeros-laid}
use Rattle.engine.proofs.refused.Goals as goal

pub returns : goal.returns
returns c = λ i. record { answer = c.args.answer; start = zeros-laid 0 i; end = zeros-laid 0 i }
