use Rattle.book_view.proofs.Laid.{zeros-laid}
use Rattle.school_judge.proofs.not_read.Goals as goal

pub returns : goal.returns
returns c = λ i. record { answer = c.args.answer; known = zeros-laid 0 i; start = zeros-laid 0 i; end = zeros-laid 0 i }
