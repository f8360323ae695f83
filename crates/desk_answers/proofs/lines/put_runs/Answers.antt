use Rattle.desk_answers.proofs.lines.put_runs.Goals as goal

pub returns : goal.returns
returns c = rw c.from.ensures at c.put_line.ensures
