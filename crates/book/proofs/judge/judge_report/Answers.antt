use Rattle.std.proofs.lemmas.Result.{err_from_is_err_and}
use Rattle.book.specs.View.{shown}
use Rattle.book.proofs.WaitLaws.{unsound-err, sound-ok, report-code, unsound-code}
use Rattle.book.proofs.judge.judge_report.Goals as goal

pub returns-in_default-clause-code : goal.returns-in_default-clause-code
returns-in_default-clause-code c = unsound-code (shown c.args.book.now) _ (unsound-err (shown c.args.book.now) c.in_default.ensures)

pub returns-in_err-check_report-clause-code : goal.returns-in_err-check_report-clause-code
returns-in_err-check_report-clause-code c =
    let p = err_from_is_err_and c.from_residual.result c.from_residual.ensures.1 in
    rw (p.1, p.2) (report-code c.args.book.now c.args.task (sound-ok (shown c.args.book.now) c.in-Ok.ensures).0 c.args.tick c.in_err-check_report.ensures)

pub returns-clause-code : goal.returns-clause-code
returns-clause-code c =
    report-code c.args.book.now c.args.task (sound-ok (shown c.args.book.now) c.in-Ok.ensures).0 c.args.tick c.in_ok-check_report.ensures

pub returns-clause-sets : goal.returns-clause-sets
returns-clause-sets c = (sound-ok (shown c.args.book.now) c.in-Ok.ensures).1
