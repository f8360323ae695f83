use borrow.Author.Tests.{le-ltb, lt-ltb}
use Rattle.std.proofs.lemmas.Result.{err_from_is_err_and}
use Rattle.plan_read.proofs.TailLaws.{ready-off, ready-late, ready-in}
use Rattle.plan_read.proofs.fields.read_ready.Goals as goal

pub returns-in_err-ready : goal.returns-in_err-ready
returns-in_err-ready c =
    let p = err_from_is_err_and c.from_residual.result c.from_residual.ensures.1 in
    rw (p.1, p.2) (ready-off _ _ _ c.in_err-ready.ensures)

pub returns-then-begin-ready : goal.returns-then-begin-ready
returns-then-begin-ready c = ready-late _ _ _ c.in_ok-ready.ensures (lt-ltb _ _ c.if-begin-ready.true)

pub returns : goal.returns
returns c = ready-in _ _ _ c.in_ok-ready.ensures (le-ltb _ _ c.if-begin-ready.false)
