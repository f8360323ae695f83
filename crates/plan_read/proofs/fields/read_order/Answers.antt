use mathlib.Core.Path.{refl}
use Rattle.std.proofs.lemmas.Result.{err_from_is_err_and}
use Rattle.text_fields.proofs.FaultLaws.{number-some}
use Rattle.plan_read.proofs.TailLaws.{after-off, after-is}
use Rattle.plan_read.proofs.fields.read_order.Goals as goal

pub returns-in_err-read_after : goal.returns-in_err-read_after
returns-in_err-read_after c =
    let p = err_from_is_err_and c.from_residual.result c.from_residual.ensures.1 in
    rw (p.1, p.2) (after-off _ _ c.in_err-read_after.ensures (number-some _))

pub returns : goal.returns
returns c = after-is _ _ c.in_ok-read_after.ensures refl
