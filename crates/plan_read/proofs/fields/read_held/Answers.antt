use mathlib.Core.Path.{refl, sym, ◌∙◌}
use Rattle.std.proofs.lemmas.Result.{err_from_is_err_and}
use Rattle.text_fields.proofs.FaultLaws.{number-some}
use Rattle.plan_read.proofs.TailLaws.{holds-off, holds-is, holds-shared-off}
use Rattle.plan_read.proofs.fields.read_held.Goals as goal

pub returns-in_err-holds : goal.returns-in_err-holds
returns-in_err-holds c =
    let p = err_from_is_err_and c.from_residual.result c.from_residual.ensures.1 in
    rw (p.1, p.2) (holds-off _ c.in_err-holds.ensures _ (number-some _))

pub returns-in-First : goal.returns-in-First
returns-in-First c = rw c.in-First.is (holds-is _ c.in_ok-holds.ensures _ refl (λ e. cc))

pub returns-in-Second : goal.returns-in-Second
returns-in-Second c = rw c.in-Second.is (holds-shared-off _ c.in_ok-holds.ensures refl (sym c.has_shared.ensures ∙ c.if-has_shared.true))

pub returns-in-Second-2 : goal.returns-in-Second-2
returns-in-Second-2 c = rw c.in-Second.is (holds-is _ c.in_ok-holds.ensures _ refl (λ e. sym c.has_shared.ensures ∙ c.if-has_shared.false))

pub returns-in-Mended : goal.returns-in-Mended
returns-in-Mended c = rw (c.in-Mended.is, c.make_exclusive.ensures) (holds-is _ c.in_ok-holds.ensures _ refl (λ e. cc))
