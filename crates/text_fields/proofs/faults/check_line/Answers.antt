use Prim.Native.Nat.{ℕ, ◌+◌}
use mathlib.Core.Path.{sym, ap, ◌∙◌}
use Rattle.laws.specs.Split.{begin_of}
use Rattle.text.specs.Line.{TAB}
use Rattle.text_fields.proofs.FaultLaws.{worst-right, worst-start, worst-next, worst-found, worst-none, place-none, place-some}
use Rattle.text_fields.proofs.faults.check_line.Goals as goal

pub returns-then-is_faultless : goal.returns-then-is_faultless
returns-then-is_faultless g c = worst-right _ _ (sym c.is_faultless.ensures ∙ c.if-is_faultless.true)

pub loop-kind-init : goal.loop-kind-init
loop-kind-init g c = worst-start _

pub returns : goal.returns
returns g c = worst-none _ _ _ _ c.loop-kind.invariant c.loop-kind-test.false

pub returns-in-Some : goal.returns-in-Some
returns-in-Some g c =
    let found = place-some _ _ c.in-Some.ensures in
    worst-found _ _ _ _ c.loop-kind.invariant c.loop-kind-test.true found.0 (c.column_at-column.ensures ∙ ap (λ (n : ℕ). begin_of TAB c.args.line.now n + 1) found.1)

pub loop-kind-preserved : goal.loop-kind-preserved
loop-kind-preserved g c = worst-next c.args.line.now _ _ _ c.loop-kind.invariant c.loop-kind-test.true (place-none _ _ c.in_default.ensures)
