use Prim.Native.Nat.{ℕ}
use mathlib.Core.Path.{sym, ap, ◌∙◌}
use mathlib.Core.List.{List, [], ◌∷◌}
use native.Mathlib.Omega.{arith}
use Rattle.std.specs.Prelude.{Option, Ok}
use Rattle.std.proofs.lemmas.Result.{err_from_is_err_and}
use Rattle.text_fields.proofs.Codes.{codes_in}
use Rattle.text_fields.specs.declared.FieldFault.{FieldFault}
use Rattle.text_fields.proofs.FaultLaws.{zero-at}
use Rattle.text_fields.proofs.UnlessLaws.{right-codes}
use Rattle.plan_read.specs.Private.Fields.{line_made, tail_in}
use Rattle.plan_read.proofs.TailLaws.{err-ranged, ok-ranged, ok-value, tail-moves, tail_errs, tail-right}
use Rattle.plan_read.proofs.LineLaws.{by-refused, by-says, first-is}
use Rattle.plan_read.proofs.fields.read_first.Goals as goal

pub returns-in_err-check_line : goal.returns-in_err-check_line
returns-in_err-check_line c =
    let p = err_from_is_err_and c.from_residual.result c.from_residual.ensures.1 in
    let faults : List (Option FieldFault) = (c.args.head.word ∷ c.args.head.number ∷ c.err.result ∷ c.err-2.result ∷ c.err-3.result ∷ c.err-4.result ∷ c.err-5.result ∷ c.end_fault.result ∷ []) in
    rw (p.1, p.2)
    (by-refused _ faults _ _ (tail_in c.read_tail-tail.result) _ c.in_err-check_line.ensures
    ∙ first-is _ _ _ _ c.requires.0 _ _ _ (err-ranged c.args.head.board c.err.ensures.value)
    (tail_errs c.read_tail-tail.result c.err-2.ensures.value c.err-3.ensures.value c.err-4.ensures.value c.err-5.ensures.value)
    (c.read_tail-tail.ensures ∙ tail-moves _ _ _ 3 c.requires.1) c.end_fault.ensures)

pub unwrap-board-requires : goal.unwrap-board-requires
unwrap-board-requires c =
    let faults : List (Option FieldFault) = (c.args.head.word ∷ c.args.head.number ∷ c.err.result ∷ c.err-2.result ∷ c.err-3.result ∷ c.err-4.result ∷ c.err-5.result ∷ c.end_fault.result ∷ []) in
    let all = right-codes _ faults c.in_ok-check_line.ensures in
    ok-ranged _ (sym (err-ranged c.args.head.board c.err.ensures.value) ∙ zero-at (codes_in faults) all 2 (omega arith))

pub line_of-requires : goal.line_of-requires
line_of-requires c =
    let faults : List (Option FieldFault) = (c.args.head.word ∷ c.args.head.number ∷ c.err.result ∷ c.err-2.result ∷ c.err-3.result ∷ c.err-4.result ∷ c.err-5.result ∷ c.end_fault.result ∷ []) in
    let all = right-codes _ faults c.in_ok-check_line.ensures in
    let at = zero-at (codes_in faults) all in
    tail-right (tail_errs c.read_tail-tail.result c.err-2.ensures.value c.err-3.ensures.value c.err-4.ensures.value c.err-5.ensures.value) (at 3 (omega arith)) (at 4 (omega arith)) (at 5 (omega arith)) (at 6 (omega arith))

pub returns : goal.returns
returns c =
    let faults : List (Option FieldFault) = (c.args.head.word ∷ c.args.head.number ∷ c.err.result ∷ c.err-2.result ∷ c.err-3.result ∷ c.err-4.result ∷ c.err-5.result ∷ c.end_fault.result ∷ []) in
    ap Ok (c.line_of.ensures ∙ ap (λ (b : ℕ). line_made b 0 (tail_in c.read_tail-tail.result)) (ok-value c.unwrap-board.ensures))
    ∙ by-says _ faults _ _ (tail_in c.read_tail-tail.result) c.in_ok-check_line.ensures
    ∙ first-is _ _ _ _ c.requires.0 _ _ _ (err-ranged c.args.head.board c.err.ensures.value)
    (tail_errs c.read_tail-tail.result c.err-2.ensures.value c.err-3.ensures.value c.err-4.ensures.value c.err-5.ensures.value)
    (c.read_tail-tail.ensures ∙ tail-moves _ _ _ 3 c.requires.1) c.end_fault.ensures
