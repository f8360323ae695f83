use Rattle.std.proofs.lemmas.Result.{err_from_is_err_and}
use Rattle.desk_read.proofs.ReadLaws.{number_is, one-is, number-there}
use Rattle.desk_read.proofs.read_number.Goals as goal

pub returns-in_err-check_line-clause-fault : goal.returns-in_err-check_line-clause-fault
returns-in_err-check_line-clause-fault c =
    let p = err_from_is_err_and c.from_residual.result c.from_residual.ensures.1 in
    rw (p.1, p.2)
    (one-is c.args.line.now c.args.word.now _ c.field-2.ensures _ c.word_fault.ensures c.field.ensures _ c.read_ranged-number.ensures _ c.err.ensures.value _
    c.end_fault.ensures c.in_err-check_line.ensures)

pub unwrap-requires : goal.unwrap-requires
unwrap-requires c =
    number-there c.args.line.now c.args.word.now _ c.field-2.ensures _ c.word_fault.ensures c.field.ensures _ c.read_ranged-number.ensures _ c.err.ensures.value _
    c.end_fault.ensures c.in_ok-check_line.ensures

pub returns-clause-fault : goal.returns-clause-fault
returns-clause-fault c =
    one-is c.args.line.now c.args.word.now _ c.field-2.ensures _ c.word_fault.ensures c.field.ensures _ c.read_ranged-number.ensures _ c.err.ensures.value _
    c.end_fault.ensures c.in_ok-check_line.ensures

pub returns-clause-number : goal.returns-clause-number
returns-clause-number c = number_is c.args.line.now c.field.ensures _ c.read_ranged-number.ensures c.unwrap.ensures
