use mathlib.Core.Path.{◌∙◌}
use Rattle.plan_read.proofs.CutLaws.{head-cut, line-rest}
use Rattle.text_fields.proofs.RangedLaws.{ranged-code}
use Rattle.plan_read.proofs.TailLaws.{err-ranged}
use Rattle.plan_read.proofs.LineLaws.{line_second, line_first}
use Rattle.plan_read.proofs.fields.read_line.Goals as goal

pub read_first-requires : goal.read_first-requires
read_first-requires c = (c.requires, line-rest _ c.split_field.ensures.0 c.split_field.ensures.1 c.split_field-2.ensures.0 c.split_field-2.ensures.1 c.split_field-3.ensures.0 c.split_field-3.ensures.1)

pub read_second-requires : goal.read_second-requires
read_second-requires c = (c.requires, line-rest _ c.split_field.ensures.0 c.split_field.ensures.1 c.split_field-2.ensures.0 c.split_field-2.ensures.1 c.split_field-3.ensures.0 c.split_field-3.ensures.1)

pub returns-in-Second : goal.returns-in-Second
returns-in-Second c =
    let cut = head-cut c.split_field.ensures.0 c.split_field.ensures.1 c.split_field-2.ensures.0 c.split_field-2.ensures.1 c.split_field-3.ensures.0 in
    c.read_second.ensures
    ∙ line_second _ _ _ _ _ (rw cut.first at c.word_fault.ensures) (err-ranged _ c.err.ensures.value ∙ ranged-code _ _ _ (rw cut.second at c.read_ranged.ensures)) (rw cut.third at c.read_ranged-2.ensures) _ c.in-Second.is

pub returns-in-First : goal.returns-in-First
returns-in-First c =
    let cut = head-cut c.split_field.ensures.0 c.split_field.ensures.1 c.split_field-2.ensures.0 c.split_field-2.ensures.1 c.split_field-3.ensures.0 in
    rw c.in-First.is
    ((rw c.in-First.is at c.read_first.ensures)
    ∙ line_first _ _ _ _ _ (rw cut.first at c.word_fault.ensures) (err-ranged _ c.err.ensures.value ∙ ranged-code _ _ _ (rw cut.second at c.read_ranged.ensures)) (rw cut.third at c.read_ranged-2.ensures))
