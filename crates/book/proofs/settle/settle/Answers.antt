use Rattle.book.proofs.SettleLaws.{ready-small, skipped-ready, settled_is}
use borrow.Author.Rules.{rules}
use Rattle.book.proofs.settle.settle.Goals as goal

pub skip_free-skipped-requires : goal.skip_free-skipped-requires
skip_free-skipped-requires c =
    let a = c.args in
    ready-small _ _ a.book.now.dropped a.clock _ a.moved
    (record { fit = c.requires; rows = c.last_tasks-last.ensures; size-mark = search rules; size-start = search rules; size-end = search rules })

pub start_free-requires : goal.start_free-requires
start_free-requires c =
    ready-small _ _ _ _ _ _
    (skipped-ready _ _ _ _ _ c.args.moved
    (record { fit = c.requires; rows = c.last_tasks-last.ensures; size-mark = search rules; size-start = search rules; size-end = search rules })
    c.skip_free-skipped.ensures)

pub returns : goal.returns
returns c =
    settled_is _ _ _ _ _ c.args.moved
    (record { fit = c.requires; rows = c.last_tasks-last.ensures; size-mark = search rules; size-start = search rules; size-end = search rules })
    c.skip_free-skipped.ensures
    c.start_free.ensures
