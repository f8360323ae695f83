use mathlib.Core.Path.{sym}
use lib.Seq.{length-take-le}
use Rattle.text.proofs.Parts.{found-le}
use Rattle.school_read.proofs.WalkLaws.{first-unended, first_stops, first_goes}
use Rattle.school_read.proofs.read_log.Goals as goal
use Rattle.school_read.proofs.read_log.Goals.{then-end-log-via-then-end-log, then-end-log-via-else-end-log+then-not-is_run}

pub slice_bounds-is_run-end : goal.slice_bounds-is_run-end
slice_bounds-is_run-end c = sym (length-take-le _ _ (found-le _ _ c.find-end.ensures))

pub returns-then-end-log : goal.returns-then-end-log
returns-then-end-log c =
    elim c.then-end-log.branch [
      | then-end-log-via-then-end-log w ↦ first-unended _ _ _ c.few-most.ensures c.find-end.ensures w.if-end-log.true
      | then-end-log-via-else-end-log+then-not-is_run w ↦ first_stops _ _ _ c.few-most.ensures c.find-end.ensures w.if-end-log.false w.is_run.ensures w.if-not-is_run.true
    ]

pub returns : goal.returns
returns c =
    first_goes _ _ _ c.few-most.ensures c.find-end.ensures c.if-end-log.false c.is_run.ensures c.if-not-is_run.false c.past.ensures c.read_later.ensures
