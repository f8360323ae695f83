use Rattle.laws.proofs.Gather.{SetFrom}
use Rattle.plan_judge.proofs.DriveLaws.{on_drive, is_exclusive, is_any}
use Rattle.plan_judge.proofs.drives.gather.Given as goal

abbrev pub invariant-loop-h : goal.invariant-loop-h
invariant-loop-h l =
    SetFrom 32 (on_drive is_exclusive) l.list l.h-index l.exclusive × SetFrom 32 (on_drive is_any) l.list l.h-index l.held
