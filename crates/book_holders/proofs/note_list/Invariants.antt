use Prim.Native.Nat.{◌+◌}
use mathlib.Core.Bool.{not, ◌&&◌}
use lib.Dec.{eqb}
use Rattle.text_fields.specs.Items.{drive_of, is_shared}
use Rattle.laws.proofs.Noted.{NotedFrom}
use Rattle.book_holders.proofs.note_list.Given as goal

abbrev pub invariant-loop-h : goal.invariant-loop-h
invariant-loop-h l =
    NotedFrom 32 (λ d h. eqb (d + 1) (drive_of h)) l.list l.task l.initial.held l.h-index l.held
    × NotedFrom 32 (λ d h. eqb (d + 1) (drive_of h) && not (is_shared h)) l.list l.task l.initial.exclusive l.h-index l.exclusive
