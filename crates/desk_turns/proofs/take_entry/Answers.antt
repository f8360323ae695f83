use mathlib.Core.Path.{ap, ◌∙◌}
use Rattle.log_run.specs.Log.{told_of}
use Rattle.log_run.proofs.ShortLaws.{short-within}
use Rattle.log_read.specs.Said.{Entry, said}
use Rattle.desk_turns.proofs.TurnLaws.{room-is, entry-full, entry-took}
use Rattle.desk_turns.proofs.take_entry.Goals as goal

pub returns-then-not-has_room : goal.returns-then-not-has_room
returns-then-not-has_room c =
    entry-full c.args.morning c.args.size c.has_room.ensures _ _ c.if-not-has_room.true
    (c.tell_entry.ensures ∙ ap (λ (e : Entry). told_of c.args.number c.args.morning.book e) (short-within (said c.args.entry) c.requires))
    c.full.ensures

pub taken-requires : goal.taken-requires
taken-requires c = room-is _ _ c.has_room.ensures c.if-not-has_room.false

pub returns : goal.returns
returns c =
    entry-took c.args.morning c.args.size c.has_room.ensures _ _ c.if-not-has_room.false
    (rw (short-within (said c.args.entry) c.requires) at c.log_entry-length.ensures) c.taken.ensures
