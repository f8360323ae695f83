use Rattle.book_sound.specs.Private.Lent.{plan_by}
use Rattle.book_sound.proofs.SoundLaws.{unsound-past, unsound-task, sound-clock}
use Rattle.book_sound.proofs.is_sound.Goals as goal

pub returns-then-not-past_nothing : goal.returns-then-not-past_nothing
returns-then-not-past_nothing c =
    let b = c.args.book.now in
    unsound-past (plan_by b c.args.waits.now) b.mark.now b.start.now b.end.now b.dropped.now b.clock c.past_nothing.ensures c.if-not-past_nothing.true

pub returns-then-not-tasks_sound : goal.returns-then-not-tasks_sound
returns-then-not-tasks_sound c =
    let b = c.args.book.now in
    unsound-task (plan_by b c.args.waits.now) b.mark.now b.start.now b.end.now b.dropped.now b.clock
    c.past_nothing.ensures c.if-not-past_nothing.false c.tasks_sound.ensures c.if-not-tasks_sound.true

pub returns : goal.returns
returns c =
    let b = c.args.book.now in
    sound-clock (plan_by b c.args.waits.now) b.mark.now b.start.now b.end.now b.dropped.now b.clock
    c.past_nothing.ensures c.if-not-past_nothing.false c.tasks_sound.ensures c.if-not-tasks_sound.false c.last_end.ensures
