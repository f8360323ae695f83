use Rattle.ask_drives.proofs.Asked.{asked-other, asked-far, asked-near, drive-low}
use Rattle.ask_drives.proofs.on_drive.Goals as goal

pub returns-then-not-is_sound-is_ok : goal.returns-then-not-is_sound-is_ok
returns-then-not-is_sound-is_ok c = asked-other c.args.book c.is_sound.ensures c.args.sheet c.args.drive c.seen_in-seen.ensures (rw c.is_ok.ensures.value at c.if-not-is_sound-is_ok.true) c.answer.ensures c.refused.ensures

pub returns-then-not-drive : goal.returns-then-not-drive
returns-then-not-drive c = asked-far c.args.book c.is_sound.ensures c.args.sheet c.args.drive c.seen_in-seen.ensures (rw c.is_ok.ensures.value at c.if-not-is_sound-is_ok.false) c.if-not-drive.true c.answer-then-not-drive.ensures c.refused-then-not-drive.ensures

pub overflow_sub-d : goal.overflow_sub-d
overflow_sub-d c = (drive-low _ c.if-not-drive.false).0

pub line_at-requires : goal.line_at-requires
line_at-requires c = (drive-low _ c.if-not-drive.false).1

pub bounds-sheet-d : goal.bounds-sheet-d
bounds-sheet-d c = (drive-low _ c.if-not-drive.false).1

pub returns : goal.returns
returns c = asked-near c.args.book c.is_sound.ensures c.args.sheet c.args.drive c.seen_in-seen.ensures (rw c.is_ok.ensures.value at c.if-not-is_sound-is_ok.false) c.if-not-drive.false c.granted.ensures c.line_at.ensures
