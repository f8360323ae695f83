use Rattle.ask_drives.proofs.Asked.{made-refused, made-granted}
use Rattle.ask_drives.proofs.make_sheet.Goals as goal

pub returns-then-not-is_sound : goal.returns-then-not-is_sound
returns-then-not-is_sound c = made-refused c.args.book c.is_sound.ensures c.if-not-is_sound.true c.answer.ensures c.zero_sheet.ensures

pub returns : goal.returns
returns c = made-granted c.args.book c.is_sound.ensures c.if-not-is_sound.false c.granted.ensures c.fresh.ensures
