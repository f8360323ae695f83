use mathlib.Core.Path.{sym}
use Rattle.book_sound.proofs.WaitLaws.{few, some-known, not-known, judged-sound, judged-unsound}
use Rattle.book_sound.proofs.sound_waits.Goals as goal

pub returns-in_default : goal.returns-in_default
returns-in_default c = not-known _ _ _ _ _ _ _ (sym c.in_default.ensures)

pub is_sound-requires : goal.is_sound-requires
is_sound-requires c = few _ _ (some-known _ _ (sym c.in-Some.ensures)).0

pub returns-then-is_sound : goal.returns-then-is_sound
returns-then-is_sound c = judged-sound _ _ _ _ _ _ _ (sym c.in-Some.ensures) c.is_sound.ensures c.if-is_sound.true

pub returns : goal.returns
returns c = judged-unsound _ _ _ _ _ _ _ (sym c.in-Some.ensures) c.is_sound.ensures c.if-is_sound.false
