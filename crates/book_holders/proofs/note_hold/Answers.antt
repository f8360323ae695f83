use mathlib.Core.Bool.{true, not, and-true}
use mathlib.Core.Path.{refl, sym}
use Rattle.text_fields.specs.Items.{is_shared}
use Rattle.plan.proofs.Drives.{drive-shift}
use Rattle.book_holders.proofs.HoldLaws.{hold-out, hold-noted}
use Rattle.book_holders.proofs.note_hold.Goals as goal

pub returns-then-not-drive : goal.returns-then-not-drive
returns-then-not-drive c =
    let h = c.args.hold in
    (hold-out h true _ (λ d. sym (and-true _)) _ _ c.if-not-drive.true, hold-out h (not (is_shared h)) _ (λ d. refl) _ _ c.if-not-drive.true)

pub overflow_sub-p : goal.overflow_sub-p
overflow_sub-p c = (drive-shift c.args.hold c.if-not-drive.false).0

pub bounds-held-p : goal.bounds-held-p
bounds-held-p c = (drive-shift c.args.hold c.if-not-drive.false).1

pub bounds-held-p-2 : goal.bounds-held-p-2
bounds-held-p-2 c = (drive-shift c.args.hold c.if-not-drive.false).1

pub bounds-exclusive-p : goal.bounds-exclusive-p
bounds-exclusive-p c = (drive-shift c.args.hold c.if-not-drive.false).1

pub bounds-exclusive-p-2 : goal.bounds-exclusive-p-2
bounds-exclusive-p-2 c = (drive-shift c.args.hold c.if-not-drive.false).1

pub returns : goal.returns
returns c =
    let h = c.args.hold in
    let range = c.if-not-drive.false in (
      hold-noted h true _ (λ d. sym (and-true _)) _ _ range c.requires.1 c.requires.0 c.bit_of.ensures,
      hold-noted h (not (is_shared h)) _ (λ d. refl) _ _ range c.requires.2 c.requires.0 c.bit_of-2.ensures,
    )
