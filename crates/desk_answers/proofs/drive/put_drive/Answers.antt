use Rattle.desk_answers.proofs.DriveLaws.{drive-room, few-items, items-room, next-room, drive-wrote}
use borrow.Author.Rules.{rules}
use Rattle.desk_answers.proofs.drive.put_drive.Goals as goal

pub put_after-past_drive-requires : goal.put_after-past_drive-requires
put_after-past_drive-requires c = drive-room c.args.drive c.args.next c.args.running.now (search rules) c.put_text-past_word.ensures

pub put_items-past_items-requires : goal.put_items-past_items-requires
put_items-past_items-requires c = items-room c.args.drive c.args.next c.args.running.now (search rules) c.put_text-past_word.ensures c.put_after-past_drive.ensures c.part_before.result.now (few-items c.args.running.now (search rules) c.part_before.ensures)

pub put_next-past_next-requires : goal.put_next-past_next-requires
put_next-past_next-requires c = next-room c.args.drive c.args.next c.args.running.now (search rules) c.put_text-past_word.ensures c.put_after-past_drive.ensures c.part_before.ensures (few-items c.args.running.now (search rules) c.part_before.ensures) c.put_items-past_items.ensures

pub returns : goal.returns
returns c = drive-wrote c.args.drive c.args.next c.args.running.now (search rules) c.put_text-past_word.ensures c.put_after-past_drive.ensures c.part_before.ensures (few-items c.args.running.now (search rules) c.part_before.ensures) c.put_items-past_items.ensures c.put_next-past_next.ensures c.put_byte.ensures
