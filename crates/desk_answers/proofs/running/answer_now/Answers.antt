use Rattle.desk_answers.proofs.AnswerLaws.{now-no, now-few, now-fits, now-yes}
use borrow.Author.Rules.{rules}
use Rattle.desk_answers.proofs.running.answer_now.Goals as goal

pub returns-then-not-is_sound : goal.returns-then-not-is_sound
returns-then-not-is_sound c = now-no c.args.book.now c.is_sound.ensures (search rules) c.answer.ensures c.answer_refused.ensures

pub put_running-written-requires : goal.put_running-written-requires
put_running-written-requires c = (now-few c.args.book.now c.is_sound.ensures (search rules), search rules, now-fits c.args.book.now c.is_sound.ensures (search rules))

pub returns : goal.returns
returns c = now-yes c.args.book.now c.is_sound.ensures (search rules) (search rules) c.put_running-written.ensures c.put_now.ensures
