use Rattle.plan.specs.Value.{blank_from}
use Rattle.book_sound.proofs.SoundLaws.{and-four}
use Rattle.book_sound.proofs.past_nothing.Goals as goal

pub returns : goal.returns
unfolding blank_from
returns c = and-four c.is_blank.ensures c.is_blank-2.ensures c.is_blank-3.ensures c.is_blank-4.ensures
