-- The rows of request P8 hold, and its impostors differ.
use mathlib.Core.Path.{◌≡◌, refl}
use mathlib.Core.Bool.{true}
use Rattle.laws.specs.Lists.{all_of}
use Rattle.log_run.specs.Log.{log_of}
use Rattle.book.specs.Open.{opening_of}
use Rattle.book.specs.declared.Rule.TheVariants.{EarlyStart}
use Rattle.tables.specs.Walk.{walked_on}
use Rattle.tables.specs.Texts.{answered}
use Rattle.tables.specs.Ready.{text_b, plan_b, ends_b, log_b, ready_items, ready_rows, start_impostors, asked_impostor, figure_items, plan_called_one}
use Rattle.tables.proofs.Computing.{computing}
use Rattle.tables.proofs.Plans.{accepted-b, sized_b}
use Rattle.tables.proofs.Quick.{quick, all-walked}

pub ready-items : walked_on plan_b EarlyStart ready_items ≡ true
unfolding computing quick
ready-items = all-walked plan_b EarlyStart sized_b accepted-b ready_items refl

-- the start of task 2 is printed at opening, with its tick
pub ready-listing : log_of text_b ends_b ≡ log_b
unfolding computing
ready-listing = refl

pub ready-rows : all_of answered ready_rows ≡ true
unfolding computing
ready-rows = refl

pub start-impostors : walked_on plan_b EarlyStart start_impostors ≡ true
unfolding computing quick
start-impostors = all-walked plan_b EarlyStart sized_b accepted-b start_impostors refl

pub asked-impostor : walked_on plan_b EarlyStart asked_impostor ≡ true
unfolding computing quick
asked-impostor = all-walked plan_b EarlyStart sized_b accepted-b asked_impostor refl

pub ready-figure-impostors : walked_on plan_b EarlyStart figure_items ≡ true
unfolding computing quick
ready-figure-impostors = all-walked plan_b EarlyStart sized_b accepted-b figure_items refl

-- a plan of edition 1 with a ready tick gets 9
pub edition-impostor : ((opening_of plan_b EarlyStart).answer.code ≡ 0) × ((opening_of plan_called_one EarlyStart).answer.code ≡ 9)
unfolding computing
edition-impostor = (refl, refl)
