-- The clash rule's table, its listing and its impostors on plan C, by computation.
use mathlib.Core.Bool.{true, false}
use mathlib.Core.Path.{◌≡◌, refl}
use Rattle.book_view.specs.View.{plan_for}
use Rattle.book.specs.declared.Rule.TheVariants.{EarlyStart, Clash}
use Rattle.log_run.specs.Log.{log_of}
use Rattle.tables.specs.Walk.{walked_on}
use Rattle.tables.specs.Clash.{text_c, plan_c, clash_items, early_items, ends_c, log_c, ends_clasp, log_clasp, ends_twice, log_twice, board_alone, both_exclusive, any_hold, listed_only, any_time, turned_impostor}
use Rattle.tables.proofs.Computing.{computing}
use Rattle.tables.proofs.Plans.{accepted-c, sized-c}
use Rattle.tables.proofs.Quick.{quick, all-walked}

pub clash-items : walked_on plan_c Clash clash_items ≡ true
unfolding computing quick
clash-items = all-walked plan_c Clash sized-c accepted-c clash_items refl

-- the same plan by Early Start
pub early-items : walked_on plan_c EarlyStart early_items ≡ true
unfolding computing quick
early-items = all-walked plan_c EarlyStart sized-c accepted-c early_items refl

pub clash-listing : (log_of text_c ends_c ≡ log_c) × (log_of text_c ends_clasp ≡ log_clasp) × (log_of text_c ends_twice ≡ log_twice)
unfolding computing
clash-listing = (refl, refl, refl)

-- tasks 4 and 1 by drive; 6 and 5 by an exclusive hold against a shared one; 5 and 2 share and do not wait; 8 lists 1; 1 is planned before 4
pub clash-impostors :
    (((plan_for 1 plan_c).waits 3 0 ≡ true) × (board_alone 3 0 ≡ false))
    × (((plan_for 1 plan_c).waits 5 4 ≡ true) × (both_exclusive 5 4 ≡ false))
    × (((plan_for 1 plan_c).waits 4 1 ≡ false) × (any_hold 4 1 ≡ true))
    × (((plan_for 1 plan_c).waits 7 0 ≡ true) × (listed_only 7 0 ≡ false))
    × (((plan_for 1 plan_c).waits 0 3 ≡ false) × (any_time 0 3 ≡ true))
unfolding computing
clash-impostors = ((refl, refl), (refl, refl), (refl, refl), (refl, refl), (refl, refl))

-- a book that turned to Early Start at a report
pub turned-impostor : walked_on plan_c Clash turned_impostor ≡ true
unfolding computing quick
turned-impostor = all-walked plan_c Clash sized-c accepted-c turned_impostor refl
