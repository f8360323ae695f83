-- The engine's rows and impostors, by computation.
use mathlib.Core.Bool.{true}
use mathlib.Core.List.{[], ◌∷◌}
use mathlib.Core.Path.{◌≡◌, refl}
use Rattle.plan.specs.Answer.{refuse}
use Rattle.plan.specs.Value.{at}
use Rattle.book_view.specs.View.{plan_for}
use Rattle.book.specs.declared.Rule.TheVariants.{EarlyStart}
use Rattle.engine.specs.Timetable.{timetable_of}
use Rattle.tables.specs.PlanA.{plan_a}
use Rattle.tables.specs.Ready.{plan_b}
use Rattle.tables.specs.Timetables.{plan_turned, lengths, all_timed, timed_rows, all_printed, printed_rows, full_length, kept_length, unready, drop_ready, by_number, drops_first, past_read, by, ours, short, third_gone, ready_gone}
use Rattle.tables.proofs.Computing.{computing}

pub timed-rows : all_timed timed_rows ≡ true
unfolding computing
timed-rows = refl

pub printed-rows : all_printed printed_rows ≡ true
unfolding computing
printed-rows = refl

-- full length always: task 3 of plan A at 4, not at 3; a dropped task 3 that keeps its length: task 4 at 6, not at 4
pub length-impostors :
    ((ours plan_a short 2 ≡ 3) × (by full_length plan_a short 2 ≡ 4)) × ((ours plan_a third_gone 3 ≡ 4) × (by kept_length plan_a third_gone 3 ≡ 6))
unfolding computing
length-impostors = ((refl, refl), (refl, refl))

-- ready ignored: task 2 of plan B at 0, not at 2; a dropped task 4's ready tick read: at 18, not at 8
pub ready-impostors :
    ((ours plan_b ready_gone 1 ≡ 2) × (by unready plan_b ready_gone 1 ≡ 0)) × ((ours plan_b ready_gone 3 ≡ 8) × (by drop_ready plan_b ready_gone 3 ≡ 18))
unfolding computing
ready-impostors = ((refl, refl), (refl, refl))

-- by rising task number: task 1, which waits for task 2, at 0
pub number-impostor : (ours plan_turned (lengths (5 ∷ 3 ∷ []) []) 0 ≡ 3) × (by by_number plan_turned (lengths (5 ∷ 3 ∷ []) []) 0 ≡ 0)
unfolding computing
number-impostor = (refl, refl)

-- 19 before 22; a length past T read
pub refusal-impostors :
    (((timetable_of plan_a EarlyStart (lengths (4 ∷ 3 ∷ 0 ∷ 3 ∷ 2 ∷ []) (0 ∷ 1 ∷ []))).answer ≡ refuse 22 3 0)
    × (drops_first (plan_for 0 plan_a) (at (4 ∷ 3 ∷ 0 ∷ 3 ∷ 2 ∷ [])) (at (0 ∷ 1 ∷ [])) ≡ refuse 19 2 0))
    × (((timetable_of plan_a EarlyStart short).answer ≡ refuse 0 0 0) × (past_read (plan_for 0 plan_a) (at short.length) (at short.dropped) ≡ 6))
unfolding computing
refusal-impostors = ((refl, refl), (refl, refl))
