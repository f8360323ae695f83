-- Sentences near to the promises are false: on plan A, on two tasks of which the second is planned first, and on plan B.
use native.Mathlib.Omega.{arith}
use Prim.Native.Nat.{ℕ}
use mathlib.Core.Path.{◌≡◌, refl}
use mathlib.Core.Bool.{true}
use mathlib.Core.Logic.{⊎_elim}
use mathlib.Core.List.{List, [], ◌∷◌}
use Rattle.plan.specs.Pairs.{clash}
use Rattle.plan.specs.Value.{at, task_at}
use Rattle.book.specs.Report.{reported_of}
use Rattle.book.specs.Early.{figure_of}
use Rattle.book.specs.declared.Book.{Book}
use Rattle.book.specs.declared.Rule.TheVariants.{EarlyStart}
use Rattle.tables.specs.PlanA.{plan_a, book_a}
use Rattle.tables.specs.Walk.{end, absent}
use Rattle.tables.specs.Dispatchers.{to_six}
use Rattle.tables.specs.Weaker.{ByNumber, StrictOrder, KeptByEnded, StartsLater, StartsAtOnce, DroppedReady, plan_two}
use Rattle.tables.specs.Ready.{plan_b, book_b, to_eight}
use Rattle.promises.proofs.SoundRun.{on-run}
use Rattle.tables.proofs.Asked.{at_place}
use Rattle.tables.proofs.Computing.{computing}
use Rattle.tables.proofs.Plans.{sized_a, accepted-a, sized_b, accepted-b, sized-two, accepted-two}

two : (plan_two.tasks ≡ 2) × (clash (task_at plan_two) 0 1 ≡ true) × (at plan_two.finish 0 ≡ 9) × (at plan_two.begin 1 ≡ 0)
unfolding computing
two = (refl, refl, refl, refl)

pub not-by-number : ByNumber → ⊥
not-by-number every =
    let order = every plan_two EarlyStart sized-two accepted-two [] 0 1 (omega arith) (omega (arith, two.0)) two.1 in
    omega (arith, order.planned, two.2, two.3)

-- tasks 2 and 3 of plan A, on one board: the first finishes at 4, where the other begins
plan-a : (plan_a.tasks ≡ 5) × (clash (task_at plan_a) 1 2 ≡ true) × (at plan_a.finish 1 ≡ 4) × (at plan_a.begin 2 ≡ 4) × (at plan_a.finish 2 ≡ 9) × (at plan_a.begin 1 ≡ 0)
unfolding computing
plan-a = (refl, refl, refl, refl, refl, refl)

pub not-strict : StrictOrder → ⊥
not-strict every =
    ⊎_elim (λ l. omega (arith, l, plan-a.2, plan-a.3)) (λ l. omega (arith, l, plan-a.4, plan-a.5))
    (every plan_a sized_a accepted-a 1 2 (omega (arith, plan-a.0)) (omega (arith, plan-a.0)) (λ e. omega (arith, e)) plan-a.1)

-- at clock 6 M is 3, and task 2 ended 1 early
abbrev asked_six : Book → List ℕ
asked_six book = (figure_of book).early ∷ at book.mark 1 ∷ at book.end 1 ∷ []

six : asked_six (book_a to_six) ≡ 3 ∷ 2 ∷ 3 ∷ []
unfolding computing
six = refl

pub not-by-ended : KeptByEnded → ⊥
not-by-ended every =
    let kept = every plan_a EarlyStart sized_a accepted-a to_six [] 1 (omega (arith, plan-a.0)) in
    let shown : (figure_of (book_a to_six)).early ≡ 3 = at_place six 0 in
    let over : at (book_a to_six).mark 1 ≡ 2 = at_place six 1 in
    let ended : at (book_a to_six).end 1 ≡ 3 = at_place six 2 in
    omega (arith, kept.ends over, plan-a.2)

-- end 2 at 3 is taken and lets task 3 go
abbrev asked_three : Book → List ℕ
asked_three book =
    let after = reported_of book 2 3 in
    after.answer.code ∷ book.tasks ∷ at book.mark 2 ∷ at after.book.mark 2 ∷ at after.book.start 2 ∷ []

-- on plan A at 3
third : asked_three (book_a []) ≡ 0 ∷ 5 ∷ 0 ∷ 1 ∷ 3 ∷ []
unfolding computing
third = refl

pub not-later : StartsLater → ⊥
not-later every =
    let good = (on-run plan_a EarlyStart sized_a accepted-a []).good in
    let tasks : (book_a []).tasks ≡ 5 = at_place third 1 in
    let runs : at (reported_of (book_a []) 2 3).book.mark 2 ≡ 1 = at_place third 3 in
    let start : at (reported_of (book_a []) 2 3).book.start 2 ≡ 3 = at_place third 4 in
    let late =
    every (book_a []) good.sized good.sound 2 3 (at_place third 0) 2 (omega arith) (at_place third 2) (λ z. omega (arith, z)) in
    omega (arith, late)

-- on plan B after end 1 at 1 at its ready tick, 5
fourth : asked_three (book_b (end 1 1 ∷ [])) ≡ 0 ∷ 5 ∷ 0 ∷ 1 ∷ 5 ∷ []
unfolding computing
fourth = refl

pub not-at-once : StartsAtOnce → ⊥
not-at-once every =
    let book = book_b (end 1 1 ∷ []) in
    let good = (on-run plan_b EarlyStart sized_b accepted-b (end 1 1 ∷ [])).good in
    let tasks : book.tasks ≡ 5 = at_place fourth 1 in
    let runs : at (reported_of book 2 3).book.mark 2 ≡ 1 = at_place fourth 3 in
    let start : at (reported_of book 2 3).book.start 2 ≡ 5 = at_place fourth 4 in
    let soon = every book good.sized good.sound 2 3 (at_place fourth 0) 2 (omega arith) (at_place fourth 2) (λ z. omega (arith, z)) in
    omega (arith, soon)

-- task 4 of plan B, dropped, passes at 8 and was to await 18
abbrev asked_four : Book → List ℕ
asked_four book = at book.mark 3 ∷ at book.start 3 ∷ at plan_b.ready 3 ∷ plan_b.tasks ∷ []

passed : asked_four (book_b (absent 4 ∷ to_eight)) ≡ 2 ∷ 8 ∷ 18 ∷ 5 ∷ []
unfolding computing
passed = refl

pub not-dropped-ready : DroppedReady → ⊥
not-dropped-ready every =
    let over : at (book_b (absent 4 ∷ to_eight)).mark 3 ≡ 2 = at_place passed 0 in
    let start : at (book_b (absent 4 ∷ to_eight)).start 3 ≡ 8 = at_place passed 1 in
    let ready : at plan_b.ready 3 ≡ 18 = at_place passed 2 in
    let tasks : plan_b.tasks ≡ 5 = at_place passed 3 in
    let late = every plan_b EarlyStart sized_b accepted-b (absent 4 ∷ to_eight) 3 (omega arith) (λ z. omega (arith, z)) in
    omega (arith, late)
