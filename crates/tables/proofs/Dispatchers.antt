-- Each impostor and shortcut of the dispatcher differs from ours, and those that start a task too soon or never break demand 2's
-- own sentence.
use Prim.Native.Nat.{ℕ, ◌<◌}
use native.Mathlib.Omega.{arith}
use mathlib.Core.Path.{◌≡◌, refl}
use mathlib.Core.Bool.{true}
use mathlib.Core.List.{List, [], ◌∷◌}
use Rattle.plan.specs.Value.{at}
use Rattle.theory.specs.Book.{all_ended}
use Rattle.theory.specs.Report.{opened}
use Rattle.theory.specs.Words.Events.{Event}
use Rattle.theory.proofs.Reflect.{all-ended-at}
use Rattle.book.specs.View.{plan_view}
use Rattle.book.specs.Sound.{is_sound}
use Rattle.book.specs.Words.Event.{answer_to, book_told}
use Rattle.book.specs.declared.Book.{Book}
use Rattle.book.specs.declared.Rule.TheVariants.{EarlyStart}
use Rattle.promises.specs.Runs.{Sized, opened_book, book_after, run_of, Waiting, AllEnded}
use Rattle.promises.proofs.SoundRun.{on-run}
use Rattle.promises.proofs.Demand2 as demand2
use Rattle.tables.specs.PlanA.{plan_a, book_a}
use Rattle.tables.specs.Walk.{end, walk, runs, waits, starts, ends, told, walked_on}
use Rattle.tables.specs.Dispatchers.{Dispatcher, book_by, StartsWhenFree, StartedWhenFree, to_four, to_six, first_only, own_board, board_free, plan_four, strictly}
use Rattle.tables.proofs.Asked.{at_place, as_number, as-true}
use Rattle.tables.proofs.Computing.{computing}
use Rattle.tables.proofs.Plans.{sized_a, accepted-a, sized-four, accepted-four}

-- ours is the dispatcher of the promises, and keeps both sentences
ours : (book : Book) (events : List Event) → book_after book events ≡ book_by book_told book events
unfolding book_after book_by
ours book [] = refl
ours book (event ∷ later) = ours (book_told book event) later

pub ours-starts : StartsWhenFree book_told
ours-starts = demand2.starts-exactly

pub ours-started : StartedWhenFree book_told
ours-started plan rule size ok events = rw (ours (opened_book plan rule) events) at (demand2.started-when-free plan rule size ok events)

-- whether all that a task waits for have ended, 1 where they have
abbrev freed : Book → ℕ → ℕ
freed book i = as_number (all_ended (plan_view book) (at book.mark) i)

all_ended_lem : (book : Book) (i : ℕ) → freed book i ≡ 1 → AllEnded book i
all_ended_lem book i e =
    all-ended-at (plan_view book) (at book.mark) i (as-true (all_ended (plan_view book) (at book.mark) i) e)

-- the book handed back unaltered: after end 2 at 3 task 3 runs from 3, and in the unaltered book it waits
pub unaltered-impostor : walked_on plan_a EarlyStart ((waits 3 ∷ told (end 2 3) ∷ runs 3 3 ∷ []) ∷ []) ≡ true
unfolding computing
unaltered-impostor = refl

-- a step that leaves a task waiting though all it waits for have ended breaks the sentence
module _ (dispatch : Dispatcher) (book : Book) (size : Sized book) (sound : is_sound book ≡ true) (task tick i : ℕ) where
  left-waiting :
      (answer_to book (end task tick)).code ≡ 0 → i < book.tasks → Waiting book i → Waiting (dispatch book (end task tick)) i
      → freed (dispatch book (end task tick)) i ≡ 1 → StartsWhenFree dispatch → ⊥
  left-waiting taken l idle still free every =
      (every book size sound task tick taken i l idle).when_free.1 (all_ended_lem (dispatch book (end task tick)) i free) still

-- at clock 4 end 3 at 6 is taken, and task 4 waits; after it all that task 4 waits for have ended, and two dispatchers let it wait
abbrev asked_four : Book → List ℕ
asked_four book =
    let first = first_only book (end 3 6) in
    let own = own_board book (end 3 6) in
    (answer_to book (end 3 6)).code ∷ book.tasks ∷ at book.mark 3 ∷ at first.mark 3 ∷ freed first 3 ∷ at own.mark 3 ∷ freed own 3 ∷ []

at-four : asked_four (book_a to_four) ≡ 0 ∷ 5 ∷ 0 ∷ 0 ∷ 1 ∷ 0 ∷ 1 ∷ []
unfolding computing
at-four = refl

waits-at-four :
    (dispatch : Dispatcher) → Waiting (dispatch (book_a to_four) (end 3 6)) 3 → freed (dispatch (book_a to_four) (end 3 6)) 3 ≡ 1
    → StartsWhenFree dispatch → ⊥
waits-at-four dispatch still free =
    let good = (on-run plan_a EarlyStart sized_a accepted-a to_four).good in
    let tasks : (book_a to_four).tasks ≡ 5 = at_place at-four 1 in
    left-waiting dispatch (book_a to_four) good.sized good.sound 3 6 3 (at_place at-four 0) (omega arith) (at_place at-four 2) still free

-- dispatching on the first report only: task 3 starts at 3 there too, but tasks 4 and 5 never start; ours start at 6
pub first-only-impostor :
    (walk (book_by first_only (book_a []) to_six) (starts 3 3 ∷ waits 4 ∷ waits 5 ∷ []) ≡ true)
    × (walk (book_a to_six) (runs 4 6 ∷ runs 5 6 ∷ []) ≡ true)
unfolding computing
first-only-impostor = (refl, refl)

pub first-only-starts : StartsWhenFree first_only → ⊥
first-only-starts = waits-at-four first_only (at_place at-four 3) (at_place at-four 4)

-- and in its own run
abbrev asked_six : Book → List ℕ
asked_six book = book.tasks ∷ at book.mark 3 ∷ freed book 3 ∷ []

at-six : asked_six (book_by first_only (opened_book plan_a EarlyStart) to_six) ≡ 5 ∷ 0 ∷ 1 ∷ []
unfolding computing
at-six = refl

pub first-only-started : StartedWhenFree first_only → ⊥
first-only-started every =
    let book = book_by first_only (opened_book plan_a EarlyStart) to_six in
    let tasks : book.tasks ≡ 5 = at_place at-six 0 in
    (every plan_a EarlyStart sized_a accepted-a to_six 3 (omega arith)).1 (all_ended_lem book 3 (at_place at-six 2)) (at_place at-six 1)

-- looking on the reporter's board only: the end of task 3 lets task 5 go on its board, and not task 4 on the other
pub own-board-shortcut :
    (walk (book_by own_board (book_a []) to_six) (runs 5 6 ∷ waits 4 ∷ []) ≡ true) × (walk (book_a to_six) (runs 4 6 ∷ []) ≡ true)
unfolding computing
own-board-shortcut = (refl, refl)

pub own-board-starts : StartsWhenFree own_board → ⊥
own-board-starts = waits-at-four own_board (at_place at-four 5) (at_place at-four 6)

-- task 4 would start at 4 and hold drive 1 until 7, so task 3, planned for 5, starts at 7; we start task 3 at 5 and task 4 at 6
pub board-free-shortcut :
    (walk (book_by board_free (opened_book plan_four EarlyStart) (end 1 4 ∷ [])) (runs 4 4 ∷ []) ≡ true)
    × (walk (book_by board_free (opened_book plan_four EarlyStart) (end 1 4 ∷ end 2 5 ∷ [])) (waits 3 ∷ []) ≡ true)
    × (walk (book_by board_free (opened_book plan_four EarlyStart) (end 1 4 ∷ end 2 5 ∷ end 4 7 ∷ [])) (runs 3 7 ∷ []) ≡ true)
    × (walk (opened_book plan_four EarlyStart)
    (told (end 1 4) ∷ told (end 2 5) ∷ runs 3 5 ∷ told (end 3 6) ∷ runs 4 6 ∷ told (end 4 9) ∷ ends 4 9 ∷ [])
    ≡ true)
unfolding computing
board-free-shortcut = (refl, refl, refl, refl)

-- end 1 at 4 is taken; task 4 waits for task 2, which runs, and is started by it
abbrev asked_opening : Book → List ℕ
asked_opening book =
    let after = board_free book (end 1 4) in
    (answer_to book (end 1 4)).code ∷ book.tasks ∷ at book.mark 3 ∷ after.tasks ∷ at after.mark 3 ∷ at after.mark 1
    ∷ as_number ((plan_view after).waits 3 1) ∷ []

at-opening : asked_opening (run_of plan_four EarlyStart []) ≡ 0 ∷ 4 ∷ 0 ∷ 4 ∷ 1 ∷ 1 ∷ 1 ∷ []
unfolding computing
at-opening = refl

pub board-free-starts : StartsWhenFree board_free → ⊥
board-free-starts every =
    let book = run_of plan_four EarlyStart [] in
    let after = board_free book (end 1 4) in
    let good = (on-run plan_four EarlyStart sized-four accepted-four []).good in
    let tasks : book.tasks ≡ 4 = at_place at-opening 1 in
    let tasks-after : after.tasks ≡ 4 = at_place at-opening 3 in
    let started : at after.mark 3 ≡ 1 = at_place at-opening 4 in
    let runs_on : at after.mark 1 ≡ 1 = at_place at-opening 5 in
    let free =
    (every book good.sized good.sound 1 4 (at_place at-opening 0) 3 (omega arith) (at_place at-opening 2)).when_free.0
    (λ z. omega (arith, z)) in
    omega (arith, free 1 (omega arith) (as-true ((plan_view after).waits 3 1) (at_place at-opening 6)))

-- in plan A task 3 would start at 0 beside task 2, both on board 2; we let it wait
pub strict-shortcut :
    ((opened (strictly plan_a)).mark 2 ≡ 1)
    × ((opened (strictly plan_a)).start 2 ≡ 0)
    × ((opened (strictly plan_a)).mark 1 ≡ 1)
    × (at plan_a.board 1 ≡ 2)
    × (at plan_a.board 2 ≡ 2)
    × Waiting (book_a []) 2
unfolding computing
strict-shortcut = (refl, refl, refl, refl, refl, refl)
