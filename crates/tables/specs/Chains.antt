-- The rows of request P7: why tasks started when they did, by both rules and in both editions, with drops; and impostors.
use Rattle.std.specs.Prelude.{ℕ, zero, suc, ◌+◌, ◌-◌, Bool, not, cond, ◌&&◌, ◌||◌, List, [], ◌∷◌, map, eqb, leb, ltb, take}
use Rattle.laws.specs.Every.{implies, every, any}
use Rattle.laws.specs.Lists.{same}
use Rattle.laws.specs.Scan.{scan_to}
use Rattle.text.specs.Bytes.{bytes}
use Rattle.theory.specs.Plan.{Plan}
use Rattle.theory.specs.Book.{is_dropped, due}
use Rattle.theory.specs.Book as theory-book
use Rattle.theory.specs.Chain.{chain_of, cause, stops_at}
use Rattle.theory.specs.Words.Times.{ran_for}
use Rattle.plan.specs.Read.{reading_of}
use Rattle.plan.specs.Value.{at}
use Rattle.plan.specs.declared.Plan as plan-value
use Rattle.book.specs.View.{plan_view, book_view}
use Rattle.book.specs.declared.Book.{Book}
use Rattle.ask_why.specs.Why.{why_of}
use Rattle.tables.specs.Walk.{end, absent, Step, told, starts, ends, makes}
use Rattle.tables.specs.Clash.{turned_early}

-- the task started, and these are its links by their numbers
abbrev pub explains : ℕ → List ℕ → Step
explains task numbers =
    Step.asks
    (λ book. let chain = why_of book task in eqb chain.answer.code 0 && same (take chain.count chain.links) numbers)

-- the question is refused by this number, with the task and 0, and no link
abbrev pub unexplained : ℕ → ℕ → Step
unexplained task code =
    Step.asks
    (λ book.
    let chain = why_of book task in
    (eqb chain.answer.code code && eqb chain.answer.first task) && (eqb chain.answer.second 0 && eqb chain.count 0))

-- on board 1 task 3, then 2, then 1; on board 2 task 4, then 5, then 6
abbrev pub text_d : List ℕ
text_d =
    bytes
    "plan\t1\t2\t6\ntask\t1\t1\t6\t8\t-\t-\ntask\t2\t1\t4\t6\t-\t-\ntask\t3\t1\t0\t4\t-\t-\ntask\t4\t2\t0\t4\t-\t-\ntask\t5\t2\t4\t6\t-\t-\ntask\t6\t2\t6\t8\t-\t-\n"

unfoldable pub plan_d : plan-value.Plan
plan_d = (reading_of text_d).plan

-- ---- impostors: chains by another cause, or stopped by another test

module _ (stops : Plan → theory-book.Book → ℕ → Bool) (next : Plan → theory-book.Book → ℕ → ℕ) where
  unfoldable pub wrong_to : ℕ → Plan → theory-book.Book → ℕ → List ℕ
  wrong_to zero plan book i = []
  wrong_to (suc n) plan book i = i ∷ cond (stops plan book i) [] (wrong_to n plan book (next plan book i))

  -- as its numbers would be handed out
  abbrev pub wrong : Book → ℕ → List ℕ
  wrong book task = map (λ i. i + 1) (wrong_to book.tasks (plan_view book) (book_view book) (task - 1))

-- an impostor has these links
abbrev pub tells : (Book → ℕ → List ℕ) → ℕ → List ℕ → Step
tells impostor task numbers = Step.asks (λ book. same (impostor book task) numbers)

-- the first that passes the test, counted from the last task down
abbrev last_by : ℕ → (ℕ → Bool) → ℕ
last_by tasks test = tasks - 1 - scan_to (λ k. test (tasks - 1 - k)) tasks (λ k. k) 0 tasks

-- the highest number of equals
abbrev pub highest : Book → ℕ → List ℕ
highest =
    wrong stops_at
    (λ plan book i. last_by plan.tasks (λ j. plan.waits i j && eqb (book.end j) (due plan book.end i)))

-- any task that ended then, waited for or not
abbrev pub whoever : Book → ℕ → List ℕ
whoever =
    wrong stops_at
    (λ plan book i. scan_to (λ j. eqb (book.end j) (due plan book.end i)) plan.tasks (λ j. j) 0 plan.tasks)

-- the last task of each board alone, which is all that the table of last tasks knows
abbrev pub last_of_board : Book → ℕ → List ℕ
last_of_board value =
    wrong stops_at
    (λ plan book i.
    scan_to
    (λ j.
    (plan.waits i j && eqb (book.end j) (due plan book.end i))
    && every plan.tasks
    (λ k. implies (plan.waits i k && eqb (at value.board k) (at value.board j)) (leb (plan.finish k) (plan.finish j))))
    plan.tasks (λ j. j) 0 plan.tasks)
    value

-- stopping where ready equals the latest end
abbrev pub stops_equal : Book → ℕ → List ℕ
stops_equal =
    wrong
    (λ plan book i.
    eqb (book.start i) 0
    || ((not (is_dropped book.dropped i) && leb (due plan book.end i) (plan.ready i)) || not (any plan.tasks (plan.waits i))))
    cause

-- a dropped task's ready tick read
abbrev pub reads_dropped : Book → ℕ → List ℕ
reads_dropped =
    wrong
    (λ plan book i.
    eqb (book.start i) 0 || (ltb (due plan book.end i) (plan.ready i) || not (any plan.tasks (plan.waits i))))
    cause

-- dropped links left out
unfoldable pub undropped : List ℕ → List ℕ → List ℕ
undropped dropped [] = []
undropped dropped (i ∷ links) = let rest = undropped dropped links in cond (is_dropped (at dropped) i) rest ((i + 1) ∷ rest)

abbrev pub without_dropped : Book → ℕ → List ℕ
without_dropped book task = undropped book.dropped (chain_of (plan_view book) (book_view book) (task - 1))

-- the run times of these many links, the asked one's counted
abbrev pub ran_with_asked : Book → ℕ → ℕ → ℕ
ran_with_asked book task more =
    let links = chain_of (plan_view book) (book_view book) (task - 1) in
    (at book.end (task - 1) - at book.start (task - 1)) + ran_for (book_view book) (at links) more

-- and they add up to this, or with the asked one's to that
abbrev pub adds_up : ℕ → ℕ → ℕ → ℕ → Step
adds_up task more sum with_asked =
    Step.asks
    (λ book.
    let links = chain_of (plan_view book) (book_view book) (task - 1) in
    (eqb (ran_for (book_view book) (at links) more) sum && eqb (ran_with_asked book task more) with_asked) && eqb (at book.start (task - 1)) sum)

-- ---- the rows

-- the morning of plan A; tasks that are not there, and one that waits; task 3 dropped passes at 3, and 4 starts when 1 ends
abbrev pub chains_a : List (List Step)
chains_a =
    (explains 1 (1 ∷ [])
    ∷ unexplained 3 11
    ∷ unexplained 0 10
    ∷ unexplained 6 10
    ∷ told (end 2 3)
    ∷ told (end 1 4)
    ∷ explains 3 (3 ∷ 2 ∷ [])
    ∷ unexplained 4 11
    ∷ told (end 3 6)
    ∷ told (end 5 8)
    ∷ explains 4 (4 ∷ 3 ∷ 2 ∷ [])
    ∷ explains 5 (5 ∷ 3 ∷ 2 ∷ [])
    ∷ adds_up 5 2 6 8
    ∷ [])
    ∷ (told (absent 3) ∷ unexplained 3 11 ∷ told (end 2 3) ∷ explains 3 (3 ∷ 2 ∷ []) ∷ told (end 1 4) ∷ explains 4 (4 ∷ 1 ∷ []) ∷ [])
    ∷ []

-- plan B, of edition 2: task 2 waits for nobody and starts at 2; task 3 is ready at 5 and the latest end is 5, 4 or 3; task 4 is ready
-- at 18, past the clock; dropped it passes at 8 with the end of 3, and task 5 starts then
abbrev pub chains_b : List (List Step)
chains_b =
    (explains 2 (2 ∷ [])
    ∷ told (end 2 3)
    ∷ told (end 1 5)
    ∷ starts 3 5
    ∷ explains 3 (3 ∷ 1 ∷ [])
    ∷ tells stops_equal 3 (3 ∷ [])
    ∷ told (end 3 8)
    ∷ starts 4 18
    ∷ explains 4 (4 ∷ [])
    ∷ [])
    ∷ (told (end 2 3) ∷ told (end 1 4) ∷ starts 3 5 ∷ explains 3 (3 ∷ []) ∷ [])
    ∷ (told (absent 4)
    ∷ told (end 2 3)
    ∷ told (end 1 5)
    ∷ told (end 3 8)
    ∷ ends 4 8
    ∷ explains 4 (4 ∷ 3 ∷ 1 ∷ [])
    ∷ tells reads_dropped 4 (4 ∷ [])
    ∷ explains 5 (5 ∷ 3 ∷ 1 ∷ [])
    ∷ tells highest 5 (5 ∷ 4 ∷ 3 ∷ 1 ∷ [])
    ∷ [])
    ∷ []

-- plan C by the clash rule: task 7 awaits 3 and 5, and not 2, which ends when 5 does; a book that turned to Early Start gets 9
abbrev pub chains_c : List (List Step)
chains_c =
    (told (end 3 2)
    ∷ explains 5 (5 ∷ 3 ∷ [])
    ∷ makes (λ book. (why_of (turned_early book) 5).answer.code) 9
    ∷ told (end 5 5)
    ∷ told (end 2 5)
    ∷ explains 7 (7 ∷ 5 ∷ 3 ∷ [])
    ∷ tells whoever 7 (7 ∷ 2 ∷ [])
    ∷ [])
    ∷ []

-- plan D by the clash rule: task 2, dropped, passes when 3 ends, and lets 1 go; task 5, dropped, passes when 4 ends, which let 6 go
abbrev pub chains_d : List (List Step)
chains_d =
    (told (absent 2)
    ∷ told (absent 5)
    ∷ told (end 3 2)
    ∷ told (end 4 3)
    ∷ explains 1 (1 ∷ 2 ∷ 3 ∷ [])
    ∷ tells without_dropped 1 (1 ∷ 3 ∷ [])
    ∷ explains 6 (6 ∷ 4 ∷ [])
    ∷ tells last_of_board 6 (6 ∷ 5 ∷ 4 ∷ [])
    ∷ [])
    ∷ []
