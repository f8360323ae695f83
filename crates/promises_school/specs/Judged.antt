-- When a log is accepted, what each refusal says, and what is printed. Tasks are counted from 0: what is said names task i by i + 1.
use Rattle.std.specs.Prelude.{ℕ, suc, ◌+◌, ◌-◌, ◌≤◌, ◌<◌, ◌≡◌, ◌≢◌, ◌⊎◌, true, false, List, [], ◌∷◌, ◌++◌, length}
use Rattle.laws.specs.Digits.{digits_of}
use Rattle.text.specs.Bytes.{bytes}
use Rattle.text.specs.Line.{line_text}
use Rattle.plan.specs.Answer.{refuse, granted}
use Rattle.plan.specs.Value.{at, task_at, is_accepted}
use Rattle.plan.specs.declared.Answer.{Answer}
use Rattle.plan.specs.declared.Plan.{Plan}
use Rattle.plan.specs.Read.{reading_of}
use Rattle.engine.specs.declared.Lengths.{Lengths}
use Rattle.log_write.specs.Lines.{refused_line}
use Rattle.school.specs.Lines.{MINUS}
use Rattle.school.specs.Tests.{judged_of}
use Rattle.school.specs.declared.JudgedLog.{JudgedLog}
use Rattle.promises.specs.Checks.{Before}
use Rattle.promises.specs.Clashes.{Clashes}
use Rattle.promises.specs.Ladder.{Rung, ◌when◌}
use Rattle.promises_engine.specs.Says.{IsGone, Some, IsLowest}
use Rattle.promises_school.specs.Lines.{IsThere, HasForm, Once, On, Wrong}

-- task i has one start and one end in the log, at these ticks
pub record Ran (log : List ℕ) (i start end : ℕ) : Type 0 where
  pub starts : Once log (bytes "start") (i + 1) start
  pub ends : Once log (bytes "end") (i + 1) end

-- each task has one start and one end on its board, each length is 1 up to planned, clashing pairs run in plan order without
-- overlap, and no start is after plan or before ready
pub record AcceptedLog (plan : Plan) (log : List ℕ) (start end : ℕ → ℕ) : Type 0 where
  pub short : length log ≤ 32768
  pub forms : (k : ℕ) → IsThere log k → HasForm plan.boards plan.tasks log k
  pub ran : (i : ℕ) → i < plan.tasks → Ran log i (start i) (end i)
  pub boards :
      (i : ℕ) → i < plan.tasks
      → On log (bytes "start") (i + 1) (at plan.board i) × On log (bytes "end") (i + 1) (at plan.board i)
  pub lengths : (i : ℕ) → i < plan.tasks → (start i < end i) × (end i - start i ≤ at plan.finish i - at plan.begin i)
  pub order :
      (a b : ℕ) → a < plan.tasks → b < plan.tasks → Clashes (task_at plan) a b → at plan.finish a ≤ at plan.begin b
      → end a ≤ start b
  pub in_time : (i : ℕ) → i < plan.tasks → (at plan.ready i ≤ start i) × (start i ≤ at plan.begin i)

-- ---- refusals

-- 23: a line not of its form
abbrev pub Unformed : Plan → List ℕ → ℕ → Type 0
Unformed plan log k = IsThere log k × (HasForm plan.boards plan.tasks log k → ⊥)

-- 24: a start or end missing, doubled, or on the wrong board
abbrev pub Misplaced : Plan → List ℕ → ℕ → Type 0
Misplaced plan log i = Wrong log (bytes "start") (i + 1) (at plan.board i) ⊎ Wrong log (bytes "end") (i + 1) (at plan.board i)

-- 25: end − start is below 1, end before start too, or above the planned length
abbrev pub Mislong : Plan → List ℕ → ℕ → Type 0
Mislong plan log i =
    (start : ℕ) × (end : ℕ) × Ran log i start end
    × ((end ≤ start) ⊎ (at plan.finish i - at plan.begin i < end - start))

-- the two clash, a is planned to finish by b's planned start, and b started before a had ended
abbrev pub Sooner : Plan → List ℕ → ℕ → ℕ → Type 0
Sooner plan log b a =
    Clashes (task_at plan) b a × (at plan.finish a ≤ at plan.begin b)
    × ((tick : ℕ) × (until : ℕ) × Once log (bytes "start") (b + 1) tick × Once log (bytes "end") (a + 1) until × (tick < until))

-- 26: a clashing pair, lower number first, that overlaps or runs against plan order
pub record Against (plan : Plan) (log : List ℕ) (a b : ℕ) : Type 0 where
  pub ordered : a < b
  pub task : b < plan.tasks
  pub so : Sooner plan log a b ⊎ Sooner plan log b a

-- 27: a start after plan or before ready
abbrev pub Untimely : Plan → List ℕ → ℕ → Type 0
Untimely plan log i =
    (start : ℕ) × Once log (bytes "start") (i + 1) start × ((at plan.begin i < start) ⊎ (start < at plan.ready i))

-- of lines that all have their form, code by code over all tasks
abbrev pub task_checks : Plan → List ℕ → List Rung
task_checks plan log =
    24 when (Some plan.tasks (Misplaced plan log))
    ∷ 25 when (Some plan.tasks (Mislong plan log))
    ∷ 26 when ((a : ℕ) × (b : ℕ) × Against plan log a b)
    ∷ 27 when (Some plan.tasks (Untimely plan log))
    ∷ []

-- the refusals in the order of the checks
abbrev pub judge_checks : Plan → List ℕ → List Rung
judge_checks plan log =
    9 when (is_accepted plan ≡ false)
    ∷ 1 when (32768 < length log)
    ∷ 23 when ((k : ℕ) × Unformed plan log k)
    ∷ task_checks plan log

-- what is answered: 23 says the lowest line, 26 the first pair by a, then by b, the others the lowest task
pub data JudgeSays (plan : Plan) (log : List ℕ) (r : Answer) : Type 0 where
  says_9 : r ≡ refuse 9 0 0 → JudgeSays plan log r
  says_1 : r ≡ refuse 1 0 0 → JudgeSays plan log r
  says_23 :
      (k : ℕ) → Unformed plan log k → ((j : ℕ) → j < k → Unformed plan log j → ⊥) → r ≡ refuse 23 (k + 1) 0 → JudgeSays plan log r
  says_24 : (i : ℕ) → IsLowest plan.tasks (Misplaced plan log) i → r ≡ refuse 24 (i + 1) 0 → JudgeSays plan log r
  says_25 : (i : ℕ) → IsLowest plan.tasks (Mislong plan log) i → r ≡ refuse 25 (i + 1) 0 → JudgeSays plan log r
  says_26 :
      (a b : ℕ) → Against plan log a b → ((x y : ℕ) → Before x y a b → Against plan log x y → ⊥) → r ≡ refuse 26 (a + 1) (b + 1)
      → JudgeSays plan log r
  says_27 : (i : ℕ) → IsLowest plan.tasks (Untimely plan log) i → r ≡ refuse 27 (i + 1) 0 → JudgeSays plan log r
  accepts : r ≡ granted → JudgeSays plan log r

-- ---- what is found, and printed

-- refused by 9, 1 or 23: the log is not read to its end
abbrev pub Unread : Answer → Type 0
Unread r = (r.code ≡ 9) ⊎ ((r.code ≡ 1) ⊎ (r.code ≡ 23))

-- the start and end of each task that has one of each, and zeros elsewhere
pub record Finds (plan : Plan) (log : List ℕ) (found : JudgedLog) : Type 0 where
  pub known :
      (Unread found.answer → ⊥) → (i : ℕ) → i < plan.tasks → at found.known i ≡ 1
      → Ran log i (at found.start i) (at found.end i)
  pub told :
      (Unread found.answer → ⊥) → (i : ℕ) → i < plan.tasks → (start end : ℕ) → Ran log i start end → at found.known i ≡ 1
  pub zeros : (i : ℕ) → at found.known i ≢ 1 → (at found.known i ≡ 0) × (at found.start i ≡ 0) × (at found.end i ≡ 0)
  pub unread : Unread found.answer → (i : ℕ) → at found.known i ≡ 0
  pub past : (i : ℕ) → plan.tasks ≤ i → at found.known i ≡ 0
  pub sized : (length found.known ≡ 64) × (length found.start ≡ 64) × (length found.end ≡ 64)

-- planned finish − end, `-` before it when late, never `+`
pub data Difference (planned tick : ℕ) (text : List ℕ) : Type 0 where
  early : tick ≤ planned → text ≡ digits_of (planned - tick) → Difference planned tick text
  late : planned < tick → text ≡ MINUS ∷ digits_of (tick - planned) → Difference planned tick text

-- the lines of the tasks below n, by rising number: one for each that has one start and one end
pub data Figures (plan : Plan) (log : List ℕ) : ℕ → List ℕ → Type 0 where
  nobody : Figures plan log 0 []
  told :
      {n : ℕ} {text : List ℕ} → Figures plan log n text → (start end : ℕ) → Ran log n start end → (figure : List ℕ)
      → Difference (at plan.finish n) end figure → Figures plan log (suc n) (text ++ line_text (digits_of (n + 1) ∷ figure ∷ []))
  untold :
      {n : ℕ} {text : List ℕ} → Figures plan log n text → ((start end : ℕ) → Ran log n start end → ⊥) → Figures plan log (suc n) text

-- `accepted` alone, or `refused` with code and its two numbers
pub data Verdict (answer : Answer) (text : List ℕ) : Type 0 where
  accepted : answer ≡ granted → text ≡ line_text (bytes "accepted" ∷ []) → Verdict answer text
  refused : answer.code ≢ 0 → text ≡ refused_line answer → Verdict answer text

-- after 9, 1 or 23 the `refused` line alone; else the tasks' lines, and last the verdict
pub data Prints (plan : Plan) (log : List ℕ) (answer : Answer) (text : List ℕ) : Type 0 where
  alone : Unread answer → text ≡ refused_line answer → Prints plan log answer text
  read :
      (Unread answer → ⊥) → (figures verdict : List ℕ) → Figures plan log plan.tasks figures → Verdict answer verdict
      → text ≡ figures ++ verdict → Prints plan log answer text

-- of a plan text and a log: a refused plan text prints that refusal alone, and any other is an accepted plan
pub data PrintsOf (plan log text : List ℕ) : Type 0 where
  plan_refused : (reading_of plan).answer.code ≢ 0 → text ≡ refused_line (reading_of plan).answer → PrintsOf plan log text
  judged :
      (reading_of plan).answer.code ≡ 0 → is_accepted (reading_of plan).plan ≡ true
      → Prints (reading_of plan).plan log (judged_of (reading_of plan).plan log).answer text → PrintsOf plan log text

-- ---- the engine's lengths

-- no drops, and the lengths that a log says
pub record LengthsOf (plan : Plan) (start end : ℕ → ℕ) (given : Lengths) : Type 0 where
  pub lengths : (i : ℕ) → i < plan.tasks → at given.length i ≡ end i - start i
  pub kept : (i : ℕ) → i < plan.tasks → IsGone given i → ⊥
