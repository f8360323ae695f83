-- What a judged log is answered, case by case.
use Prim.Native.Nat.{ℕ, ◌+◌, ◌≤◌, ◌<◌}
use native.Mathlib.Omega.{arith}
use mathlib.Core.Path.{◌≡◌, ap}
use mathlib.Core.Logic.{⊎_elim}
use mathlib.Core.Bool.{Bool, true, false}
use mathlib.Core.List.{List}
use lib.ListN.{length}
use borrow.Author.Tests.{ne_eqb, lt-ltb, le-ltb}
use Rattle.laws.proofs.Cases.{by_bool, by_le, true-false, or_no}
use Rattle.laws.proofs.Lists.{all-at}
use Rattle.laws.specs.Lists.{all_of, first_not}
use Rattle.theory.proofs.Lowest.{Lowest, Nobody, lowest-cases}
use Rattle.plan.specs.Answer.{refuse, granted}
use Rattle.plan.specs.Value.{at, is_accepted}
use Rattle.plan.specs.declared.Plan.{Plan}
use Rattle.book_view.proofs.Accepted.{plan-facts}
use Rattle.school.specs.Lines.{says_none, said_in}
use Rattle.book_view.specs.Faults.{task_fault}
use Rattle.school.specs.Tests.{is_wrong, is_mislong, is_sooner, is_against, is_untimely, tasks_fault, unread, found_in, lines_judged, judged_of}
use Rattle.school.specs.Said.{LogLine}
use Rattle.promises.specs.Checks.{Before}
use Rattle.promises_engine.specs.Says.{Some, IsLowest}
use Rattle.promises_school.specs.Lines.{IsThere, HasForm}
use Rattle.promises_school.specs.Judged.{AcceptedLog, Unformed, Misplaced, Mislong, Against, Untimely}
use Rattle.promises_school.proofs.Counts.{first-fails}
use Rattle.promises_school.proofs.Places.{line-there, line-back}
use Rattle.promises_school.proofs.Kind.{it, Kind, kind}
use Rattle.promises_school.proofs.Tested as tested
use Rattle.promises_school.proofs.Tested.{Right}
use Rattle.promises_school.proofs.Pairs.{FirstPair, NoPair, pair-cases}

-- ---- the lowest task, in words

module _ (code tasks : ℕ) (test : ℕ → Bool) where
  task-some : (f : Lowest tasks test) → task_fault code tasks test ≡ refuse code (f.who + 1) 0
  unfolding task_fault
  task-some f = rw (f.is, ne_eqb (f.who + 1) 0 (λ e. absurd (omega arith)))

  task-none : Nobody tasks test → task_fault code tasks test ≡ granted
  unfolding task_fault
  task-none n = rw n.is

module _ (tasks : ℕ) (test : ℕ → Bool) (So : ℕ → Type 0) (of : (i : ℕ) → i < tasks → So i → test i ≡ true) where
  lowest-so : (f : Lowest tasks test) → So f.who → IsLowest tasks So f.who
  lowest-so f so = record {
    task = f.task;
    so = so;
    lower = λ j l h. let t = f.task in true-false (of j (omega arith) h) (f.lower j l);
  }

  nobody-so : Nobody tasks test → Some tasks So → ⊥
  nobody-so n s = true-false (of s.0 s.1 s.2) (n.none s.0 s.1)

-- ---- 24 to 27, of lines that have their form

module _ (plan : Plan) (log : List ℕ) (ok : is_accepted plan ≡ true) (short : length log ≤ 32768)
    (forms : (k : ℕ) → IsThere log k → HasForm plan.boards plan.tasks log k) where
  abbrev lines : List LogLine
  lines = said_in plan.boards plan.tasks log

  abbrev start : ℕ → ℕ
  start = tested.start plan log forms

  abbrev end : ℕ → ℕ
  end = tested.end plan log forms

  abbrev wrong : ℕ → Bool
  wrong = is_wrong plan lines

  abbrev mislong : ℕ → Bool
  mislong = is_mislong plan start end

  abbrev against : ℕ → ℕ → Bool
  against = is_against plan start end

  abbrev untimely : ℕ → Bool
  untimely = is_untimely plan start

  pub data Fault : Type 0 where
    fault-24 : (i : ℕ) → IsLowest plan.tasks (Misplaced plan log) i → tasks_fault plan lines ≡ refuse 24 (i + 1) 0 → Fault
    fault-25 :
        (Some plan.tasks (Misplaced plan log) → ⊥) → (i : ℕ) → IsLowest plan.tasks (Mislong plan log) i
        → tasks_fault plan lines ≡ refuse 25 (i + 1) 0 → Fault
    fault-26 :
        (Some plan.tasks (Misplaced plan log) → ⊥) → (Some plan.tasks (Mislong plan log) → ⊥) → (a b : ℕ) → Against plan log a b
        → ((x y : ℕ) → Before x y a b → Against plan log x y → ⊥) → tasks_fault plan lines ≡ refuse 26 (a + 1) (b + 1) → Fault
    fault-27 :
        (Some plan.tasks (Misplaced plan log) → ⊥) → (Some plan.tasks (Mislong plan log) → ⊥)
        → ((a : ℕ) × (b : ℕ) × Against plan log a b → ⊥) → (i : ℕ) → IsLowest plan.tasks (Untimely plan log) i
        → tasks_fault plan lines ≡ refuse 27 (i + 1) 0 → Fault
    fine :
        (Some plan.tasks (Misplaced plan log) → ⊥) → (Some plan.tasks (Mislong plan log) → ⊥)
        → ((a : ℕ) × (b : ℕ) × Against plan log a b → ⊥) → (Some plan.tasks (Untimely plan log) → ⊥)
        → AcceptedLog plan log start end → tasks_fault plan lines ≡ granted → Fault

  wrong-of : (i : ℕ) → i < plan.tasks → Misplaced plan log i → wrong i ≡ true
  wrong-of i l m = tested.wrong-of plan log forms i m

  -- none is wrong
  module _ (n24 : Nobody plan.tasks wrong) where
    right : (i : ℕ) → i < plan.tasks → Right plan log forms i
    right i l = tested.right_is plan log forms i (n24.none i l)

    mislong-of : (i : ℕ) → i < plan.tasks → Mislong plan log i → mislong i ≡ true
    mislong-of i l m = tested.mislong-of plan log forms i (right i l) m

    untimely-of : (i : ℕ) → i < plan.tasks → Untimely plan log i → untimely i ≡ true
    untimely-of i l m = tested.untimely-of plan log forms i (right i l) m

    against-of : (a b : ℕ) → Against plan log a b → against a b ≡ true
    against-of a b h =
        let l = h.ordered in
        let m = h.task in
        tested.against-of plan log forms a b (right a (omega arith)) (right b m) h.so

    first-against : (f : FirstPair plan.tasks against) → Against plan log f.a f.b
    first-against f =
        let l = f.above in
        let m = f.below in
        record {
          ordered = l;
          task = m;
          so = tested.against-is plan log forms f.a f.b (right f.a (omega arith)) (right f.b m) f.holds;
        }

    no-earlier : (f : FirstPair plan.tasks against) (x y : ℕ) → Before x y f.a f.b → Against plan log x y → ⊥
    no-earlier f x y before h = true-false (against-of x y h) (f.earlier x y h.ordered h.task before)

    no-pair : NoPair plan.tasks against → (a : ℕ) × (b : ℕ) × Against plan log a b → ⊥
    no-pair n (a, b, h) = true-false (against-of a b h) (n.none a b h.ordered h.task)

    accepted :
        Nobody plan.tasks mislong → NoPair plan.tasks against → Nobody plan.tasks untimely → AcceptedLog plan log start end
    accepted n25 n26 n27 = record {
      short = short;
      forms = forms;
      ran = λ i l. tested.ran plan log forms i (right i l);
      boards = λ i l. tested.on-board plan log forms i (right i l);
      lengths = λ i l. tested.long-is plan log forms i (right i l) (n25.none i l);
      order = λ a b la lb c o.
          by_le b a
          (λ l.
          by_le a b
          (λ m.
          let e : a ≡ b = omega arith in
          let q = ((plan-facts plan ok).task a la).lasts in
          let r : at plan.begin a ≡ at plan.begin b = ap (at plan.begin) e in
          absurd (omega arith))
          (λ m. tested.order_is plan log forms b a (right b lb) (right a la) (in_order b a la m).0 c o))
          (λ l. tested.order_is plan log forms b a (right b lb) (right a la) (in_order a b lb l).1 c o);
      in_time = λ i l. tested.timely-is plan log forms i (right i l) (n27.none i l);
    }
      where
        -- of two tasks neither started before the other had ended
        in_order : (a b : ℕ) → b < plan.tasks → a < b → (is_sooner plan start end a b ≡ false) × (is_sooner plan start end b a ≡ false)
        in_order a b lb l = or_no (is_sooner plan start end a b) (is_sooner plan start end b a) (n26.none a b l lb)

  pub fault : Fault
  unfolding tasks_fault
  fault =
      ⊎_elim
      (λ f.
      Fault.fault-24 f.who (lowest-so plan.tasks wrong (Misplaced plan log) wrong-of f (tested.wrong-is plan log forms f.who f.holds))
      (rw (task-some 24 plan.tasks wrong f)))
      (λ n24.
      let no24 = nobody-so plan.tasks wrong (Misplaced plan log) wrong-of n24 in
      let e24 = task-none 24 plan.tasks wrong n24 in
      ⊎_elim
      (λ f.
      Fault.fault-25 no24 f.who
      (lowest-so plan.tasks mislong (Mislong plan log) (mislong-of n24) f
      (tested.mislong-is plan log forms f.who (right n24 f.who f.task) f.holds))
      (rw (e24, task-some 25 plan.tasks mislong f)))
      (λ n25.
      let no25 = nobody-so plan.tasks mislong (Mislong plan log) (mislong-of n24) n25 in
      let e25 = task-none 25 plan.tasks mislong n25 in
      ⊎_elim
      (λ f. Fault.fault-26 no24 no25 f.a f.b (first-against n24 f) (no-earlier n24 f) (rw (e24, e25, f.is)))
      (λ n26.
      ⊎_elim
      (λ f.
      Fault.fault-27 no24 no25 (no-pair n24 n26) f.who
      (lowest-so plan.tasks untimely (Untimely plan log) (untimely-of n24) f
      (tested.untimely-is plan log forms f.who (right n24 f.who f.task) f.holds))
      (rw (e24, e25, n26.is, task-some 27 plan.tasks untimely f)))
      (λ n27.
      Fault.fine no24 no25 (no-pair n24 n26) (nobody-so plan.tasks untimely (Untimely plan log) (untimely-of n24) n27) (accepted n24 n25 n26 n27)
      (rw (e24, e25, n26.is, task-none 27 plan.tasks untimely n27)))
      (lowest-cases plan.tasks untimely))
      (pair-cases plan.tasks against))
      (lowest-cases plan.tasks mislong))
      (lowest-cases plan.tasks wrong)

-- ---- the whole log

module _ (plan : Plan) (log : List ℕ) where
  abbrev all_lines : List LogLine
  all_lines = said_in plan.boards plan.tasks log

  abbrev formed : LogLine → Bool
  formed said = said.formed

  pub data Answered : Type 0 where
    not-accepted : is_accepted plan ≡ false → judged_of plan log ≡ unread (refuse 9 0 0) → Answered
    too_long : is_accepted plan ≡ true → 32768 < length log → judged_of plan log ≡ unread (refuse 1 0 0) → Answered
    not-formed :
        is_accepted plan ≡ true → length log ≤ 32768 → (k : ℕ) → Unformed plan log k → ((j : ℕ) → j < k → Unformed plan log j → ⊥)
        → judged_of plan log ≡ unread (refuse 23 (k + 1) 0) → Answered
    read :
        (ok : is_accepted plan ≡ true) (short : length log ≤ 32768)
        (forms : (k : ℕ) → IsThere log k → HasForm plan.boards plan.tasks log k) → Fault plan log ok short forms
        → judged_of plan log ≡ found_in plan.tasks (tasks_fault plan all_lines) all_lines → Answered

  -- a line has its form where it is said to
  has-form : (k : ℕ) → k < length all_lines → (it plan.boards plan.tasks log k).formed ≡ true → HasForm plan.boards plan.tasks log k
  has-form k l h = go (kind plan.boards plan.tasks log k l)
    where
      go : Kind plan.boards plan.tasks log k → HasForm plan.boards plan.tasks log k
      go (Kind.start f m e) = f
      go (Kind.end f m e) = f
      go (Kind.other f a b e) = f
      go (Kind.bad f e) = true-false h (ap formed e)

  has-not : (k : ℕ) → k < length all_lines → (it plan.boards plan.tasks log k).formed ≡ false → HasForm plan.boards plan.tasks log k → ⊥
  has-not k l h form = go (kind plan.boards plan.tasks log k l)
    where
      go : Kind plan.boards plan.tasks log k → ⊥
      go (Kind.start f m e) = true-false (ap formed e) h
      go (Kind.end f m e) = true-false (ap formed e) h
      go (Kind.other f a b e) = true-false (ap formed e) h
      go (Kind.bad f e) = f form

  module _ (ok : is_accepted plan ≡ true) (short : length log ≤ 32768) where
    by_lines : Answered
    unfolding judged_of lines_judged
    by_lines =
        by_bool (all_of formed all_lines)
        (λ all.
        let forms : (k : ℕ) → IsThere log k → HasForm plan.boards plan.tasks log k =
        λ k t. let l = line-there plan.boards plan.tasks log k t in has-form k l (all-at formed all_lines all k (says_none true) l) in
        Answered.read ok short forms (fault plan log ok short forms) (rw (ok, le-ltb 32768 (length log) short, all)))
        (λ some.
        let f = first-fails formed (says_none true) all_lines some in
        let k = first_not formed all_lines in
        let below = f.below in
        Answered.not-formed ok short k (line-back plan.boards plan.tasks log k f.below, has-not k f.below f.fails)
        (λ j l u. u.1 (has-form j (omega arith) (f.earlier j l)))
        (rw (ok, le-ltb 32768 (length log) short, some)))

  pub answered : Answered
  unfolding judged_of
  answered =
      by_bool (is_accepted plan)
      (λ ok. by_le (length log) 32768 (λ short. by_lines ok short) (λ long. Answered.too_long ok long (rw (ok, lt-ltb 32768 (length log) long))))
      (λ no. Answered.not-accepted no (rw no))
