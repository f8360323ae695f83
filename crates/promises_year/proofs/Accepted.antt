-- What is known of an accepted log: each task has one start and one end on its board, and no figure is negative.
use Prim.Native.Nat.{ℕ, ◌+◌, ◌-◌, ◌≤◌, ◌<◌}
use mathlib.Core.Path.{◌≡◌, refl, sym, ap, ◌∙◌}
use mathlib.Core.Bool.{Bool, true, false, not, ◌&&◌, ◌||◌}
use mathlib.Core.List.{List, [], ◌∷◌}
use native.Mathlib.Omega.{arith}
use lib.Dec.{eqb, leb, ltb}
use lib.ListN.{length}
use borrow.Author.Tests.{eqb-true, leb-true, ltb-false, not-false}
use Rattle.laws.specs.Every.{implies}
use Rattle.laws.specs.Lists.{all_of, same, first_not}
use Rattle.laws.proofs.Cases.{by_bool, and_l, and_r, and-of, or_no, implies-of, true-false}
use Rattle.text.specs.Bytes.{bytes}
use Rattle.text.specs.Line.{field}
use Rattle.text.specs.Number.{is_number, value_of}
use Rattle.text_fields.specs.Items.{between}
use Rattle.theory.specs.Times.{lowest}
use Rattle.theory.proofs.Lowest.{lowest-none}
use Rattle.plan.specs.Answer.{refuse, is_granted, or_else}
use Rattle.plan.specs.Read.{ranged}
use Rattle.plan.specs.Value.{at, is_accepted}
use Rattle.plan.specs.declared.Answer.{Answer}
use Rattle.plan.specs.declared.Plan.{Plan}
use Rattle.book_view.proofs.Accepted.{PlanFacts, plan-facts}
use Rattle.school.specs.Lines.{is_record, is_tick, is_earliness, is_moment, says_end, later_said, line_said, said_from, said_in}
use Rattle.school.specs.Tasks.{is_known, start_in, end_in, are_on}
use Rattle.book_view.specs.Faults.{task_fault}
use Rattle.school.specs.Tests.{is_wrong, is_mislong, is_against, is_untimely, against_fault, tasks_fault, unread, found_in, lines_judged, judged_of}
use Rattle.school.specs.declared.JudgedLog.{JudgedLog}
use Rattle.school.specs.Said.{LogLine}
use Rattle.year_rules.proofs.AddedLaws.{judged-accepted}
use Rattle.promises_year.specs.Year.{is_end_line}

-- ---- an `end` line names a task of the plan

ranged-in : (low high : ℕ) (s : List ℕ) → ranged low high s ≡ true → between low high (value_of s) ≡ true
ranged-in low high s h = and_r (is_number s) (between low high (value_of s)) h

-- a task of the plan, on a board of the plan; or no end at all
abbrev pub end_ok : ℕ → ℕ → LogLine → Bool
end_ok boards tasks said = implies (is_end_line said) (between 1 tasks said.end && between 1 boards said.board)

moment-ok :
    (word : List ℕ) (boards tasks : ℕ) (line : List ℕ) → is_moment word boards tasks line ≡ true
    → (between 1 tasks (value_of (field line 1)) && between 1 boards (value_of (field line 2))) ≡ true
unfolding is_moment
moment-ok word boards tasks line h =
    let record-ok = is_record word 5 line in
    let task-ok = ranged 1 tasks (field line 1) in
    let board-ok = ranged 1 boards (field line 2) in
    let ticks-ok = is_tick (field line 3) && is_earliness (field line 4) in
    let g = and_r record-ok (task-ok && (board-ok && ticks-ok)) h in
    and-of (ranged-in 1 tasks (field line 1) (and_l task-ok (board-ok && ticks-ok) g))
    (ranged-in 1 boards (field line 2) (and_l board-ok ticks-ok (and_r task-ok (board-ok && ticks-ok) g)))

module _ (boards tasks : ℕ) where
  later-end : (line : List ℕ) → end_ok boards tasks (later_said boards tasks line) ≡ true
  unfolding later_said
  later-end line =
      by_bool (is_moment (bytes "start") boards tasks line)
      (λ s. rw s)
      (λ s.
      by_bool (is_moment (bytes "end") boards tasks line)
      (λ e. rw (s, e) (implies-of (is_end_line (says_end line)) _ (λ z. moment-ok (bytes "end") boards tasks line e)))
      (λ e. rw (s, e)))

  line-end : (is_first : Bool) (line : List ℕ) → end_ok boards tasks (line_said boards tasks is_first line) ≡ true
  unfolding line_said
  line-end true line = refl
  line-end false line = later-end line

  pub ends-of-plan : (is_first : Bool) (parts : List (List ℕ)) → all_of (end_ok boards tasks) (said_from boards tasks is_first parts) ≡ true
  unfolding said_from all_of
  ends-of-plan is_first [] = refl
  ends-of-plan is_first (last ∷ []) = by_bool (is_first || not (same last [])) (λ h. rw h) (λ h. rw h)
  ends-of-plan is_first (line ∷ next ∷ lines) = and-of (line-end is_first line) (ends-of-plan false (next ∷ lines))

-- ---- the tests that it passed

task-passed : (code tasks : ℕ) (test : ℕ → Bool) → eqb code 0 ≡ false → is_granted (task_fault code tasks test) ≡ true → (i : ℕ) → i < tasks → test i ≡ false
unfolding task_fault
task-passed code tasks test n h i l =
    by_bool (eqb (lowest tasks test) 0)
    (λ e. lowest-none tasks test (eqb-true (lowest tasks test) 0 e) i l)
    (λ e. let h' : is_granted (refuse code (lowest tasks test) 0) ≡ true = rw e at h in true-false h' n)

else-passed : (a b : Answer) → is_granted (or_else a b) ≡ true → (is_granted a ≡ true) × (is_granted b ≡ true)
else-passed a b h =
    by_bool (is_granted a)
    (λ e. let h' : is_granted b ≡ true = rw e at h in (e, h'))
    (λ e. let h' : is_granted a ≡ true = rw e at h in true-false h' e)

pub record TaskDone (plan : Plan) (lines : List LogLine) (i : ℕ) : Type 0 where
  pub known : is_known lines i ≡ true
  pub on : are_on (at plan.board i) lines i ≡ true
  pub by-plan : end_in lines i ≤ at plan.finish i

pub record LogTaken (plan : Plan) (log : List ℕ) (lines : List LogLine) : Type 0 where
  pub facts : PlanFacts plan
  pub found : judged_of plan log ≡ found_in plan.tasks (tasks_fault plan lines) lines
  pub task : (i : ℕ) → i < plan.tasks → TaskDone plan lines i

module _ (plan : Plan) (log : List ℕ) where
  abbrev lines : List LogLine
  lines = said_in plan.boards plan.tasks log

  abbrev formed : LogLine → Bool
  formed said = said.formed

  too_long : is_accepted plan ≡ true → ltb 32768 (length log) ≡ true → judged_of plan log ≡ unread (refuse 1 0 0)
  unfolding judged_of
  too_long a h = rw (a, h)

  by_lines : is_accepted plan ≡ true → ltb 32768 (length log) ≡ false → judged_of plan log ≡ lines_judged plan lines
  unfolding judged_of
  by_lines a h = rw (a, h)

  unformed : all_of formed lines ≡ false → lines_judged plan lines ≡ unread (refuse 23 (first_not formed lines + 1) 0)
  unfolding lines_judged
  unformed h = rw h

  all-formed : all_of formed lines ≡ true → lines_judged plan lines ≡ found_in plan.tasks (tasks_fault plan lines) lines
  unfolding lines_judged
  all-formed h = rw h

  module _ (ok : is_granted (judged_of plan log).answer ≡ true) where
    refuted {κ} : {C : Type κ} (j : JudgedLog) → judged_of plan log ≡ j → is_granted j.answer ≡ false → C
    refuted j e n = true-false ok (ap (λ (x : JudgedLog). is_granted x.answer) e ∙ n)

    accepted : is_accepted plan ≡ true
    accepted = judged-accepted plan log ok

    log-found : judged_of plan log ≡ found_in plan.tasks (tasks_fault plan lines) lines
    log-found =
        by_bool (ltb 32768 (length log))
        (λ h. refuted (unread (refuse 1 0 0)) (too_long accepted h) refl)
        (λ h.
        by_bool (all_of formed lines)
        (λ f. by_lines accepted h ∙ all-formed f)
        (λ f. refuted (unread (refuse 23 (first_not formed lines + 1) 0)) (by_lines accepted h ∙ unformed f) refl))

    abbrev start : ℕ → ℕ
    start = start_in lines

    abbrev end : ℕ → ℕ
    end = end_in lines

    passed :
        (is_granted (task_fault 24 plan.tasks (is_wrong plan lines)) ≡ true)
        × (is_granted (task_fault 25 plan.tasks (is_mislong plan start end)) ≡ true)
        × (is_granted (task_fault 27 plan.tasks (is_untimely plan start)) ≡ true)
    unfolding tasks_fault
    passed =
        let h : is_granted (tasks_fault plan lines) ≡ true = sym (ap (λ (x : JudgedLog). is_granted x.answer) log-found) ∙ ok in
        let a = else-passed (task_fault 24 plan.tasks (is_wrong plan lines)) _ h in
        let b = else-passed (task_fault 25 plan.tasks (is_mislong plan start end)) _ a.1 in
        let c = else-passed (against_fault plan.tasks (is_against plan start end)) _ b.1 in
        (a.0, b.0, c.1)

    done : (i : ℕ) → i < plan.tasks → TaskDone plan lines i
    done i l =
        let right = not-false _ (task-passed 24 plan.tasks (is_wrong plan lines) refl passed.0 i l) in
        let long = not-false _ (task-passed 25 plan.tasks (is_mislong plan start end) refl passed.1 i l) in
        let timely = task-passed 27 plan.tasks (is_untimely plan start) refl passed.2 i l in
        let begin = at plan.begin i in
        let finish = at plan.finish i in
        let sooner = ltb-false begin (start i) (or_no (ltb begin (start i)) (ltb (start i) (at plan.ready i)) timely).0 in
        let least = leb-true 1 (end i - start i) (and_l (leb 1 (end i - start i)) (leb (end i - start i) (finish - begin)) long) in
        let most = leb-true (end i - start i) (finish - begin) (and_r (leb 1 (end i - start i)) (leb (end i - start i) (finish - begin)) long) in
        record {
          known = and_l (is_known lines i) (are_on (at plan.board i) lines i) right;
          on = and_r (is_known lines i) (are_on (at plan.board i) lines i) right;
          by-plan = let lasts = ((plan-facts plan accepted).task i l).lasts in omega arith;
        }

    pub log-taken : LogTaken plan log lines
    log-taken = record { facts = plan-facts plan accepted; found = log-found; task = done }
