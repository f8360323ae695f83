-- The ways out of the judge: each refusal, and what is found.
use Prim.Native.Nat.{ℕ, ◌+◌, ◌≤◌, ◌<◌, min}
use native.Mathlib.Omega.{arith}
use mathlib.Core.Bool.{Bool, true, false, ◌&&◌, ◌||◌, and-true}
use mathlib.Core.List.{List}
use mathlib.Core.Path.{◌≡◌, refl, sym, ap, ◌∙◌}
use lib.Dec.{ltb}
use lib.ListN.{length}
use borrow.Author.Tests.{lt-ltb, le-ltb}
use Rattle.laws.proofs.Cases.{by_bool, and-of, true-false}
use Rattle.laws.specs.Lists.{all_of, first_not}
use Rattle.plan.specs.Answer.{refuse}
use Rattle.plan.specs.Value.{at, is_accepted}
use Rattle.plan.specs.declared.Answer.{Answer}
use Rattle.plan.specs.declared.Plan.{Plan}
use Rattle.book_view.specs.View.{is_rule, plan_for, laid}
use Rattle.book_view.proofs.Accepted.{plan-facts}
use Rattle.std.specs.Prelude.{Some, None, Result, Ok, Err}
use Rattle.book_waits.specs.Waits.{sets_by, waits_of}
use Rattle.book_sound.proofs.WaitLaws.{none-known, some-known, agree}
use Rattle.school.specs.Lines.{said_in}
use Rattle.school.specs.Tasks.{start_in, end_in}
use Rattle.school.specs.Tests.{is_wrong, is_mislong, is_sooner, is_against, is_untimely, tasks_fault, unread, lines_judged, judged_of}
use Rattle.school.specs.declared.JudgedLog.{JudgedLog}
use Rattle.school.specs.Said.{LogLine}
use Rattle.school_read.specs.Found.{is_formed, lines_found, lines_read, found_of}
use Rattle.school_read.specs.declared.Found.{Found}
use Rattle.school_read.proofs.ReadLaws.{line_of, is_found, found_else, line-most}
use Rattle.school_judge.specs.Tests.{is_amiss, is_against_by, is_sooner_by, tests_answer}
use Rattle.school_judge.proofs.TestLaws.{tests_same}
use Rattle.school_judge.specs.Private.Judged.{judged_by}
use Rattle.school_judge.specs.Private.Laid.{known_in, right_in, tick_in}
use Rattle.school_judge.proofs.FoundLaws.{of_known, known-laid, starts-laid, ends-laid, amiss-is, all_known, tick-known}

module _ (plan : Plan) (log : List ℕ) {view : Plan} (v : view ≡ plan) where
  pub refused_plan : None ≡ waits_of 1 view → {r : JudgedLog} → r ≡ unread (refuse 9 0 0) → r ≡ judged_of plan log
  unfolding judged_of
  refused_plan w e =
      let no : is_accepted plan ≡ false =
      sym (and-true (is_accepted plan)) ∙ none-known 1 plan (sym (w ∙ ap (λ (p : Plan). waits_of 1 p) v)) in e ∙ rw no

  module _ {sets : List ℕ} (w : Some sets ≡ waits_of 1 view) where
    has-sets : ((is_accepted plan && is_rule 1) ≡ true) × (sets_by 1 plan ≡ sets)
    has-sets = some-known 1 plan (sym (w ∙ ap (λ (p : Plan). waits_of 1 p) v))

    ok : is_accepted plan ≡ true
    ok = sym (and-true (is_accepted plan)) ∙ has-sets.0

    pub few : plan.tasks ≤ 64
    few = (plan-facts plan ok).tasks-to

    pub refused-long : 32768 < length log → {r : JudgedLog} → r ≡ unread (refuse 1 0 0) → r ≡ judged_of plan log
    unfolding judged_of
    refused-long l e = e ∙ rw (ok, lt-ltb 32768 (length log) l)

    abbrev lines : List LogLine
    lines = said_in plan.boards plan.tasks log

    module _ (short : length log ≤ 32768) where
      to-lines : lines_judged plan lines ≡ judged_of plan log
      unfolding judged_of
      to-lines = rw (ok, le-ltb 32768 (length log) short)

      read-is : {read : Result Found ℕ} → read ≡ found_of plan.boards plan.tasks log → read ≡ lines_read lines
      unfolding found_of
      read-is f =
          let e : min plan.tasks 64 ≡ plan.tasks = omega (arith, few) in
          f ∙ ap (λ (n : ℕ). lines_read (said_in plan.boards n log)) e

      -- a line without its form is named
      module _ {line : ℕ} (f : Err line ≡ found_of plan.boards plan.tasks log) where
        pub line-fits : line < 4294967296
        line-fits = omega (arith, short, line-most plan.boards plan.tasks log f)

        broken : (all_of is_formed lines ≡ false) × (line ≡ first_not is_formed lines + 1)
        unfolding lines_read
        broken =
            by_bool (all_of is_formed lines)
            (λ t. true-false refl (sym (ap is_found (read-is f) ∙ rw t)))
            (λ n. (n, ap line_of (read-is f) ∙ rw n))

        pub refused-line : {r : JudgedLog} → r ≡ unread (refuse 23 line 0) → r ≡ judged_of plan log
        unfolding lines_judged
        refused-line e = let b = broken in e ∙ rw b.1 (rw b.0 at to-lines)

      -- all lines have their form
      module _ {found : Found} (f : Ok found ≡ found_of plan.boards plan.tasks log) where
        formed : all_of is_formed lines ≡ true
        unfolding lines_read
        formed =
            by_bool (all_of is_formed lines) (λ t. t) (λ n. true-false refl (ap is_found (read-is f) ∙ rw n))

        read : found ≡ lines_found lines
        unfolding lines_read
        read = ap (found_else found) (read-is f) ∙ rw formed

        abbrev known : List ℕ
        known = laid plan.tasks (known_in found)

        abbrev right : List ℕ
        right = laid plan.tasks (right_in known plan.board found)

        abbrev start : List ℕ
        start = laid plan.tasks (tick_in known found.starts)

        abbrev end : List ℕ
        end = laid plan.tasks (tick_in known found.ends)

        begun : start ≡ laid plan.tasks (of_known lines (start_in lines))
        begun = starts-laid plan.tasks few lines read refl refl

        done : end ≡ laid plan.tasks (of_known lines (end_in lines))
        done = ends-laid plan.tasks few lines read refl refl

        wrong-same : (i : ℕ) → i < plan.tasks → is_amiss right i ≡ is_wrong plan lines i
        wrong-same = amiss-is plan.tasks few lines read refl plan.board refl

        module _ (right-all : (i : ℕ) → i < plan.tasks → is_amiss right i ≡ false) where
          its-start : (i : ℕ) → i < plan.tasks → at start i ≡ start_in lines i
          its-start i l =
              tick-known plan.tasks lines (start_in lines) few begun i l (all_known plan.tasks few lines read refl plan.board refl right-all i l)

          its-end : (i : ℕ) → i < plan.tasks → at end i ≡ end_in lines i
          its-end i l =
              tick-known plan.tasks lines (end_in lines) few done i l (all_known plan.tasks few lines read refl plan.board refl right-all i l)

          sooner-same : (b a : ℕ) → b < plan.tasks → a < plan.tasks → is_sooner_by sets (at start) (at end) b a ≡ is_sooner plan (start_in lines) (end_in lines) b a
          sooner-same b a lb la =
              ap (λ (x : Bool). x && ltb (at start b) (at end a)) (agree 1 plan (and-of ok refl) (sym has-sets.1) b a lb la)
              ∙ ap (λ (x : ℕ). (plan_for 1 plan).waits b a && ltb x (at end a)) (its-start b lb)
              ∙ ap (λ (x : ℕ). (plan_for 1 plan).waits b a && ltb (start_in lines b) x) (its-end a la)

          against-same : (a b : ℕ) → a < plan.tasks → b < plan.tasks → is_against_by sets (at start) (at end) a b ≡ is_against plan (start_in lines) (end_in lines) a b
          against-same a b la lb =
              ap (λ (x : Bool). x || is_sooner_by sets (at start) (at end) b a) (sooner-same a b la lb)
              ∙ ap (λ (x : Bool). is_sooner plan (start_in lines) (end_in lines) a b || x) (sooner-same b a lb la)

        its-answer :
            tests_answer plan.tasks (is_amiss right) (is_mislong plan (at start) (at end)) (is_against_by sets (at start) (at end)) (is_untimely plan (at start))
            ≡ tasks_fault plan lines
        unfolding tasks_fault tests_answer
        its-answer =
            tests_same plan.tasks (is_amiss right) (is_wrong plan lines) (is_mislong plan (at start) (at end)) (is_mislong plan (start_in lines) (end_in lines)) (is_against_by sets (at start) (at end)) (is_against plan (start_in lines) (end_in lines)) (is_untimely plan (at start)) (is_untimely plan (start_in lines)) wrong-same
            (λ a. (
              λ i l. rw (its-start a i l, its-end a i l),
              against-same a,
              λ i l. rw (its-start a i l),
            ))

        pub judged-is : {r : JudgedLog} → r ≡ judged_by view sets found → r ≡ judged_of plan log
        unfolding judged_by lines_judged
        judged-is e =
            let by_plan : judged_by plan sets found ≡ judged_of plan log =
            rw (its-answer, begun, done, known-laid plan.tasks few lines read refl) (rw formed at to-lines) in
            e ∙ ap (λ (p : Plan). judged_by p sets found) v ∙ by_plan

-- what is laid out, and its answer, are the log judged by what is found
module _ (plan : Plan) (waits : List ℕ) (found : Found) (few : plan.tasks ≤ 64) {n : ℕ} (t : n ≡ plan.tasks) {known right start end : List ℕ}
    (k : known ≡ laid n (known_in found)) (r : right ≡ laid n (right_in known plan.board found))
    (s : start ≡ laid n (tick_in known found.starts)) (d : end ≡ laid n (tick_in known found.ends)) where
  pub judged-with :
      {answer : Answer}
      → answer ≡ tests_answer (min plan.tasks 64) (is_amiss right) (is_mislong plan (at start) (at end)) (is_against_by waits (at start) (at end)) (is_untimely plan (at start))
      → ◌≡◌ {A = JudgedLog} (record { answer = answer; known = known; start = start; end = end }) (judged_by plan waits found)
  unfolding judged_by
  judged-with e =
      let m : min plan.tasks 64 ≡ plan.tasks = omega (arith, few) in rw (e, m, r, s, d, k, t)
