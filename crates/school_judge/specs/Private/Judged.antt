-- A log judged by what is found in it.
use Rattle.std.specs.Prelude.{ℕ, List}
use Rattle.plan.specs.Value.{at}
use Rattle.plan.specs.declared.Plan.{Plan}
use Rattle.book_view.specs.View.{laid}
use Rattle.school.specs.Tests.{is_mislong, is_untimely}
use Rattle.school.specs.declared.JudgedLog.{JudgedLog}
use Rattle.school_read.specs.declared.Found.{Found}
use Rattle.school_judge.specs.Tests.{is_amiss, is_against_by, tests_answer}
use Rattle.school_judge.specs.Private.Laid.{known_in, right_in, tick_in}

-- the tasks that are known, their ticks, and the tests of these
unfoldable pub judged_by : Plan → List ℕ → Found → JudgedLog
judged_by plan waits found =
    let known = laid plan.tasks (known_in found) in
    let start = laid plan.tasks (tick_in known found.starts) in
    let end = laid plan.tasks (tick_in known found.ends) in
    let wrong = is_amiss (laid plan.tasks (right_in known plan.board found)) in
    let against = is_against_by waits (at start) (at end) in
    record {
      answer = tests_answer plan.tasks wrong (is_mislong plan (at start) (at end)) against (is_untimely plan (at start));
      known = known;
      start = start;
      end = end;
    }
