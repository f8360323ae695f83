-- The answer of a log's tests where what it is tested by stands together.
use Rattle.std.specs.Prelude.{min}
use Rattle.plan.specs.Value.{at}
use Rattle.plan.specs.declared.Answer.{Answer}
use Rattle.plan.specs.declared.Plan.{Plan}
use Rattle.school.specs.Tests.{is_mislong, is_untimely}
use Rattle.school_judge.specs.Tests.{is_amiss, is_against_by, tests_answer}
use Rattle.school_judge.specs.declared.LogView.{LogView}

abbrev pub tested_by : Plan → LogView → Answer
tested_by plan log =
    let start = at log.start.now in
    let end = at log.end.now in
    tests_answer (min plan.tasks 64) (is_amiss log.right.now) (is_mislong plan start end) (is_against_by log.waits.now start end) (is_untimely plan start)
