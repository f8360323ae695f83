-- How a text is read, and what reading its lines answers.
use Rattle.std.specs.Prelude.{◌≡◌, Bool, true, false, Result, Ok, Err}
use Rattle.plan.specs.Answer.{granted}
use Rattle.plan.specs.Value.{zero_plan}
use Rattle.plan.specs.declared.Answer.{Answer}
use Rattle.plan.specs.declared.Plan.{Plan}
use Rattle.plan.specs.declared.Reading.{Reading}
use Rattle.plan_read.specs.declared.Mode.{Mode}

-- whether a reading mends
abbrev pub mends : Mode → Bool
mends Mode.Plain = false
mends Mode.Mending = true

-- what a plan that is lent becomes: the plan of a reading, or a plan of zeros beside its refusal
abbrev pub IsRead : Reading → Plan → Result (Unit {0}) Answer → Type 0
IsRead reading plan (Ok done) = ◌≡◌ {A = Reading} (record { answer = granted; plan = plan }) reading
IsRead reading plan (Err answer) =
    (plan ≡ zero_plan) × (◌≡◌ {A = Reading} (record { answer = answer; plan = zero_plan }) reading)
