-- What is wrong with a pair, as its refusal number; none is 0.
use Rattle.std.specs.Prelude.{ℕ, cond, Option, Some, None}
use Rattle.laws.specs.Scan.{scan_to}
use Rattle.plan.specs.Answer.{granted, is_refused}
use Rattle.plan.specs.Pairs.{pair_answer}
use Rattle.plan.specs.declared.Answer.{Answer}
use Rattle.plan.specs.declared.Plan.{Plan}
use Rattle.plan_judge.specs.Private.Arrays.{tasks_of}
use Rattle.plan.specs.Refusal.{refusal_number}
use Rattle.plan.specs.declared.Refusal.{Refusal}

abbrev pub code_or_0 : Option Refusal → ℕ
code_or_0 None = 0
code_or_0 (Some fault) = refusal_number fault

-- an answer that refuses
abbrev pub refusal : Answer → Option Answer
refusal said = cond (is_refused said) (Some said) None

-- that of the first faulty pair of a and a task from a on
abbrev pub row_refusal : Plan → ℕ → Option Answer
row_refusal plan a = refusal (scan_to is_refused granted (pair_answer (tasks_of plan) a) a plan.tasks)
