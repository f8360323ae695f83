-- Lent arrays as the chain sees a plan.
use Rattle.std.specs.Prelude.{ℕ, ◌&&◌, List, ltb}
use Rattle.laws.specs.Bits.{has}
use Rattle.theory.specs.Plan.{Plan}
use Rattle.plan.specs.Value.{at}

-- whoever is waited for is planned to start before, whatever the wait sets say; nobody asks for planned finishes
abbrev pub plan_before : ℕ → List ℕ → List ℕ → List ℕ → Plan
plan_before tasks ready begin waits = record {
  tasks = tasks;
  ready = at ready;
  begin = at begin;
  finish = λ i. 0;
  waits = λ i j. has (at waits i) j && ltb (at begin j) (at begin i);
}
