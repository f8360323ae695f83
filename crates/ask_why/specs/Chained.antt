-- The chain of a started task, as it is handed out.
use Rattle.std.specs.Prelude.{ℕ, ◌+◌, ◌-◌, cond, List, [], map, eqb, leb, length, replicate}
use Rattle.std.proofs.lemmas.List.Edits.{sets}
use Rattle.theory.specs.Plan as theory-plan
use Rattle.theory.specs.Book.{waiting}
use Rattle.theory.specs.Book as theory-book
use Rattle.theory.specs.Chain.{chain_of}
use Rattle.theory.specs.Report.{from_one}
use Rattle.plan.specs.Answer.{refuse, granted}
use Rattle.plan.specs.declared.Answer.{Answer}
use Rattle.ask_why.specs.declared.Chain.{Chain}

-- a task not in 1 to T is 10, a waiting one 11
unfoldable pub why_code : theory-plan.Plan → theory-book.Book → ℕ → ℕ
why_code plan book = from_one (λ k. cond (leb plan.tasks k) 10 (cond (waiting book.mark k) 11 0))

-- the links by their numbers; places past the last hold nothing
abbrev pub chained : Answer → List ℕ → Chain
chained answer chain = record { answer = answer; count = length chain; links = sets (replicate 64 0) 0 (map (λ i. i + 1) chain) }

-- the chain of a started task; a refusal says task and 0 and gives an empty chain
unfoldable pub chain_for : theory-plan.Plan → theory-book.Book → ℕ → Chain
chain_for plan book task =
    let code = why_code plan book task in
    cond (eqb code 0) (chained granted (chain_of plan book (task - 1))) (chained (refuse code task 0) [])
