-- Refusal numbers in the order of their checks, each with the condition in which it is given.
use Rattle.std.specs.Prelude.{ℕ, ◌≡◌, ◌↔◌, List, [], ◌∷◌}

-- a number, and when it is given
pub record Rung : Type 1 where
  pub number : ℕ
  pub applies : Type 0

infix 80 ◌when◌
abbrev pub ◌when◌ : ℕ → Type 0 → Rung
◌when◌ number applies = record { number = number; applies = applies }

-- From a check on, where `passed` says that none before it applies: the code is a check's number exactly when that check applies
-- and none before it does, and 0 exactly when none does
abbrev pub From : Type 0 → List Rung → ℕ → Type 0
From passed [] code = (code ≡ 0) ↔ passed
From passed (rung ∷ later) code =
    ((code ≡ rung.number) ↔ (passed × rung.applies)) × From (passed × (rung.applies → ⊥)) later code

abbrev pub Ladder : List Rung → ℕ → Type 0
Ladder rungs code = From Unit rungs code
