-- A writer that writes nothing is no writer: into 200 zeros plan A's text is written.
use Prim.Native.Nat.{ℕ, ◌≤◌}
use native.Mathlib.Omega.{arith}
use mathlib.Core.Path.{◌≡◌, sym, ap, ◌∙◌}
use mathlib.Core.List.{List}
use lib.ListN.{length, take, get_or, replicate}
use Rattle.plan.specs.Read.{reading_of}
use Rattle.plan.specs.Write.{buffer_after}
use Rattle.tables.specs.PlanA.{text_a}
use Rattle.promises.proofs.Rounds.{text-written}
use Rattle.tables.proofs.Impostors.{reader-impostors}

abbrev zeros : List ℕ
zeros = replicate 200 0

pub writer-impostor : buffer_after (reading_of text_a).plan zeros ≡ zeros → ⊥
writer-impostor e =
    let room : length text_a ≤ length zeros = omega arith in
    let t = text-written text_a zeros reader-impostors.3 room in
    let first : ◌≡◌ {A = ℕ} 0 112 = ap (λ (l : List ℕ). get_or l 0 0) (ap (λ (b : List ℕ). take (length text_a) b) (sym e) ∙ t) in
    omega arith
