-- The fronts of the buffers that the program prints.
use Prim.Native.Nat.{ℕ, ◌+◌, ◌≤◌}
use mathlib.Core.Path.{◌≡◌, ap, ◌∙◌}
use mathlib.Core.List.{List}
use native.Mathlib.Omega.{arith}
use lib.Dec.{leb}
use lib.Seq.{sets, length-sets}
use lib.ListN.{length, take}
use borrow.Author.Tests.{leb-true}
use Rattle.laws.proofs.Cases.{by_bool}
use Rattle.io.specs.Counts.{IsPrefixLen}
use Rattle.io.proofs.Counting.{prefix_len_of_le}
use Rattle.laws.proofs.Sets.{front-is}
use Rattle.text.specs.Put.{Put}
use Rattle.log_run.specs.Log.{log_most}
use Rattle.desk_turns.specs.Turns.{Turned, Took}
use Rattle.desk_turns.specs.declared.Turn.{Turn}
use Rattle.desk_start.specs.Start.{start_log, begun_of}
use Rattle.desk_start.specs.declared.DeskOpening.{DeskOpening}
use Rattle.desk.specs.Printed.{TurnIs}

-- a place stays within the buffer
pub put-le : {out : List ℕ} {at : ℕ} {text written : List ℕ} {r : ℕ} → at ≤ length out → Put out at text written r → r ≤ length out
put-le {out} {at} {text} h w =
    by_bool (leb (at + length text) (length out))
    (λ e. let q = rw e at w.place in omega (arith, q, leb-true (at + length text) (length out) e))
    (λ e. let q = rw e at w.place in omega (arith, q))

module _ {out : List ℕ} {turned : Turned} {written : List ℕ} {r : Turn} (size : length out ≡ 3432) (took : Took out turned written r) where
  pub turn-within : IsPrefixLen r.length written
  turn-within =
      let l : length written ≡ length out = ap length took.wrote.bytes ∙ length-sets out 0 turned.says in
      prefix_len_of_le _ _ (omega (arith, size, l, took.wrote.place, took.wrote.small))

  pub turn-printed : TurnIs turned written r
  turn-printed =
      record {
        morning = ap (λ (x : Turn). x.morning) took.turn;
        keeps = ap (λ (x : Turn). x.keeps) took.turn;
        front =
            ap (take r.length) took.wrote.bytes ∙ front-is turned.says out r.length took.wrote.place (omega (arith, size, took.wrote.small));
      }

module _
    (plan ends out : List ℕ) {written : List ℕ} {r : DeskOpening} (size : length out ≡ 212992)
    (ran : (r ≡ begun_of plan ends) × (written ≡ sets out 0 (start_log plan ends)) × (r.length ≤ log_most))
  where
    pub start-within : IsPrefixLen r.length written
    start-within =
        let l : length written ≡ length out = ap length ran.1 ∙ length-sets out 0 (start_log plan ends) in
        prefix_len_of_le _ _ (omega (arith, size, l, ran.2))

    pub start-printed : (r ≡ begun_of plan ends) × (take r.length written ≡ start_log plan ends)
    unfolding begun_of
    start-printed =
        let c : r.length ≡ length (start_log plan ends) = ap (λ (x : DeskOpening). x.length) ran.0 in
        (ran.0, ap (take r.length) ran.1 ∙ front-is (start_log plan ends) out r.length c (omega (arith, size, c, ran.2)))
