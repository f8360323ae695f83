-- One round of skipping by the table, and rounds until nobody was skipped.
use Prim.Native.Nat.{ℕ, zero, suc, ◌+◌, ◌-◌, ◌<◌, ◌≤◌}
use native.Mathlib.Omega.{arith}
use mathlib.Core.Bool.{Bool, true, false}
use mathlib.Core.List.{List}
use mathlib.Core.Path.{◌≡◌, refl, sym, ap, ◌∙◌}
use lib.ListN.{set}
use Rattle.std.specs.Prelude.{Option, Some, None}
use Rattle.laws.proofs.Cases.{by_bool}
use Rattle.laws.specs.Each.{each}
use Rattle.laws.specs.Every.{any}
use Rattle.laws.proofs.Every.{any-turn, any-not}
use Rattle.plan.specs.Value.{at}
use Rattle.book.specs.Private.Table.{SmallTable, skips_by_row, round_by, skipped_by, rounds_by}
use Rattle.book.specs.declared.StepArrays.{StepArrays}
use Rattle.book.proofs.StartLaws.{put-turn, put-stay, put-idle, put_back}

-- whether somebody was picked, task by task
module _ (pick : ℕ → Bool) (i : ℕ) where
  pub some-picked : pick i ≡ true → true ≡ any (i + 1) pick
  some-picked g = rw (any-turn i pick, g)

  pub some-passed : {some : Bool} → some ≡ any i pick → pick i ≡ false → some ≡ any (i + 1) pick
  some-passed e g = e ∙ rw (any-turn i pick, g)

module _ (dropped : List ℕ) (table : List (List ℕ)) (clock : ℕ) where
  -- one round, task by task
  module _ (old : StepArrays) where
    abbrev pick : ℕ → Bool
    pick = skips_by_row old.mark dropped table

    pub round-none : old ≡ round_by dropped table clock 0 old
    unfolding round_by each
    round-none = refl

    module _ (i : ℕ) {next : StepArrays} (h : next ≡ round_by dropped table clock i old) where
      pub round-skips :
          skips_by_row old.mark dropped table i ≡ true
          → ◌≡◌ {A = StepArrays} (record { mark = set next.mark i 2; start = set next.start i clock; end = set next.end i clock })
          (round_by dropped table clock (i + 1) old)
      unfolding round_by
      round-skips g = rw (h, put-turn pick (λ j. 2) old.mark i g, put-turn pick (λ j. clock) old.start i g, put-turn pick (λ j. clock) old.end i g)

      pub round-stays : skips_by_row old.mark dropped table i ≡ false → next ≡ round_by dropped table clock (i + 1) old
      unfolding round_by
      round-stays g = h ∙ rw (put-stay pick (λ j. 2) old.mark i g, put-stay pick (λ j. clock) old.start i g, put-stay pick (λ j. clock) old.end i g)

  module _ (n : ℕ) where
    -- a round that skips nobody changes nothing, and so do all after it
    idle : (old : StepArrays) → any n (skips_by_row old.mark dropped table) ≡ false → round_by dropped table clock n old ≡ old
    unfolding round_by
    idle old h =
        let none = any-not n (skips_by_row old.mark dropped table) h in
        rw (
          put-idle (skips_by_row old.mark dropped table) (λ j. 2) old.mark n none,
          put-idle (skips_by_row old.mark dropped table) (λ j. clock) old.start n none,
          put-idle (skips_by_row old.mark dropped table) (λ j. clock) old.end n none,
        )

    idle-rounds :
        (k : ℕ) (old : StepArrays) → any n (skips_by_row old.mark dropped table) ≡ false → rounds_by k dropped table clock n old ≡ old
    unfolding rounds_by
    idle-rounds zero old h = refl
    idle-rounds (suc k) old h = rw (idle old h) (idle-rounds k old h)

    -- what a round hands out
    module _ (old : StepArrays) where
      module _ {some : Bool} (e : some ≡ any n (skips_by_row old.mark dropped table)) where
        pub some-skipped : some ≡ true → {next : StepArrays} → next ≡ round_by dropped table clock n old → Some next ≡ skipped_by dropped table clock n old
        some-skipped h q = rw (sym e ∙ h, q)

        pub none-skipped : some ≡ false → None ≡ skipped_by dropped table clock n old
        none-skipped h = rw (sym e ∙ h)

      is-idle : None ≡ skipped_by dropped table clock n old → any n (skips_by_row old.mark dropped table) ≡ false
      is-idle e =
          by_bool (any n (skips_by_row old.mark dropped table))
          (λ t. let no : ◌≡◌ {A = Option StepArrays} None (Some (round_by dropped table clock n old)) = rw t at e in cc)
          (λ f. f)

      moves : {after : StepArrays} → Some after ≡ skipped_by dropped table clock n old → after ≡ round_by dropped table clock n old
      moves {after} e =
          by_bool (any n (skips_by_row old.mark dropped table))
          (λ t. let yes : ◌≡◌ {A = Option StepArrays} (Some after) (Some (round_by dropped table clock n old)) = rw t at e in cc)
          (λ f. let no : ◌≡◌ {A = Option StepArrays} (Some after) None = rw f at e in cc)

    -- whoever waits after a round waited before it
    pub waits_back : (old : StepArrays) (i : ℕ) → at (round_by dropped table clock n old).mark i ≡ 0 → at old.mark i ≡ 0
    unfolding round_by
    waits_back old i z = put_back (skips_by_row old.mark dropped table) (λ j. 2) old.mark n (λ j e. omega arith) i z

    -- the rounds done so far
    pub record SkipTo (old : StepArrays) (k : ℕ) (next : StepArrays) : Type 0 where
      pub small : k ≤ n
      pub table-small : SmallTable (at next.mark) n table
      pub rest : rounds_by (n - k) dropped table clock n next ≡ rounds_by n dropped table clock n old

    pub skip-begin : (old : StepArrays) → SmallTable (at old.mark) n table → SkipTo old 0 old
    skip-begin old s = record { small = omega arith; table-small = s; rest = ap (λ (m : ℕ). rounds_by m dropped table clock n old) (omega arith) }

    module _ (old : StepArrays) (k : ℕ) {next : StepArrays} (so_far : SkipTo old k next) where
      pub skip-end : n ≤ k → next ≡ rounds_by n dropped table clock n old
      unfolding rounds_by
      skip-end l = let z : n - k ≡ 0 = omega arith in let r = so_far.rest in rw z at r

      pub skip-idle : None ≡ skipped_by dropped table clock n next → next ≡ rounds_by n dropped table clock n old
      skip-idle e = sym (idle-rounds (n - k) next (is-idle next e)) ∙ so_far.rest

      more : (m j : ℕ) (from : StepArrays) → m ≡ suc j → rounds_by m dropped table clock n from ≡ rounds_by j dropped table clock n (round_by dropped table clock n from)
      unfolding rounds_by
      more m j from e = rw e

      pub skip-more : {after : StepArrays} → Some after ≡ skipped_by dropped table clock n next → k < n → SkipTo old (k + 1) after
      skip-more e l =
          rw (moves next e)
          (record {
            small = omega arith;
            table-small = λ i h z. so_far.table-small i h (waits_back next i z);
            rest = sym (more (n - k) (n - (k + 1)) next (omega arith)) ∙ so_far.rest;
          })
