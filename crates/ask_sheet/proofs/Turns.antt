-- A sheet renewed drive by drive.
use Prim.Native.Nat.{ℕ, ◌+◌, ◌*◌, ◌≤◌, ◌<◌}
use native.Mathlib.Omega.{arith}
use mathlib.Core.Path.{◌≡◌, refl, sym, ap, ◌∙◌}
use mathlib.Core.Bool.{Bool, cond}
use mathlib.Core.List.{List}
use mathlib.Core.Logic.{◌≢◌}
use lib.Bits.{bit_and}
use lib.Dec.{eqb}
use lib.ListN.{length, set, length-take}
use lib.Seq.{sets}
use borrow.Author.Tests.{eq-eqb, ne_eqb, le-leb}
use Rattle.std.specs.Prelude.{Some, None}
use Rattle.std.proofs.lemmas.Option.{none-some}
use Rattle.ask_sheet.specs.Private.Moved.{moved_to}
use Rattle.laws.specs.Each.{each, rows}
use Rattle.laws.proofs.Cases.{by_bool, by-eq}
use Rattle.laws.proofs.Each.{each_turn, each-skip, rows-turn, length-rows}
use Rattle.plan.specs.Value.{at, row}
use Rattle.text.specs.Put.{Put}
use Rattle.ask_sheet.specs.Sheet.{soonest, eight}
use Rattle.ask_sheet.specs.Sets.{members, running_again, next_again}
use Rattle.ask_sheet.proofs.Lines.{eight-length}
use Rattle.ask_sheet.proofs.Rows.{rows-skip}

module _ (held : List ℕ) (was is : ℕ) where
  abbrev of : ℕ → ℕ → ℕ
  of set d = bit_and (at held d) set

  module _ (begin old : List ℕ) where
    abbrev next : ℕ → ℕ
    next d = cond (eqb (of was d) (of is d)) (at old d) (soonest (at begin) 0 (members (of is d)))

    -- who is next on the first n drives
    pub record NextTo (n : ℕ) (list : List ℕ) : Type 0 where
      pub to : list ≡ each n next old

    pub next_start : NextTo 0 old
    unfolding each
    next_start = record { to = refl }

    module _ (d : ℕ) {list again : List ℕ} (inv : NextTo d list) where
      pub next-written :
          of was d ≢ of is d → {first : ℕ} → first ≡ soonest (at begin) 0 (members (of is d)) → again ≡ set list d first
          → NextTo (d + 1) again
      next-written ne f e =
          record { to = e ∙ rw (inv.to, f) (ap (set (each d next old) d) (sym (ap (λ (b : Bool). cond b (at old d) (soonest (at begin) 0 (members (of is d)))) (ne_eqb (of was d) (of is d) ne)))) ∙ sym (each_turn d next old) }

      pub next-kept : of was d ≡ of is d → again ≡ list → NextTo (d + 1) again
      next-kept same e =
          record { to = e ∙ inv.to ∙ each-skip d next old 0 (ap (λ (b : Bool). cond b (at old d) (soonest (at begin) 0 (members (of is d)))) (eq-eqb (of was d) (of is d) same)) }

    pub next-end : {list : List ℕ} {n : ℕ} → n ≡ 32 → NextTo n list → list ≡ next_again held begin was is old
    unfolding next_again
    next-end e inv = inv.to ∙ ap (λ (n : ℕ). each n next old) e

  module _ (old : List ℕ) where
    abbrev line : ℕ → List ℕ
    line d = cond (eqb (of was d) (of is d)) (row 8 old d) (eight (members (of is d)))

    fits : (d : ℕ) → length (line d) ≤ 8
    fits d =
        by_bool (eqb (of was d) (of is d)) (λ e. rw e (omega (arith, row_fits d)))
        (λ e. rw e (omega (arith, eight-length (members (of is d)))))
      where
        row_fits : (d : ℕ) → length (row 8 old d) ≤ 8
        row_fits d = rw length-take (omega arith)

    -- the places of the first n drives
    pub record RunTo (n : ℕ) (list : List ℕ) : Type 0 where
      pub size : length old ≡ 256
      pub to : list ≡ rows 8 n line old

    pub run-start : length old ≡ 256 → RunTo 0 old
    unfolding rows
    run-start size = record { size = size; to = refl }

    module _ (d : ℕ) (low : d < 32) {list again : List ℕ} (inv : RunTo d list) where
      pub run-written :
          of was d ≢ of is d → {places : List ℕ} → places ≡ eight (members (of is d)) → {written : List ℕ} {end : ℕ} → Put list (8 * d) places written end
          → again ≡ written → RunTo (d + 1) again
      run-written ne {places} f put e =
          let s : length list ≡ 256 = ap length inv.to ∙ length-rows 8 d line old ∙ inv.size in
          let n : length places ≡ 8 = ap length f ∙ eight-length (members (of is d)) in
          let fit = le-leb (8 * d + length places) (length list) (omega arith) in
          let this : line d ≡ places = ap (λ (b : Bool). cond b (row 8 old d) (eight (members (of is d)))) (ne_eqb (of was d) (of is d) ne) ∙ sym f in
          record {
            size = inv.size;
            to = e ∙ put.bytes ∙ ap (λ (b : Bool). cond b (sets list (8 * d) places) list) fit ∙ ap (λ (l : List ℕ). sets l (8 * d) places) inv.to ∙ ap (sets (rows 8 d line old) (8 * d)) (sym this) ∙ sym (rows-turn 8 d line old);
          }

      pub run-kept : of was d ≡ of is d → again ≡ list → RunTo (d + 1) again
      run-kept same e =
          record {
            size = inv.size;
            to = e ∙ inv.to ∙ rows-skip line old d (omega (arith, inv.size)) (λ j q. fits j) (ap (λ (b : Bool). cond b (row 8 old d) (eight (members (of is d)))) (eq-eqb (of was d) (of is d) same));
          }

    pub run-size : {list : List ℕ} {n : ℕ} → RunTo n list → length list ≡ 256
    run-size {list} {n} inv = ap length inv.to ∙ length-rows 8 n line old ∙ inv.size

    pub run_end : {list : List ℕ} {n : ℕ} → n ≡ 32 → RunTo n list → list ≡ running_again held was is old
    unfolding running_again
    run_end e inv = inv.to ∙ ap (λ (n : ℕ). rows 8 n line old) e

-- the holders that have moved
module _ (held was is : ℕ) where
  pub moved-some : {now : ℕ} → Some now ≡ moved_to held was is → (bit_and held was ≢ bit_and held is) × (now ≡ bit_and held is)
  moved-some {now} q =
      by-eq (bit_and held was) (bit_and held is)
      (λ e. let z : None ≡ Some now = sym (q ∙ rw (eq-eqb (bit_and held was) (bit_and held is) e)) in absurd (none-some _ z))
      (λ ne. let z : Some now ≡ Some (bit_and held is) = q ∙ rw (ne_eqb (bit_and held was) (bit_and held is) ne) in (ne, cc))

  pub moved-none : None ≡ moved_to held was is → bit_and held was ≡ bit_and held is
  moved-none q =
      by-eq (bit_and held was) (bit_and held is) (λ e. e)
      (λ ne. let z : None ≡ Some (bit_and held is) = q ∙ rw (ne_eqb (bit_and held was) (bit_and held is) ne) in absurd (none-some _ z))
