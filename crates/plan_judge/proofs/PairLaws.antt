-- The code of a pair by the tests that lead to it, and the search for the first faulty pair.
use Prim.Native.Nat.{ℕ, zero, suc, ◌+◌, ◌-◌, ◌≤◌, ◌<◌}
use native.Mathlib.Omega.{arith}
use mathlib.Core.Path.{◌≡◌, refl, sym, ap, ◌∙◌}
use mathlib.Core.Logic.{◌≢◌}
use borrow.Author.Tests.{eq-eqb, ne_eqb}
use Rattle.laws.specs.Scan.{scan_to}
use Rattle.laws.proofs.Scan.{scan-turn, scan-hit, scan-end}
use Rattle.plan.specs.Answer.{refuse, granted, is_refused}
use mathlib.Core.Bool.{Bool, true, false, not, ◌&&◌, and-false}
use lib.Dec.{eqb}
use Rattle.plan.specs.Task.{Task}
use Rattle.plan.specs.Pairs.{overlap, same_board, clash_by_drive, breaks_after, pair_code, pair_answer, first_fault}
use Rattle.std.specs.Prelude.{Some, None}
use Rattle.laws.proofs.Cases.{by_bool}
use Rattle.plan.specs.declared.Answer.{Answer}
use Rattle.plan.proofs.FirstFault.{row_fault}
use Rattle.plan_judge.specs.Private.Faults.{refusal}

module _ (task : ℕ → Task) (a b : ℕ) where
  -- they do not meet, or on no board and on no drive
  pub record Free : Type 0 where
    pub board : ((not (eqb a b) && overlap (task a) (task b)) && same_board (task a) (task b)) ≡ false
    pub drive : ((not (eqb a b) && overlap (task a) (task b)) && clash_by_drive (task a).holds (task b).holds) ≡ false

  module _ {met : Bool} (p : met ≡ (not (eqb a b) && overlap (task a) (task b))) where
    pub pair-6 : met ≡ true → (task a).board ≡ (task b).board → 6 ≡ pair_code task a b
    unfolding pair_code
    pair-6 m h = rw (sym p ∙ m, eq-eqb (task a).board (task b).board h)

    pub free-apart : met ≡ false → Free
    free-apart m = record { board = rw (sym p ∙ m); drive = rw (sym p ∙ m) }

    module _ (n : (task a).board ≢ (task b).board) {drive : Bool} (q : drive ≡ clash_by_drive (task a).holds (task b).holds) where
      pub pair-7 : met ≡ true → drive ≡ true → 7 ≡ pair_code task a b
      unfolding pair_code
      pair-7 m h = rw (sym p ∙ m, ne_eqb (task a).board (task b).board n, sym q ∙ h)

      pub free-kept : drive ≡ false → Free
      free-kept h = record {
        board = rw (ne_eqb (task a).board (task b).board n) (and-false (not (eqb a b) && overlap (task a) (task b)));
        drive = rw (sym q ∙ h) (and-false (not (eqb a b) && overlap (task a) (task b)));
      }

  module _ (free : Free) {this : Bool} (r : this ≡ breaks_after task a b) where
    pub pair-8-this : this ≡ true → 8 ≡ pair_code task a b
    unfolding pair_code
    pair-8-this h = rw (free.board, free.drive, sym r ∙ h)

    module _ (kept : this ≡ false) {that : Bool} (s : that ≡ breaks_after task b a) where
      pub pair-8-that : that ≡ true → 8 ≡ pair_code task a b
      unfolding pair_code
      pair-8-that h = rw (free.board, free.drive, sym r ∙ kept, sym s ∙ h)

      pub pair-0 : that ≡ false → 0 ≡ pair_code task a b
      unfolding pair_code
      pair-0 h = rw (free.board, free.drive, sym r ∙ kept, sym s ∙ h)

-- two that do not overlap and keep their order
pub idle-pair : (task : ℕ → Task) (a b : ℕ) → overlap (task a) (task b) ≡ false → breaks_after task a b ≡ false → breaks_after task b a ≡ false
    → pair_code task a b ≡ 0
idle-pair task a b o this that = sym (pair-0 task a b (free-apart task a b refl met-is) refl this refl that)
  where
    met-is : (not (eqb a b) && overlap (task a) (task b)) ≡ false
    met-is = rw o (and-false (not (eqb a b)))

-- an answer that is said, or none
no-refusal : (said : Answer) → None ≡ refusal said → is_refused said ≡ false
no-refusal said h = by_bool (is_refused said) (λ t. let e : None ≡ Some said = rw t at h in cc) (λ f. f)

some-refusal : (said r : Answer) → Some r ≡ refusal said → (is_refused said ≡ true) × (r ≡ said)
some-refusal said r h =
    by_bool (is_refused said) (λ t. let e : Some r ≡ Some said = rw t at h in (t, cc)) (λ f. let e : Some r ≡ None = rw f at h in cc)

-- The search: one pair passed, a hit, the end of a row; one row passed, a hit, the end.
module _ (tasks : ℕ) (task : ℕ → Task) (a : ℕ) where
  abbrev pub PairsFrom : ℕ → Type 0
  PairsFrom b = row_fault tasks task a ≡ scan_to is_refused granted (pair_answer task a) b tasks

  pub pair-passed : (b : ℕ) → PairsFrom b → b < tasks → pair_code task a b ≡ 0 → PairsFrom (b + 1)
  pair-passed b inv h z =
      let clean : is_refused (pair_answer task a b) ≡ false = ap not (eq-eqb _ _ z) in
      inv ∙ scan-turn _ _ _ b tasks h clean

  -- pairs that are not faulty, passed one after the other
  pairs-passed : (b n : ℕ) → PairsFrom b → ((j : ℕ) → b ≤ j → j < b + n → (j < tasks) × (pair_code task a j ≡ 0)) → PairsFrom (b + n)
  pairs-passed b zero inv clean = let e : b + 0 ≡ b = omega arith in rw e inv
  pairs-passed b (suc n) inv clean =
      let last = clean (b + n) (omega arith) (omega arith) in
      let e : b + suc n ≡ b + n + 1 = omega arith in
      rw e (pair-passed (b + n) (pairs-passed b n inv (λ j low high. clean j low (omega arith))) last.0 last.1)

  pub passed_to : (b r : ℕ) → PairsFrom b → b ≤ r → ((j : ℕ) → b ≤ j → j < r → (j < tasks) × (pair_code task a j ≡ 0)) → PairsFrom r
  passed_to b r inv low clean =
      let e : b + (r - b) ≡ r = omega arith in
      rw e at (pairs-passed b (r - b) inv (λ j from to. clean j from (omega arith)))

  pub pair_found : (b : ℕ) {code : ℕ} → PairsFrom b → b < tasks → code ≡ pair_code task a b → code ≢ 0
      → Some (refuse code (a + 1) (b + 1)) ≡ refusal (row_fault tasks task a)
  pair_found b {code} inv l p n =
      let stops : is_refused (pair_answer task a b) ≡ true = ap not (ne_eqb _ _ (λ e. n (p ∙ e))) in
      let row : row_fault tasks task a ≡ refuse code (a + 1) (b + 1) =
      inv ∙ scan-hit _ _ _ b tasks l stops ∙ ap (λ (x : ℕ). refuse x (a + 1) (b + 1)) (sym p) in
      rw (row, ne_eqb code 0 n)

  pub no-pair : (b : ℕ) → PairsFrom b → tasks ≤ b → None ≡ refusal (row_fault tasks task a)
  no-pair b inv out = rw (inv ∙ scan-end _ _ _ b tasks out)

  abbrev pub RowsFrom : Type 0
  RowsFrom = first_fault tasks task ≡ scan_to is_refused granted (row_fault tasks task) a tasks

  pub row-passed : RowsFrom → a < tasks → None ≡ refusal (row_fault tasks task a)
      → first_fault tasks task ≡ scan_to is_refused granted (row_fault tasks task) (a + 1) tasks
  row-passed rows h e = rows ∙ scan-turn _ _ _ a tasks h (no-refusal _ e)

  pub row_found : {r : Answer} → RowsFrom → a < tasks → Some r ≡ refusal (row_fault tasks task a) → r ≡ first_fault tasks task
  row_found rows h e =
      let found = some-refusal _ _ e in found.1 ∙ sym (rows ∙ scan-hit _ _ _ a tasks h found.0)

  pub none_found : RowsFrom → tasks ≤ a → granted ≡ first_fault tasks task
  none_found rows out = sym (rows ∙ scan-end _ _ _ a tasks out)
