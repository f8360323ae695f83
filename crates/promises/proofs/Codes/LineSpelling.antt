-- When a task line is misspelt: 3.
use Prim.Native.Nat.{ℕ, ◌+◌, ◌≤◌, ◌<◌}
use native.Mathlib.Omega.{arith}
use mathlib.Core.Path.{◌≡◌, sym, ap, ◌∙◌}
use mathlib.Core.Logic.{◌↔◌}
use mathlib.Core.Bool.{Bool, true, false, cond, ◌&&◌}
use mathlib.Core.List.{List}
use lib.Dec.{eqb, leb}
use lib.ListN.{length}
use borrow.Author.Tests.{le-leb, lt-leb}
use Rattle.laws.specs.Lists.{any_of, same}
use Rattle.laws.proofs.Cases.{by_bool, by_le}
use Rattle.laws.proofs.Lists.{same_refl, same-eq}
use Rattle.text.specs.Bytes.{bytes}
use Rattle.text.specs.Line.{fields, field}
use Rattle.text.specs.Number.{most}
use Rattle.text_fields.specs.Items.{between, holds_ok}
use Rattle.text_fields.specs.Faults.{code_for}
use Rattle.plan.specs.Value.{at}
use Rattle.plan.specs.Read.{edition_of, boards_of, tasks_of}
use Rattle.promises.specs.Checks.{Misspelt}
use Rattle.promises.proofs.Codes.TaskLine.{task-missing}
use Rattle.promises.proofs.Codes.FieldCodes.{three-of, over-low, of_three, over-three}
use Rattle.promises.proofs.Codes.LinePlaces as places
use Rattle.promises.proofs.Codes.LinePlaces.{Place, Coded, place, some-code, code-some, moved, start-range}

module _ (mends : Bool) (text : List ℕ) (k : ℕ) (c : Coded mends text k) where
  abbrev line : List ℕ
  line = places.line mends text k

  abbrev ended : Bool
  ended = places.ended mends text k

  abbrev two : Bool
  two = places.two mends text k

  abbrev p : ℕ
  p = places.p mends text k

  abbrev codes : List ℕ
  codes = places.codes mends text k

  abbrev number : ℕ → Bool
  number = places.number mends text k

  abbrev value : ℕ → ℕ
  value = places.value mends text k

  abbrev retired : Bool
  retired = places.retired mends text k

  abbrev task-fine : Bool
  task-fine = places.task-fine mends text k

  abbrev board-fine : Bool
  board-fine = places.board-fine mends text k

  abbrev late : Bool
  late = places.late mends text k

  abbrev finish-fine : Bool
  finish-fine = places.finish-fine mends text k

  abbrev after-fine : Bool
  after-fine = places.after-fine mends text k

  abbrev holds : List ℕ
  holds = places.holds mends text k

  abbrev holds-right : Bool
  holds-right = places.holds-right mends text k

  abbrev after-right : Bool
  after-right = places.after-right mends text k

  abbrev shared : Bool
  shared = places.shared mends text k

  open c use {at-word, at-number, at-board, at_ready, at-begin, at-finish, at-holds, at_after, at-end}

  -- ---- 3
  misspelt-at : (n : ℕ) → n ≤ p + 4 → at codes n ≡ 3 → Misspelt text k
  misspelt-at n h e = go (place mends text k n h)
    where
      spelt : (m : ℕ) → 1 ≤ m → m ≤ p + 1 → (fine : Bool) → code_for (number m) fine ≡ 3 → Misspelt text k
      spelt m a b fine z = Misspelt.number m a b (three-of (number m) fine z)

      r : (3 ≤ p) × (p ≤ 4)
      r = start-range mends text k

      go : Place mends text k n → Misspelt text k
      go (Place.word q) =
          Misspelt.word (λ w.
          let y : same (field line 0) (bytes "task") ≡ true = rw w (same_refl (bytes "task")) in
          let z : ◌≡◌ {A = ℕ} 0 3 = rw y at (sym at-word ∙ moved mends text k q e) in absurd (omega arith))
      go (Place.task q) = spelt 1 (omega arith) (omega arith) task-fine (sym at-number ∙ moved mends text k q e)
      go (Place.board q) = spelt 2 (omega arith) (omega (arith, r)) board-fine (sym at-board ∙ moved mends text k q e)
      go (Place.ready t q) =
          let s : p ≡ 4 = rw t in
          spelt 3 (omega arith) (omega arith) (between 0 most (value 3)) (over-low 18 (omega arith) (number 3) (between 0 most (value 3)) late 3 (omega arith) (sym (at_ready t) ∙ moved mends text k q e))
      go (Place.begin q) = spelt p (by_bool two (λ t. rw t (omega arith)) (λ t. rw t (omega arith))) (omega arith) (between 0 most (value p)) (sym at-begin ∙ moved mends text k q e)
      go (Place.finish q) = spelt (p + 1) (omega arith) (omega arith) finish-fine (sym at-finish ∙ moved mends text k q e)
      go (Place.holds_field q) =
          Misspelt.holds (three-of holds-right (holds_ok holds) (over-low 20 (omega arith) holds-right (holds_ok holds) shared 3 (omega arith) (sym at-holds ∙ moved mends text k q e)))
      go (Place.after-field q) = Misspelt.after (three-of after-right after-fine (sym at_after ∙ moved mends text k q e))
      go (Place.end q) =
          by_bool ended
          (λ t.
          by_le (length (fields line)) (p + 4)
          (λ few. let z : ◌≡◌ {A = ℕ} 0 3 = rw (t, le-leb (length (fields line)) (p + 4) few) at (sym at-end ∙ moved mends text k q e) in absurd (omega arith))
          (λ more. Misspelt.count (λ z. omega arith)))
          (λ t. Misspelt.line t)

  at-misspelt : Misspelt text k → (n : ℕ) × (n ≤ p + 4) × (at codes n ≡ 3)
  at-misspelt (Misspelt.line e) = (p + 4, omega arith, at-end ∙ rw e)
  at-misspelt (Misspelt.count d) =
      by_le (length (fields line)) (p + 4)
      (λ few. (
        p + 3,
        omega arith,
        by_bool two
            (λ t. let m = task-missing line mends ended (edition_of text) (boards_of text) (tasks_of text) k 7 (rw t (omega arith)) in rw t (m (rw t at (short few))))
            (λ t. let m = task-missing line mends ended (edition_of text) (boards_of text) (tasks_of text) k 6 (rw t (omega arith)) in rw t (m (rw t at (short few)))),
      ))
      (λ more. (p + 4, omega arith, at-end ∙ many more))
    where
      short : length (fields line) ≤ p + 4 → length (fields line) ≤ p + 3
      short few = omega (arith, d)

      many : p + 4 < length (fields line) → cond {A = ℕ} (ended && leb (length (fields line)) (p + 4)) 0 3 ≡ 3
      many more = by_bool ended (λ t. rw (t, lt-leb (length (fields line)) (p + 4) more)) (λ t. rw t)
  at-misspelt (Misspelt.word d) =
      (0, omega arith, at-word ∙ by_bool (same (field line 0) (bytes "task")) (λ e. absurd (d (same-eq (field line 0) (bytes "task") e))) (λ e. rw e))
  at-misspelt (Misspelt.number n a b e) = (n, omega arith, go (place mends text k n (omega arith)))
    where
      here : (m : ℕ) → n ≡ m → number m ≡ false
      here m q = rw (← q) e

      go : Place mends text k n → at codes n ≡ 3
      go (Place.word q) = absurd (omega arith)
      go (Place.task q) = ap (at codes) q ∙ at-number ∙ of_three task-fine (here 1 q)
      go (Place.board q) = ap (at codes) q ∙ at-board ∙ of_three board-fine (here 2 q)
      go (Place.ready t q) = ap (at codes) q ∙ at_ready t ∙ over-three 18 (between 0 most (value 3)) late (here 3 q)
      go (Place.begin q) = ap (at codes) q ∙ at-begin ∙ of_three (between 0 most (value p)) (here p q)
      go (Place.finish q) = ap (at codes) q ∙ at-finish ∙ of_three finish-fine (here (p + 1) q)
      go (Place.holds_field q) = absurd (omega arith)
      go (Place.after-field q) = absurd (omega arith)
      go (Place.end q) = absurd (omega arith)
  at-misspelt (Misspelt.holds e) = (p + 2, omega arith, at-holds ∙ over-three 20 (holds_ok holds) shared e)
  at-misspelt (Misspelt.after e) = (p + 3, omega arith, at_after ∙ of_three after-fine e)

  pub three-is : (any_of (eqb 3) codes ≡ true) ↔ Misspelt text k
  three-is = (λ h. let s = some-code mends text k 3 h in misspelt-at s.0 s.1 s.2, λ m. let s = at-misspelt m in code-some mends text k 3 s.0 s.1 s.2)
