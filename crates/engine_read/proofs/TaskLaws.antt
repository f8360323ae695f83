-- The task field: its code, its value, and what a code of 0 says.
use Prim.Native.Nat.{ℕ, ◌≤◌}
use mathlib.Core.Path.{◌≡◌, refl, sym, ap, ◌∙◌}
use mathlib.Core.Bool.{Bool, true, false, ◌&&◌}
use mathlib.Core.List.{List}
use native.Mathlib.Omega.{arith}
use lib.Dec.{eqb}
use borrow.Author.Tests.{eq-eqb, ne_eqb}
use Rattle.laws.proofs.Cases.{by_bool, by-eq, true-false}
use Rattle.text.specs.Number.{value_of}
use Rattle.std.specs.Prelude.{Result, Ok, Err, IsOk}
use Rattle.std.specs.Result.{result_err}
use Rattle.text_fields.specs.Faults.{Ranged, field_code, ranged_read}
use Rattle.text_fields.specs.Said.{fault_number, code_in, ranged_in}
use Rattle.text_fields.specs.declared.FieldFault.{FieldFault}
use Rattle.text_fields.proofs.RangedLaws.{InRange, field-zero, ranged-code, ranged-value}
use Rattle.text_fields.proofs.FaultLaws.{is_code, field-is-code, number-some}
use Rattle.engine_read.specs.Lines.{task_code, marked}
use Rattle.engine_read.specs.Private.Read.{task_read}

four-is-code : is_code 4 ≡ true
unfolding is_code
four-is-code = refl

module _ (tasks : ℕ) (earlier : ℕ → Bool) (s : List ℕ) where
  pub task-is-code : is_code (task_code tasks earlier s) ≡ true
  unfolding task_code
  task-is-code =
      by_bool (eqb (field_code 1 tasks s) 0 && earlier (value_of s)) (λ e. rw e four-is-code) (λ e. rw e (field-is-code 1 tasks s))

  pub task-zero : task_code tasks earlier s ≡ 0 → field_code 1 tasks s ≡ 0
  unfolding task_code
  task-zero z =
      by_bool (eqb (field_code 1 tasks s) 0 && earlier (value_of s))
      (λ e. let q : ◌≡◌ {A = ℕ} 4 0 = rw e at z in absurd (omega arith))
      (λ e. rw e at z)

  pub task-named : tasks ≤ 64 → task_code tasks earlier s ≡ 0 → InRange 1 tasks s
  task-named few z = field-zero 1 tasks s (omega arith) (task-zero z)

  -- what reading it answers
  pub task-err : (r : Result ℕ FieldFault) → ranged_in r ≡ task_read tasks earlier s → code_in (result_err r) ≡ task_code tasks earlier s
  unfolding task_read
  task-err (Ok v) p = ap (λ (x : Ranged). x.code) p
  task-err (Err fault) p = ap (λ (x : Ranged). x.code) p

  pub task-there : (r : Result ℕ FieldFault) → ranged_in r ≡ task_read tasks earlier s → task_code tasks earlier s ≡ 0 → IsOk r
  task-there (Ok v) p z = refl
  task-there (Err fault) p z =
      let e : fault_number fault ≡ 0 = task-err (Err fault) p ∙ z in true-false (eq-eqb (fault_number fault) 0 e) (number-some fault)

  pub task-value : {v : ℕ} (r : Result ℕ FieldFault) → ranged_in r ≡ task_read tasks earlier s → r ≡ Ok v → v ≡ value_of s
  unfolding task_read
  task-value {v} r p e =
      let q : record { code = 0; value = v } ≡ task_read tasks earlier s = rw e at p in
      let z : task_code tasks earlier s ≡ 0 = sym (ap (λ (x : Ranged). x.code) q) in
      ap (λ (x : Ranged). x.value) q ∙ rw z

-- earlier lines are asked only of tasks
pub task-same :
    (tasks : ℕ) (f g : ℕ → Bool) (s : List ℕ) → tasks ≤ 64 → ((task : ℕ) → 1 ≤ task → task ≤ tasks → f task ≡ g task)
    → task_code tasks f s ≡ task_code tasks g s
unfolding task_code
task-same tasks f g s few e =
    by-eq (field_code 1 tasks s) 0
    (λ z. let r = field-zero 1 tasks s (omega arith) z in rw (e (value_of s) r.from r.to))
    (λ n. rw (ne_eqb (field_code 1 tasks s) 0 n))

-- ---- what was read of it

module _ (tasks : ℕ) (marks s : List ℕ) where
  pub read_off :
      (kind : FieldFault) → ◌≡◌ {A = Ranged} (record { code = fault_number kind; value = 0 }) (ranged_read 1 tasks s)
      → ◌≡◌ {A = Ranged} (record { code = fault_number kind; value = 0 }) (task_read tasks (marked marks) s)
  unfolding task_read task_code
  read_off kind p = let c = ranged-code 1 tasks s p in rw (← c, number-some kind, number-some kind)

  module _ (few : tasks ≤ 255) {v : ℕ} (p : ◌≡◌ {A = Ranged} (record { code = 0; value = v }) (ranged_read 1 tasks s)) where
    read-zero : field_code 1 tasks s ≡ 0
    read-zero = sym (ranged-code 1 tasks s p)

    read_is : v ≡ value_of s
    read_is = ranged-value 1 tasks s p read-zero

    pub read_some : 1 ≤ v
    read_some = let r = field-zero 1 tasks s (omega arith) read-zero in omega (arith, read_is, r.from)

    module _ {t : Bool} (k : t ≡ marked marks v) where
      marked-is : marked marks (value_of s) ≡ t
      marked-is = sym (k ∙ ap (marked marks) read_is)

      pub read-marked : t ≡ true → ◌≡◌ {A = Ranged} (record { code = 4; value = 0 }) (task_read tasks (marked marks) s)
      unfolding task_read task_code
      read-marked m = rw (read-zero, marked-is ∙ m)

      pub read-new : t ≡ false → ◌≡◌ {A = Ranged} (record { code = 0; value = v }) (task_read tasks (marked marks) s)
      unfolding task_read task_code
      read-new m = rw (read-zero, marked-is ∙ m, read_is)
