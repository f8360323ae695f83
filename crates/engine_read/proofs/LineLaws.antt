-- What a line says, by the tests that lead to it.
use Prim.Native.Nat.{ℕ}
use mathlib.Core.Path.{◌≡◌, refl, sym, ap, ◌∙◌}
use mathlib.Core.Bool.{Bool, true, false}
use mathlib.Core.List.{List, [], ◌∷◌}
use native.Mathlib.Omega.{arith}
use lib.Dec.{eqb, ltb}
use lib.ListN.{length, take}
use Rattle.std.specs.Prelude.{Option, Result, Ok, Err, IsOk}
use Rattle.std.specs.Result.{result_err}
use Rattle.laws.proofs.Cases.{and-of}
use Rattle.laws.specs.Lists.{all_of, same}
use Rattle.laws.specs.Split.{index_of}
use Rattle.text.specs.Bytes.{bytes}
use Rattle.text.specs.Line.{LF, field}
use Rattle.text.specs.Number.{most}
use Rattle.text_fields.specs.Faults.{field_code, ranged_read, word_code, end_code, field_codes, fault_of}
use Rattle.text_fields.specs.Said.{fault_number, code_in, ranged_in, fault_in}
use Rattle.text_fields.proofs.Codes.{codes_in}
use Rattle.text_fields.specs.declared.FieldFault.{FieldFault}
use Rattle.text_fields.specs.declared.Fault.{Fault}
use Rattle.text_fields.proofs.RangedLaws.{err-code, ok-there, ok-value}
use Rattle.text_fields.proofs.FaultLaws.{is_code, field-is-code, word-is-code, end-is-code, zero-at}
use Rattle.text_fields.proofs.UnlessLaws.{refuses, says, right-codes}
use Rattle.engine_read.specs.Lines.{length_codes, drop_codes, task_code, line_said}
use Rattle.engine_read.specs.Private.Read.{task_read, length_said, drop_said}
use Rattle.engine_read.specs.Said.{LengthLine}
use Rattle.engine_read.specs.Said.{Length, Drop, Refused}
use Rattle.engine_read.proofs.TaskLaws.{task-is-code, task-err, task-there, task-value}

module _ (tasks : ℕ) (earlier : ℕ → Bool) (ended : Bool) (line : List ℕ) where
  pub length-kinds : all_of is_code (length_codes tasks earlier ended line) ≡ true
  unfolding length_codes field_codes all_of
  length-kinds =
      and-of (word-is-code (bytes "length") (field line 0))
      (and-of (task-is-code tasks earlier (field line 1)) (and-of (field-is-code 0 most (field line 2)) (and-of (end-is-code ended 3 line) refl)))

  pub drop-kinds : all_of is_code (drop_codes tasks earlier ended line) ≡ true
  unfolding drop_codes field_codes all_of
  drop-kinds =
      and-of (word-is-code (bytes "drop") (field line 0)) (and-of (task-is-code tasks earlier (field line 1)) (and-of (end-is-code ended 2 line) refl))

  -- a `length` line
  module _
      (word wrong late end : Option FieldFault) (task ticks : Result ℕ FieldFault) {first second third : List ℕ}
      (f : first ≡ field line 0) (g : second ≡ field line 1) (h : third ≡ field line 2)
      (w : code_in word ≡ word_code (bytes "length") first) (p : ranged_in task ≡ task_read tasks earlier second) (q : ranged_in ticks ≡ ranged_read 0 most third)
      (i : wrong ≡ result_err task) (j : late ≡ result_err ticks) (e : code_in end ≡ end_code ended 3 line)
    where
      abbrev faults : List (Option FieldFault)
      faults = word ∷ wrong ∷ late ∷ end ∷ []

      codes-are : codes_in faults ≡ length_codes tasks earlier ended line
      unfolding length_codes field_codes
      codes-are =
          let p1 : code_in wrong ≡ task_code tasks earlier (field line 1) = rw i (task-err tasks earlier (field line 1) task (rw g at p)) in
          let p2 : code_in late ≡ field_code 0 most (field line 2) = rw j (err-code 0 most (field line 2) ticks (rw h at q)) in
          let w' : code_in word ≡ word_code (bytes "length") (field line 0) = rw f at w in
          λ k. w' k ∷ p1 k ∷ p2 k ∷ e k ∷ []

      pub length-refused :
          (fault : Fault) → fault_in {A = Unit {0}} (Err fault) ≡ fault_of line (codes_in faults)
          → Refused (fault_number fault.kind) fault.column ≡ length_said tasks earlier ended line
      length-refused fault r = refuses line (length_codes tasks earlier ended line) Refused _ fault.kind (r ∙ ap (fault_of line) codes-are)

      -- where it has no fault
      module _ (r : record { code = 0; column = 0 } ≡ fault_of line (codes_in faults)) where
        codes-0 : all_of (eqb 0) (length_codes tasks earlier ended line) ≡ true
        codes-0 = ap (all_of (eqb 0)) (sym codes-are) ∙ right-codes line faults r

        pub length-task : IsOk task
        unfolding length_codes field_codes
        length-task = task-there tasks earlier (field line 1) task (rw g at p) (zero-at (length_codes tasks earlier ended line) codes-0 1 (omega arith))

        pub length-ticks : IsOk ticks
        unfolding length_codes field_codes
        length-ticks = ok-there 0 most (field line 2) ticks (rw h at q) (zero-at (length_codes tasks earlier ended line) codes-0 2 (omega arith))

        pub length-says : {n m : ℕ} → task ≡ Ok n → ticks ≡ Ok m → Length n m ≡ length_said tasks earlier ended line
        length-says t u =
            let v1 = task-value tasks earlier (field line 1) task (rw g at p) t in
            let v2 = ok-value 0 most (field line 2) ticks (rw h at q) u in
            says line (length_codes tasks earlier ended line) Refused _ (r ∙ ap (fault_of line) codes-are) (λ k. Length (v1 k) (v2 k))

  -- a `drop` line
  module _
      (word wrong end : Option FieldFault) (task : Result ℕ FieldFault) {first second : List ℕ} (f : first ≡ field line 0) (g : second ≡ field line 1)
      (w : code_in word ≡ word_code (bytes "drop") first) (p : ranged_in task ≡ task_read tasks earlier second)
      (i : wrong ≡ result_err task) (e : code_in end ≡ end_code ended 2 line)
    where
      abbrev drop-faults : List (Option FieldFault)
      drop-faults = word ∷ wrong ∷ end ∷ []

      drop-codes-are : codes_in drop-faults ≡ drop_codes tasks earlier ended line
      unfolding drop_codes field_codes
      drop-codes-are =
          let p1 : code_in wrong ≡ task_code tasks earlier (field line 1) = rw i (task-err tasks earlier (field line 1) task (rw g at p)) in
          let w' : code_in word ≡ word_code (bytes "drop") (field line 0) = rw f at w in
          λ k. w' k ∷ p1 k ∷ e k ∷ []

      pub drop-refused :
          (fault : Fault) → fault_in {A = Unit {0}} (Err fault) ≡ fault_of line (codes_in drop-faults)
          → Refused (fault_number fault.kind) fault.column ≡ drop_said tasks earlier ended line
      drop-refused fault r = refuses line (drop_codes tasks earlier ended line) Refused _ fault.kind (r ∙ ap (fault_of line) drop-codes-are)

      -- where it has no fault
      module _ (r : record { code = 0; column = 0 } ≡ fault_of line (codes_in drop-faults)) where
        pub drop-task : IsOk task
        unfolding drop_codes field_codes
        drop-task =
            let all : all_of (eqb 0) (drop_codes tasks earlier ended line) ≡ true = ap (all_of (eqb 0)) (sym drop-codes-are) ∙ right-codes line drop-faults r in
            task-there tasks earlier (field line 1) task (rw g at p) (zero-at (drop_codes tasks earlier ended line) all 1 (omega arith))

        pub drop-says : {n : ℕ} → task ≡ Ok n → Drop n ≡ drop_said tasks earlier ended line
        drop-says t =
            let v1 = task-value tasks earlier (field line 1) task (rw g at p) t in
            says line (drop_codes tasks earlier ended line) Refused _ (r ∙ ap (fault_of line) drop-codes-are) (λ k. Drop (v1 k))

-- ---- which of the two it is

module _ (tasks : ℕ) (lengthened dropped : ℕ → Bool) (s : List ℕ) {end : ℕ} (e : end ≡ index_of LF s) {first : List ℕ} (f : first ≡ field (take end s) 0)
    {word : Bool} (w : word ≡ same first (bytes "drop"))
  where
    word-is : same (field (take (index_of LF s) s) 0) (bytes "drop") ≡ word
    word-is = sym (rw (f, e) at w)

    pub said-drop : {r : LengthLine} → word ≡ true → r ≡ drop_said tasks dropped (ltb end (length s)) (take end s) → r ≡ line_said tasks lengthened dropped s
    unfolding line_said
    said-drop h q = (rw e at q) ∙ rw (word-is ∙ h)

    pub said-length : {r : LengthLine} → word ≡ false → r ≡ length_said tasks lengthened (ltb end (length s)) (take end s) → r ≡ line_said tasks lengthened dropped s
    unfolding line_said
    said-length h q = (rw e at q) ∙ rw (word-is ∙ h)
