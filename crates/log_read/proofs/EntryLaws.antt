-- What a line of ends.txt says, by the tests that lead to it.
use Prim.Native.Nat.{ℕ}
use mathlib.Core.Path.{◌≡◌, refl, sym, ap, ◌∙◌}
use mathlib.Core.Bool.{Bool, true, false}
use mathlib.Core.List.{List, [], ◌∷◌}
use native.Mathlib.Omega.{arith}
use lib.Dec.{eqb}
use Rattle.laws.proofs.Cases.{and-of}
use Rattle.laws.specs.Lists.{all_of, same}
use Rattle.std.specs.Prelude.{Option, Result, Ok, Err, IsOk}
use Rattle.std.specs.Result.{result_err}
use Rattle.text.specs.Bytes.{bytes}
use Rattle.text.specs.Line.{field}
use Rattle.text.specs.Number.{most}
use Rattle.text_fields.specs.Faults.{field_code, ranged_read, word_code, end_code, field_codes, fault_of}
use Rattle.text_fields.specs.Said.{fault_number, code_in, ranged_in, fault_in}
use Rattle.text_fields.proofs.Codes.{codes_in}
use Rattle.text_fields.specs.declared.FieldFault.{FieldFault}
use Rattle.text_fields.specs.declared.Fault.{Fault}
use Rattle.text_fields.proofs.RangedLaws.{err-code, ok-there, ok-value}
use Rattle.text_fields.proofs.FaultLaws.{is_code, field-is-code, word-is-code, end-is-code, zero-at}
use Rattle.text_fields.proofs.UnlessLaws.{refuses, says, right-codes}
use Rattle.log_read.specs.Entries.{end_codes, drop_codes, entry_of}
use Rattle.log_read.specs.Said.Entry.{End, Drop, Refused}

pub end-kinds : (ended : Bool) (line : List ℕ) → all_of is_code (end_codes ended line) ≡ true
unfolding end_codes field_codes all_of
end-kinds ended line =
    and-of (word-is-code (bytes "end") (field line 0))
    (and-of (field-is-code 0 most (field line 1)) (and-of (field-is-code 0 most (field line 2)) (and-of (end-is-code ended 3 line) refl)))

pub drop-kinds : (ended : Bool) (line : List ℕ) → all_of is_code (drop_codes ended line) ≡ true
unfolding drop_codes field_codes all_of
drop-kinds ended line =
    and-of (word-is-code (bytes "drop") (field line 0)) (and-of (field-is-code 0 most (field line 1)) (and-of (end-is-code ended 2 line) refl))

-- an `end` line
module _ (ended : Bool) (line : List ℕ) (other : same (field line 0) (bytes "drop") ≡ false)
    (word wrong late end : Option FieldFault) (task tick : Result ℕ FieldFault) {first second third : List ℕ}
    (f : first ≡ field line 0) (g : second ≡ field line 1) (h : third ≡ field line 2)
    (w : code_in word ≡ word_code (bytes "end") first) (p : ranged_in task ≡ ranged_read 0 most second) (q : ranged_in tick ≡ ranged_read 0 most third)
    (i : wrong ≡ result_err task) (j : late ≡ result_err tick) (e : code_in end ≡ end_code ended 3 line) where
  abbrev faults : List (Option FieldFault)
  faults = word ∷ wrong ∷ late ∷ end ∷ []

  codes-are : codes_in faults ≡ end_codes ended line
  unfolding end_codes field_codes
  codes-are =
      let p1 : code_in wrong ≡ field_code 0 most (field line 1) = rw i (err-code 0 most (field line 1) task (rw g at p)) in
      let p2 : code_in late ≡ field_code 0 most (field line 2) = rw j (err-code 0 most (field line 2) tick (rw h at q)) in
      let w' : code_in word ≡ word_code (bytes "end") (field line 0) = rw f at w in
      λ k. w' k ∷ p1 k ∷ p2 k ∷ e k ∷ []

  pub end_refused : (fault : Fault) → fault_in {A = Unit {0}} (Err fault) ≡ fault_of line (codes_in faults) → Refused (fault_number fault.kind) fault.column ≡ entry_of ended line
  unfolding entry_of
  end_refused fault r = rw other (refuses line (end_codes ended line) Refused _ fault.kind (r ∙ ap (fault_of line) codes-are))

  -- where it has no fault
  module _ (r : record { code = 0; column = 0 } ≡ fault_of line (codes_in faults)) where
    codes-0 : all_of (eqb 0) (end_codes ended line) ≡ true
    codes-0 = ap (all_of (eqb 0)) (sym codes-are) ∙ right-codes line faults r

    task-0 : field_code 0 most (field line 1) ≡ 0
    unfolding end_codes field_codes
    task-0 = zero-at (end_codes ended line) codes-0 1 (omega arith)

    tick-0 : field_code 0 most (field line 2) ≡ 0
    unfolding end_codes field_codes
    tick-0 = zero-at (end_codes ended line) codes-0 2 (omega arith)

    pub end-task : IsOk task
    end-task = ok-there 0 most (field line 1) task (rw g at p) task-0

    pub end-tick : IsOk tick
    end-tick = ok-there 0 most (field line 2) tick (rw h at q) tick-0

    pub end-says : {n m : ℕ} → task ≡ Ok n → tick ≡ Ok m → End n m ≡ entry_of ended line
    unfolding entry_of
    end-says t u =
        let v1 = ok-value 0 most (field line 1) task (rw g at p) t in
        let v2 = ok-value 0 most (field line 2) tick (rw h at q) u in
        rw other (says line (end_codes ended line) Refused _ (r ∙ ap (fault_of line) codes-are) (λ k. End (v1 k) (v2 k)))

-- a `drop` line
module _ (ended : Bool) (line : List ℕ) (this : same (field line 0) (bytes "drop") ≡ true)
    (word wrong end : Option FieldFault) (task : Result ℕ FieldFault) {first second : List ℕ} (f : first ≡ field line 0) (g : second ≡ field line 1)
    (w : code_in word ≡ word_code (bytes "drop") first) (p : ranged_in task ≡ ranged_read 0 most second)
    (i : wrong ≡ result_err task) (e : code_in end ≡ end_code ended 2 line) where
  abbrev drop-faults : List (Option FieldFault)
  drop-faults = word ∷ wrong ∷ end ∷ []

  drop-codes-are : codes_in drop-faults ≡ drop_codes ended line
  unfolding drop_codes field_codes
  drop-codes-are =
      let p1 : code_in wrong ≡ field_code 0 most (field line 1) = rw i (err-code 0 most (field line 1) task (rw g at p)) in
      let w' : code_in word ≡ word_code (bytes "drop") (field line 0) = rw f at w in
      λ k. w' k ∷ p1 k ∷ e k ∷ []

  pub drop-refused : (fault : Fault) → fault_in {A = Unit {0}} (Err fault) ≡ fault_of line (codes_in drop-faults) → Refused (fault_number fault.kind) fault.column ≡ entry_of ended line
  unfolding entry_of
  drop-refused fault r = rw this (refuses line (drop_codes ended line) Refused _ fault.kind (r ∙ ap (fault_of line) drop-codes-are))

  -- where it has no fault
  module _ (r : record { code = 0; column = 0 } ≡ fault_of line (codes_in drop-faults)) where
    pub drop-task : IsOk task
    unfolding drop_codes field_codes
    drop-task =
        let all : all_of (eqb 0) (drop_codes ended line) ≡ true = ap (all_of (eqb 0)) (sym drop-codes-are) ∙ right-codes line drop-faults r in
        ok-there 0 most (field line 1) task (rw g at p) (zero-at (drop_codes ended line) all 1 (omega arith))

    pub drop-says : {n : ℕ} → task ≡ Ok n → Drop n ≡ entry_of ended line
    unfolding entry_of
    drop-says t =
        let v1 = ok-value 0 most (field line 1) task (rw g at p) t in
        rw this (says line (drop_codes ended line) Refused _ (r ∙ ap (fault_of line) drop-codes-are) (λ k. Drop (v1 k)))
