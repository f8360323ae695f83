-- The answers of the readers of whole lines.
use Prim.Native.Nat.{ℕ, ◌+◌, ◌≤◌}
use mathlib.Core.Path.{◌≡◌, ap, ◌∙◌}
use mathlib.Core.Logic.{◌⊎◌, ⊎_elim}
use mathlib.Core.Bool.{Bool, true, false, not, cond, ◌&&◌}
use mathlib.Core.List.{List, [], ◌∷◌}
use native.Mathlib.Omega.{arith}
use lib.Dec.{ltb, eqb}
use Rattle.std.specs.Prelude.{Option, Ok, Err}
use Rattle.laws.specs.Lists.{all_of}
use Rattle.text.specs.Bytes.{bytes}
use Rattle.text.specs.Number.{value_of, most}
use Rattle.text.specs.Line.{field}
use Rattle.text_fields.specs.Faults.{Ranged, Fault, field_code, ranged_read, word_code, end_code, worst, fault_of}
use Rattle.text_fields.specs.Said.{fault_number}
use Rattle.text_fields.proofs.Codes.{codes_in}
use Rattle.text_fields.specs.declared.FieldFault.{FieldFault}
use Rattle.text_fields.proofs.Alike.{field_plain, misspelt-same}
use Rattle.text_fields.proofs.FaultLaws.{faultless-is, faults-are-codes, number-some}
use Rattle.text_fields.proofs.RangedLaws.{ranged-code}
use Rattle.text_fields.proofs.UnlessLaws.{right-codes}
use Rattle.plan.specs.Read.{codes_from, ready_code, task_codes}
use Rattle.plan_read.specs.Private.Editions.{edition_number, is_mended, is_strict, edition_by}
use Rattle.plan_read.specs.declared.Edition.{Edition}
use Rattle.plan_read.specs.Private.Fields.{Tail, line_made, start_at, tail_by, ready_by, ready_at, line_by, line_read}
use Rattle.plan_read.proofs.TailLaws.{TailCodes, ready-code, tail-codes}
use Rattle.plan_read.proofs.HiddenLaws.{finish-same, finish_by, first_alike, ready-alike, second_alike, start-value}

-- by what checking the line answers
module _ (line : List ℕ) (faults : List (Option FieldFault)) (board ready : ℕ) (tail : Tail) where
  pub by-refused :
      (kind : FieldFault) {column : ℕ} → record { code = fault_number kind; column = column } ≡ fault_of line (codes_in faults)
      → Err (record { code = fault_number kind; column = column }) ≡ line_by line (codes_in faults) board ready tail
  unfolding line_by fault_of
  by-refused kind q =
      let w : fault_number kind ≡ worst (codes_in faults) = ap (λ (x : Fault). x.code) q in
      let wrong : all_of (eqb 0) (codes_in faults) ≡ false = faultless-is (codes_in faults) (faults-are-codes faults) ∙ rw (← w) (number-some kind) in
      rw wrong (ap Err q)

  pub by-says : record { code = 0; column = 0 } ≡ fault_of line (codes_in faults) → Ok (line_made board ready tail) ≡ line_by line (codes_in faults) board ready tail
  unfolding line_by
  by-says q = rw (right-codes line faults q)

start-is : (edition : Edition) (tasks : ℕ) (line : List ℕ) (n : ℕ) {tail : Tail} → tail ≡ tail_by edition tasks line n → tail.begin.value ≡ start_at line n
unfolding tail_by
start-is edition tasks line n t = ap (λ (x : Tail). x.begin.value) t

module _ (edition : Edition) (ended : Bool) (tasks : ℕ) (line : List ℕ) (few : tasks ≤ 64) (word number value : ℕ) {code own : ℕ} (o : own ≡ code)
    {tail : Tail} {b f h a end : ℕ} (q : TailCodes tail b f h a) where
  pub first-is :
      tail ≡ tail_by edition tasks line 3 → end ≡ end_code ended 7 line
      → line_by line (word ∷ number ∷ own ∷ b ∷ f ∷ h ∷ a ∷ end ∷ []) value 0 tail
      ≡ line_by line (word ∷ number ∷ code ∷ codes_from (is_strict edition) ended tasks line 3) value 0 (tail_by edition tasks line 3)
  unfolding codes_from
  first-is t e =
      let c = tail-codes edition ended tasks line 3 few t e in
      (λ i. line_by line (word ∷ number ∷ o i ∷ q.begin i ∷ q.finish i ∷ q.holds i ∷ q.after i ∷ end ∷ []) value 0 tail)
      ∙ (λ i. line_by line (word ∷ number ∷ code ∷ c i) value 0 (t i))
      ∙ first_alike line value 0 (tail_by edition tasks line 3) word number code (field_code 0 most (field line 3)) (finish_by line (start_at line 3) 3)
      (finish_by line (value_of (field line 3)) 3) _ (field_plain 0 most (field line 3))
      (misspelt-same (start_at line 3 + 1) (value_of (field line 3) + 1) most (field line 4)) (finish-same line 3)

  pub second_is :
      {ready : Ranged} {begin c : ℕ} → begin ≡ tail.begin.value → ready ≡ ready_by begin (field line 3) → c ≡ ready.code → tail ≡ tail_by edition tasks line 4 → end ≡ end_code ended 8 line
      → line_by line (word ∷ number ∷ own ∷ c ∷ b ∷ f ∷ h ∷ a ∷ end ∷ []) value ready.value tail
      ≡ line_by line (word ∷ number ∷ code ∷ ready_code line ∷ codes_from (is_strict edition) ended tasks line 4) value (ready_at line) (tail_by edition tasks line 4)
  unfolding codes_from ready_code
  second_is {ready} {begin} {c} s r d t e =
      let own-code = field_code 0 most (field line 3) in
      let late : ℕ → Bool = λ start. ltb start (value_of (field line 3)) in
      let read : ℕ = cond (eqb own-code 0 && late (start_at line 4)) 18 own-code in
      let c4 = tail-codes edition ended tasks line 4 few t e in
      let p : ready ≡ ready_by (start_at line 4) (field line 3) = r ∙ ap (λ (x : ℕ). ready_by x (field line 3)) (s ∙ start-is edition tasks line 4 t) in
      let d2 : c ≡ read = d ∙ ap (λ (x : Ranged). x.code) p ∙ ready-code (start_at line 4) (field line 3) in
      let v : ready.value ≡ ready_at line = ap (λ (x : Ranged). x.value) p in
      (λ i. line_by line (word ∷ number ∷ o i ∷ d2 i ∷ q.begin i ∷ q.finish i ∷ q.holds i ∷ q.after i ∷ end ∷ []) value (v i) tail)
      ∙ (λ i. line_by line (word ∷ number ∷ code ∷ read ∷ c4 i) value (ready_at line) (t i))
      ∙ second_alike line value (ready_at line) (tail_by edition tasks line 4) word number code (field_code 0 most (field line 4))
      (finish_by line (start_at line 4) 4) (finish_by line (value_of (field line 4)) 4) _ (field_plain 0 most (field line 4))
      (misspelt-same (start_at line 4 + 1) (value_of (field line 4) + 1) most (field line 5)) (finish-same line 4)
      read (ready_code line)
      (ready-alike own-code 3 (late (start_at line 4)) (late (value_of (field line 4))) (λ z. omega arith) (λ z. omega arith))
      (ready-alike own-code 4 (late (start_at line 4)) (late (value_of (field line 4))) (λ z. omega arith) (λ z. omega arith))
      (λ z. ap (λ (s : ℕ). cond (eqb own-code 0 && late s) 18 own-code) (start-value line 4 z))

module _ (ended : Bool) (boards tasks : ℕ) (line : List ℕ) (k : ℕ) {word number : ℕ} {board : Ranged}
    (w : word ≡ word_code (bytes "task") (field line 0)) (n : number ≡ field_code k k (field line 1)) (b : board ≡ ranged_read 1 boards (field line 2)) where
  b-code : board.code ≡ field_code 1 boards (field line 2)
  b-code = ranged-code 1 boards (field line 2) b

  b-value : board.value ≡ (ranged_read 1 boards (field line 2)).value
  b-value = ap (λ (x : Ranged). x.value) b

  pub line_first :
      line_by line (word ∷ number ∷ board.code ∷ codes_from false ended tasks line 3) board.value 0 (tail_by Edition.First tasks line 3)
      ≡ line_read false ended 1 boards tasks line k
  unfolding line_read task_codes
  line_first = λ i. line_by line (w i ∷ n i ∷ b-code i ∷ codes_from false ended tasks line 3) (b-value i) 0 (tail_by Edition.First tasks line 3)

  second-as :
      (mends : Bool)
      → line_by line (word ∷ number ∷ board.code ∷ ready_code line ∷ codes_from (not mends) ended tasks line 4) board.value (ready_at line) (tail_by (edition_by mends 2) tasks line 4)
      ≡ line_read mends ended 2 boards tasks line k
  unfolding line_read task_codes
  second-as mends =
      λ i. line_by line (w i ∷ n i ∷ b-code i ∷ ready_code line ∷ codes_from (not mends) ended tasks line 4) (b-value i) (ready_at line) (tail_by (edition_by mends 2) tasks line 4)

  pub line_second :
      (edition : Edition) → (edition ≡ Edition.Second) ⊎ (edition ≡ Edition.Mended)
      → line_by line (word ∷ number ∷ board.code ∷ ready_code line ∷ codes_from (is_strict edition) ended tasks line 4) board.value (ready_at line) (tail_by edition tasks line 4)
      ≡ line_read (is_mended edition) ended (edition_number edition) boards tasks line k
  line_second Edition.First h = ⊎_elim (λ e. cc) (λ e. cc) h
  line_second Edition.Second h = second-as false
  line_second Edition.Mended h = second-as true
