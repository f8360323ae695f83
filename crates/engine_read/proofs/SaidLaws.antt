-- What any line says: a task of the plan or a column that an answer can say; and the same by marks that say the same.
use Prim.Native.Nat.{ℕ, ◌≤◌, ◌<◌}
use mathlib.Core.Path.{◌≡◌, refl}
use mathlib.Core.Logic.{◌≢◌}
use mathlib.Core.Bool.{Bool, true}
use mathlib.Core.List.{List}
use native.Mathlib.Omega.{arith}
use lib.Dec.{eqb}
use borrow.Author.Tests.{eq-eqb, ne_eqb}
use lib.ListN.{length, length-take}
use Rattle.laws.proofs.Cases.{by_bool, by-eq}
use Rattle.laws.specs.Lists.{all_of, same}
use Rattle.laws.specs.Split.{index_of, before}
use Rattle.text.specs.Bytes.{bytes}
use Rattle.text.specs.Line.{LF, has_line, field}
use Rattle.text.specs.Number.{value_of}
use Rattle.text_fields.specs.Faults.{Fault, field_codes, fault_of, unless_fault}
use Rattle.text_fields.proofs.FaultLaws.{zero-at, column-most}
use Rattle.text_fields.proofs.UnlessLaws.{no-fault}
use Rattle.plan.specs.Answer.{granted}
use Rattle.engine_read.specs.Lines.{task_code, length_codes, drop_codes, line_said, said_answer}
use Rattle.engine_read.specs.Private.Read.{length_said, drop_said}
use Rattle.engine_read.specs.Private.Noted.{Names}
use Rattle.engine_read.specs.declared.LengthEntry.{LengthEntry}
use Rattle.engine_read.specs.Said.{LengthLine, entry_line}
use Rattle.engine_read.specs.Said.{Length, Drop, Refused}
use Rattle.engine_read.proofs.TaskLaws.{task-named, task-same}
use Rattle.engine_read.proofs.LineLaws.{length-kinds, drop-kinds}

-- a column that an answer can say
abbrev pub Short : LengthLine → Type 0
Short (Length task ticks) = 0 ≤ ticks
Short (Drop task) = 0 ≤ task
Short (Refused code column) = column < 4294967296

-- ---- it names a task of the plan

module _ (tasks : ℕ) (few : tasks ≤ 64) (earlier : ℕ → Bool) (ended : Bool) (line : List ℕ) where
  length-task : all_of (eqb 0) (length_codes tasks earlier ended line) ≡ true → task_code tasks earlier (field line 1) ≡ 0
  unfolding length_codes field_codes
  length-task all = zero-at (length_codes tasks earlier ended line) all 1 (omega arith)

  length-names : Names tasks (length_said tasks earlier ended line)
  length-names =
      by_bool (eqb (fault_of line (length_codes tasks earlier ended line)).code 0)
      (λ e.
      let r = task-named tasks earlier (field line 1) few (length-task (no-fault line (length_codes tasks earlier ended line) (length-kinds tasks earlier ended line) e)) in
      rw e (r.from, r.to))
      (λ e. rw e (omega arith))

  drop-task : all_of (eqb 0) (drop_codes tasks earlier ended line) ≡ true → task_code tasks earlier (field line 1) ≡ 0
  unfolding drop_codes field_codes
  drop-task all = zero-at (drop_codes tasks earlier ended line) all 1 (omega arith)

  drop-names : Names tasks (drop_said tasks earlier ended line)
  drop-names =
      by_bool (eqb (fault_of line (drop_codes tasks earlier ended line)).code 0)
      (λ e.
      let r = task-named tasks earlier (field line 1) few (drop-task (no-fault line (drop_codes tasks earlier ended line) (drop-kinds tasks earlier ended line) e)) in
      rw e (r.from, r.to))
      (λ e. rw e (omega arith))

pub line-names : (tasks : ℕ) → tasks ≤ 64 → (lengthened dropped : ℕ → Bool) (s : List ℕ) → Names tasks (line_said tasks lengthened dropped s)
unfolding line_said
line-names tasks few lengthened dropped s =
    by_bool (same (field (before LF s) 0) (bytes "drop"))
    (λ e. rw e (drop-names tasks few dropped (has_line s) (before LF s)))
    (λ e. rw e (length-names tasks few lengthened (has_line s) (before LF s)))

pub names-most : {tasks : ℕ} (said : LengthLine) → tasks ≤ 64 → Names tasks said → Names 64 said
names-most (Length task ticks) few n = (n.0, omega (arith, n.1))
names-most (Drop task) few n = (n.0, omega (arith, n.1))
names-most (Refused code column) few n = omega arith

-- ---- a column is at most the length of the rest and one more

fault-short : (fault : Fault) (said : LengthLine) → Short said → fault.column < 4294967296 → Short (unless_fault fault Refused said)
fault-short fault said h g = by_bool (eqb fault.code 0) (λ e. rw e h) (λ e. rw e g)

small-column : (s codes : List ℕ) → length s ≤ 32770 → (fault_of (before LF s) codes).column < 4294967296
small-column s codes h = omega (arith, column-most (before LF s) codes, length-take (index_of LF s) s)

pub line-short : (tasks : ℕ) (lengthened dropped : ℕ → Bool) (s : List ℕ) → length s ≤ 32770 → Short (line_said tasks lengthened dropped s)
unfolding line_said
line-short tasks lengthened dropped s h =
    let line = before LF s in
    by_bool (same (field line 0) (bytes "drop"))
    (λ e.
    rw e
    (fault-short (fault_of line (drop_codes tasks dropped (has_line s) line)) (Drop (value_of (field line 1))) (omega arith) (small-column s _ h)))
    (λ e.
    rw e
    (fault-short (fault_of line (length_codes tasks lengthened (has_line s) line)) (Length (value_of (field line 1)) (value_of (field line 2))) (omega arith)
    (small-column s _ h)))

-- ---- by marks that say the same

module _ (tasks : ℕ) (few : tasks ≤ 64) {f g : ℕ → Bool} (alike : (task : ℕ) → 1 ≤ task → task ≤ tasks → f task ≡ g task) (ended : Bool) (line : List ℕ) where
  length-same : length_said tasks f ended line ≡ length_said tasks g ended line
  unfolding length_codes field_codes
  length-same = rw (task-same tasks f g (field line 1) few alike)

  drop-same : drop_said tasks f ended line ≡ drop_said tasks g ended line
  unfolding drop_codes field_codes
  drop-same = rw (task-same tasks f g (field line 1) few alike)

pub line_same :
    (tasks : ℕ) → tasks ≤ 64 → {f g f' g' : ℕ → Bool} → ((task : ℕ) → 1 ≤ task → task ≤ tasks → f task ≡ f' task)
    → ((task : ℕ) → 1 ≤ task → task ≤ tasks → g task ≡ g' task) → (s : List ℕ) → line_said tasks f g s ≡ line_said tasks f' g' s
unfolding line_said
line_same tasks few a b s = rw (length-same tasks few a (has_line s) (before LF s), drop-same tasks few b (has_line s) (before LF s))

-- ---- what the reader answers

pub entry-fine : (n : ℕ) (entry : LengthEntry) → said_answer n (entry_line entry) ≡ granted
entry-fine n (LengthEntry.Length task ticks) = refl
entry-fine n (LengthEntry.Drop task) = refl

unless-refused :
    (fault : Fault) (said : LengthLine) {code column : ℕ} → (Refused code column ≡ said → ⊥) → Refused code column ≡ unless_fault fault Refused said → code ≢ 0
unless-refused fault said {code} {column} other h =
    by-eq fault.code 0
    (λ z. let q : Refused code column ≡ said = rw (eq-eqb fault.code 0 z) at h in absurd (other q))
    (λ n.
    let q : Refused code column ≡ Refused fault.code fault.column = rw (ne_eqb fault.code 0 n) at h in
    let e : code ≡ fault.code = cc in
    rw e n)

pub refused-code :
    (tasks : ℕ) (lengthened dropped : ℕ → Bool) (s : List ℕ) {code column : ℕ} → Refused code column ≡ line_said tasks lengthened dropped s → code ≢ 0
unfolding line_said
refused-code tasks lengthened dropped s h =
    by_bool (same (field (before LF s) 0) (bytes "drop"))
    (λ e. unless-refused _ (Drop _) (λ q. cc) (rw e at h))
    (λ e. unless-refused _ (Length _ _) (λ q. cc) (rw e at h))
