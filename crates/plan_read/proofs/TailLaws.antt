-- The fields from the planned start on and the ready tick: their codes as they are read, the holds mended.
use Prim.Native.Nat.{ℕ, ◌+◌, ◌≤◌, min}
use mathlib.Core.Path.{◌≡◌, refl, sym, ap, ◌∙◌}
use mathlib.Core.Bool.{Bool, true, false, cond, ◌&&◌}
use mathlib.Core.List.{List, [], ◌∷◌}
use native.Mathlib.Omega.{arith}
use lib.Dec.{ltb, eqb}
use borrow.Author.Tests.{eq-eqb, ne_eqb}
use Rattle.std.specs.Prelude.{Option, Result, Ok, Err, IsOk}
use Rattle.std.specs.Result.{result_err, result_unwrap_or}
use Rattle.laws.proofs.Cases.{by_bool, by-eq, true-false}
use Rattle.laws.specs.Split.{skip_on}
use Rattle.text.specs.Number.{value_of, most}
use Rattle.text.specs.Line.{TAB, field}
use Rattle.text_fields.specs.Items.{Items, no_items, has_shared, holds_ok, after_ok, items_of, holds_read, after_read}
use Rattle.text_fields.proofs.ListFields.{is_holds, holds_of, is_after, after_of}
use Rattle.text.proofs.Parts.{from-skip}
use Rattle.text_fields.specs.Faults.{Ranged, code_for, field_code, ranged_read, end_code}
use Rattle.text_fields.specs.Said.{fault_number, code_in, ranged_in}
use Rattle.text_fields.specs.declared.Items as list
use Rattle.text_fields.specs.declared.FieldFault.{FieldFault}
use Rattle.text_fields.proofs.Answers.{holds-count}
use Rattle.text_fields.proofs.Shared.{shared_kept}
use Rattle.text_fields.proofs.FaultLaws.{for-zero, number-some}
use Rattle.text_fields.proofs.RangedLaws.{ranged-code, ranged-value}
use Rattle.plan.specs.Read.{holds_code}
use Rattle.plan_read.specs.Private.Editions.{is_mended, is_strict}
use Rattle.plan_read.specs.declared.Edition.{Edition}
use Rattle.plan_read.specs.declared.Tail as read
use Rattle.plan_read.specs.Private.Fields.{Tail, TailRight, start_at, tail_by, ready_by, holds_in, holds_by, after_by, right_list, items_mended, list_in, tail_in}
use Rattle.plan_read.proofs.CutLaws.{Cut}

-- ---- what is read, and its fault

pub err-ranged : (r : Result ℕ FieldFault) {fault : Option FieldFault} → fault ≡ result_err r → code_in fault ≡ (ranged_in r).code
err-ranged (Ok v) e = ap code_in e
err-ranged (Err f) e = ap code_in e

pub err-list : (r : Result list.Items FieldFault) {fault : Option FieldFault} → fault ≡ result_err r → code_in fault ≡ (list_in r).code
err-list (Ok l) e = ap code_in e
err-list (Err f) e = ap code_in e

never-zero : (fault : FieldFault) {A : Type 0} → fault_number fault ≡ 0 → A
never-zero fault e = true-false (eq-eqb (fault_number fault) 0 e) (number-some fault)

pub ok-ranged : (r : Result ℕ FieldFault) → (ranged_in r).code ≡ 0 → IsOk r
ok-ranged (Ok v) e = refl
ok-ranged (Err fault) e = never-zero fault e

pub ok-list : (r : Result list.Items FieldFault) → (list_in r).code ≡ 0 → IsOk r
ok-list (Ok l) e = refl
ok-list (Err fault) e = never-zero fault e

pub value-or : (r : Result ℕ FieldFault) {v : ℕ} → v ≡ result_unwrap_or r 0 → v ≡ (ranged_in r).value
value-or (Ok x) e = e
value-or (Err fault) e = e

items-code : (spelt fine : Bool) (stop : ℕ) (l : List ℕ) → (items_of spelt fine stop l).code ≡ code_for spelt fine
items-code false fine stop l = refl
items-code true false stop l = refl
items-code true true stop l = refl

holds-spelling : (s : List ℕ) → (holds_read s).code ≡ code_for (is_holds s) (holds_ok (holds_of s))
unfolding holds_read
holds-spelling s = items-code (is_holds s) (holds_ok (holds_of s)) _ (holds_of s)

-- the places of a list that is read say whether one of its holds is shared
holds-shared : (s : List ℕ) → code_for (is_holds s) (holds_ok (holds_of s)) ≡ 0 → has_shared (holds_read s).items ≡ has_shared (holds_of s)
unfolding holds_read
holds-shared s z =
    let f = for-zero (is_holds s) (holds_ok (holds_of s)) z in
    rw (f.0, f.1) (shared_kept (holds_of s) (omega (arith, holds-count (holds_of s) f.1)))

holds-are : (retired : Bool) (s : List ℕ) → holds_in retired (holds_read s) ≡ holds_code retired s
unfolding holds_in holds_code
holds-are retired s =
    rw (holds-spelling s)
    (by-eq (code_for (is_holds s) (holds_ok (holds_of s))) 0
    (λ z. rw (holds-shared s z))
    (λ n. rw (ne_eqb (code_for (is_holds s) (holds_ok (holds_of s))) 0 n)))

-- a list by its code
right-code : (code : ℕ) (list : Items) → (code ≡ 0 → list.code ≡ 0) → (right_list code list).code ≡ code
right-code code list z = by-eq code 0 (λ e. rw (eq-eqb code 0 e) (z e ∙ sym e)) (λ n. rw (ne_eqb code 0 n))

pub holds-zero : (strict : Bool) (list : Items) → holds_in strict list ≡ 0 → list.code ≡ 0
unfolding holds_in
holds-zero strict list h = by-eq list.code 0 (λ e. e) (λ n. rw (ne_eqb list.code 0 n) at h)

mended-code : (mended : Bool) (list : Items) → (items_mended mended list).code ≡ list.code
mended-code true list = refl
mended-code false list = refl

holds-code : (edition : Edition) (s : List ℕ) → (holds_by edition s).code ≡ holds_code (is_strict edition) s
unfolding holds_by
holds-code edition s =
    right-code _ _ (λ z. mended-code (is_mended edition) (holds_read s) ∙ holds-zero (is_strict edition) (holds_read s) z)
    ∙ holds-are (is_strict edition) s

after-code : (s : List ℕ) (tasks : ℕ) → tasks ≤ 64 → (after_read s tasks).code ≡ code_for (is_after s) (after_ok tasks (after_of s))
unfolding after_read
after-code s tasks few =
    let m : min tasks 64 ≡ tasks = omega arith in
    items-code (is_after s) (after_ok (min tasks 64) (after_of s)) _ (after_of s)
    ∙ ap (λ (n : ℕ). code_for (is_after s) (after_ok n (after_of s))) m

after-by-code : (tasks : ℕ) (s : List ℕ) → tasks ≤ 64 → (after_by tasks s).code ≡ code_for (is_after s) (after_ok tasks (after_of s))
unfolding after_by
after-by-code tasks s few = right-code _ _ (λ z. z) ∙ after-code s tasks few

pub tail-reads :
    (edition : Edition) (tasks : ℕ) {rest p0 p1 p2 p3 : List ℕ} → Cut rest p0 p1 p2 p3 → {begin finish : Ranged} {holds after : Items}
    → begin ≡ ranged_read 0 most p0 → finish ≡ ranged_read (begin.value + 1) most p1 → holds ≡ holds_by edition p2 → after ≡ after_by tasks p3
    → ◌≡◌ {A = Tail} (record { begin = begin; finish = finish; holds = holds; after = after }) (tail_by edition tasks rest 0)
unfolding tail_by
tail-reads edition tasks c b f h a = rw (f, b, h, a, c.first, c.second, c.third, c.fourth)

-- read from what is left, or from the line
pub tail-moves : (edition : Edition) (tasks : ℕ) (line : List ℕ) (n : ℕ) {rest : List ℕ} → rest ≡ skip_on TAB n line → tail_by edition tasks rest 0 ≡ tail_by edition tasks line n
unfolding tail_by
tail-moves edition tasks line n e =
    let f = from-skip TAB line n in
    let z : n + 0 ≡ n = omega arith in
    let f0 : field (skip_on TAB n line) 0 ≡ field line n = f.at 0 ∙ ap (field line) z in
    let f1 : field (skip_on TAB n line) (0 + 1) ≡ field line (n + 1) = f.at 1 in
    let f2 : field (skip_on TAB n line) (0 + 2) ≡ field line (n + 2) = f.at 2 in
    let f3 : field (skip_on TAB n line) (0 + 3) ≡ field line (n + 3) = f.at 3 in
    rw e
    (λ i. record {
      begin = ranged_read 0 most (f0 i);
      finish = ranged_read ((ranged_read 0 most (f0 i)).value + 1) most (f1 i);
      holds = holds_by edition (f2 i);
      after = after_by tasks (f3 i);
    })

-- the codes as they are read: the planned finish by the planned start as it is read
abbrev pub codes_read : Bool → Bool → ℕ → List ℕ → ℕ → List ℕ
codes_read retired ended tasks line n =
    field_code 0 most (field line n)
    ∷ field_code (start_at line n + 1) most (field line (n + 1))
    ∷ holds_code retired (field line (n + 2))
    ∷ code_for (is_after (field line (n + 3))) (after_ok tasks (after_of (field line (n + 3))))
    ∷ end_code ended (n + 4) line ∷ []

pub tail-codes :
    (edition : Edition) (ended : Bool) (tasks : ℕ) (line : List ℕ) (n : ℕ) → tasks ≤ 64 → {tail : Tail} {end : ℕ} → tail ≡ tail_by edition tasks line n
    → end ≡ end_code ended (n + 4) line
    → (tail.begin.code ∷ tail.finish.code ∷ tail.holds.code ∷ tail.after.code ∷ end ∷ []) ≡ codes_read (is_strict edition) ended tasks line n
unfolding tail_by
tail-codes edition ended tasks line n few t e =
    let p0 = ranged-code 0 most (field line n) (ap (λ (x : Tail). x.begin) t) in
    let p1 = ranged-code (start_at line n + 1) most (field line (n + 1)) (ap (λ (x : Tail). x.finish) t) in
    let p2 = ap (λ (x : Tail). x.holds.code) t ∙ holds-code edition (field line (n + 2)) in
    let p3 = ap (λ (x : Tail). x.after.code) t ∙ after-by-code tasks (field line (n + 3)) few in
    λ i. p0 i ∷ p1 i ∷ p2 i ∷ p3 i ∷ e i ∷ []

-- ---- the ready tick

module _ (begin : ℕ) (s : List ℕ) where
  pub ready-code : (ready_by begin s).code ≡ (let code = field_code 0 most s in cond (eqb code 0 && ltb begin (value_of s)) 18 code)
  unfolding ready_by
  ready-code =
      by-eq (field_code 0 most s) 0
      (λ z.
      rw (ranged-code 0 most s refl, ranged-value 0 most s refl z)
      (by_bool (eqb (field_code 0 most s) 0 && ltb begin (value_of s)) (λ e. rw e) (λ e. rw e)))
      (λ n. rw (ranged-code 0 most s refl, ne_eqb (field_code 0 most s) 0 n))

  -- a right one is its number
  pub ready-value : field_code 0 most s ≡ 0 → ltb begin (value_of s) ≡ false → (ready_by begin s).value ≡ value_of s
  unfolding ready_by
  ready-value z e = rw (ranged-code 0 most s refl, z, ranged-value 0 most s refl z, e)

  -- as it is read
  pub ready-off : (fault : FieldFault) → ranged_in (Err fault) ≡ ranged_read 0 most s → ranged_in (Err fault) ≡ ready_by begin s
  unfolding ready_by
  ready-off fault e = rw (← e, number-some fault)

  module _ (tick : ℕ) (e : ranged_in (Ok tick) ≡ ranged_read 0 most s) where
    pub ready-late : ltb begin tick ≡ true → record { code = 18; value = 0 } ≡ ready_by begin s
    unfolding ready_by
    ready-late h = rw (← e, h)

    pub ready-in : ltb begin tick ≡ false → ranged_in (Ok tick) ≡ ready_by begin s
    unfolding ready_by
    ready-in h = rw (← e, h)

-- ---- the lists

-- nothing is at fault, so nothing is left out
held : (edition : Edition) (list : Items) → list.code ≡ 0 → (is_strict edition ≡ true → has_shared list.items ≡ false)
    → right_list (holds_in (is_strict edition) list) (items_mended (is_mended edition) list) ≡ items_mended (is_mended edition) list
unfolding holds_in
held Edition.First list z own = rw z
held Edition.Second list z own = rw (z, own refl)
held Edition.Mended list z own = rw z

held-not : (strict mended : Bool) (list : Items) → eqb list.code 0 ≡ false → no_items list.code 0 ≡ right_list (holds_in strict list) (items_mended mended list)
unfolding holds_in
held-not strict mended list n = rw n (rw n)

module _ (s : List ℕ) {list : Items} (e : list ≡ holds_read s) where
  pub holds-off : (edition : Edition) → eqb list.code 0 ≡ false → no_items list.code 0 ≡ holds_by edition s
  unfolding holds_by
  holds-off edition n = rw (← e) (held-not (is_strict edition) (is_mended edition) list n)

  pub holds-is : (edition : Edition) → list.code ≡ 0 → (is_strict edition ≡ true → has_shared list.items ≡ false) → items_mended (is_mended edition) list ≡ holds_by edition s
  unfolding holds_by
  holds-is edition z own = rw (← e) (sym (held edition list z own))

  pub holds-shared-off : list.code ≡ 0 → has_shared list.items ≡ true → no_items 20 0 ≡ holds_by Edition.Second s
  unfolding holds_by holds_in
  holds-shared-off z own = rw (← e, z, own)

module _ (tasks : ℕ) (s : List ℕ) {list : Items} (e : list ≡ after_read s tasks) where
  pub after-off : eqb list.code 0 ≡ false → no_items list.code 0 ≡ after_by tasks s
  unfolding after_by
  after-off n = rw (← e, n)

  pub after-is : list.code ≡ 0 → list ≡ after_by tasks s
  unfolding after_by
  after-is z = rw (← e, eq-eqb list.code 0 z)

-- ---- the codes of what was read

pub record TailCodes (tail : Tail) (b f h a : ℕ) : Type 0 where
  pub begin : b ≡ tail.begin.code
  pub finish : f ≡ tail.finish.code
  pub holds : h ≡ tail.holds.code
  pub after : a ≡ tail.after.code

pub tail_errs :
    (t : read.Tail) {b f h a : Option FieldFault} → b ≡ result_err t.begin → f ≡ result_err t.finish → h ≡ result_err t.holds → a ≡ result_err t.after
    → TailCodes (tail_in t) (code_in b) (code_in f) (code_in h) (code_in a)
tail_errs t b f h a = record { begin = err-ranged t.begin b; finish = err-ranged t.finish f; holds = err-list t.holds h; after = err-list t.after a }

pub tail-right : {tail : Tail} {b f h a : ℕ} → TailCodes tail b f h a → b ≡ 0 → f ≡ 0 → h ≡ 0 → a ≡ 0 → TailRight tail
tail-right q b f h a = record { begin = sym q.begin ∙ b; finish = sym q.finish ∙ f; holds = sym q.holds ∙ h; after = sym q.after ∙ a }

pub ok-value : {r : Result ℕ FieldFault} {v : ℕ} → r ≡ Ok v → v ≡ (ranged_in r).value
ok-value e = sym (ap (λ (r : Result ℕ FieldFault). (ranged_in r).value) e)
