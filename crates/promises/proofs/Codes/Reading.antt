-- What a reading answers, case by case.
use Prim.Native.Nat.{ℕ, ◌+◌, ◌<◌, ◌≤◌}
use native.Mathlib.Omega.{arith}
use mathlib.Core.Bool.{Bool, true, false, not, ◌&&◌}
use mathlib.Core.List.{List}
use mathlib.Core.Path.{◌≡◌, refl, sym, ap, ◌∙◌}
use mathlib.Core.Logic.{◌≢◌, ◌⊎◌, inl, inr, ⊎_elim, ◌↔◌}
use lib.Dec.{ltb}
use lib.ListN.{length}
use borrow.Author.Tests.{ne_eqb, not-true, not-false, ltb-true}
use Rattle.laws.proofs.Cases.{by_bool, by-eq, and_r}
use Rattle.laws.proofs.Scan.{Found, Nothing, scan-cases}
use Rattle.text.specs.Line.{has_line, skip, line_at, field}
use Rattle.text_fields.specs.Faults.{worst, column_of, fault_of}
use Rattle.plan.specs.Answer.{refuse, granted, is_granted, is_refused}
use Rattle.plan.specs.Task.{Task}
use Rattle.plan.specs.Pairs.{first_fault}
use Rattle.plan.specs.Judged.{begins_at_zero, least_start, tasks_answer}
use Rattle.plan.specs.Value.{at, zero_plan}
use Rattle.plan.specs.Read.{sizes_ok, edition_of, boards_of, tasks_of, line_answer, lines_answer, text_task, form_answer, text_answer, read_in}
use Rattle.plan.specs.declared.Answer.{Answer}
use Rattle.plan.specs.declared.Reading.{Reading}
use Rattle.plan.proofs.FirstFault.{refused-code, passed-code, fault-first, fault-granted}
use Rattle.plan.proofs.Judged.{begins-none, none-begins, start_under, start-met, tasks-late, tasks-pairs}
use Rattle.plan.proofs.PlanTasks.{plan_of-sized}
use Rattle.plan.proofs.TextLines.{number-range, sizes-test}
use Rattle.plan.proofs.ReadOk.{form-ok, form-tasks, read_answer, read-accepted}
use Rattle.book.specs.Words.Sized.{SizedPlan}
use Rattle.promises.specs.Checks.{FirstFaulty}
use Rattle.promises.specs.Says.{StartsLate, BeginsLate, codes_of, SharedHold, ReadyLate, FirstFaultyLine, LineCode, ReadingSays}
use Rattle.promises.proofs.Codes.Pairs.{pair-number, named}
use Rattle.promises.proofs.Codes.Columns.{plain-not, worst-kind}
use Rattle.promises.proofs.Codes.TaskLine.{task-column, task-faultless, first_plain, task-shared, task-unready}

line-says :
    (mends : Bool) (s : List ℕ) (k : ℕ)
    → line_answer mends s k ≡ refuse (worst (codes_of mends s k)) (k + 1) (fault_of (line_at s k) (codes_of mends s k)).column
unfolding line_answer fault_of
line-says mends s k = refl

line-column : (mends : Bool) (s : List ℕ) (k : ℕ) → worst (codes_of mends s k) ≢ 0 → (fault_of (line_at s k) (codes_of mends s k)).column ≡ column_of (line_at s k) (codes_of mends s k) (worst (codes_of mends s k))
unfolding fault_of
line-column mends s k n = rw (ne_eqb (worst (codes_of mends s k)) 0 n)

-- the least planned start, where no task is planned at 0
pub late-starts : (tasks : ℕ) (task : ℕ → Task) → 0 < tasks → begins_at_zero tasks task ≡ false → StartsLate tasks task (least_start tasks task)
late-starts tasks task some h =
    let m = start-met tasks task some in
    let n = begins-none tasks task h m.0 m.1 in
    record { from = omega (arith, n, m.2); least = start_under tasks task; met = m }

module _ (mends : Bool) (s : List ℕ) where
  refused-reading : (x : Answer) → text_answer mends s ≡ x → x.code ≢ 0 → read_in mends s ≡ record { answer = x; plan = zero_plan }
  unfolding read_in
  refused-reading x e n = rw (e, ne_eqb x.code 0 n)

  abbrev Says : Type 0
  Says = ReadingSays mends s (read_in mends s)

  -- boards and tasks are few where the first line is as stated
  few : sizes_ok mends (line_at s 0) ≡ true → (boards_of s ≤ 8) × (tasks_of s ≤ 64)
  few h = (
    (number-range 1 8 (field (line_at s 0) 2) (sizes-test mends (line_at s 0) h 3 (omega arith))).2,
    (number-range 1 64 (field (line_at s 0) 3) (sizes-test mends (line_at s 0) h 4 (omega arith))).2,
  )

  lines-say : sizes_ok mends (line_at s 0) ≡ true → is_refused (lines_answer mends s) ≡ true → text_answer mends s ≡ lines_answer mends s → Says
  unfolding lines_answer
  lines-say sizes r e = go (scan-cases is_refused granted (line_answer mends s) 1 (tasks_of s + 1))
    where
      first-line-at :
          (f : Found is_refused granted (line_answer mends s) 1 (tasks_of s + 1)) → worst (codes_of mends s f.place) ≢ 0
          → FirstFaultyLine mends s (worst (codes_of mends s f.place)) f.place (column_of (line_at s f.place) (codes_of mends s f.place) (worst (codes_of mends s f.place)))
      first-line-at f n = record {
        from = f.from;
        to = omega (arith, f.below);
        earlier = λ j m p h l.
            task-faultless (line_at s j) mends (has_line (skip j s)) (edition_of s) (boards_of s) (tasks_of s) j
            (omega (arith, (few sizes).0)) (omega (arith, (few sizes).1, f.below, h))
            (ap (λ (x : Answer). x.code) (sym (line-says mends s j)) ∙ passed-code (line_answer mends s j) (f.first j p h)) m l;
        shared = λ z.
            let u = task-shared (line_at s f.place) mends (has_line (skip f.place s)) (edition_of s) (boards_of s) (tasks_of s) f.place z in
            record { reads = u.0; edition = u.1; shared = u.2; holds_field = u.3 };
        unready = λ z.
            let u = task-unready (line_at s f.place) mends (has_line (skip f.place s)) (edition_of s) (boards_of s) (tasks_of s) f.place z in
            record { edition = u.0; late = u.1; ready_field = u.2 };
        says = task-column (line_at s f.place) mends (has_line (skip f.place s)) (edition_of s) (boards_of s) (tasks_of s) f.place n;
      }

      go : Found is_refused granted (line_answer mends s) 1 (tasks_of s + 1) ⊎ Nothing is_refused granted (line_answer mends s) 1 (tasks_of s + 1) → Says
      go (inl f) =
          let n : worst (codes_of mends s f.place) ≢ 0 = λ z. refused-code (line_answer mends s f.place) f.stops (ap (λ (x : Answer). x.code) (line-says mends s f.place) ∙ z) in
          let is = e ∙ f.is ∙ line-says mends s f.place ∙ ap (refuse (worst (codes_of mends s f.place)) (f.place + 1)) (line-column mends s f.place n) in
          ReadingSays.task_line (worst (codes_of mends s f.place)) f.place _ (worst-kind (codes_of mends s f.place) n) (first-line-at f n) (refused-reading _ is n)
      go (inr f) = let z : ◌≡◌ {A = ℕ} 0 1 = cc (rw f.is at r) in absurd (omega arith)

  pairs-say : text_answer mends s ≡ first_fault (tasks_of s) (text_task mends s) → Says
  unfolding read_in
  pairs-say e =
      by-eq (first_fault (tasks_of s) (text_task mends s)).code 0
      (λ z.
      let is = e ∙ fault-granted (tasks_of s) (text_task mends s) z in
      ReadingSays.read is (read-accepted mends s (ap (λ (x : Answer). x.code) is)))
      (λ n.
      let f = fault-first (tasks_of s) (text_task mends s) n in
      ⊎_elim (λ z. absurd (f.faulty z))
      (λ c. ReadingSays.faulty_pair _ _ _ (named (tasks_of s) (text_task mends s) f c) (refused-reading _ (e ∙ f.is) f.faulty))
      (pair-number (text_task mends s) f.a f.b))

  form-refused : (x : Answer) → form_answer mends s ≡ x → is_refused x ≡ true → text_answer mends s ≡ x
  unfolding text_answer
  form-refused x e r = rw (e, r)

  form-passed : form_answer mends s ≡ granted → text_answer mends s ≡ tasks_answer (tasks_of s) (text_task mends s)
  unfolding text_answer
  form-passed e = rw e

  -- no task is planned at 0
  module _ (e : form_answer mends s ≡ granted) (h : begins_at_zero (tasks_of s) (text_task mends s) ≡ false) where
    answer-late : text_answer mends s ≡ refuse 17 (least_start (tasks_of s) (text_task mends s)) 0
    answer-late = form-passed e ∙ tasks-late (tasks_of s) (text_task mends s) h

    begins-late : BeginsLate mends s (least_start (tasks_of s) (text_task mends s))
    begins-late =
        let f = form-ok mends s (ap (λ (x : Answer). x.code) e) in
        record { lines = e; starts = late-starts (tasks_of s) (text_task mends s) (form-tasks mends s f).0 h }

  tasks-say : form_answer mends s ≡ granted → Says
  tasks-say e =
      by_bool (begins_at_zero (tasks_of s) (text_task mends s))
      (λ h. pairs-say (form-passed e ∙ tasks-pairs (tasks_of s) (text_task mends s) h))
      (λ h. ReadingSays.late _ (begins-late e h) (refused-reading _ (answer-late e h) (λ z. omega arith)))

  pub reading-says : Says
  unfolding form_answer
  reading-says =
      by_bool (ltb 32768 (length s)) (λ a. ReadingSays.too_long (ltb-true 32768 (length s) a) (refused-reading (refuse 1 0 0) (form-refused _ (rw a) refl) (λ z. omega arith)))
      (λ a.
      by_bool (not (has_line s && sizes_ok mends (line_at s 0)))
      (λ b. ReadingSays.first_line (not-true (has_line s && sizes_ok mends (line_at s 0)) b) (refused-reading (refuse 2 1 0) (form-refused _ (rw (a, b)) refl) (λ z. omega arith)))
      (λ b.
      by_bool (is_refused (lines_answer mends s))
      (λ c. lines-say (and_r (has_line s) (sizes_ok mends (line_at s 0)) (not-false (has_line s && sizes_ok mends (line_at s 0)) b)) c (form-refused _ (rw (a, b, c)) c))
      (λ c.
      by_bool (ltb 0 (length (skip (tasks_of s + 1) s)))
      (λ d. ReadingSays.more_bytes (ltb-true 0 (length (skip (tasks_of s + 1) s)) d) (refused-reading (refuse 5 (tasks_of s + 2) 0) (form-refused _ (rw (a, b, c, d)) refl) (λ z. omega arith)))
      (λ d. tasks-say (rw (a, b, c, d))))))

-- 1 to 8, 17, 18 or 20
abbrev pub ReadingCode : ℕ → Type 0
ReadingCode code = (code ≤ 8) ⊎ ((code ≡ 17) ⊎ ((code ≡ 18) ⊎ (code ≡ 20)))

line_code : {code : ℕ} → LineCode code → ReadingCode code
line_code c = ⊎_elim (λ q. inl (omega arith)) (⊎_elim (λ q. inl (omega arith)) (⊎_elim (λ q. inr (inr (inr q))) (λ q. inr (inr (inl q))))) c

-- not 6 to 8 or 17
line-or : {A : Type 0} {code : ℕ} → LineCode code → (code < 6 → A) → (17 < code → A) → A
line-or c f g = ⊎_elim (λ q. f (omega arith)) (⊎_elim (λ q. f (omega arith)) (⊎_elim (λ q. g (omega arith)) (λ q. g (omega arith)))) c

pub reading-code : (mends : Bool) (s : List ℕ) → ReadingCode (read_in mends s).answer.code
reading-code mends s = go (read_in mends s) (reading-says mends s)
  where
    go : (r : Reading) → ReadingSays mends s r → ReadingCode r.answer.code
    go r (ReadingSays.read e a) = rw e (inl (omega arith))
    go r (ReadingSays.too_long l e) = rw e (inl (omega arith))
    go r (ReadingSays.first_line l e) = rw e (inl (omega arith))
    go r (ReadingSays.task_line code k column c l e) = rw e (line_code c)
    go r (ReadingSays.more_bytes l e) = rw e (inl (omega arith))
    go r (ReadingSays.late start l e) = rw e (inr (inl refl))
    go r (ReadingSays.faulty_pair code a b f e) = rw e (inl f.number.1)

-- a reading refused with 6, 7 or 8 names the first faulty pair
pub reading-pair :
    (mends : Bool) (s : List ℕ) → 6 ≤ (read_in mends s).answer.code → (read_in mends s).answer.code ≤ 8
    → FirstFaulty (tasks_of s) (text_task mends s) (read_in mends s).answer.code (read_in mends s).answer.first (read_in mends s).answer.second
reading-pair mends s h below = go (read_in mends s) (reading-says mends s) h below
  where
    go :
        (r : Reading) → ReadingSays mends s r → 6 ≤ r.answer.code → r.answer.code ≤ 8
        → FirstFaulty (tasks_of s) (text_task mends s) r.answer.code r.answer.first r.answer.second
    go r (ReadingSays.read e a) h b = let z : 6 ≤ 0 = rw e at h in absurd (omega arith)
    go r (ReadingSays.too_long l e) h b = let z : 6 ≤ 1 = rw e at h in absurd (omega arith)
    go r (ReadingSays.first_line l e) h b = let z : 6 ≤ 2 = rw e at h in absurd (omega arith)
    go r (ReadingSays.task_line code k column c l e) h b =
        let z : 6 ≤ code = rw e at h in
        let y : code ≤ 8 = rw e at b in
        line-or c (λ q. absurd (omega arith)) (λ q. absurd (omega arith))
    go r (ReadingSays.more_bytes l e) h b = let z : 6 ≤ 5 = rw e at h in absurd (omega arith)
    go r (ReadingSays.late start l e) h b = let z : 17 ≤ 8 = rw e at b in absurd (omega arith)
    go r (ReadingSays.faulty_pair code a b f e) h m = rw e f

-- one refused with 17 has no task planned at 0, and names the least planned start
pub reading-start : (mends : Bool) (s : List ℕ) → (read_in mends s).answer.code ≡ 17 → BeginsLate mends s (read_in mends s).answer.first
reading-start mends s h = go (read_in mends s) (reading-says mends s) (omega (arith, h)) (omega (arith, h))
  where
    go : (r : Reading) → ReadingSays mends s r → 17 ≤ r.answer.code → r.answer.code ≤ 17 → BeginsLate mends s r.answer.first
    go r (ReadingSays.read e a) h m = let z : 17 ≤ 0 = rw e at h in absurd (omega arith)
    go r (ReadingSays.too_long l e) h m = let z : 17 ≤ 1 = rw e at h in absurd (omega arith)
    go r (ReadingSays.first_line l e) h m = let z : 17 ≤ 2 = rw e at h in absurd (omega arith)
    go r (ReadingSays.task_line code k column c l e) h m =
        let z : 17 ≤ code = rw e at h in
        let y : code ≤ 17 = rw e at m in
        line-or c (λ q. absurd (omega arith)) (λ q. absurd (omega arith))
    go r (ReadingSays.more_bytes l e) h m = let z : 17 ≤ 5 = rw e at h in absurd (omega arith)
    go r (ReadingSays.late start l e) h m = rw e l
    go r (ReadingSays.faulty_pair code a b f e) h m =
        let z : 17 ≤ code = rw e at h in absurd (omega (arith, f.number.1))

pub reading-late :
    (mends : Bool) (s : List ℕ)
    → ((read_in mends s).answer.code ≡ 17)
    ↔ ((form_answer mends s ≡ granted) × ((k : ℕ) → k < tasks_of s → (text_task mends s k).begin ≢ 0))
reading-late mends s = (
  λ h. let l = reading-start mends s h in (l.lines, λ k below z. omega (arith, l.starts.from, l.starts.least k below, z)),
  λ f.
      ap (λ (x : Answer). x.code) (read_answer mends s ∙ answer-late mends s f.0 (none-begins (tasks_of s) (text_task mends s) f.1)),
)

pub zero-sized : SizedPlan zero_plan
zero-sized = plan_of-sized 0 0 0 _

pub reading-sized : (mends : Bool) (s : List ℕ) → SizedPlan (read_in mends s).plan
unfolding read_in
reading-sized mends s =
    by_bool (is_granted (text_answer mends s))
    (λ e. rw e (plan_of-sized (edition_of s) (boards_of s) (tasks_of s) (text_task mends s)))
    (λ e. rw e zero-sized)

-- one refused with 3, 4 or 18 names its first faulty line, and the column of that line's fault
pub reading-column :
    (mends : Bool) (s : List ℕ) → LineCode (read_in mends s).answer.code
    → (k : ℕ) × ((read_in mends s).answer.first ≡ k + 1) × FirstFaultyLine mends s (read_in mends s).answer.code k (read_in mends s).answer.second
reading-column mends s = go (read_in mends s) (reading-says mends s)
  where
    -- no other refusal has such a code
    none : {A : Type 0} (code : ℕ) → LineCode code → code ≢ 3 → code ≢ 4 → code ≤ 17 → A
    none code c p q l = ⊎_elim (λ e. absurd (p e)) (⊎_elim (λ e. absurd (q e)) (⊎_elim (λ e. absurd (omega arith)) (λ e. absurd (omega arith)))) c

    go :
        (r : Reading) → ReadingSays mends s r → LineCode r.answer.code
        → (k : ℕ) × (r.answer.first ≡ k + 1) × FirstFaultyLine mends s r.answer.code k r.answer.second
    go r (ReadingSays.read e a) h = none 0 (rw e at h) (λ z. omega arith) (λ z. omega arith) (omega arith)
    go r (ReadingSays.too_long l e) h = none 1 (rw e at h) (λ z. omega arith) (λ z. omega arith) (omega arith)
    go r (ReadingSays.first_line l e) h = none 2 (rw e at h) (λ z. omega arith) (λ z. omega arith) (omega arith)
    go r (ReadingSays.task_line code k column c l e) h = rw e (k, refl, l)
    go r (ReadingSays.more_bytes l e) h = none 5 (rw e at h) (λ z. omega arith) (λ z. omega arith) (omega arith)
    go r (ReadingSays.late start l e) h = none 17 (rw e at h) (λ z. omega arith) (λ z. omega arith) (omega arith)
    go r (ReadingSays.faulty_pair code x y f e) h =
        none code (rw e at h) (λ z. omega (arith, f.number.0)) (λ z. omega (arith, f.number.0)) (omega (arith, f.number.1))

-- one refused with 20 is no second call's, and names a line of edition 2 with a shared hold, and the column of its holds field
pub reading-shared :
    (mends : Bool) (s : List ℕ) → (read_in mends s).answer.code ≡ 20
    → (k : ℕ) × ((read_in mends s).answer.first ≡ k + 1) × SharedHold mends s k (read_in mends s).answer.second
reading-shared mends s h = let f = reading-column mends s (inr (inr (inl h))) in (f.0, f.1, f.2.shared h)

-- one refused with 18 names a line of edition 2 whose ready tick is after its planned start, and the column of its ready field
pub reading-unready :
    (mends : Bool) (s : List ℕ) → (read_in mends s).answer.code ≡ 18
    → (k : ℕ) × ((read_in mends s).answer.first ≡ k + 1) × ReadyLate s k (read_in mends s).answer.second
reading-unready mends s h = let f = reading-column mends s (inr (inr (inr h))) in (f.0, f.1, f.2.unready h)

-- which edition 1 has not
module _ (s : List ℕ) (one : edition_of s ≡ 1) where
  pub no-field-over : (k n other : ℕ) → 4 < other → at (codes_of false s k) n ≢ other
  no-field-over k n other l =
      plain-not (first_plain (line_at s k) false (has_line (skip k s)) (edition_of s) (boards_of s) (tasks_of s) k (λ z. omega arith) n) other l

  pub no-text-18 : (read_in false s).answer.code ≢ 18
  no-text-18 h = let u = (reading-unready false s h).2.edition in omega arith

  pub no-text-20 : (read_in false s).answer.code ≢ 20
  no-text-20 h = let u = (reading-shared false s h).2.edition in omega arith
