-- What an accepted text keeps, and the plan that it reads as.
use Prim.Native.Nat.{ℕ, ◌+◌, ◌-◌, ◌<◌, ◌≤◌}
use mathlib.Core.List.{List}
use mathlib.Core.Bool.{Bool, true, false, not, cond, ◌&&◌}
use mathlib.Core.Path.{◌≡◌, refl, sym, ap, ◌∙◌}
use mathlib.Core.Logic.{◌≢◌}
use native.Mathlib.Omega.{arith}
use lib.ListN.{length}
use lib.Dec.{ltb, eqb}
use borrow.Author.Tests.{ltb-false, le-ltb, eqb-true, eq-eqb, not-false}
use Rattle.laws.specs.Lists.{all_of}
use Rattle.laws.proofs.Cases.{and_l, and_r}
use Rattle.laws.proofs.Scan.{scan-clean, scan-none}
use Rattle.text_fields.specs.Faults.{worst, fault_of}
use Rattle.text_fields.proofs.FaultLaws.{faultless-is}
use Rattle.text.specs.Line.{has_line, skip, line_at, field}
use Rattle.plan.specs.Answer.{refuse, granted, is_refused}
use Rattle.plan.specs.Task.{task_ok, edition_ok}
use Rattle.plan.specs.Judged.{tasks_answer}
use Rattle.plan.specs.Value.{task_at, plan_of, ranges_ok, is_accepted}
use Rattle.plan.specs.Read.{sizes_ok, edition_of, boards_of, tasks_of, task_codes}
use Rattle.plan.specs.Read.{line_answer, lines_answer, text_task, form_answer, text_answer, text_plan, read_in}
use Rattle.plan.specs.declared.Answer.{Answer}
use Rattle.plan.proofs.FirstFault.{refused-code, passed-code}
use Rattle.plan.proofs.Judged.{tasks-granted, tasks-same, accepted-of}
use Rattle.plan.proofs.PlanTasks.{SizedPlan, plan_of-sized, made-task, made-ranges}
use Rattle.plan.proofs.LineCodes.{LineFine, line-fine, fine-line, task-kinds, fine-task, fine-edition}
use Rattle.plan.proofs.TextLines.{number-range, sizes-test}

-- ---- what an accepted text keeps

-- line k + 1 is there, is well formed, carries number k + 1, and its task keeps the ranges
pub record LineOk (mends : Bool) (s : List ℕ) (k : ℕ) : Type 0 where
  pub there : has_line (skip (k + 1) s) ≡ true
  pub fine : LineFine mends (edition_of s) (boards_of s) (tasks_of s) (line_at s (k + 1)) (k + 1)

pub record FormOk (mends : Bool) (s : List ℕ) : Type 0 where
  pub short : length s ≤ 32768
  pub first : has_line s ≡ true
  pub sizes : sizes_ok mends (line_at s 0) ≡ true
  pub lines : (k : ℕ) → k < tasks_of s → LineOk mends s k
  pub ends : length (skip (tasks_of s + 1) s) ≡ 0

pub record TextOk (mends : Bool) (s : List ℕ) : Type 0 where
  pub form : FormOk mends s
  pub judged : tasks_answer (tasks_of s) (text_task mends s) ≡ granted

module _ (mends : Bool) (s : List ℕ) (sizes : sizes_ok mends (line_at s 0) ≡ true) where
  -- the edition is 1 or 2, B and T are small where the first line is as stated
  pub two-editions : (cond mends 2 1 ≤ edition_of s) × (edition_of s ≤ 2)
  two-editions = let r = number-range (cond mends 2 1) 2 (field (line_at s 0) 1) (sizes-test mends (line_at s 0) sizes 2 (omega arith)) in (r.1, r.2)

  few_boards : (1 ≤ boards_of s) × (boards_of s ≤ 8)
  few_boards = let r = number-range 1 8 (field (line_at s 0) 2) (sizes-test mends (line_at s 0) sizes 3 (omega arith)) in (r.1, r.2)

  few_tasks : (1 ≤ tasks_of s) × (tasks_of s ≤ 64)
  few_tasks = let r = number-range 1 64 (field (line_at s 0) 3) (sizes-test mends (line_at s 0) sizes 4 (omega arith)) in (r.1, r.2)

  module _ (k : ℕ) (below : k < tasks_of s) where
    abbrev there : Bool
    there = has_line (skip (k + 1) s)

    abbrev codes : List ℕ
    codes = task_codes mends there (edition_of s) (boards_of s) (tasks_of s) (line_at s (k + 1)) (k + 1)

    few : (boards_of s ≤ 1000000) × (k + 1 ≤ 1000000)
    few = (omega (arith, few_boards.1), omega (arith, few_tasks.1))

    code_is : (line_answer mends s (k + 1)).code ≡ worst codes
    unfolding line_answer fault_of
    code_is = refl

    clean : all_of (eqb 0) codes ≡ eqb (worst codes) 0
    clean = faultless-is codes (task-kinds mends there (edition_of s) (boards_of s) (tasks_of s) (line_at s (k + 1)) (k + 1) few.0 few.1)

    pub line_ok : (line_answer mends s (k + 1)).code ≡ 0 → LineOk mends s k
    line_ok z =
        let f =
        line-fine mends there (edition_of s) (boards_of s) (tasks_of s) (line_at s (k + 1)) (k + 1) few.0 few.1
        (clean ∙ eq-eqb (worst codes) 0 (sym code_is ∙ z)) in
        record { there = f.0; fine = f.1 }

    line-passed : LineOk mends s k → (line_answer mends s (k + 1)).code ≡ 0
    line-passed r =
        code_is
        ∙ eqb-true (worst codes) 0
        (sym clean ∙ fine-line mends there (edition_of s) (boards_of s) (tasks_of s) (line_at s (k + 1)) (k + 1) few.0 few.1 r.there r.fine)

answer-passed : (g : Bool) (x r : Answer) → (g ≡ true → x.code ≢ 0) → (cond g x r).code ≡ 0 → (g ≡ false) × (r.code ≡ 0)
answer-passed true x r n z = absurd (n refl z)
answer-passed false x r n z = (refl, z)

module _ (mends : Bool) (s : List ℕ) where
  lines_ok :
      sizes_ok mends (line_at s 0) ≡ true → is_refused (lines_answer mends s) ≡ false → (k : ℕ) → k < tasks_of s → LineOk mends s k
  unfolding lines_answer
  lines_ok sizes p k h =
      line_ok mends s sizes k h
      (passed-code (line_answer mends s (k + 1))
      (scan-clean is_refused granted (line_answer mends s) 1 (tasks_of s + 1) p (k + 1) (omega arith) (omega arith)))

  pub form-ok : (form_answer mends s).code ≡ 0 → FormOk mends s
  unfolding form_answer
  form-ok z =
      let more : Bool = ltb 0 (length (skip (tasks_of s + 1) s)) in
      let r4 : Answer = cond more (refuse 5 (tasks_of s + 2) 0) granted in
      let r3 : Answer = cond (is_refused (lines_answer mends s)) (lines_answer mends s) r4 in
      let first : Bool = has_line s && sizes_ok mends (line_at s 0) in
      let r2 : Answer = cond (not first) (refuse 2 1 0) r3 in
      let p1 = answer-passed (ltb 32768 (length s)) (refuse 1 0 0) r2 (λ t e. omega arith) z in
      let p2 = answer-passed (not first) (refuse 2 1 0) r3 (λ t e. omega arith) p1.1 in
      let p3 = answer-passed (is_refused (lines_answer mends s)) (lines_answer mends s) r4 (refused-code (lines_answer mends s)) p2.1 in
      let p4 = answer-passed more (refuse 5 (tasks_of s + 2) 0) granted (λ t e. omega arith) p3.1 in
      let f = not-false first p2.0 in
      let over = ltb-false 0 (length (skip (tasks_of s + 1) s)) p4.0 in
      record {
        short = ltb-false 32768 (length s) p1.0;
        first = and_l (has_line s) (sizes_ok mends (line_at s 0)) f;
        sizes = and_r (has_line s) (sizes_ok mends (line_at s 0)) f;
        lines = lines_ok (and_r (has_line s) (sizes_ok mends (line_at s 0)) f) p3.0;
        ends = omega arith;
      }

  -- and a text that keeps it is accepted
  lines-passed : sizes_ok mends (line_at s 0) ≡ true → ((k : ℕ) → k < tasks_of s → LineOk mends s k) → lines_answer mends s ≡ granted
  unfolding lines_answer
  lines-passed sizes f =
      scan-none is_refused granted (line_answer mends s) 1 (tasks_of s + 1)
      (λ j h l.
      let e : j - 1 + 1 ≡ j = omega arith in
      let z : (line_answer mends s j).code ≡ 0 = rw e at (line-passed mends s sizes (j - 1) (omega arith) (f (j - 1) (omega arith))) in
      ap not (eq-eqb (line_answer mends s j).code 0 z))

  pub ok-form : FormOk mends s → form_answer mends s ≡ granted
  unfolding form_answer
  ok-form r =
      let over = le-ltb 0 (length (skip (tasks_of s + 1) s)) (omega (arith, r.ends)) in
      rw (le-ltb 32768 (length s) r.short, r.first, r.sizes, lines-passed r.sizes r.lines, over)

  pub text-ok : (text_answer mends s).code ≡ 0 → TextOk mends s
  unfolding text_answer
  text-ok z =
      let p =
      answer-passed (is_refused (form_answer mends s)) (form_answer mends s) (tasks_answer (tasks_of s) (text_task mends s))
      (refused-code (form_answer mends s)) z in
      record {
        form = form-ok (passed-code (form_answer mends s) p.0);
        judged = tasks-granted (tasks_of s) (text_task mends s) p.1;
      }

  pub ok-text : TextOk mends s → text_answer mends s ≡ granted
  unfolding text_answer
  ok-text r = rw (ok-form r.form) r.judged

  -- ---- the plan that it reads as

  pub read_answer : (read_in mends s).answer ≡ text_answer mends s
  unfolding read_in
  read_answer = refl

module _ (mends : Bool) (s : List ℕ) (f : FormOk mends s) where
  pub form-tasks : (1 ≤ tasks_of s) × (tasks_of s ≤ 64)
  form-tasks = few_tasks mends s f.sizes

  pub form-ranges : (k : ℕ) → k < tasks_of s → task_ok (boards_of s) (tasks_of s) (text_task mends s k) ≡ true
  form-ranges k h = fine-task mends (edition_of s) (boards_of s) (tasks_of s) (line_at s (k + 1)) (k + 1) (f.lines k h).fine

  form-editions : (k : ℕ) → k < tasks_of s → edition_ok (edition_of s) (text_task mends s k) ≡ true
  form-editions k h = fine-edition mends (edition_of s) (boards_of s) (tasks_of s) (line_at s (k + 1)) (k + 1) (f.lines k h).fine

  -- the tasks of the plan are those of the lines
  pub form-task : (k : ℕ) → k < tasks_of s → task_at (text_plan mends s) k ≡ text_task mends s k
  form-task = made-task (edition_of s) (boards_of s) (tasks_of s) (text_task mends s) form-tasks.1 form-ranges

  pub form-judged : tasks_answer (tasks_of s) (task_at (text_plan mends s)) ≡ tasks_answer (tasks_of s) (text_task mends s)
  form-judged = tasks-same (tasks_of s) (task_at (text_plan mends s)) (text_task mends s) form-task

  pub form-kept : ranges_ok (text_plan mends s) ≡ true
  form-kept =
      let sizes = f.sizes in
      made-ranges (edition_of s) (boards_of s) (tasks_of s) (text_task mends s) form-tasks.1 form-ranges form-editions
      (low mends (two-editions mends s sizes).0) (two-editions mends s sizes).1
      (few_boards mends s sizes).0 (few_boards mends s sizes).1 form-tasks.0
    where
      low : (b : Bool) {e : ℕ} → cond b 2 1 ≤ e → 1 ≤ e
      low true h = omega arith
      low false h = h

module _ (mends : Bool) (s : List ℕ) (z : (text_answer mends s).code ≡ 0) where
  pub read-plan : (read_in mends s).plan ≡ text_plan mends s
  unfolding read_in
  read-plan = rw (eq-eqb (text_answer mends s).code 0 z)

  -- its arrays have their lengths
  pub read-sized : SizedPlan (read_in mends s).plan
  read-sized = rw read-plan (plan_of-sized (edition_of s) (boards_of s) (tasks_of s) (text_task mends s))

  -- a read plan is accepted
  pub read-accepted : is_accepted (read_in mends s).plan ≡ true
  unfolding plan_of
  read-accepted =
      let f = (text-ok mends s z).form in
      rw read-plan (accepted-of (text_plan mends s) (form-kept mends s f) (ap (λ (x : Answer). x.code) (form-judged mends s f ∙ (text-ok mends s z).judged)))
