-- What the second call answers, and a text of either edition made edition 2.
use Prim.Native.Nat.{ℕ, ◌+◌, ◌-◌, ◌≤◌, ◌<◌}
use native.Mathlib.Omega.{arith}
use mathlib.Core.Bool.{Bool, true, false, cond, ◌&&◌}
use mathlib.Core.List.{List}
use mathlib.Core.Path.{◌≡◌, refl, sym, ap, ◌∙◌}
use mathlib.Core.Logic.{◌≢◌, ◌⊎◌, inl, inr, ⊎_elim}
use lib.Dec.{leb, ltb}
use lib.ListN.{length}
use borrow.Author.Tests.{eq-eqb, lt-leb, le-leb}
use Rattle.laws.proofs.Cases.{by_bool, by_le, and_no, true-false}
use Rattle.laws.proofs.Scan.{scan-same}
use Rattle.text.specs.Number.{is_number, value_of}
use Rattle.text_fields.specs.Items.{has_shared, list_of, hold_of}
use Rattle.text.specs.Line.{has_line, line_at, field}
use Rattle.plan.specs.Answer.{granted, is_refused}
use Rattle.plan.specs.Task.{exclusive_task}
use Rattle.plan.specs.Value.{task_at, plan_of}
use Rattle.plan.specs.Read.{ranged, sizes_ok, edition_of, boards_of, tasks_of, holds_code, codes_from, task_codes, task_from, line_task, line_answer, lines_answer, text_task, form_answer, text_answer, read_as, read_in, reading_of, mended_of}
use Rattle.plan.specs.declared.Answer.{Answer}
use Rattle.plan.specs.declared.Plan.{Plan}
use Rattle.plan.proofs.Judged.{tasks-same}
use Rattle.plan.proofs.PlanTasks.{plan_of-same}
use Rattle.plan.proofs.ReadOk.{FormOk, text-ok, form-task, read_answer, read-plan, read-accepted, two-editions}
use Rattle.promises.specs.Says.{no_plan}
use Rattle.promises.specs.Conversion.{MadeOf, Unshared}
use Rattle.promises.proofs.Codes.Exclusive.{same-exclusive, unshared-task}
use Rattle.promises.proofs.Codes.Reading.{reading-code, reading-shared}

-- what it gives is made of the text's tasks
module _ (text : List ℕ) (z : (mended_of text).answer.code ≡ 0) where
  code-zero : (text_answer true text).code ≡ 0
  code-zero = ap (λ (x : Answer). x.code) (sym (read_answer true text)) ∙ z

  form : FormOk true text
  form = (text-ok true text code-zero).form

  pub mended-edition : edition_of text ≡ 2
  mended-edition = let e = two-editions true text form.sizes in omega (arith, e.0, e.1)

  task-exclusive : (k : ℕ) → text_task true text k ≡ exclusive_task (text_task false text k)
  unfolding line_task
  task-exclusive k = rw (eq-eqb (edition_of text) 2 mended-edition)

  pub mended-made : MadeOf (boards_of text) (tasks_of text) (text_task false text) (mended_of text).plan
  unfolding plan_of
  mended-made =
      let p = read-plan true text code-zero in
      record {
        accepted = read-accepted true text code-zero;
        edition = ap (λ (x : Plan). x.edition) p ∙ mended-edition;
        boards_are = ap (λ (x : Plan). x.boards) p;
        tasks_are = ap (λ (x : Plan). x.tasks) p;
        each = λ k l.
            same-exclusive (text_task false text k) _ (ap (λ (x : Plan). task_at x k) p ∙ form-task true text form k l ∙ task-exclusive k);
      }

pub mended-code : (text : List ℕ) → ((mended_of text).answer.code ≤ 8) ⊎ (((mended_of text).answer.code ≡ 17) ⊎ ((mended_of text).answer.code ≡ 18))
mended-code text =
    ⊎_elim inl (⊎_elim (λ e. inr (inl e)) (⊎_elim (λ e. inr (inr e)) (λ e. true-false refl (reading-shared true text e).2.reads)))
    (reading-code true text)

-- refused before its lines are looked at
module _ (text : List ℕ) (mends : Bool) where
  long-read : ltb 32768 (length text) ≡ true → read_in mends text ≡ no_plan 1 0 0
  unfolding read_in text_answer form_answer
  long-read l = rw l

  abbrev stated : Bool
  stated = has_line text && sizes_ok mends (line_at text 0)

  unstated-read : ltb 32768 (length text) ≡ false → stated ≡ false → read_in mends text ≡ no_plan 2 1 0
  unfolding read_in text_answer form_answer
  unstated-read l e = rw (l, e)

-- the first line of a text that is not of edition 1
module _ (text : List ℕ) (other : edition_of text ≢ 1) where
  abbrev first : List ℕ
  first = line_at text 0

  edition-same : ranged 2 2 (field first 1) ≡ ranged 1 2 (field first 1)
  edition-same =
      ap (λ (b : Bool). is_number (field first 1) && (b && leb (edition_of text) 2))
      (by_le 2 (edition_of text)
      (λ l. le-leb 2 (edition_of text) l ∙ sym (le-leb 1 (edition_of text) (omega arith)))
      (λ l. lt-leb 2 (edition_of text) l ∙ sym (lt-leb 1 (edition_of text) (omega (arith, other)))))

  sizes-same : sizes_ok true first ≡ sizes_ok false first
  unfolding sizes_ok
  sizes-same = rw edition-same

  -- it is refused alike where it is not as stated
  stated-same : stated text true ≡ stated text false
  stated-same = ap (λ (b : Bool). has_line text && b) sizes-same

  unstated-same : stated text false ≡ false → read_in true text ≡ read_in false text
  unstated-same e =
      by_bool (ltb 32768 (length text))
      (λ l. long-read text true l ∙ sym (long-read text false l))
      (λ l. unstated-read text true l (stated-same ∙ e) ∙ sym (unstated-read text false l e))

-- a text that is not of edition 1 and has no shared hold is read
module _ (text : List ℕ) (other : edition_of text ≢ 1) (none : Unshared (tasks_of text) (text_task false text)) where
  holds_same : (s : List ℕ) → has_shared (list_of hold_of s) ≡ false → holds_code false s ≡ holds_code true s
  unfolding holds_code
  holds_same s e = rw e

  -- the first line is as stated
  module _ (sizes : sizes_ok false (line_at text 0) ≡ true) where
    second : edition_of text ≡ 2
    second = let e = two-editions false text sizes in omega (arith, e.0, e.1, other)

    its-holds : (k : ℕ) → k < tasks_of text → has_shared (list_of hold_of (field (line_at text (k + 1)) 6)) ≡ false
    unfolding line_task task_from
    its-holds k l = rw (eq-eqb (edition_of text) 2 second) at (none k l)

    line_same : (k : ℕ) → 1 ≤ k → k < tasks_of text + 1 → line_answer true text k ≡ line_answer false text k
    unfolding line_answer task_codes codes_from
    line_same k from to =
        let n : k - 1 + 1 ≡ k = omega arith in
        let h : has_shared (list_of hold_of (field (line_at text k) 6)) ≡ false = rw n at (its-holds (k - 1) (omega arith)) in
        rw (eq-eqb (edition_of text) 2 second, holds_same (field (line_at text k) 6) h)

    lines_same : lines_answer true text ≡ lines_answer false text
    unfolding lines_answer
    lines_same = scan-same is_refused granted (line_answer true text) (line_answer false text) 1 (tasks_of text + 1) line_same

    task-same : (k : ℕ) → k < tasks_of text → text_task true text k ≡ text_task false text k
    unfolding line_task
    task-same k l = rw (eq-eqb (edition_of text) 2 second) (unshared-task (task_from (line_at text (k + 1)) (value_of (field (line_at text (k + 1)) 3)) 4) (own (none k l)))
      where
        own : has_shared (text_task false text k).holds ≡ false → has_shared (task_from (line_at text (k + 1)) (value_of (field (line_at text (k + 1)) 3)) 4).holds ≡ false
        own h = rw (eq-eqb (edition_of text) 2 second) at h

    form-same : form_answer true text ≡ form_answer false text
    unfolding form_answer
    form-same = rw (sizes-same text other, lines_same)

    read_same : read_in true text ≡ read_in false text
    unfolding read_in text_answer
    read_same =
        let tasks = tasks-same (tasks_of text) (text_task true text) (text_task false text) task-same in
        let plan = plan_of-same (edition_of text) (boards_of text) (tasks_of text) (text_task true text) (text_task false text) task-same in
        λ i. read_as (cond (is_refused (form-same i)) (form-same i) (tasks i)) (plan i)

  pub mended-is-reading : mended_of text ≡ reading_of text
  mended-is-reading =
      by_bool (sizes_ok false (line_at text 0)) read_same
      (λ e. unstated-same text other (ap (λ (b : Bool). has_line text && b) e ∙ and_no (has_line text)))
