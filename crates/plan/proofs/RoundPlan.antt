-- The text of an accepted plan is short enough, and reads back as the plan.
use Prim.Native.Nat.{ℕ, ◌+◌, ◌<◌, ◌≤◌}
use mathlib.Core.List.{List, [], ◌++◌, append-nil}
use mathlib.Core.Bool.{true, false}
use mathlib.Core.Path.{◌≡◌, sym, ap, ◌∙◌}
use native.Mathlib.Omega.{arith}
use native.Mathlib.Numerals.{add-one}
use lib.ListN.{length, length-append}
use Rattle.laws.proofs.Digits.{value-digits}
use Rattle.laws.specs.Split.{before, join_on, skip_on}
use Rattle.text.specs.Line.{TAB, LF, has_line, skip, line_at, fields}
use Rattle.plan.specs.Answer.{granted}
use Rattle.plan.specs.Task.{task_ok, edition_ok}
use Rattle.plan.specs.Judged.{tasks_answer}
use Rattle.plan.specs.Value.{task_at, plan_of, is_accepted}
use Rattle.plan.specs.Read.{sizes_ok, edition_of, boards_of, tasks_of, line_task, text_task, reading_of}
use Rattle.plan.specs.Write.{sizes_text, task_text, task_texts, text_of}
use Rattle.plan.specs.declared.Answer.{Answer}
use Rattle.plan.specs.declared.Plan.{Plan}
use Rattle.plan.proofs.LineCodes.{LineFine}
use Rattle.plan.proofs.Judged.{tasks-granted, tasks-same, accepted-ranges, accepted-tasks}
use Rattle.plan.proofs.PlanTasks.{SizedPlan, RangesKept, ranges-kept, task-kept, task-fits, plan_of-same, plan_of-own}
use Rattle.plan.proofs.RoundBack.{sizes_fields, task_fields, made-line, made-rest, made-has, sizes-whole, sizes-fields}
use Rattle.plan.proofs.RoundBack.{sizes-read, task-whole, task-fields, task-fine, task-back, skip-texts, texts-from}
use Rattle.plan.proofs.RoundLength.{task-length, texts-length, sizes-length}
use Rattle.plan.proofs.ReadOk.{LineOk, TextOk, ok-text, read_answer, read-plan}

fine-at :
    {d e b c m n : ℕ} {line : List ℕ} {k : ℕ} → d ≡ e → b ≡ c → m ≡ n → LineFine false e c n line k → LineFine false d b m line k
fine-at p q r f = rw (p, q, r) f

module _ (plan : Plan) (ok : is_accepted plan ≡ true) where
  facts : RangesKept plan
  facts = ranges-kept plan (accepted-ranges plan ok)

  abbrev edition : ℕ
  edition = plan.edition

  task-ok : (k : ℕ) → k < plan.tasks → task_ok plan.boards plan.tasks (task_at plan k) ≡ true
  task-ok k h = (task-kept plan k (facts.kept k h)).task

  edition-ok : (k : ℕ) → k < plan.tasks → edition_ok edition (task_at plan k) ≡ true
  edition-ok k h = (task-kept plan k (facts.kept k h)).edition

  -- its text may be handed in
  pub text-length : length (text_of plan) ≤ 32768
  unfolding text_of
  text-length =
      let few = facts.tasks.1 in
      let b = facts.boards.1 in
      let a = sizes-length edition plan.boards plan.tasks facts.edition.1 b few in
      let c = texts-length edition (task_at plan) plan.tasks
      (λ k h. task-length edition plan.boards plan.tasks (k + 1) (task_at plan k) b few (omega arith)
      (task-fits plan.boards plan.tasks (task_at plan k) (task-ok k h))) in
      simp length-append (omega arith)

  abbrev lines : List ℕ
  lines = task_texts edition (task_at plan) plan.tasks

  -- its first line
  first_line : line_at (text_of plan) 0 ≡ join_on TAB (sizes_fields edition plan.boards plan.tasks)
  unfolding text_of sizes_text skip_on
  first_line = made-line _ _ (sizes-whole edition plan.boards plan.tasks) lines

  first-has : has_line (text_of plan) ≡ true
  unfolding text_of sizes_text
  first-has = made-has _ _ (sizes-whole edition plan.boards plan.tasks) lines

  text-edition : edition_of (text_of plan) ≡ edition
  text-edition = rw (first_line, sizes-fields, value-digits)

  text-boards : boards_of (text_of plan) ≡ plan.boards
  text-boards = rw (first_line, sizes-fields, value-digits)

  text-tasks : tasks_of (text_of plan) ≡ plan.tasks
  text-tasks = rw (first_line, sizes-fields, value-digits)

  -- its task lines
  text-rest : (n : ℕ) → skip (n + 1) (text_of plan) ≡ skip n lines
  unfolding text_of sizes_text skip_on
  text-rest n = rw add-one (ap (skip n) (made-rest _ _ (sizes-whole edition plan.boards plan.tasks) lines))

  module _ (k : ℕ) (h : k < plan.tasks) where
    from-line : (later : List ℕ) × (skip (k + 1) (text_of plan) ≡ task_text edition (k + 1) (task_at plan k) ++ later)
    from-line = let r = texts-from edition (task_at plan) plan.tasks k h in (r.0, text-rest k ∙ r.1)

    task_line : line_at (text_of plan) (k + 1) ≡ join_on TAB (task_fields edition (k + 1) (task_at plan k))
    unfolding task_text
    task_line = ap (before LF) from-line.1 ∙ made-line _ _ (task-whole edition (k + 1) (task_at plan k)) from-line.0

    task-has : has_line (skip (k + 1) (text_of plan)) ≡ true
    unfolding task_text
    task-has = ap has_line from-line.1 ∙ made-has _ _ (task-whole edition (k + 1) (task_at plan k)) from-line.0

    line-fields : fields (line_at (text_of plan) (k + 1)) ≡ task_fields edition (k + 1) (task_at plan k)
    line-fields = ap fields task_line ∙ task-fields edition (k + 1) (task_at plan k)

    -- its tasks
    pub text-task : text_task false (text_of plan) k ≡ task_at plan k
    text-task =
        ap (λ (e : ℕ). line_task false e (line_at (text_of plan) (k + 1))) text-edition
        ∙ task-back edition (k + 1) (task_at plan k) (line_at (text_of plan) (k + 1)) line-fields plan.boards plan.tasks (task-ok k h)
        (edition-ok k h)

    line_kept : LineOk false (text_of plan) k
    line_kept = record {
      there = task-has;
      fine = fine-at text-edition text-boards text-tasks
          (task-fine edition (k + 1) (task_at plan k) (line_at (text_of plan) (k + 1)) line-fields plan.boards plan.tasks (task-ok k h)
          (edition-ok k h));
    }

  text-kept : TextOk false (text_of plan)
  text-kept = record {
    form = record {
      short = text-length;
      first = first-has;
      sizes = ap (sizes_ok false) first_line
          ∙ sizes-read edition plan.boards plan.tasks facts.edition facts.boards facts.tasks;
      lines = λ k h. line_kept k (rw text-tasks at h);
      ends = ap length (ap (λ (n : ℕ). skip (n + 1) (text_of plan)) text-tasks ∙ text-rest plan.tasks ∙ none);
    };
    judged = ap (λ (n : ℕ). tasks_answer n (text_task false (text_of plan))) text-tasks
        ∙ tasks-same plan.tasks (text_task false (text_of plan)) (task_at plan) text-task
        ∙ tasks-granted plan.tasks (task_at plan) (accepted-tasks plan ok);
  }
    where
      none : skip plan.tasks lines ≡ []
      none = ap (skip plan.tasks) (sym (append-nil lines)) ∙ skip-texts edition (task_at plan) plan.tasks []

  -- it reads back as the plan
  pub plan-back : SizedPlan plan → reading_of (text_of plan) ≡ record { answer = granted; plan = plan }
  plan-back size =
      let z = ok-text false (text_of plan) text-kept in
      let p =
      read-plan false (text_of plan) (ap (λ (x : Answer). x.code) z)
      ∙ ap (λ (e : ℕ). plan_of e (boards_of (text_of plan)) (tasks_of (text_of plan)) (text_task false (text_of plan))) text-edition
      ∙ ap (λ (b : ℕ). plan_of edition b (tasks_of (text_of plan)) (text_task false (text_of plan))) text-boards
      ∙ ap (λ (n : ℕ). plan_of edition plan.boards n (text_task false (text_of plan))) text-tasks
      ∙ plan_of-same edition plan.boards plan.tasks (text_task false (text_of plan)) (task_at plan) text-task
      ∙ plan_of-own plan size (accepted-ranges plan ok) in
      λ i. record { answer = (read_answer false (text_of plan) ∙ z) i; plan = p i }
