-- An accepted text is the text of the plan that it reads as, byte for byte.
use Prim.Native.Nat.{ℕ, zero, suc, ◌+◌, ◌<◌, ◌≤◌}
use mathlib.Core.Bool.{false}
use mathlib.Core.List.{List, [], ◌++◌, append_assoc, append-nil}
use mathlib.Core.Path.{◌≡◌, refl, sym, ap, ◌∙◌}
use native.Mathlib.Omega.{arith}
use lib.Seq.{take_all}
use Rattle.laws.specs.Split.{skip_on}
use Rattle.text.specs.Line.{skip, line_at, lines_below}
use Rattle.plan.specs.Task.{Task}
use Rattle.plan.specs.Value.{task_at, plan_of}
use Rattle.plan.specs.Read.{edition_of, boards_of, tasks_of, text_task, text_answer, text_plan, reading_of}
use Rattle.plan.specs.Write.{task_text, task_texts, text_of}
use Rattle.plan.proofs.ReadOk.{text-ok, read-plan, form-task}
use Rattle.plan.proofs.RoundLines.{line-joined, sizes-spelt, task-spelt}

-- the lines of the first n tasks are those of these tasks alone
pub texts-same :
    (edition : ℕ) (task other : ℕ → Task) (n : ℕ) → ((k : ℕ) → k < n → task k ≡ other k)
    → task_texts edition task n ≡ task_texts edition other n
unfolding lines_below
texts-same edition task other zero e = refl
texts-same edition task other (suc n) e = rw (texts-same edition task other n (λ k h. e k (omega arith)), e n (omega arith))

module _ (s : List ℕ) (z : (text_answer false s).code ≡ 0) where
  -- its task lines are the lines of the text
  read-lines : (n : ℕ) → n ≤ tasks_of s → task_texts (edition_of s) (text_task false s) n ++ skip (n + 1) s ≡ skip 1 s
  unfolding lines_below
  read-lines zero h = refl
  read-lines (suc n) h =
      let l = (text-ok false s z).form.lines n h in
      let e : suc n + 1 ≡ n + 1 + 1 = omega arith in
      append_assoc (task_texts (edition_of s) (text_task false s) n) (task_text (edition_of s) (n + 1) (text_task false s n)) (skip (suc n + 1) s)
      ∙ rw (e, task-spelt (edition_of s) (boards_of s) (tasks_of s) (line_at s (n + 1)) (n + 1) l.fine, line-joined s (n + 1) l.there)
      (read-lines n (omega arith))

  -- the text is the text of the plan
  pub read_back : text_of (reading_of s).plan ≡ s
  unfolding text_of plan_of skip_on
  read_back =
      let n : ℕ = tasks_of s in
      let none : skip (n + 1) s ≡ [] = sym (take_all 0 (skip (n + 1) s) (omega (arith, (text-ok false s z).form.ends))) in
      let lines : task_texts (edition_of s) (text_task false s) n ≡ skip 1 s =
      sym (append-nil (task_texts (edition_of s) (text_task false s) n))
      ∙ ap (λ (r : List ℕ). task_texts (edition_of s) (text_task false s) n ++ r) (sym none)
      ∙ read-lines n (omega arith) in
      ap text_of (read-plan false s z)
      ∙ rw (texts-same (edition_of s) (task_at (text_plan false s)) (text_task false s) n (form-task false s (text-ok false s z).form), lines, sizes-spelt (line_at s 0) (text-ok false s z).form.sizes)
      (line-joined s 0 (text-ok false s z).form.first)
