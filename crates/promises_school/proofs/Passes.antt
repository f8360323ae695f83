-- A log passes all tests where each task's one start and one end are those of a finished book.
use Prim.Native.Nat.{ℕ, zero, suc, ◌+◌, ◌-◌, ◌≤◌, ◌<◌}
use native.Mathlib.Omega.{arith}
use mathlib.Core.Path.{◌≡◌, refl, ap, ◌∙◌}
use mathlib.Core.Logic.{⊎_elim}
use mathlib.Core.Bool.{Bool, true, false, not, cond}
use mathlib.Core.List.{List, [], ◌∷◌, ◌++◌}
use lib.Dec.{leb, eqb}
use borrow.Author.Tests.{eq-eqb, le-leb, le-ltb}
use Rattle.laws.specs.Digits.{digits_of}
use Rattle.laws.proofs.Cases.{by_bool, and-of, or_r, true-false}
use Rattle.laws.proofs.Scan.{scan-none}
use Rattle.theory.specs.Times.{lowest}
use Rattle.theory.proofs.Lowest.{lowest-cases}
use Rattle.text.specs.Bytes.{bytes}
use Rattle.text.specs.Line.{line_text, lines_below}
use Rattle.theory.proofs.Order as order
use Rattle.theory.proofs.Task.{ended-within, ended-after}
use Rattle.plan.specs.Answer.{granted, is_refused}
use Rattle.plan.specs.Pairs.{clash}
use Rattle.plan.specs.Value.{at, task_at, is_accepted}
use Rattle.plan.specs.declared.Plan.{Plan}
use Rattle.book_view.proofs.Accepted.{plan-facts}
use Rattle.book_view.proofs.Laid.{laid-at}
use Rattle.book.specs.View.{book_view}
use Rattle.book.specs.Open.{rule_number}
use Rattle.book.specs.declared.Book.{Book}
use Rattle.book.specs.declared.Rule.{Rule}
use Rattle.plan.specs.Pairs.{pairs_fault}
use Rattle.book_view.specs.Faults.{task_fault}
use Rattle.school.specs.Tasks.{is_start, is_end, how_many, first_of, is_known, start_in, end_in}
use Rattle.school.specs.Tests.{is_wrong, is_mislong, is_sooner, is_against, is_untimely, pair_fault, against_fault, tasks_fault, found_in}
use Rattle.school.specs.Text.{early_text, figure_line, figure_lines, judged_text}
use Rattle.school.specs.declared.JudgedLog.{JudgedLog}
use Rattle.school.specs.Said.{LogLine}
use Rattle.promises.specs.Runs.{SizedPlan, Ended, Started, Dropped, start_of, end_of}
use Rattle.promises.proofs.SoundRun.{OnPlan, seen-plan, sound-on, not_late, not-unready}
use Rattle.promises_school.proofs.Pairs.{row_fault}
use Rattle.promises_school.specs.Own.{figure_rows}

-- a test that holds of no task
no-fault : (code tasks : ℕ) (test : ℕ → Bool) → ((i : ℕ) → i < tasks → test i ≡ false) → task_fault code tasks test ≡ granted
unfolding task_fault
no-fault code tasks test none =
    let z : lowest tasks test ≡ 0 =
    ⊎_elim (λ f. true-false f.holds (none f.who f.task)) (λ n. n.is) (lowest-cases tasks test) in
    rw (eq-eqb (lowest tasks test) 0 z)

-- and of no pair
no-pair : (tasks : ℕ) (test : ℕ → ℕ → Bool) → ((a b : ℕ) → a < b → b < tasks → test a b ≡ false) → against_fault tasks test ≡ granted
unfolding against_fault pairs_fault
no-pair tasks test none =
    scan-none is_refused granted (row_fault tasks test) 0 tasks (λ a h l.
    ap is_refused
    (scan-none is_refused granted (pair_fault test a) (a + 1) tasks (λ b h' l'. rw (none a b (omega arith) l'))))

-- what the log says of a task
pub record Says (plan : Plan) (lines : List LogLine) (start end i : ℕ) : Type 0 where
  pub one-start : how_many (is_start i) lines ≡ 1
  pub one_end : how_many (is_end i) lines ≡ 1
  pub start-board : (first_of (is_start i) lines).board ≡ at plan.board i
  pub end-board : (first_of (is_end i) lines).board ≡ at plan.board i
  pub starts : start_in lines i ≡ start
  pub ends : end_in lines i ≡ end

module _ (plan : Plan) (rule : Rule) (size : SizedPlan plan) (ok : is_accepted plan ≡ true) (book : Book) (on : OnPlan plan rule book)
    (undropped : (i : ℕ) → i < plan.tasks → Dropped book i → ⊥) (done : (i : ℕ) → i < plan.tasks → Ended book i) (lines : List LogLine)
    (says : (i : ℕ) → i < plan.tasks → Says plan lines (start_of book i) (end_of book i) i) where
  started : (i : ℕ) → i < plan.tasks → Started book i
  started i l z = omega (arith, done i l)

  known : (i : ℕ) → i < plan.tasks → is_known lines i ≡ true
  known i l =
      let s = says i l in
      and-of (eq-eqb (how_many (is_start i) lines) 1 s.one-start) (eq-eqb (how_many (is_end i) lines) 1 s.one_end)

  right : (i : ℕ) → i < plan.tasks → is_wrong plan lines i ≡ false
  right i l =
      let s = says i l in
      let start = eq-eqb (first_of (is_start i) lines).board (at plan.board i) s.start-board in
      let end = eq-eqb (first_of (is_end i) lines).board (at plan.board i) s.end-board in
      ap not (and-of (known i l) (and-of start end))

  -- the length of a task that has ended
  lasts : (i : ℕ) → i < plan.tasks → (start_of book i < end_of book i) × (end_of book i ≤ start_of book i + (at plan.finish i - at plan.begin i))
  lasts i l =
      let t = (sound-on plan rule size ok book on).task i l in
      (ended-after t (done i l) (undropped i l), (ended-within t (done i l)).1)

  long : (i : ℕ) → i < plan.tasks → is_mislong plan (start_in lines) (end_in lines) i ≡ false
  long i l =
      let s = says i l in
      let t = lasts i l in
      rw (s.starts, s.ends)
      (ap not (and-of (le-leb 1 (end_of book i - start_of book i) (omega arith))
      (le-leb (end_of book i - start_of book i) (at plan.finish i - at plan.begin i) (omega arith))))

  sooner : (a b : ℕ) → a < plan.tasks → b < plan.tasks → is_sooner plan (start_in lines) (end_in lines) b a ≡ false
  sooner a b la lb =
      by_bool (clash (task_at plan) b a)
      (λ c.
      by_bool (leb (at plan.finish a) (at plan.begin b))
      (λ p.
      let w = and-of (or_r (eqb (rule_number rule) 0) c) p in
      let o = order.in_order (seen-plan plan rule size ok) (book_view book) (sound-on plan rule size ok book on) b a lb la w (started b lb) in
      rw (c, p, (says b lb).starts, (says a la).ends) (le-ltb (start_of book b) (end_of book a) o.1))
      (λ p. rw (c, p)))
      (λ c. rw c)

  against : (a b : ℕ) → a < b → b < plan.tasks → is_against plan (start_in lines) (end_in lines) a b ≡ false
  against a b h l = rw (sooner b a l (omega arith), sooner a b (omega arith) l)

  timely : (i : ℕ) → i < plan.tasks → is_untimely plan (start_in lines) i ≡ false
  timely i l =
      let late = not_late plan rule size ok book on i l (started i l) in
      let ready = not-unready plan rule size ok book on i l (started i l) (undropped i l) in
      rw ((says i l).starts, le-ltb (at plan.begin i) (start_of book i) late, le-ltb (start_of book i) (at plan.ready i) ready)

  pub no-faults : tasks_fault plan lines ≡ granted
  unfolding tasks_fault
  no-faults =
      rw (
        no-fault 24 plan.tasks (is_wrong plan lines) right,
        no-fault 25 plan.tasks (is_mislong plan (start_in lines) (end_in lines)) long,
        no-pair plan.tasks (is_against plan (start_in lines) (end_in lines)) against,
        no-fault 27 plan.tasks (is_untimely plan (start_in lines)) timely,
      )

  -- the figures
  abbrev found : JudgedLog
  found = found_in plan.tasks granted lines

  abbrev figure : ℕ → List ℕ
  figure i = digits_of (at plan.finish i - end_of book i)

  figure-is : (i : ℕ) → i < plan.tasks → early_text (at plan.finish i) (end_of book i) ≡ figure i
  unfolding early_text
  figure-is i l =
      let t = lasts i l in
      let late = not_late plan rule size ok book on i l (started i l) in
      let f = (plan-facts plan ok).task i l in
      rw (le-ltb (at plan.finish i) (end_of book i) (omega (arith, t.1, late, f.lasts)))

  rows : (n : ℕ) → n ≤ plan.tasks → figure_lines plan found n ≡ figure_rows figure n
  unfolding lines_below figure_rows
  rows zero h = refl
  rows (suc n) h =
      let few = (plan-facts plan ok).tasks-to in
      let k : at found.known n ≡ 1 = laid-at plan.tasks _ few n (omega arith) ∙ rw (known n (omega arith)) in
      let e : at found.end n ≡ end_of book n = laid-at plan.tasks _ few n (omega arith) ∙ rw (known n (omega arith)) (says n (omega arith)).ends in
      let line : line_text (digits_of (n + 1) ∷ early_text (at plan.finish n) (at found.end n) ∷ []) ≡ line_text (digits_of (n + 1) ∷ figure n ∷ []) =
      ap (λ (s : List ℕ). line_text (digits_of (n + 1) ∷ s ∷ [])) (ap (early_text (at plan.finish n)) e ∙ figure-is n (omega arith)) in
      let one : cond (eqb (at found.known n) 1) (figure_line plan found n) [] ≡ line_text (digits_of (n + 1) ∷ figure n ∷ []) = rw (eq-eqb (at found.known n) 1 k) line in
      λ i. rows n (omega arith) i ++ one i

  pub figures : judged_text plan found ≡ figure_rows figure plan.tasks ++ line_text (bytes "accepted" ∷ [])
  unfolding judged_text
  figures = ap (λ (s : List ℕ). s ++ line_text (bytes "accepted" ∷ [])) (rows plan.tasks (omega arith))
