-- Each refusal by its condition, what it says besides, and when a log is accepted, both ways.
use Prim.Native.Nat.{ℕ, ◌-◌, ◌≤◌, ◌<◌}
use native.Mathlib.Omega.{arith}
use mathlib.Core.Path.{◌≡◌, refl, sym, ap, ◌∙◌}
use mathlib.Core.Logic.{⊎_elim}
use mathlib.Core.Bool.{true}
use mathlib.Core.List.{List}
use lib.ListN.{length}
use Rattle.laws.proofs.Cases.{true-false}
use Rattle.plan.specs.Answer.{refuse, granted}
use Rattle.plan.specs.Value.{task_at, is_accepted}
use Rattle.plan.specs.declared.Answer.{Answer}
use Rattle.plan.specs.declared.Plan.{Plan}
use Rattle.text.specs.Line.{line_at, field}
use Rattle.school.specs.Lines.{said_in}
use Rattle.school.specs.Tests.{tasks_fault, judged_of}
use Rattle.school.specs.declared.JudgedLog.{JudgedLog}
use Rattle.promises.specs.Ladder.{Ladder}
use Rattle.promises.proofs.Ladder.{First, ladder_of}
use Rattle.promises.proofs.Demand3.{clash-is}
use Rattle.promises_engine.specs.Says.{Some, IsLowest}
use Rattle.book_view.proofs.Accepted.{clash-swap}
use Rattle.promises_school.specs.Lines.{IsThere, HasForm, Once, On, Wrong}
use Rattle.promises_school.specs.Judged.{AcceptedLog, Unformed, Misplaced, Mislong, Sooner, Against, Untimely, task_checks, judge_checks, JudgeSays}
use Rattle.promises_school.proofs.Forms.{digits-one}
use Rattle.promises_school.proofs.Answered.{Fault, Answered, answered}

module _ (plan : Plan) (log : List ℕ) where
  abbrev answer : Answer
  answer = (judged_of plan log).answer

  answer-is : {found : JudgedLog} → judged_of plan log ≡ found → answer ≡ found.answer
  answer-is e = ap (λ (j : JudgedLog). j.answer) e

  code_is : {code first second : ℕ} → answer ≡ refuse code first second → answer.code ≡ code
  code_is e = ap (λ (r : Answer). r.code) e

  -- ---- the order of the checks

  lowest-some : {So : ℕ → Type 0} {i : ℕ} → IsLowest plan.tasks So i → Some plan.tasks So
  lowest-some {So} {i} l = (i, l.task, l.so)

  pair-some : (a b : ℕ) → Against plan log a b → (a : ℕ) × (b : ℕ) × Against plan log a b
  pair-some a b h = (a, b, h)

  line-some : (k : ℕ) → Unformed plan log k → (k : ℕ) × Unformed plan log k
  line-some k u = (k, u)

  not-long : length log ≤ 32768 → 32768 < length log → ⊥
  not-long short long = omega arith

  module _ (ok : is_accepted plan ≡ true) (short : length log ≤ 32768)
      (forms : (k : ℕ) → IsThere log k → HasForm plan.boards plan.tasks log k)
      (is : answer ≡ tasks_fault plan (said_in plan.boards plan.tasks log)) where
    by-fault : Fault plan log ok short forms → First (judge_checks plan log) answer.code
    by-fault f =
        First.past (λ out. true-false ok out)
        (First.past (not-long short) (First.past all-formed (go f)))
      where
        all-formed : (k : ℕ) × Unformed plan log k → ⊥
        all-formed (k, u) = u.1 (forms k u.0)

        go : Fault plan log ok short forms → First (task_checks plan log) answer.code
        go (Fault.fault-24 i l e) = First.here (lowest-some l) (code_is (is ∙ e))
        go (Fault.fault-25 n24 i l e) = First.past n24 (First.here (lowest-some l) (code_is (is ∙ e)))
        go (Fault.fault-26 n24 n25 a b h early e) = First.past n24 (First.past n25 (First.here (pair-some a b h) (code_is (is ∙ e))))
        go (Fault.fault-27 n24 n25 n26 i l e) =
            First.past n24 (First.past n25 (First.past n26 (First.here (lowest-some l) (code_is (is ∙ e)))))
        go (Fault.fine n24 n25 n26 n27 a e) =
            First.past n24 (First.past n25 (First.past n26 (First.past n27 (First.end (code_is (is ∙ e))))))

  first : Answered plan log → First (judge_checks plan log) answer.code
  first (Answered.not-accepted out e) = First.here out (code_is (answer-is e))
  first (Answered.too_long ok long e) = First.past (λ out. true-false ok out) (First.here long (code_is (answer-is e)))
  first (Answered.not-formed ok short k u early e) =
      First.past (λ out. true-false ok out) (First.past (not-long short) (First.here (line-some k u) (code_is (answer-is e))))
  first (Answered.read ok short forms f e) = by-fault ok short forms (answer-is e) f

  pub checks : Ladder (judge_checks plan log) answer.code
  checks = ladder_of (judge_checks plan log) answer.code refl (first (answered plan log))

  -- ---- what is said besides

  pub says : JudgeSays plan log answer
  says = go (answered plan log)
    where
      by :
          {ok : is_accepted plan ≡ true} {short : length log ≤ 32768}
          {forms : (k : ℕ) → IsThere log k → HasForm plan.boards plan.tasks log k}
          → answer ≡ tasks_fault plan (said_in plan.boards plan.tasks log) → Fault plan log ok short forms → JudgeSays plan log answer
      by is (Fault.fault-24 i l e) = JudgeSays.says_24 i l (is ∙ e)
      by is (Fault.fault-25 n24 i l e) = JudgeSays.says_25 i l (is ∙ e)
      by is (Fault.fault-26 n24 n25 a b h early e) = JudgeSays.says_26 a b h early (is ∙ e)
      by is (Fault.fault-27 n24 n25 n26 i l e) = JudgeSays.says_27 i l (is ∙ e)
      by is (Fault.fine n24 n25 n26 n27 a e) = JudgeSays.accepts (is ∙ e)

      go : Answered plan log → JudgeSays plan log answer
      go (Answered.not-accepted out e) = JudgeSays.says_9 (answer-is e)
      go (Answered.too_long ok long e) = JudgeSays.says_1 (answer-is e)
      go (Answered.not-formed ok short k u early e) = JudgeSays.says_23 k u early (answer-is e)
      go (Answered.read ok short forms f e) = by (answer-is e) f

  -- ---- accepted, both ways

  refused-not : {code first second : ℕ} → 0 < code → answer ≡ refuse code first second → answer ≡ granted → ⊥
  refused-not l e g = let z = sym (code_is e) ∙ ap (λ (r : Answer). r.code) g in omega arith

  pub accepted-is : answer ≡ granted → (start : ℕ → ℕ) × (end : ℕ → ℕ) × AcceptedLog plan log start end
  accepted-is g = go (answered plan log)
    where
      by : {ok : is_accepted plan ≡ true} {short : length log ≤ 32768} {forms : (k : ℕ) → IsThere log k → HasForm plan.boards plan.tasks log k}
          → answer ≡ tasks_fault plan (said_in plan.boards plan.tasks log) → Fault plan log ok short forms → (start : ℕ → ℕ) × (end : ℕ → ℕ) × AcceptedLog plan log start end
      by is (Fault.fault-24 i l e) = absurd (refused-not (omega arith) (is ∙ e) g)
      by is (Fault.fault-25 n24 i l e) = absurd (refused-not (omega arith) (is ∙ e) g)
      by is (Fault.fault-26 n24 n25 a b h early e) = absurd (refused-not (omega arith) (is ∙ e) g)
      by is (Fault.fault-27 n24 n25 n26 i l e) = absurd (refused-not (omega arith) (is ∙ e) g)
      by is (Fault.fine n24 n25 n26 n27 a e) = (_, _, a)

      go : Answered plan log → (start : ℕ → ℕ) × (end : ℕ → ℕ) × AcceptedLog plan log start end
      go (Answered.not-accepted out e) = absurd (refused-not (omega arith) (answer-is e) g)
      go (Answered.too_long ok long e) = absurd (refused-not (omega arith) (answer-is e) g)
      go (Answered.not-formed ok short k u early e) = absurd (refused-not (omega arith) (answer-is e) g)
      go (Answered.read ok short forms f e) = by (answer-is e) f

-- one line has one tick
pub once-same : {log word : List ℕ} {task : ℕ} (a b : ℕ) → Once log word task a → Once log word task b → a ≡ b
once-same {log} a b x y =
    digits-one a b (sym x.says ∙ ap (λ (n : ℕ). field (line_at log n) 3) (y.only x.line x.names) ∙ y.says)

-- none of the refusals holds of an accepted log
module _ (plan : Plan) (log : List ℕ) (start end : ℕ → ℕ) (a : AcceptedLog plan log start end) where
  not-wrong : {word : List ℕ} {task tick board : ℕ} → Once log word task tick → On log word task board → Wrong log word task board → ⊥
  not-wrong o on (Wrong.missing f) = f o.line o.names
  not-wrong o on (Wrong.doubled j k l m n) = let x = o.only j m in let y = o.only k n in omega arith
  not-wrong o on (Wrong.elsewhere k n d) = d (on k n)

  not-24 : (i : ℕ) → i < plan.tasks → Misplaced plan log i → ⊥
  not-24 i l = ⊎_elim (not-wrong (a.ran i l).starts (a.boards i l).0) (not-wrong (a.ran i l).ends (a.boards i l).1)

  not-25 : (i : ℕ) → i < plan.tasks → Mislong plan log i → ⊥
  not-25 i l (s, e, r, out) =
      let p = once-same s (start i) r.starts (a.ran i l).starts in
      let q = once-same e (end i) r.ends (a.ran i l).ends in
      let lo = (a.lengths i l).0 in
      let hi = (a.lengths i l).1 in
      let m : e - s ≡ end i - start i = ap (λ (x : ℕ). x - s) q ∙ ap (λ (x : ℕ). end i - x) p in
      ⊎_elim (λ o. absurd (omega arith)) (λ o. absurd (omega arith)) out

  not-sooner : (b c : ℕ) → b < plan.tasks → c < plan.tasks → Sooner plan log b c → ⊥
  not-sooner b c lb lc (clash, order, (tick, until, s, e, l)) =
      let p = once-same tick (start b) s (a.ran b lb).starts in
      let q = once-same until (end c) e (a.ran c lc).ends in
      let other = (clash-is (task_at plan) c b).0 (clash-swap (task_at plan) c b ∙ (clash-is (task_at plan) b c).1 clash) in
      let o = a.order c b lc lb other order in
      absurd (omega arith)

  not-26 : (x y : ℕ) → Against plan log x y → ⊥
  not-26 x y h =
      let l = h.ordered in
      let m = h.task in
      ⊎_elim (not-sooner x y (omega arith) m) (not-sooner y x m (omega arith)) h.so

  not-27 : (i : ℕ) → i < plan.tasks → Untimely plan log i → ⊥
  not-27 i l (s, o, out) =
      let p = once-same s (start i) o (a.ran i l).starts in
      let lo = (a.in_time i l).0 in
      let hi = (a.in_time i l).1 in
      ⊎_elim (λ u. absurd (omega arith)) (λ u. absurd (omega arith)) out

  pub accepted-of : is_accepted plan ≡ true → (judged_of plan log).answer ≡ granted
  accepted-of ok = go (answered plan log)
    where
      by : {ok : is_accepted plan ≡ true} {short : length log ≤ 32768} {forms : (k : ℕ) → IsThere log k → HasForm plan.boards plan.tasks log k}
          → (judged_of plan log).answer ≡ tasks_fault plan (said_in plan.boards plan.tasks log) → Fault plan log ok short forms → (judged_of plan log).answer ≡ granted
      by is (Fault.fault-24 i l e) = absurd (not-24 i l.task l.so)
      by is (Fault.fault-25 n24 i l e) = absurd (not-25 i l.task l.so)
      by is (Fault.fault-26 n24 n25 x y h early e) = absurd (not-26 x y h)
      by is (Fault.fault-27 n24 n25 n26 i l e) = absurd (not-27 i l.task l.so)
      by is (Fault.fine n24 n25 n26 n27 f e) = is ∙ e

      go : Answered plan log → (judged_of plan log).answer ≡ granted
      go (Answered.not-accepted out e) = true-false ok out
      go (Answered.too_long q long e) = let s = a.short in absurd (omega arith)
      go (Answered.not-formed q short k u early e) = absurd (u.1 (a.forms k u.0))
      go (Answered.read q short forms f e) = by (ap (λ (j : JudgedLog). j.answer) e) f
