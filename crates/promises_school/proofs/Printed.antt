-- What is printed: a line for each task that has one start and one end, then the verdict.
use Prim.Native.Nat.{ℕ, zero, suc, ◌+◌, ◌-◌, ◌≤◌, ◌<◌}
use native.Mathlib.Omega.{arith}
use mathlib.Core.Path.{◌≡◌, refl, sym, ap, subst, ◌∙◌}
use mathlib.Core.Logic.{◌≢◌, ◌⊎◌, inl, inr, ⊎_elim}
use mathlib.Core.Bool.{true, not}
use mathlib.Core.List.Memᴰ
use mathlib.Core.List.{List, [], ◌∷◌, ◌++◌, append-nil, Memᴰ}
use lib.Dec.{eqb}
use borrow.Author.Tests.{eq-eqb, ne_eqb, le-ltb, lt-ltb, eqb-false, not-true}
use Rattle.laws.proofs.Cases.{by-eq, by_le, and_l, and_r, and-of}
use Rattle.laws.proofs.Lists.{all_append}
use Rattle.laws.proofs.Split.{free}
use Rattle.laws.specs.Digits.{digits_of}
use Rattle.laws.specs.Lists.{all_of}
use Rattle.laws.specs.Split.{join_on}
use Rattle.text.specs.Line.{TAB, LF, lines_below}
use Rattle.text.proofs.Numerals.{digits-free}
use Rattle.plan.specs.Answer.{refuse, granted}
use Rattle.plan.specs.Read.{reading_of}
use Rattle.plan.specs.Value.{at}
use Rattle.plan.specs.declared.Answer.{Answer}
use Rattle.plan.specs.declared.Plan.{Plan}
use Rattle.log_write.specs.Lines.{refused_line}
use Rattle.school.specs.Lines.{MINUS}
use Rattle.school.specs.Tests.{judged_of}
use Rattle.school.specs.Text.{early_text, figure_line, figure_lines, verdict_line, judged_text, judged_log}
use Rattle.school.specs.declared.JudgedLog.{JudgedLog}
use Rattle.promises.proofs.Demand2.{reading-accepted}
use Rattle.promises_school.specs.Judged.{AcceptedLog, JudgeSays, Unread, Finds, Difference, Figures, Verdict, Prints, PrintsOf}
use Rattle.promises_school.proofs.Arrays.{finds}
use Rattle.promises_school.proofs.Checked.{says, accepted-is, once-same}

difference : (planned tick : ℕ) → Difference planned tick (early_text planned tick)
unfolding early_text
difference planned tick =
    by_le tick planned
    (λ l. Difference.early l (rw (le-ltb planned tick l)))
    (λ l. Difference.late l (rw (lt-ltb planned tick l)))

module _ (plan : Plan) (judged : JudgedLog) (n : ℕ) where
  line-told : at judged.known n ≡ 1 → figure_lines plan judged (suc n) ≡ figure_lines plan judged n ++ figure_line plan judged n
  unfolding lines_below
  line-told k = rw (eq-eqb (at judged.known n) 1 k)

  line-untold : at judged.known n ≢ 1 → figure_lines plan judged (suc n) ≡ figure_lines plan judged n
  unfolding lines_below
  line-untold k = rw (ne_eqb (at judged.known n) 1 k) (append-nil (figure_lines plan judged n))

-- no line where nothing is found
quiet : (plan : Plan) (judged : JudgedLog) (n : ℕ) → ((i : ℕ) → at judged.known i ≡ 0) → figure_lines plan judged n ≡ []
unfolding lines_below
quiet plan judged zero none = refl
quiet plan judged (suc n) none = line-untold plan judged n (λ k. let z = none n in absurd (omega arith)) ∙ quiet plan judged n none

figures :
    (plan : Plan) (log : List ℕ) (judged : JudgedLog) → Finds plan log judged → (Unread judged.answer → ⊥) → (n : ℕ) → n ≤ plan.tasks
    → Figures plan log n (figure_lines plan judged n)
unfolding lines_below
figures plan log judged f read zero l = Figures.nobody
figures plan log judged f read (suc n) l =
    let before = figures plan log judged f read n (omega arith) in
    by-eq (at judged.known n) 1
    (λ k.
    subst (Figures plan log (suc n)) (sym (line-told plan judged n k))
    (Figures.told before (at judged.start n) (at judged.end n) (f.known read n (omega arith) k)
    (early_text (at plan.finish n) (at judged.end n)) (difference (at plan.finish n) (at judged.end n))))
    (λ k.
    subst (Figures plan log (suc n)) (sym (line-untold plan judged n k))
    (Figures.untold before (λ s e r. k (f.told read n (omega arith) s e r))))

module _ (plan : Plan) (log : List ℕ) where
  abbrev judged : JudgedLog
  judged = judged_of plan log

  -- an answer of code 0 says nothing besides
  granted-code : judged.answer.code ≡ 0 → judged.answer ≡ granted
  granted-code z = go (says plan log)
    where
      refused : {code first second : ℕ} → 0 < code → judged.answer ≡ refuse code first second → ⊥
      refused l e = let q = sym z ∙ ap (λ (r : Answer). r.code) e in omega arith

      go : JudgeSays plan log judged.answer → judged.answer ≡ granted
      go (JudgeSays.says_9 e) = absurd (refused (omega arith) e)
      go (JudgeSays.says_1 e) = absurd (refused (omega arith) e)
      go (JudgeSays.says_23 k u early e) = absurd (refused (omega arith) e)
      go (JudgeSays.says_24 i l e) = absurd (refused (omega arith) e)
      go (JudgeSays.says_25 i l e) = absurd (refused (omega arith) e)
      go (JudgeSays.says_26 a b h early e) = absurd (refused (omega arith) e)
      go (JudgeSays.says_27 i l e) = absurd (refused (omega arith) e)
      go (JudgeSays.accepts e) = e

  verdict : Verdict judged.answer (verdict_line judged.answer)
  verdict =
      by-eq judged.answer.code 0
      (λ z. Verdict.accepted (granted-code z) (rw (eq-eqb judged.answer.code 0 z)))
      (λ n. Verdict.refused n (rw (ne_eqb judged.answer.code 0 n)))

  refused-line : judged.answer.code ≢ 0 → verdict_line judged.answer ≡ refused_line judged.answer
  refused-line n = rw (ne_eqb judged.answer.code 0 n)

  unread-code : Unread judged.answer → judged.answer.code ≢ 0
  unread-code u z = ⊎_elim (λ e. absurd (omega arith)) (⊎_elim (λ e. absurd (omega arith)) (λ e. absurd (omega arith))) u

  unread-or : Unread judged.answer ⊎ (Unread judged.answer → ⊥)
  unread-or =
      by-eq judged.answer.code 9 (λ e. inl (inl e))
      (λ a.
      by-eq judged.answer.code 1 (λ e. inl (inr (inl e)))
      (λ b. by-eq judged.answer.code 23 (λ e. inl (inr (inr e))) (λ c. inr (⊎_elim a (⊎_elim b c)))))

  pub prints : Prints plan log judged.answer (judged_text plan judged)
  unfolding judged_text
  prints =
      let f = finds plan log in
      ⊎_elim
      (λ u. Prints.alone u (rw (quiet plan judged plan.tasks (f.unread u)) (refused-line (unread-code u))))
      (λ r.
      Prints.read r (figure_lines plan judged plan.tasks) (verdict_line judged.answer) (figures plan log judged f r plan.tasks (omega arith)) verdict refl)
      unread-or

pub prints-of : (plan log : List ℕ) → PrintsOf plan log (judged_log plan log)
unfolding judged_log
prints-of plan log =
    by-eq (reading_of plan).answer.code 0
    (λ z.
    PrintsOf.judged z (reading-accepted plan z)
    (rw (eq-eqb (reading_of plan).answer.code 0 z) (prints (reading_of plan).plan log)))
    (λ n. PrintsOf.plan_refused n (rw (ne_eqb (reading_of plan).answer.code 0 n)))

-- ---- no `-` where nobody is late

free-none : (c : ℕ) (s : List ℕ) → free c s ≡ true → Memᴰ c s → ⊥
unfolding all_of
free-none c [] h m = Memᴰ.not-nil m
free-none c (b ∷ s) h m =
    ⊎_elim
    (λ e. eqb-false b c (not-true (eqb b c) (and_l (not (eqb b c)) (free c s) h)) (sym e))
    (λ t. free-none c s (and_r (not (eqb b c)) (free c s) h) t)
    (Memᴰ.cases_cons m)

free-append : (c : ℕ) (s t : List ℕ) → free c s ≡ true → free c t ≡ true → free c (s ++ t) ≡ true
free-append c s t a b = all_append (λ x. not (eqb x c)) s t ∙ and-of a b

module _ (plan : Plan) (judged : JudgedLog)
    (in_time : (i : ℕ) → i < plan.tasks → at judged.known i ≡ 1 → at judged.end i ≤ at plan.finish i) where
  line-free : (i : ℕ) → i < plan.tasks → at judged.known i ≡ 1 → free MINUS (figure_line plan judged i) ≡ true
  unfolding join_on all_of early_text
  line-free i l k =
      rw (le-ltb (at plan.finish i) (at judged.end i) (in_time i l k))
      (free-append MINUS (digits_of (i + 1) ++ (TAB ∷ digits_of (at plan.finish i - at judged.end i))) (LF ∷ [])
      (free-append MINUS (digits_of (i + 1)) (TAB ∷ digits_of (at plan.finish i - at judged.end i)) (digits-free MINUS (i + 1) (omega arith))
      (digits-free MINUS (at plan.finish i - at judged.end i) (omega arith)))
      refl)

  lines-free : (n : ℕ) → n ≤ plan.tasks → free MINUS (figure_lines plan judged n) ≡ true
  unfolding lines_below all_of
  lines-free zero l = refl
  lines-free (suc n) l =
      by-eq (at judged.known n) 1
      (λ k.
      ap (free MINUS) (line-told plan judged n k)
      ∙ free-append MINUS (figure_lines plan judged n) (figure_line plan judged n) (lines-free n (omega arith)) (line-free n (omega arith) k))
      (λ k. ap (free MINUS) (line-untold plan judged n k) ∙ lines-free n (omega arith))

-- an accepted log ends nothing late
pub ends_by : (plan : Plan) (log : List ℕ) (start end : ℕ → ℕ) → AcceptedLog plan log start end → (i : ℕ) → i < plan.tasks → end i ≤ at plan.finish i
ends_by plan log start end a i l =
    let lo = (a.lengths i l).0 in
    let hi = (a.lengths i l).1 in
    let t = (a.in_time i l).1 in
    omega arith

module _ (plan : Plan) (log : List ℕ) (g : (judged_of plan log).answer ≡ granted) where
  read : Unread (judged_of plan log).answer → ⊥
  read u = unread-code plan log u (ap (λ (r : Answer). r.code) g)

  found-by : (i : ℕ) → i < plan.tasks → at (judged_of plan log).known i ≡ 1 → at (judged_of plan log).end i ≤ at plan.finish i
  found-by i l k =
      let a = accepted-is plan log g in
      let r = (finds plan log).known read i l k in
      let e = once-same (at (judged_of plan log).end i) (a.1 i) r.ends (a.2.ran i l).ends in
      let b = ends_by plan log a.0 a.1 a.2 i l in
      omega arith

  pub no_minus : Memᴰ MINUS (judged_text plan (judged_of plan log)) → ⊥
  unfolding judged_text all_of join_on
  no_minus =
      free-none MINUS (judged_text plan (judged_of plan log))
      (free-append MINUS (figure_lines plan (judged_of plan log) plan.tasks) (verdict_line (judged_of plan log).answer)
      (lines-free plan (judged_of plan log) found-by plan.tasks (omega arith))
      (rw g))
