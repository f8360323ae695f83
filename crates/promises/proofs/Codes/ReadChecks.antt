-- What a text, and a plan handed in as a value, are refused by, in the order of their checks.
use Prim.Native.Nat.{ℕ, ◌+◌, ◌-◌, ◌≤◌, ◌<◌}
use native.Mathlib.Omega.{arith}
use mathlib.Core.Path.{◌≡◌, refl, sym, ap, subst, ◌∙◌}
use mathlib.Core.Logic.{◌≢◌, ◌↔◌, ◌⊎◌, inl, inr, ⊎_elim}
use mathlib.Core.Bool.{Bool, true, not, cond, ◌&&◌}
use mathlib.Core.List.{List, [], ◌∷◌}
use lib.Dec.{eqb, ltb}
use lib.ListN.{length}
use borrow.Author.Tests.{eq-eqb, ne_eqb, eqb-true, lt-ltb, ltb-true, not-true}
use Rattle.laws.specs.Lists.{all_of, same}
use Rattle.laws.proofs.Cases.{by_bool, by-eq, by_le, and_l, and_r, and-of, true-false}
use Rattle.laws.proofs.Lists.{same_refl, same-eq}
use Rattle.laws.proofs.Scan.{Found, Nothing, scan-cases}
use Rattle.text.specs.Bytes.{bytes}
use Rattle.text.specs.Line.{has_line, skip, line_at, fields, field}
use Rattle.text.specs.Number.{is_number, value_of}
use Rattle.text_fields.specs.Faults.{worst, fault_of}
use Rattle.plan.specs.Answer.{granted, is_refused}
use Rattle.plan.specs.Task.{Task}
use Rattle.plan.specs.Pairs.{pair_code, first_fault}
use Rattle.plan.specs.Judged.{begins_at_zero, tasks_answer}
use Rattle.plan.specs.Value.{task_at, ranges_ok, judged_answer}
use Rattle.plan.specs.Read.{ranged, sizes_ok, tasks_of, line_answer, lines_answer, text_task, form_answer, text_answer, read_in}
use Rattle.plan.specs.declared.Answer.{Answer}
use Rattle.plan.specs.declared.Plan.{Plan}
use Rattle.plan.proofs.FirstFault.{FirstPair, Earlier, fault-first, fault-none, refused-code, passed-code}
use Rattle.plan.proofs.Judged.{begins-none, none-begins}
use Rattle.plan.proofs.PlanTasks.{between-of}
use Rattle.plan.proofs.TextLines.{number-range, sizes-test}
use Rattle.plan.proofs.ReadOk.{read_answer}
use Rattle.promises.specs.Says.{codes_of, LineCode}
use Rattle.promises.specs.Ladder.{Ladder}
use Rattle.promises.specs.Checks.{pair_checks, Before, FirstFaulty, PairBy, tasks_checks, plan_checks, AsStated, line_checks, LineBy, reading_checks}
use Rattle.promises.proofs.Ladder.{First, Among, first_by, ladder_of, one_code, among-fresh, first-search}
use Rattle.promises.proofs.Codes.Clashes.{pair-ladder, pair-zero}
use Rattle.promises.proofs.Codes.Columns.{worst-kind}
use Rattle.promises.proofs.Codes.LineChecks.{line-ladder}
use Rattle.promises.proofs.Codes.Pairs.{pair-number, named}

-- ---- the tasks: 17, then pair by pair
module _ (tasks : ℕ) (task : ℕ → Task) where
  -- a first pair by words is the first that is found
  module _ (n a b : ℕ) (big : n ≢ 0) (p : FirstFaulty tasks task n a b) (here : pair_code task (a - 1) (b - 1) ≡ n) where
    same_place : (f : FirstPair tasks task) → pair_code task f.a f.b ≡ n
    same_place f =
        by-eq f.a (a - 1)
        (λ e.
        by-eq f.b (b - 1)
        (λ d. subst (λ (x : ℕ). pair_code task x f.b ≡ n) (sym e) (subst (λ (y : ℕ). pair_code task (a - 1) y ≡ n) (sym d) here))
        (λ d.
        by_le f.b (b - 1) (λ l. sooner (inr (omega (arith, p.from), omega (arith, p.from, p.ordered))))
        (λ l. later (inr (sym e, l)))))
        (λ e. by_le f.a (a - 1) (λ l. sooner (inl (omega (arith, p.from)))) (λ l. later (inl l)))
      where
        sooner : Before (f.a + 1) (f.b + 1) a b → pair_code task f.a f.b ≡ n
        sooner w =
            let q = p.first (f.a + 1) (f.b + 1) (omega arith) (omega (arith, f.ordered)) (omega (arith, f.below)) w in
            let x : f.a + 1 - 1 ≡ f.a = omega arith in
            let y : f.b + 1 - 1 ≡ f.b = omega arith in
            absurd (f.faulty (pair-zero task f.a f.b (rw (x, y) at q)))

        later : Earlier (a - 1) (b - 1) f.a f.b → pair_code task f.a f.b ≡ n
        later w =
            absurd (big (sym here ∙ f.earlier (a - 1) (b - 1) (omega (arith, p.ordered)) (omega (arith, p.to, p.from, p.ordered)) w))

    found-there : (first_fault tasks task).code ≡ n
    found-there =
        by-eq (first_fault tasks task).code 0
        (λ z.
        absurd (big (sym here ∙ (fault-none tasks task).0 z (a - 1) (b - 1) (omega (arith, p.ordered)) (omega (arith, p.to, p.from, p.ordered)))))
        (λ d. let f = fault-first tasks task d in ap (λ (x : Answer). x.code) f.is ∙ same_place f)

  pair-only : (n : ℕ) → Among n (6 ∷ 7 ∷ 8 ∷ []) → PairBy tasks task n → (first_fault tasks task).code ≡ n
  pair-only n among p =
      let a = p.0 - 1 in
      let b = p.1 - 1 in
      found-there n p.0 p.1 (λ z. omega (arith, p.2.number, z)) p.2
      (one_code (pair_checks task a b) (pair_code task a b) n (among-fresh n (pair_checks task a b) among) (pair-ladder task a b) p.2.faulty)

  pair_found : (first_fault tasks task).code ≢ 0 → PairBy tasks task (first_fault tasks task).code × Among (first_fault tasks task).code (6 ∷ 7 ∷ 8 ∷ [])
  pair_found d =
      let f = fault-first tasks task d in
      let is = ap (λ (x : Answer). x.code) f.is in
      ⊎_elim (λ z. absurd (f.faulty z))
      (λ c. (
        (f.a + 1, f.b + 1, subst (λ (n : ℕ). FirstFaulty tasks task n (f.a + 1) (f.b + 1)) (sym is) (named tasks task f c)),
        by-eq (first_fault tasks task).code 6 (λ q. inl q)
            (λ n6.
            by-eq (first_fault tasks task).code 7 (λ q. inr (inl q)) (λ n7. inr (inr (inl (omega (arith, c, is, n6, n7)))))),
      ))
      (pair-number task f.a f.b)

  begins-is : (not (begins_at_zero tasks task) ≡ true) ↔ ((k : ℕ) → k < tasks → (task k).begin ≢ 0)
  begins-is = (
    λ h. begins-none tasks task (not-true (begins_at_zero tasks task) h),
    λ f. ap not (none-begins tasks task f),
  )

  last : (n : ℕ) → n ≡ cond (eqb n 0) 0 n
  last n = by-eq n 0 (λ z. rw (eq-eqb n 0 z) z) (λ d. rw (ne_eqb n 0 d))

  turned : (tasks_answer tasks task).code ≡ cond (not (begins_at_zero tasks task)) 17 (first_fault tasks task).code
  unfolding tasks_answer
  turned = by_bool (begins_at_zero tasks task) (λ e. rw e) (λ e. rw e)

  pub tasks-first : First (tasks_checks tasks task) (tasks_answer tasks task).code
  unfolding all_of
  tasks-first =
      rw turned
      (first_by (not (begins_at_zero tasks task)) _ _ begins-is (λ seventeen.
      rw (last (first_fault tasks task).code)
      (first-search (PairBy tasks task) (first_fault tasks task).code [] 0 (6 ∷ 7 ∷ 8 ∷ []) refl pair-only
      pair_found (λ z. First.end refl))))

-- ---- a plan handed in as a value
judged : (plan : Plan) → (judged_answer plan).code ≡ cond (not (ranges_ok plan)) 9 (tasks_answer plan.tasks (task_at plan)).code
unfolding judged_answer
judged plan = by_bool (ranges_ok plan) (λ e. rw e) (λ e. rw e)

plan-first : (plan : Plan) → First (plan_checks plan) (judged_answer plan).code
plan-first plan =
    rw (judged plan)
    (first_by (not (ranges_ok plan)) _ _ (not-true (ranges_ok plan), λ e. rw e) (λ nine. tasks-first plan.tasks (task_at plan)))

pub plan-ladder : (plan : Plan) → Ladder (plan_checks plan) (judged_answer plan).code
plan-ladder plan = ladder_of (plan_checks plan) (judged_answer plan).code refl (plan-first plan)

-- ---- a text
module _ (mends : Bool) (text : List ℕ) where
  abbrev stated : Bool
  stated = has_line text && sizes_ok mends (line_at text 0)

  abbrev first : ℕ → List ℕ
  first n = field (line_at text 0) n

  -- the first line as stated
  stated-there : stated ≡ true → AsStated mends text
  stated-there h =
      let sizes = sizes-test mends (line_at text 0) (and_r (has_line text) (sizes_ok mends (line_at text 0)) h) in
      let e = number-range (cond mends 2 1) 2 (first 1) (sizes 2 (omega arith)) in
      let b = number-range 1 8 (first 2) (sizes 3 (omega arith)) in
      let t = number-range 1 64 (first 3) (sizes 4 (omega arith)) in
      record {
        line = and_l (has_line text) (sizes_ok mends (line_at text 0)) h;
        count = eqb-true (length (fields (line_at text 0))) 4 (sizes 0 (omega arith));
        word = same-eq (first 0) (bytes "plan") (sizes 1 (omega arith));
        numbers = λ n a b.
            by-eq n 1 (λ q. rw q (and_l (is_number (first 1)) _ (sizes 2 (omega arith))))
            (λ n1.
            by-eq n 2 (λ q. rw q (and_l (is_number (first 2)) _ (sizes 3 (omega arith))))
            (λ n2. let q : n ≡ 3 = omega arith in rw q (and_l (is_number (first 3)) _ (sizes 4 (omega arith)))));
        edition = (e.1, e.2);
        boards = (b.1, b.2);
        tasks = (t.1, t.2);
      }

  stated-back : AsStated mends text → stated ≡ true
  unfolding sizes_ok
  stated-back a =
      let in_range : (low high n : ℕ) → 1 ≤ n → n ≤ 3 → low ≤ value_of (first n) → value_of (first n) ≤ high → ranged low high (first n) ≡ true =
      λ low high n f t l m. and-of (a.numbers n f t) (between-of low high (value_of (first n)) l m) in
      let w : same (first 0) (bytes "plan") ≡ true = rw a.word (same_refl (bytes "plan")) in
      and-of a.line
      (and-of (eq-eqb (length (fields (line_at text 0))) 4 a.count)
      (and-of w
      (and-of (in_range (cond mends 2 1) 2 1 (omega arith) (omega arith) a.edition.0 a.edition.1)
      (and-of (in_range 1 8 2 (omega arith) (omega arith) a.boards.0 a.boards.1)
      (in_range 1 64 3 (omega arith) (omega arith) a.tasks.0 a.tasks.1)))))

  unstated-is : (not stated ≡ true) ↔ (AsStated mends text → ⊥)
  unstated-is = (
    λ h a. true-false (stated-back a) (not-true stated h),
    λ f. by_bool stated (λ e. absurd (f (stated-there e))) (λ e. rw e),
  )

  stated-of : ((AsStated mends text → ⊥) → ⊥) → AsStated mends text
  stated-of f = by_bool stated stated-there (λ e. absurd (f (unstated-is.0 (rw e))))

  line_code : (k : ℕ) → (line_answer mends text k).code ≡ worst (codes_of mends text k)
  unfolding line_answer fault_of
  line_code k = refl

  -- line by line, where the first line is as stated
  module _ (a : AsStated mends text) where
    ladder-at : (k : ℕ) → k ≤ tasks_of text → Ladder (line_checks mends text k) (line_answer mends text k).code
    ladder-at k l =
        subst (Ladder (line_checks mends text k)) (sym (line_code k)) (line-ladder mends text k (omega (arith, a.boards)) (omega (arith, l, a.tasks)))

    line-zero : (j : ℕ) → j ≤ tasks_of text → Ladder (line_checks mends text j) 0 → (line_answer mends text j).code ≡ 0
    line-zero j l z = one_code (line_checks mends text j) (line_answer mends text j).code 0 refl (ladder-at j l) z

    abbrev numbers : List ℕ
    numbers = 3 ∷ 4 ∷ 20 ∷ 18 ∷ []

    abbrev Searched : Type 0
    Searched = Found is_refused granted (line_answer mends text) 1 (tasks_of text + 1) ⊎ Nothing is_refused granted (line_answer mends text) 1 (tasks_of text + 1)

    line-only : (n : ℕ) → Among n numbers → LineBy mends text n → (lines_answer mends text).code ≡ n
    unfolding lines_answer
    line-only n among l = go (scan-cases is_refused granted (line_answer mends text) 1 (tasks_of text + 1))
      where
        here : (line_answer mends text l.k).code ≡ n
        here =
            one_code (line_checks mends text l.k) (line_answer mends text l.k).code n (among-fresh n (line_checks mends text l.k) among)
            (ladder-at l.k l.to) l.faulty

        big : n ≢ 0
        big z = ⊎_elim (λ e. omega arith) (⊎_elim (λ e. omega arith) (⊎_elim (λ e. omega arith) (⊎_elim (λ e. omega arith) (λ e. e)))) among

        go : Searched → (lines_answer mends text).code ≡ n
        go (inl f) =
            let is = ap (λ (x : Answer). x.code) f.is in
            by-eq f.place l.k (λ e. is ∙ ap (λ (x : ℕ). (line_answer mends text x).code) e ∙ here)
            (λ d.
            by_le f.place l.k
            (λ lt. absurd (refused-code (line_answer mends text f.place) f.stops (line-zero f.place (omega (arith, f.below)) (l.first f.place f.from (omega arith)))))
            (λ lt. absurd (big (sym here ∙ passed-code (line_answer mends text l.k) (f.first l.k l.from lt)))))
        go (inr f) = absurd (big (sym here ∙ passed-code (line_answer mends text l.k) (f.passed l.k l.from (omega (arith, l.to)))))

    line-found : (lines_answer mends text).code ≢ 0 → LineBy mends text (lines_answer mends text).code × Among (lines_answer mends text).code numbers
    unfolding lines_answer
    line-found d = go (scan-cases is_refused granted (line_answer mends text) 1 (tasks_of text + 1))
      where
        kind : {code : ℕ} → LineCode code → Among code numbers
        kind = ⊎_elim (λ e. inl e) (⊎_elim (λ e. inr (inl e)) (⊎_elim (λ e. inr (inr (inl e))) (λ e. inr (inr (inr (inl e))))))

        go : Searched → LineBy mends text (lines_answer mends text).code × Among (lines_answer mends text).code numbers
        go (inl f) =
            let is = ap (λ (x : Answer). x.code) f.is in
            let n : worst (codes_of mends text f.place) ≢ 0 = λ z. d (is ∙ line_code f.place ∙ z) in (
              record {
                k = f.place;
                from = f.from;
                to = omega (arith, f.below);
                faulty = subst (Ladder (line_checks mends text f.place)) (sym is) (ladder-at f.place (omega (arith, f.below)));
                first = λ j p h.
                    subst (Ladder (line_checks mends text j)) (passed-code (line_answer mends text j) (f.first j p h)) (ladder-at j (omega (arith, f.below, h)));
              },
              subst (λ (c : ℕ). Among c numbers) (sym (is ∙ line_code f.place)) (kind (worst-kind (codes_of mends text f.place) n)),
            )
        go (inr f) = absurd (d (ap (λ (x : Answer). x.code) f.is))

  abbrev more : Bool
  more = ltb 0 (length (skip (tasks_of text + 1) text))

  text-is :
      (text_answer mends text).code
      ≡ cond (ltb 32768 (length text)) 1
      (cond (not stated) 2
      (cond (eqb (lines_answer mends text).code 0) (cond more 5 (tasks_answer (tasks_of text) (text_task mends text)).code) (lines_answer mends text).code))
  unfolding text_answer form_answer
  text-is =
      by_bool (ltb 32768 (length text)) (λ a. rw a)
      (λ a.
      by_bool stated
      (λ b.
      by_bool (eqb (lines_answer mends text).code 0)
      (λ c. by_bool more (λ d. rw (a, b, c, d)) (λ d. rw (a, b, c, d)))
      (λ c. rw (a, b, c, c)))
      (λ b. rw (a, b)))

  reading-first : First (reading_checks mends text) (read_in mends text).answer.code
  unfolding all_of
  reading-first =
      rw (ap (λ (x : Answer). x.code) (read_answer mends text) ∙ text-is)
      (first_by (ltb 32768 (length text)) _ _ (ltb-true 32768 (length text), lt-ltb 32768 (length text)) (λ one.
      first_by (not stated) _ _ unstated-is (λ two.
      first-search (LineBy mends text) (lines_answer mends text).code _ _ (numbers (stated-of two)) refl (line-only (stated-of two)) (line-found (stated-of two)) (λ z.
      first_by more _ _ (ltb-true 0 (length (skip (tasks_of text + 1) text)), lt-ltb 0 (length (skip (tasks_of text + 1) text))) (λ five.
      tasks-first (tasks_of text) (text_task mends text))))))

  pub reading-ladder : Ladder (reading_checks mends text) (read_in mends text).answer.code
  reading-ladder = ladder_of (reading_checks mends text) (read_in mends text).answer.code refl reading-first
