-- The figures of an accepted log by its tasks are those of its `end` lines, in another order.
use Prim.Native.Nat.{ℕ, zero, suc, ◌+◌, ◌-◌, ◌≤◌, ◌<◌}
use mathlib.Core.Path.{◌≡◌, refl, sym, ap, ◌∙◌}
use mathlib.Core.Bool.{Bool, true, false, cond, ◌&&◌}
use mathlib.Core.List.{List, [], ◌∷◌, Permᴰ}
use native.Mathlib.Omega.{arith}
use lib.Dec.{eqb, leb}
use borrow.Author.Tests.{eq-eqb, ne_eqb, eqb-true, leb-true, le-leb, lt-leb}
use Rattle.laws.specs.Lists.{all_of}
use Rattle.laws.specs.Split.{split_on}
use Rattle.laws.proofs.Cases.{by_bool, by-eq, by_le, and_l, and_r, and-of, implies-at}
use Rattle.text.specs.Line.{LF}
use Rattle.text_fields.specs.Items.{between}
use Rattle.plan.specs.Value.{at}
use Rattle.plan.specs.declared.Plan.{Plan}
use Rattle.book_view.proofs.Laid.{laid-at}
use Rattle.school.specs.Lines.{said_in}
use Rattle.school.specs.Tasks.{is_start, is_end, how_many, first_of, is_known, end_in}
use Rattle.school.specs.Tests.{judged_of}
use Rattle.school.specs.declared.JudgedLog.{JudgedLog}
use Rattle.school.specs.Said.{LogLine}
use Rattle.year_rules.specs.Figures.{figures_on}
use Rattle.promises_year.specs.Year.{Morning, is_taken, lines_of, on_board, is_end_line, ends_of}
use Rattle.promises_year.proofs.Accepted.{LogTaken, end_ok, ends-of-plan, log-taken}

module _ (plan : Plan) (number : ℕ) where
  -- planned finish less logged end
  abbrev figure : LogLine → ℕ
  figure said = at plan.finish (said.end - 1) - said.tick

  abbrev counts : LogLine → Bool
  counts said = is_end_line said && on_board number said

  -- of the `end` lines of the tasks up to number n
  unfoldable ends_to : ℕ → List LogLine → List ℕ
  ends_to n [] = []
  ends_to n (said ∷ lines) = cond (leb said.end n && counts said) (figure said ∷ ends_to n lines) (ends_to n lines)

  within : (boards n : ℕ) (said : LogLine) → end_ok boards n said ≡ true → leb said.end n ≡ true
  within boards n said h =
      by-eq said.end 0
      (λ z. le-leb said.end n (omega arith))
      (λ s.
      let t = between 1 n said.end in
      let line : is_end_line said ≡ true = rw (ne_eqb said.end 0 s) in
      and_r (leb 1 said.end) (leb said.end n) (and_l t (between 1 boards said.board) (implies-at (is_end_line said) _ h line)))

  ends-all : (boards n : ℕ) (lines : List LogLine) → all_of (end_ok boards n) lines ≡ true → ends_to n lines ≡ ends_of (on_board number) plan lines
  unfolding ends_to ends_of all_of
  ends-all boards n [] h = refl
  ends-all boards n (said ∷ lines) h =
      let l = within boards n said (and_l (end_ok boards n said) (all_of (end_ok boards n) lines) h) in
      let r = ends-all boards n lines (and_r (end_ok boards n said) (all_of (end_ok boards n) lines) h) in
      rw (l, r)

  ends-none : (lines : List LogLine) → ends_to 0 lines ≡ []
  unfolding ends_to
  ends-none [] = refl
  ends-none (said ∷ lines) =
      by-eq said.end 0
      (λ e. rw (eq-eqb said.end 0 e, le-leb said.end 0 (omega arith)) (ends-none lines))
      (λ e. rw (lt-leb said.end 0 (omega (arith, e))) (ends-none lines))

  near : (n : ℕ) (said : LogLine) → (said.end ≡ n + 1 → ⊥) → leb said.end (suc n) ≡ leb said.end n
  near n said e =
      by_le said.end n
      (λ l. le-leb said.end (suc n) (omega arith) ∙ sym (le-leb said.end n l))
      (λ l. lt-leb said.end (suc n) (omega (arith, e)) ∙ sym (lt-leb said.end n l))

  -- no line says the end of task n, from 0
  ends_same : (n : ℕ) (lines : List LogLine) → how_many (is_end n) lines ≡ 0 → ends_to (suc n) lines ≡ ends_to n lines
  unfolding ends_to how_many
  ends_same n [] h = refl
  ends_same n (said ∷ lines) h =
      by-eq said.end (n + 1)
      (λ e. absurd (let h' : 1 + how_many (is_end n) lines ≡ 0 = rw (eq-eqb said.end (n + 1) e) at h in omega arith))
      (λ e.
      let h' : 0 + how_many (is_end n) lines ≡ 0 = rw (ne_eqb said.end (n + 1) e) at h in
      rw (near n said e, ends_same n lines (omega arith)))

  -- the figure of the first line that says it, put in front
  abbrev with_first : ℕ → List LogLine → List ℕ → List ℕ
  with_first n lines l =
      let first = first_of (is_end n) lines in cond (on_board number first) ((at plan.finish n - first.tick) ∷ l) l

  first-here :
      (n : ℕ) (said : LogLine) (lines : List LogLine) → said.end ≡ n + 1 → how_many (is_end n) lines ≡ 0
      → ends_to (suc n) (said ∷ lines) ≡ with_first n (said ∷ lines) (ends_to n (said ∷ lines))
  unfolding ends_to first_of
  first-here n said lines e h =
      let m : said.end - 1 ≡ n = omega arith in
      rw (
        eq-eqb said.end (n + 1) e,
        le-leb said.end (suc n) (omega arith),
        lt-leb said.end n (omega arith),
        ne_eqb said.end 0 (λ z. omega arith),
        m,
        ends_same n lines h,
      )

  ends-one : (n : ℕ) (lines : List LogLine) → how_many (is_end n) lines ≡ 1 → Permᴰ (ends_to (suc n) lines) (with_first n lines (ends_to n lines))
  unfolding ends_to how_many first_of
  ends-one n [] h = absurd (omega arith)
  ends-one n (said ∷ lines) h =
      by-eq said.end (n + 1)
      (λ e.
      let h' : 1 + how_many (is_end n) lines ≡ 1 = rw (eq-eqb said.end (n + 1) e) at h in
      rw (first-here n said lines e (omega arith)) (mathlib.Core.List.Permᴰ.refl _))
      (λ e.
      let h' : 0 + how_many (is_end n) lines ≡ 1 = rw (ne_eqb said.end (n + 1) e) at h in
      let r = ends-one n lines (omega arith) in
      rw (near n said e, ne_eqb said.end (n + 1) e) (more (leb said.end n && counts said) (figure said) (on_board number (first_of (is_end n) lines)) _ (ends_to (suc n) lines) (ends_to n lines) r))
    where
      more :
          (in-front : Bool) (x : ℕ) (b : Bool) (y : ℕ) (k l : List ℕ) → Permᴰ k (cond b (y ∷ l) l)
          → Permᴰ (cond in-front (x ∷ k) k) (cond b (y ∷ cond in-front (x ∷ l) l) (cond in-front (x ∷ l) l))
      more true x true y k l r = mathlib.Core.List.Permᴰ.trans (mathlib.Core.List.Permᴰ.cons refl r) (mathlib.Core.List.Permᴰ.swap refl refl)
      more true x false y k l r = mathlib.Core.List.Permᴰ.cons refl r
      more false x b y k l r = r

  -- the tasks below n, and the `end` lines that say their ends
  tasks-ends :
      (board end : List ℕ) (lines : List LogLine) (tasks : ℕ)
      → ((i : ℕ) → i < tasks → (how_many (is_end i) lines ≡ 1) × (at board i ≡ (first_of (is_end i) lines).board) × (at end i ≡ end_in lines i))
      → (n : ℕ) → n ≤ tasks → Permᴰ (figures_on number board plan.finish end n) (ends_to n lines)
  unfolding figures_on
  tasks-ends board end lines tasks each zero l = rw (ends-none lines) (mathlib.Core.List.Permᴰ.refl [])
  tasks-ends board end lines tasks each (suc n) l =
      let r = tasks-ends board end lines tasks each n (omega arith) in
      let f = each n (omega arith) in
      let first : Permᴰ (figures_on number board plan.finish end (suc n)) (with_first n lines (ends_to n lines)) =
      rw (f.1, f.2) (grown (on_board number (first_of (is_end n) lines)) _ r) in
      mathlib.Core.List.Permᴰ.trans first (mathlib.Core.List.Permᴰ.symm (ends-one n lines f.0))
    where
      grown : (b : Bool) (x : ℕ) {k l : List ℕ} → Permᴰ k l → Permᴰ (cond b (x ∷ k) k) (cond b (x ∷ l) l)
      grown true x r = mathlib.Core.List.Permᴰ.cons refl r
      grown false x r = r

-- a board's figures by tasks, and by lines
pub by_lines :
    (plan : Plan) (log : List ℕ) → LogTaken plan log (said_in plan.boards plan.tasks log) → (number : ℕ)
    → Permᴰ (figures_on number plan.board plan.finish (judged_of plan log).end plan.tasks)
    (ends_of (on_board number) plan (said_in plan.boards plan.tasks log))
by_lines plan log taken number =
    let lines = said_in plan.boards plan.tasks log in
    let few = taken.facts.tasks-to in
    let end = (judged_of plan log).end in
    let found = ap (λ (j : JudgedLog). j.end) taken.found in
    let tick : ℕ → ℕ = λ i. cond (is_known lines i) (end_in lines i) 0 in
    rw (← ends-all plan number plan.boards plan.tasks lines (ends-of-plan plan.boards plan.tasks true (split_on LF log)))
    (tasks-ends plan number plan.board end lines plan.tasks
    (λ i l.
    let t = taken.task i l in (
      eqb-true _ 1 (and_r (eqb (how_many (is_start i) lines) 1) (eqb (how_many (is_end i) lines) 1) t.known),
      sym (eqb-true _ _ (and_r (eqb (first_of (is_start i) lines).board (at plan.board i)) (eqb (first_of (is_end i) lines).board (at plan.board i)) t.on)),
      ap (λ (l : List ℕ). at l i) found ∙ laid-at plan.tasks tick few i l ∙ (rw t.known),
    ))
    plan.tasks (omega arith))

-- ---- no figure is negative

module _ (finish : List ℕ) (boards tasks : ℕ) where
  -- the `end` lines of a task: at most one, and that one by plan
  abbrev ByPlan : List LogLine → Type 0
  ByPlan lines =
      (i : ℕ) → i < tasks → (how_many (is_end i) lines ≤ 1) × (how_many (is_end i) lines ≡ 1 → (first_of (is_end i) lines).tick ≤ at finish i)

  abbrev is_by_plan : LogLine → Bool
  is_by_plan said = cond (is_end_line said) (leb said.tick (at finish (said.end - 1))) true

  rest-by-plan : (said : LogLine) (lines : List LogLine) → ByPlan (said ∷ lines) → ByPlan lines
  unfolding how_many first_of
  rest-by-plan said lines h i l =
      by_bool (is_end i said)
      (λ e.
      let few : 1 + how_many (is_end i) lines ≤ 1 = rw e at (h i l).0 in
      (omega arith, λ one. absurd (omega arith)))
      (λ e.
      let few : 0 + how_many (is_end i) lines ≤ 1 = rw e at (h i l).0 in
      let is : 0 + how_many (is_end i) lines ≡ 1 → (first_of (is_end i) lines).tick ≤ at finish i = rw e at (h i l).1 in
      (omega arith, λ one. is (omega arith)))

  here-by-plan : (said : LogLine) (lines : List LogLine) → end_ok boards tasks said ≡ true → ByPlan (said ∷ lines) → is_by_plan said ≡ true
  unfolding how_many first_of
  here-by-plan said lines ok h =
      by_bool (is_end_line said)
      (λ e.
      let t = between 1 tasks said.end in
      let in-plan = and_l t (between 1 boards said.board) (implies-at (is_end_line said) _ ok e) in
      let low = leb-true 1 said.end (and_l (leb 1 said.end) (leb said.end tasks) in-plan) in
      let high = leb-true said.end tasks (and_r (leb 1 said.end) (leb said.end tasks) in-plan) in
      let i = said.end - 1 in
      let mine : is_end i said ≡ true = eq-eqb said.end (i + 1) (omega arith) in
      let facts = h i (omega arith) in
      let few : 1 + how_many (is_end i) lines ≤ 1 = rw mine at facts.0 in
      let is : 1 + how_many (is_end i) lines ≡ 1 → said.tick ≤ at finish i = rw mine at facts.1 in
      rw e (le-leb said.tick (at finish i) (is (omega arith))))
      (λ e. rw e)

  all-by-plan : (lines : List LogLine) → all_of (end_ok boards tasks) lines ≡ true → ByPlan lines → all_of is_by_plan lines ≡ true
  unfolding all_of
  all-by-plan [] ok h = refl
  all-by-plan (said ∷ lines) ok h =
      and-of (here-by-plan said lines (and_l (end_ok boards tasks said) (all_of (end_ok boards tasks) lines) ok) h)
      (all-by-plan lines (and_r (end_ok boards tasks said) (all_of (end_ok boards tasks) lines) ok) (rest-by-plan said lines h))

pub never-negative :
    (m : Morning) → is_taken m ≡ true
    → all_of (λ said. cond (is_end_line said) (leb said.tick (at m.plan.finish (said.end - 1))) true) (lines_of m) ≡ true
never-negative m h =
    let plan = m.plan in
    let taken = log-taken plan m.log h in
    all-by-plan plan.finish plan.boards plan.tasks (lines_of m) (ends-of-plan plan.boards plan.tasks true (split_on LF m.log))
    (λ i l.
    let t = taken.task i l in
    let one : how_many (is_end i) (lines_of m) ≡ 1 = eqb-true _ 1 (and_r (eqb (how_many (is_start i) (lines_of m)) 1) (eqb (how_many (is_end i) (lines_of m)) 1) t.known) in
    (omega arith, λ z. t.by-plan))
