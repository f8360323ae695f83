-- Minimum early is what the document says: the least of its terms, and 0 where there is none.
use mathlib.Core.Path.{◌≡◌}
use mathlib.Core.Logic.{◌≢◌, ⊎_elim}
use mathlib.Core.Bool.{true, not, ◌||◌}
use Prim.Native.Nat.{ℕ, ◌-◌, ◌≤◌, ◌<◌}
use native.Mathlib.Omega.{arith}
use borrow.Author.Tests.{eq-eqb, eqb-true, eqb-false, ne_eqb, leb-true, le-leb, lt-leb, not-true}
use Rattle.laws.proofs.Cases.{by_bool, by_le, or_at, and_l, and_r}
use Rattle.laws.proofs.Least.{has-least, least-none, least-or-is, least-or-under}
use Rattle.theory.specs.Plan.{Plan}
use Rattle.theory.specs.Book.{Book, waiting, running, is_dropped}
use Rattle.theory.specs.Figure.{has_begun, early_by, counts, minimum_early}

-- a term of M: of a task that runs and whose start the clock has reached, and of one, not dropped, whose start lies after the clock
-- or is not known
pub data Term (plan : Plan) (book : Book) (i early : ℕ) : Type 0 where
  begun : book.mark i ≡ 1 → book.start i ≤ book.clock → early ≡ plan.begin i - book.start i → Term plan book i early
  ahead :
      book.mark i ≡ 1 → book.clock < book.start i → book.dropped i ≢ 1 → early ≡ plan.begin i - plan.ready i
      → Term plan book i early
  waits : book.mark i ≡ 0 → book.dropped i ≢ 1 → early ≡ plan.begin i - plan.ready i → Term plan book i early

module _ (plan : Plan) (book : Book) where
  module _ (i : ℕ) where
    early-begun : book.mark i ≡ 1 → book.start i ≤ book.clock → early_by plan book i ≡ plan.begin i - book.start i
    early-begun m q = rw (eq-eqb (book.mark i) 1 m, le-leb (book.start i) book.clock q)

    early-ahead : book.mark i ≡ 1 → book.clock < book.start i → early_by plan book i ≡ plan.begin i - plan.ready i
    early-ahead m q = rw (eq-eqb (book.mark i) 1 m, lt-leb (book.start i) book.clock q)

    early-waits : book.mark i ≡ 0 → early_by plan book i ≡ plan.begin i - plan.ready i
    early-waits m = rw (ne_eqb (book.mark i) 1 (omega arith))

    -- whoever counts has its term
    term-counts : (early : ℕ) → Term plan book i early → (counts book i ≡ true) × (early ≡ early_by plan book i)
    term-counts early (Term.begun m q e) =
        (rw (eq-eqb (book.mark i) 1 m, le-leb (book.start i) book.clock q), omega (arith, early-begun m q))
    term-counts early (Term.ahead m q o e) = (
      rw (eq-eqb (book.mark i) 1 m, lt-leb (book.start i) book.clock q, ne_eqb (book.dropped i) 1 o),
      omega (arith, early-ahead m q),
    )
    term-counts early (Term.waits m o e) = (
      rw (ne_eqb (book.mark i) 1 (omega arith), eq-eqb (book.mark i) 0 m, ne_eqb (book.dropped i) 1 o),
      omega (arith, early-waits m),
    )

    not_yet :
        book.dropped i ≢ 1 → (running book.mark i || waiting book.mark i) ≡ true → Term plan book i (early_by plan book i)
    not_yet o h =
        ⊎_elim
        (λ r.
        let m = eqb-true (book.mark i) 1 r in
        by_le (book.start i) book.clock (λ q. Term.begun m q (early-begun m q)) (λ q. Term.ahead m q o (early-ahead m q)))
        (λ w. let m = eqb-true (book.mark i) 0 w in Term.waits m o (early-waits m))
        (or_at (running book.mark i) (waiting book.mark i) h)

    counts-term : counts book i ≡ true → Term plan book i (early_by plan book i)
    counts-term h =
        ⊎_elim
        (λ b.
        let m = eqb-true (book.mark i) 1 (and_l _ _ b) in
        let q = leb-true (book.start i) book.clock (and_r (running book.mark i) _ b) in
        Term.begun m q (early-begun m q))
        (λ w.
        not_yet (eqb-false (book.dropped i) 1 (not-true _ (and_l _ _ w))) (and_r (not (is_dropped book.dropped i)) _ w))
        (or_at (has_begun book i) _ h)

  pub figure-least : (i : ℕ) → i < plan.tasks → (early : ℕ) → Term plan book i early → minimum_early plan book ≤ early
  unfolding minimum_early
  figure-least i l early t =
      let c = term-counts i early t in
      let u = least-or-under plan.tasks (counts book) (early_by plan book) 0 i l c.0 in
      rw c.1 u

  -- it is one of its terms
  pub figure-met :
      (k : ℕ) → k < plan.tasks → (early : ℕ) → Term plan book k early
      → (i : ℕ) × (i < plan.tasks) × Term plan book i (minimum_early plan book)
  unfolding minimum_early
  figure-met k l early t =
      let m = has-least plan.tasks (counts book) (early_by plan book) k l (term-counts k early t).0 in (
        m.who,
        m.below,
        rw (least-or-is plan.tasks (counts book) (early_by plan book) 0 m.who m.below m.picked m.least-of)
            (counts-term m.who m.picked),
      )

  pub figure-none : ((i : ℕ) → i < plan.tasks → (early : ℕ) → Term plan book i early → ⊥) → minimum_early plan book ≡ 0
  unfolding minimum_early
  figure-none idle =
      rw (least-none plan.tasks (counts book) (early_by plan book) (λ i l.
      by_bool (counts book i) (λ h. absurd (idle i l (early_by plan book i) (counts-term i h))) (λ h. h)))
