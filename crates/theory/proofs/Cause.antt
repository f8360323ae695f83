-- What a cause is, and when a chain goes on to it.
use mathlib.Core.Path.{◌≡◌, ap}
use mathlib.Core.Logic.{◌≢◌, ⊎_elim}
use mathlib.Core.Bool.{Bool, true, false, not, ◌&&◌}
use Prim.Native.Nat.{ℕ, ◌≤◌, ◌<◌}
use native.Mathlib.Omega.{arith}
use lib.Dec.{eqb, ltb}
use borrow.Author.Tests.{eqb-true, eqb-false, eq-eqb, ne_eqb, ltb-false, not-false}
use Rattle.laws.specs.Every.{any}
use Rattle.laws.proofs.Cases.{by_bool, true-false, and_l, and_r, and-of, or_no}
use Rattle.laws.proofs.Every.{any_of, any_at}
use Rattle.laws.proofs.Latest.{latest-over, latest-met}
use Rattle.laws.proofs.Scan.{scan-cases}
use Rattle.theory.specs.Plan.{Plan}
use Rattle.theory.specs.Book.{Book, is_dropped, due}
use Rattle.theory.specs.Chain.{cause, stops_at}

-- of those it waited for with the latest end, the lowest number
pub record Caused (plan : Plan) (book : Book) (i c : ℕ) : Type 0 where
  pub task : c < plan.tasks
  pub held : plan.waits i c ≡ true
  pub latest : book.end c ≡ due plan book.end i
  pub lowest : (j : ℕ) → j < c → plan.waits i j ≡ true → book.end j ≢ due plan book.end i

-- where a chain goes on
pub record GoesOn (plan : Plan) (book : Book) (i : ℕ) : Type 0 where
  pub later : book.start i ≢ 0
  pub ready : book.dropped i ≢ 1 → plan.ready i ≤ due plan book.end i
  pub somebody : any plan.tasks (plan.waits i) ≡ true

module _ (plan : Plan) (book : Book) (i : ℕ) where
  abbrev w : ℕ → Bool
  w = plan.waits i

  abbrev d : ℕ
  d = due plan book.end i

  abbrev hit : ℕ → Bool
  hit j = w j && eqb (book.end j) d

  -- one of them has the latest end
  some-latest : (k : ℕ) → k < plan.tasks → w k ≡ true → (j : ℕ) × (j < plan.tasks) × (hit j ≡ true)
  some-latest k l h =
      ⊎_elim
      (λ z. let o = latest-over plan.tasks w book.end k l h in (k, l, and-of h (eq-eqb (book.end k) d (omega arith))))
      (λ r. (r.0, r.1, and-of r.2 (eq-eqb (book.end r.0) d r.3)))
      (latest-met plan.tasks w book.end)

  pub cause-is : any plan.tasks w ≡ true → Caused plan book i (cause plan book i)
  unfolding cause
  cause-is some =
      let a = any_at plan.tasks w some in
      let m = some-latest a.0 a.1 a.2 in
      ⊎_elim
      (λ f.
      rw f.is
      (record {
        task = f.below;
        held = and_l _ _ f.stops;
        latest = eqb-true _ _ (and_r (w f.place) _ f.stops);
        lowest = λ j l h e. true-false (and-of h (eq-eqb (book.end j) d e)) (f.first j (omega arith) l);
      }))
      (λ n. true-false m.2 (n.passed m.0 (omega arith) m.1))
      (scan-cases hit plan.tasks (λ j. j) 0 plan.tasks)

  pub cause-none : plan.tasks ≤ cause plan book i → any plan.tasks w ≡ false
  cause-none h =
      by_bool (any plan.tasks w) (λ some. let l = (cause-is some).task in absurd (omega arith)) (λ e. e)

  pub cause-some : cause plan book i < plan.tasks → any plan.tasks w ≡ true
  unfolding cause
  cause-some h =
      ⊎_elim
      (λ f. any_of plan.tasks w f.place f.below (and_l _ _ f.stops))
      (λ n. let e = n.is in absurd (omega arith))
      (scan-cases hit plan.tasks (λ j. j) 0 plan.tasks)

  pub goes_on : stops_at plan book i ≡ false → GoesOn plan book i
  unfolding stops_at
  goes_on h =
      let a = or_no (eqb (book.start i) 0) _ h in
      let b = or_no (not (is_dropped book.dropped i) && ltb d (plan.ready i)) _ a.1 in
      record {
        later = eqb-false (book.start i) 0 a.0;
        ready = λ n.
            by_bool (ltb d (plan.ready i))
            (λ t. true-false (and-of (ap not (ne_eqb (book.dropped i) 1 n)) t) b.0)
            (λ f. ltb-false d (plan.ready i) f);
        somebody = not-false _ b.1;
      }

  pub cause-of : stops_at plan book i ≡ false → Caused plan book i (cause plan book i)
  cause-of h = cause-is (goes_on h).somebody
