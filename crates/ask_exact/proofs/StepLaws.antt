-- The walks of the one-step figure, turn by turn.
use Prim.Native.Nat.{ℕ, ◌+◌, ◌-◌, ◌≤◌, ◌<◌, min, max}
use native.Mathlib.Numerals.{add-one}
use native.Mathlib.Omega.{arith}
use mathlib.Core.Bool.{Bool, true, false, cond}
use mathlib.Core.List.{List, []}
use mathlib.Core.Option.{none, some}
use mathlib.Core.Option as math
use mathlib.Core.Path.{◌≡◌, refl, sym, ap, ◌∙◌}
use lib.ListN.{length}
use lib.Dec.{eqb}
use Rattle.std.specs.Prelude.{Option, Some, None, unwrap_or}
use Rattle.laws.specs.Bits.{has}
use Rattle.laws.specs.Picked.{latest, least}
use Rattle.laws.proofs.Latest.{latest-same, latest-turn}
use Rattle.laws.proofs.Least.{least_under, least-same}
use Rattle.plan.specs.Value.{at}
use Rattle.book_view.specs.View.{laid}
use Rattle.book_view.proofs.Laid.{laid-at}
use Rattle.book_view.proofs.Short.{at-past}
use Rattle.theory.specs.Exact.{not_started, latest_end, step_start, step_early}
use Rattle.book.specs.View.{book_view}
use Rattle.book.specs.declared.Book.{Book}
use Rattle.ask_exact.specs.Step.{handed, plan_by}
use Rattle.ask_exact.specs.Private.Step.{early_step}

-- the latest so far
module _ (n : ℕ) (w : ℕ → Bool) (e : ℕ → ℕ) {last : ℕ} (h : last ≡ latest n w e) where
  pub latest-taken : w n ≡ true → max last (e n) ≡ latest (n + 1) w e
  latest-taken t = rw (latest-turn n w e, t, h)

  pub latest-passed : w n ≡ false → last ≡ latest (n + 1) w e
  latest-passed f = h ∙ (let z : latest (n + 1) w e ≡ max (latest n w e) 0 = latest-turn n w e ∙ rw f in omega (arith, z))

-- the least so far
module _ (w : ℕ → Bool) (f : ℕ → ℕ) where
  pub least-first : None ≡ handed (least 0 w f)
  unfolding least
  least-first = refl

  lesser : (o : math.Option ℕ) (x : ℕ) → Some (min (unwrap_or (handed o) x) x) ≡ handed (some (elim o [ none ↦ x | some v ↦ min v x ]))
  lesser none x = let z : min x x ≡ x = omega arith in ap (λ (m : ℕ). Some m) z
  lesser (some v) x = refl

  module _ (n : ℕ) {found : Option ℕ} (e : found ≡ handed (least n w f)) where
    more : w n ≡ true → some (elim (least n w f) [ none ↦ f n | some v ↦ min v (f n) ]) ≡ least (n + 1) w f
    unfolding least
    more h = rw (add-one, h)

    less : w n ≡ false → least n w f ≡ least (n + 1) w f
    unfolding least
    less h = rw (add-one, h)

    pub least-taken : w n ≡ true → Some (min (unwrap_or found (f n)) (f n)) ≡ handed (least (n + 1) w f)
    least-taken h = rw e (lesser (least n w f) (f n)) ∙ ap handed (more h)

    pub least-passed : w n ≡ false → found ≡ handed (least (n + 1) w f)
    least-passed h = e ∙ ap handed (less h)

-- the figure of tasks that may lack a place
module _ (book : Book) (waits : List ℕ) {n : ℕ} (e : n ≡ min book.tasks (length book.mark)) where
  abbrev figure : Option ℕ
  figure = handed (step_early (plan_by book waits) (book_view book))

  -- one that lacks it waits, and is planned at 0
  pub figure-short : length book.begin ≡ length book.mark → n < book.tasks → Some 0 ≡ figure
  unfolding step_early
  figure-short same h =
      let plan = plan_by book waits in
      let seen = book_view book in
      let j = length book.mark in
      let m = at-past book.mark j (omega arith) in
      let b = at-past book.begin j (omega arith) in
      let u = least_under book.tasks (not_started seen) (λ i. plan.begin i - step_start plan seen i) j (omega arith) (rw m) in
      let z : u.0 ≡ 0 = omega (arith, u.2) in
      sym (ap handed (u.1 ∙ ap some z))

  module _ (few : length book.mark ≡ 64) {ends : List ℕ} (d : ends ≡ laid n (latest_end (plan_by book []) (book_view book))) where
    due-same : (i : ℕ) → latest n (has (at waits i)) (at ends) ≡ latest n (has (at waits i)) (latest_end (plan_by book waits) (book_view book))
    due-same i =
        latest-same n _ _ _ _ (λ j l. refl)
        (λ j l h. ap (λ (a : List ℕ). at a j) d ∙ laid-at n (latest_end (plan_by book []) (book_view book)) (omega arith) j l)

    figure-all : book.tasks ≤ n → book.tasks ≡ n
    figure-all h = omega arith

    pub figure-of :
        {r : Option ℕ} → book.tasks ≤ n → r ≡ handed (least n (not_started (book_view book)) (early_step book waits ends n)) → r ≡ figure
    unfolding step_early
    figure-of h q =
        q
        ∙ ap handed (least-same n _ _ _ (λ i l. ap (λ (x : ℕ). at book.begin i - max (cond (eqb (at book.dropped i) 1) 0 (at book.ready i)) x) (due-same i)))
        ∙ ap (λ (k : ℕ). handed (least k (not_started (book_view book)) (λ i. at book.begin i - max (cond (eqb (at book.dropped i) 1) 0 (at book.ready i)) (latest k (has (at waits i)) (latest_end (plan_by book waits) (book_view book)))))) (sym (figure-all h))
