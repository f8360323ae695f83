-- A chain link by link: where planned starts fall it has links enough, whatever else a plan and a book say.
use mathlib.Core.Path.{◌≡◌, refl, sym, ap, ◌∙◌}
use mathlib.Core.Bool.{true, false}
use mathlib.Core.List.{List, [], ◌∷◌}
use Prim.Native.Nat.{ℕ, zero, suc, ◌≤◌, ◌<◌}
use native.Mathlib.Omega.{arith}
use lib.Dec.{ltb}
use lib.ListN.{length}
use borrow.Author.Tests.{lt-ltb, le-ltb, ltb-true}
use Rattle.laws.specs.Private.Count.{count}
use Rattle.laws.proofs.Cases.{by_bool}
use Rattle.laws.proofs.Count.{count-lt, count-all}
use Rattle.theory.specs.Plan.{Plan}
use Rattle.theory.specs.Book.{Book}
use Rattle.theory.proofs.Facts.{Lawful}
use Rattle.theory.specs.Chain.{cause, stops_at, chain_to, chain_of}
use Rattle.theory.proofs.Cause.{cause-of}

-- whoever is waited for is planned to start sooner
pub record Falls (plan : Plan) : Type 0 where
  pub sooner : (i j : ℕ) → i < plan.tasks → j < plan.tasks → plan.waits i j ≡ true → plan.begin j < plan.begin i

-- it lasts, and is planned to finish by then
pub lawful-falls : (plan : Plan) → Lawful plan → Falls plan
lawful-falls plan law = record { sooner = λ i j li lj w. let b = law.before i j li lj w in let p = law.lasts j lj in omega arith }

pub chain_length : (n : ℕ) (plan : Plan) (book : Book) (i : ℕ) → length (chain_to n plan book i) ≤ n
unfolding chain_to
chain_length zero plan book i = omega arith
chain_length (suc n) plan book i =
    by_bool (stops_at plan book i)
    (λ t. rw t (omega arith))
    (λ f. rw f (let l = chain_length n plan book (cause plan book i) in omega arith))

module _ (plan : Plan) (book : Book) where
  pub last-link : (n i : ℕ) → 0 < n → stops_at plan book i ≡ true → chain_to n plan book i ≡ i ∷ []
  unfolding chain_to
  last-link zero i l t = absurd (omega arith)
  last-link (suc n) i l t = rw t

  link-more : (n i : ℕ) → stops_at plan book i ≡ false → chain_to (suc n) plan book i ≡ i ∷ chain_to n plan book (cause plan book i)
  unfolding chain_to
  link-more n i f = rw f

  -- how many are planned to start before it
  unfoldable before : ℕ → ℕ
  before i = count plan.tasks (λ j. ltb (plan.begin j) (plan.begin i))

  before_falls : (i c : ℕ) → c < plan.tasks → plan.begin c < plan.begin i → before c < before i
  unfolding before
  before_falls i c l h =
      count-lt plan.tasks (λ j. ltb (plan.begin j) (plan.begin i)) (λ j. ltb (plan.begin j) (plan.begin c))
      (λ j k t. let s = ltb-true (plan.begin j) (plan.begin c) t in lt-ltb (plan.begin j) (plan.begin i) (omega arith))
      c l (lt-ltb (plan.begin c) (plan.begin i) h) (le-ltb (plan.begin c) (plan.begin c) (omega arith))

  before_small : (i : ℕ) → i < plan.tasks → before i < plan.tasks
  unfolding before
  before_small i l =
      let a = count-all plan.tasks (λ j. true) in
      let b = count-lt plan.tasks (λ j. true) (λ j. ltb (plan.begin j) (plan.begin i)) (λ j k t. refl) i l refl (le-ltb (plan.begin i) (plan.begin i) (omega arith)) in
      omega arith

  module _ (falls : Falls plan) where
    -- a cause is planned to start before the task it let go
    pub cause-sooner : (i : ℕ) → i < plan.tasks → stops_at plan book i ≡ false → plan.begin (cause plan book i) < plan.begin i
    cause-sooner i l f = let c = cause-of plan book i f in falls.sooner i (cause plan book i) l c.task c.held

    fuel : (n m i : ℕ) → before i < n → before i < m → i < plan.tasks → chain_to n plan book i ≡ chain_to m plan book i
    fuel zero m i a b l = absurd (omega arith)
    fuel (suc n) zero i a b l = absurd (omega arith)
    fuel (suc n) (suc m) i a b l =
        by_bool (stops_at plan book i)
        (λ t. last-link (suc n) i (omega arith) t ∙ sym (last-link (suc m) i (omega arith) t))
        (λ f.
        let c = cause-of plan book i f in
        let s = before_falls i (cause plan book i) c.task (cause-sooner i l f) in
        link-more n i f
        ∙ ap (λ (rest : List ℕ). i ∷ rest) (fuel n m (cause plan book i) (omega arith) (omega arith) c.task)
        ∙ sym (link-more m i f))

    pub chain-last : (i : ℕ) → i < plan.tasks → stops_at plan book i ≡ true → chain_of plan book i ≡ i ∷ []
    chain-last i l t = last-link plan.tasks i (omega arith) t

    pub chain-on : (i : ℕ) → i < plan.tasks → stops_at plan book i ≡ false → chain_of plan book i ≡ i ∷ chain_of plan book (cause plan book i)
    chain-on i l f =
        let c = cause-of plan book i f in
        let s = before_falls i (cause plan book i) c.task (cause-sooner i l f) in
        let small = before_small i l in
        fuel plan.tasks (suc plan.tasks) i small (omega arith) l ∙ link-more plan.tasks i f
