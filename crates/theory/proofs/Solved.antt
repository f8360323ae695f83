-- The two lines have one solution, and using them as often as there are tasks finds it.
use mathlib.Core.Path.{◌≡◌, refl, sym, ◌∙◌}
use mathlib.Core.Bool.{true}
use Prim.Native.Nat.{ℕ, zero, suc, ◌<◌}
use native.Mathlib.Omega.{arith}
use lib.Dec.{ltb}
use borrow.Author.Tests.{lt-ltb, le-ltb, ltb-true}
use Rattle.laws.specs.Private.Count.{count}
use Rattle.laws.proofs.Count.{count-lt, count-all}
use Rattle.laws.proofs.Latest.{latest-same}
use Rattle.theory.specs.Plan.{Plan}
use Rattle.theory.specs.Book.{due}
use Rattle.theory.proofs.Facts.{Lawful}
use Rattle.theory.specs.Times.{start_from, ends_by, end_time, start_time}
use Rattle.theory.specs.Words.Lines.{TwoLines}

-- a start looks only at the ends of those that are waited for
pub start-same :
    (plan : Plan) (dropped end other : ℕ → ℕ) (i : ℕ)
    → ((j : ℕ) → j < plan.tasks → plan.waits i j ≡ true → end j ≡ other j)
    → start_from plan dropped end i ≡ start_from plan dropped other i
start-same plan dropped end other i same =
    let e : due plan end i ≡ due plan other i = latest-same plan.tasks _ _ _ _ (λ j l. refl) same in
    rw e

module _ (plan : Plan) (law : Lawful plan) where
  -- whoever is waited for is planned to start sooner
  pub sooner : (i j : ℕ) → i < plan.tasks → j < plan.tasks → plan.waits i j ≡ true → plan.begin j < plan.begin i
  sooner i j li lj w = let b = law.before i j li lj w in let p = law.lasts j lj in omega arith

  -- how many tasks are planned to start sooner
  before : ℕ → ℕ
  before i = count plan.tasks (λ j. ltb (plan.begin j) (plan.begin i))

  fewer : (i j : ℕ) → j < plan.tasks → plan.begin j < plan.begin i → before j < before i
  unfolding before
  fewer i j lj s =
      count-lt plan.tasks (λ x. ltb (plan.begin x) (plan.begin i)) (λ x. ltb (plan.begin x) (plan.begin j))
      (λ x l h. let q = ltb-true (plan.begin x) (plan.begin j) h in lt-ltb (plan.begin x) (plan.begin i) (omega arith))
      j lj (lt-ltb (plan.begin j) (plan.begin i) s) (le-ltb (plan.begin j) (plan.begin j) (omega arith))

  not-all : (i : ℕ) → i < plan.tasks → before i < plan.tasks
  unfolding before
  not-all i l =
      let f =
      count-lt plan.tasks (λ x. true) (λ x. ltb (plan.begin x) (plan.begin i)) (λ x lx h. refl) i l refl
      (le-ltb (plan.begin i) (plan.begin i) (omega arith)) in
      let a = count-all plan.tasks (λ x. true) in
      omega arith

  module _ (length dropped : ℕ → ℕ) where
    -- used more often than tasks start sooner, the lines give the same end
    settled :
        (n m i : ℕ) → i < plan.tasks → before i < n → before i < m
        → ends_by n plan length dropped i ≡ ends_by m plan length dropped i
    unfolding ends_by
    settled zero m i l a b = absurd (omega arith)
    settled (suc n) zero i l a b = absurd (omega arith)
    settled (suc n) (suc m) i l a b =
        let s =
        start-same plan dropped (ends_by n plan length dropped) (ends_by m plan length dropped) i (λ j lj w.
        let f = fewer i j lj (sooner i j l lj w) in
        settled n m j lj (omega arith) (omega arith)) in
        rw s

    pub solves : TwoLines plan length dropped (start_time plan length dropped) (end_time plan length dropped)
    unfolding ends_by
    solves = record {
      starts = λ i l. refl;
      ends = λ i l. let b = not-all i l in settled plan.tasks (suc plan.tasks) i l b (omega arith);
    }

    -- by induction on the planned start
    module _ (start end from to : ℕ → ℕ) (this : TwoLines plan length dropped start end)
        (that : TwoLines plan length dropped from to) where
      same_end : (n i : ℕ) → plan.begin i < n → i < plan.tasks → end i ≡ to i
      same_end zero i f l = absurd (omega arith)
      same_end (suc n) i f l =
          let s : start i ≡ from i =
          this.starts i l
          ∙ start-same plan dropped end to i (λ j lj w. let q = sooner i j l lj w in same_end n j (omega arith) lj)
          ∙ sym (that.starts i l) in
          let e = this.ends i l in
          let g = that.ends i l in
          e ∙ rw s (sym g)

      pub one_end : (i : ℕ) → i < plan.tasks → end i ≡ to i
      one_end i l = same_end (suc (plan.begin i)) i (omega arith) l

      pub one-start : (i : ℕ) → i < plan.tasks → start i ≡ from i
      one-start i l =
          this.starts i l ∙ start-same plan dropped end to i (λ j lj w. one_end j lj) ∙ sym (that.starts i l)

    -- it is the only solution
    module _ (start end : ℕ → ℕ) (lines : TwoLines plan length dropped start end) where
      pub only-starts : (i : ℕ) → i < plan.tasks → start i ≡ start_time plan length dropped i
      only-starts = one-start start end (start_time plan length dropped) (end_time plan length dropped) lines solves

      pub only-ends : (i : ℕ) → i < plan.tasks → end i ≡ end_time plan length dropped i
      only-ends = one_end start end (start_time plan length dropped) (end_time plan length dropped) lines solves
