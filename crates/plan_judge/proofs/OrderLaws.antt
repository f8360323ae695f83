-- Where no listed task is late for the one that lists it, no pair breaks an after.
use Prim.Native.Nat.{ℕ, ◌+◌, ◌-◌, ◌<◌}
use mathlib.Core.Path.{◌≡◌, refl, sym, ◌∙◌}
use mathlib.Core.Bool.{Bool, true, false, ◌&&◌}
use mathlib.Core.List.{List, [], ◌∷◌}
use native.Mathlib.Nat.{le_refl}
use native.Mathlib.Omega.{arith}
use lib.Dec.{eqb, ltb}
use borrow.Author.Tests.{eqb-true, not-true}
use Rattle.laws.proofs.Cases.{by_bool, by-eq, or_r, true-false}
use Rattle.laws.specs.Every.{every}
use Rattle.laws.proofs.Every.{every-at}
use Rattle.laws.specs.Lists.{any_of}
use Rattle.plan.specs.Pairs.{is_listed}
use Rattle.plan.specs.Value.{at, row, items}
use Rattle.plan.specs.declared.Plan.{Plan}
use Rattle.plan_judge.specs.Private.Arrays.{tasks_of, is_late, row_in_order, breaks_in, PairInOrder, PassedOver}
use Rattle.plan_judge.proofs.PairLaws.{PairsFrom, passed_to, idle-pair}

none-listed : (p : ℕ → Bool) (l : List ℕ) (x : ℕ) → any_of p l ≡ false → p x ≡ true → any_of (eqb x) l ≡ false
unfolding any_of
none-listed p [] x h e = refl
none-listed p (y ∷ l) x h e =
    by_bool (p y) (λ t. true-false refl (rw t at h))
    (λ f. by_bool (eqb x y) (λ q. let z : p y ≡ true = rw (eqb-true x y q) at e in true-false z f) (λ q. rw q (none-listed p l x (rw f at h) e)))

module _ (plan : Plan) where
  row_kept : (a b : ℕ) → row_in_order plan a ≡ true → breaks_in plan a b ≡ false
  unfolding is_listed
  row_kept a b h =
      by_bool (ltb (at plan.begin a) (at plan.finish b))
      (λ late.
      let past : b + 1 - 1 ≡ b = omega arith in
      let hit : is_late plan.finish (at plan.begin a) (b + 1) ≡ true = or_r (ltb 64 (b + 1)) (rw past late) in
      rw late (none-listed (is_late plan.finish (at plan.begin a)) (items (row 64 plan.after a)) (b + 1) (not-true (any_of (is_late plan.finish (at plan.begin a)) (items (row 64 plan.after a))) h) hit))
      (λ early. rw early)

  module _ {ordered : Bool} (e : ordered ≡ every plan.tasks (row_in_order plan)) (a b : ℕ) (la : a < plan.tasks) (lb : b < plan.tasks) where
    pub pair-in-order : PairInOrder plan ordered a b
    pair-in-order t =
        let all = sym e ∙ t in
        (row_kept a b (every-at plan.tasks (row_in_order plan) all a la), row_kept b a (every-at plan.tasks (row_in_order plan) all b lb))

  -- the tasks passed over so far, and one more
  pub none_over : (ordered : Bool) (a b : ℕ) → PassedOver plan ordered a b b
  none_over ordered a b = record { onward = le_refl b; idle = λ j low high. absurd (omega arith) }

  pub one-over : {ordered : Bool} {a b : ℕ} (i : ℕ) → PassedOver plan ordered a b i → i < plan.tasks → ordered ≡ true
      → (ltb (at plan.begin i) (at plan.finish a) && ltb (at plan.begin a) (at plan.finish i)) ≡ false → PassedOver plan ordered a b (i + 1)
  one-over {ordered} {a} {b} i w l o e = record {
    onward = omega (arith, w.onward);
    idle = λ j low high.
        by-eq j i (λ q. rw q (l, o, and-swap (ltb (at plan.begin i) (at plan.finish a)) (ltb (at plan.begin a) (at plan.finish i)) e))
        (λ n. w.idle j low (omega arith));
  }
    where
      and-swap : (x y : Bool) → (x && y) ≡ false → (y && x) ≡ false
      and-swap true true h = h
      and-swap true false h = refl
      and-swap false true h = refl
      and-swap false false h = refl

  -- no pair that is passed over is faulty
  pub passed_over : {ordered : Bool} → ordered ≡ every plan.tasks (row_in_order plan) → (a b r : ℕ) → a < plan.tasks
      → PairsFrom plan.tasks (tasks_of plan) a b → PassedOver plan ordered a b r → PairsFrom plan.tasks (tasks_of plan) a r
  passed_over e a b r la inv w =
      passed_to plan.tasks (tasks_of plan) a b r inv w.onward
      (λ j low high.
      let idle = w.idle j low high in
      let kept = pair-in-order e a j la idle.0 idle.1 in
      (idle.0, idle-pair (tasks_of plan) a j idle.2 kept.0 kept.1))
