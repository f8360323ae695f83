-- The starts and ends of the tasks that are done, and who may be done next.
use Prim.Native.Nat.{ℕ, ◌+◌, ◌%◌, ◌^◌, ◌≤◌, ◌<◌, max}
use native.Mathlib.Nat.{mod-eq_of_lt}
use native.Mathlib.Omega.{arith}
use mathlib.Core.Path.{◌≡◌, refl, sym, ap, ◌∙◌}
use mathlib.Core.Logic.{◌≢◌, ⊎_elim}
use mathlib.Core.Bool.{Bool, true, false, not, cond, ◌&&◌, ◌||◌}
use mathlib.Core.List.{List}
use lib.Bits.{bit_and, bit_or}
use lib.Dec.{eqb}
use Rattle.std.specs.Prelude.{None}
use lib.ListN.{length, set, replicate, length-set}
use lib.Seq.{get_or-set_same, get_or-set_other}
use borrow.Author.Tests.{eq-eqb, eqb-true, not-true}
use Rattle.laws.proofs.Cases.{by_bool, by-eq, true-false, and_l, and_r, and-of, or_l, or_r, or_at}
use Rattle.laws.specs.Bits.{has}
use Rattle.laws.proofs.Bits.{has-and, has-or, has-none, has-bit, same_bits}
use Rattle.laws.specs.Picked.{latest}
use Rattle.laws.proofs.Latest.{latest-same}
use Rattle.laws.proofs.Least.{has-least, Least}
use Rattle.laws.specs.Private.Count.{count}
use Rattle.laws.proofs.Count.{count-lt}
use Rattle.theory.specs.Plan as theory-plan
use Rattle.theory.specs.Times.{start_time, end_time}
use Rattle.plan.specs.Value.{at}
use Rattle.book_view.specs.View.{laid}
use Rattle.book_view.proofs.Laid.{laid-is, length-zeros, at-zeros}
use Rattle.engine.specs.Private.Worked.{plan_timed, is_free, FreeTask, Solvable}

-- the search for a task that is free
module _ (waits : List ℕ) (done tasks : ℕ) where
  abbrev pub NoneTo : ℕ → Type 0
  NoneTo n = (i : ℕ) → i < n → is_free waits done i ≡ false

  -- what a free task is
  pub free-undone : (i : ℕ) → is_free waits done i ≡ true → has done i ≡ false
  free-undone i f = not-true (has done i) (and_l _ _ f)

  pub free-waits : (i j : ℕ) → is_free waits done i ≡ true → has (at waits i) j ≡ true → has done j ≡ true
  free-waits i j f w =
      let e = eqb-true (bit_and (at waits i) done) (at waits i) (and_r (not (has done i)) _ f) in
      let both : (has (at waits i) j && has done j) ≡ true = sym (has-and (at waits i) done j) ∙ ap (λ (s : ℕ). has s j) e ∙ w in
      and_r (has (at waits i) j) _ both

-- one more is done
module _ (done k : ℕ) {bit : ℕ} (low : k < 64) (is : bit ≡ 2 ^ (k % 64)) where
  one_more : (j : ℕ) → has (bit_or done bit) j ≡ (has done j || eqb k j)
  one_more j =
      has-or done bit j ∙ ap (λ (x : ℕ). has done j || has x j) (is ∙ ap (λ (x : ℕ). 2 ^ x) (mod-eq_of_lt low)) ∙ ap (λ (b : Bool). has done j || b) (has-bit k j)

  pub done-stays : (j : ℕ) → has done j ≡ true → has (bit_or done bit) j ≡ true
  done-stays j h = one_more j ∙ or_l (eqb k j) h

  pub done-now : has (bit_or done bit) k ≡ true
  done-now = one_more k ∙ or_r (has done k) (eq-eqb k k refl)

  pub done-only : (j : ℕ) → j ≢ k → has (bit_or done bit) j ≡ true → has done j ≡ true
  done-only j n h =
      ⊎_elim (λ d. d) (λ e. absurd (n (sym (eqb-true k j e)))) (or_at (has done j) (eqb k j) (sym (one_more j) ∙ h))

-- the tasks that are left
abbrev pub undone : ℕ → ℕ → Bool
undone done j = not (has done j)

pub fewer-left :
    (tasks done k : ℕ) {bit : ℕ} → k < 64 → bit ≡ 2 ^ (k % 64) → k < tasks → has done k ≡ false
    → count tasks (undone (bit_or done bit)) < count tasks (undone done)
fewer-left tasks done k low is l f =
    count-lt tasks (undone done) (undone (bit_or done _))
    (λ j lj h. by_bool (has done j) (λ d. true-false (done-stays done k low is j d) (not-true _ h)) (λ n. rw n))
    k l (rw f) (rw (done-now done k low is))

module _ (tasks : ℕ) (ready waits lasts dropped : List ℕ) where
  abbrev plan : theory-plan.Plan
  plan = plan_timed tasks ready waits

  -- those that are done have their start and end, and places past the tasks hold nothing
  pub record Timed (done : ℕ) (start end : List ℕ) : Type 0 where
    pub start-size : length start ≡ 64
    pub end-size : length end ≡ 64
    pub starts : (j : ℕ) → j < tasks → has done j ≡ true → at start j ≡ start_time plan (at lasts) (at dropped) j
    pub ends : (j : ℕ) → j < tasks → has done j ≡ true → at end j ≡ end_time plan (at lasts) (at dropped) j
    pub no_start : (j : ℕ) → tasks ≤ j → at start j ≡ 0
    pub no_end : (j : ℕ) → tasks ≤ j → at end j ≡ 0

  pub timed-first : Timed 0 (replicate 64 0) (replicate 64 0)
  timed-first = record {
    start-size = length-zeros;
    end-size = length-zeros;
    starts = λ j l h. true-false h (has-none j);
    ends = λ j l h. true-false h (has-none j);
    no_start = λ j l. at-zeros j;
    no_end = λ j l. at-zeros j;
  }

  module _ (good : Solvable tasks ready waits lasts dropped) (done : ℕ) (start end : List ℕ) (timed : Timed done start end) where
    module _ (k : ℕ) (l : k < tasks) (free : is_free waits done k ≡ true) where
      -- all that it waits for are done, so what they come to is known
      pub start-known :
          {due from : ℕ} → due ≡ latest tasks (has (at waits k)) (at end)
          → from ≡ cond (eqb (at dropped k) 1) due (max (at ready k) due) → from ≡ start_time plan (at lasts) (at dropped) k
      start-known {due} {from} d f =
          let e : due ≡ latest tasks (has (at waits k)) (end_time plan (at lasts) (at dropped)) =
          d ∙ latest-same tasks _ _ _ _ (λ j lj. refl) (λ j lj w. timed.ends j lj (free-waits waits done tasks k j free w)) in
          f ∙ ap (λ (x : ℕ). cond (eqb (at dropped k) 1) x (max (at ready k) x)) e

      pub end_known_lem :
          {from : ℕ} → from ≡ start_time plan (at lasts) (at dropped) k
          → from + cond (eqb (at dropped k) 1) 0 (at lasts k) ≡ end_time plan (at lasts) (at dropped) k
      end_known_lem f = ap (λ (x : ℕ). x + cond (eqb (at dropped k) 1) 0 (at lasts k)) f ∙ sym (good.lines.ends k l)

      pub end-small : {from : ℕ} → from ≡ start_time plan (at lasts) (at dropped) k → from + cond (eqb (at dropped k) 1) 0 (at lasts k) ≤ 1000000
      end-small f = rw (end_known_lem f) (good.small k l)

      pub timed-more :
          {bit from to : ℕ} → bit ≡ 2 ^ (k % 64) → from ≡ start_time plan (at lasts) (at dropped) k
          → to ≡ end_time plan (at lasts) (at dropped) k → Timed (bit_or done bit) (set start k from) (set end k to)
      timed-more {bit} {from} {to} b f t = record {
        start-size = length-set start k from ∙ timed.start-size;
        end-size = length-set end k to ∙ timed.end-size;
        starts = λ j lj h.
            by-eq j k
            (λ e. rw e (get_or-set_same start k from 0 (omega (arith, good.few, timed.start-size)) ∙ f))
            (λ n. get_or-set_other start k j from 0 n ∙ timed.starts j lj (done-only done k low b j n h));
        ends = λ j lj h.
            by-eq j k
            (λ e. rw e (get_or-set_same end k to 0 (omega (arith, good.few, timed.end-size)) ∙ t))
            (λ n. get_or-set_other end k j to 0 n ∙ timed.ends j lj (done-only done k low b j n h));
        no_start = λ j lj. get_or-set_other start k j from 0 (λ q. absurd (omega arith)) ∙ timed.no_start j lj;
        no_end = λ j lj. get_or-set_other end k j to 0 (λ q. absurd (omega arith)) ∙ timed.no_end j lj;
      }
        where
          low : k < 64
          low = omega (arith, good.few)

    -- of those left one is planned first, and whomever it waits for is done
    module _ (m : Least tasks (undone done) good.planned) where
      covered : (j : ℕ) → (has (at waits m.who) j && has done j) ≡ has (at waits m.who) j
      covered j =
          by_bool (has (at waits m.who) j)
          (λ w.
          let l = good.within m.who j m.below w in
          by_bool (has done j) (λ d. rw (w, d))
          (λ n.
          let s = good.sooner m.who j m.below l w in
          let o = m.least-of j l (rw n) in
          absurd (omega arith)))
          (λ w. rw w)

      first-free : is_free waits done m.who ≡ true
      first-free =
          and-of m.picked
          (eq-eqb (bit_and (at waits m.who) done) (at waits m.who) (same_bits _ _ (λ j. has-and (at waits m.who) done j ∙ covered j)))

    -- so where nobody is free all are done
    all_done : ((i : ℕ) → i < tasks → is_free waits done i ≡ false) → (j : ℕ) → j < tasks → has done j ≡ true
    all_done none j l =
        by_bool (has done j) (λ d. d)
        (λ n.
        let m = has-least tasks (undone done) good.planned j l (rw n) in
        true-false (first-free m) (none m.who m.below))

    module _ (none : FreeTask waits done tasks None) where
      pub starts-laid : start ≡ laid tasks (start_time plan (at lasts) (at dropped))
      starts-laid =
          laid-is tasks _ start good.few timed.start-size (λ j l. timed.starts j l (all_done none j l)) timed.no_start

      pub ends-laid : end ≡ laid tasks (end_time plan (at lasts) (at dropped))
      ends-laid = laid-is tasks _ end good.few timed.end-size (λ j l. timed.ends j l (all_done none j l)) timed.no_end
