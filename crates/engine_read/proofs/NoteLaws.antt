-- The arrays are what the lines say.
use Prim.Native.Nat.{ℕ, ◌+◌, ◌-◌, ◌≤◌, ◌<◌}
use mathlib.Core.Path.{◌≡◌, refl, sym, ap, ◌∙◌}
use mathlib.Core.Logic.{◌≢◌}
use mathlib.Core.Bool.{Bool, true, false, cond, ◌||◌}
use mathlib.Core.List.{List, [], ◌∷◌}
use native.Mathlib.Omega.{arith}
use lib.Dec.{eqb}
use lib.ListN.{set, replicate, length-set}
use lib.Seq.{get_or-set_same, get_or-set_other}
use borrow.Author.Tests.{eq-eqb, ne_eqb}
use Rattle.laws.proofs.Cases.{by-eq}
use Rattle.laws.proofs.Each.{each_turn}
use Rattle.laws.specs.Each.{each}
use Rattle.laws.specs.Lists.{any_of}
use Rattle.plan.specs.Value.{at}
use Rattle.book_view.specs.View.{laid}
use Rattle.book_view.proofs.Laid.{length-laid, laid-at, laid-past, laid-is, zeros-laid}
use Rattle.engine.specs.declared.Lengths.{Lengths}
use Rattle.engine_read.specs.Lines.{says_length, says_drop, marked, line_said, next_said}
use Rattle.engine_read.specs.Whole.{ticks_for, given_of}
use Rattle.engine_read.specs.Private.Noted.{planned_in, note_of, Names}
use Rattle.engine_read.specs.declared.LengthNotes.{LengthNotes}
use Rattle.engine_read.specs.Said.{LengthLine}
use Rattle.engine_read.specs.Said.{Length, Drop, Refused}
use Rattle.engine_read.proofs.SaidLaws.{line_same}

-- the arrays by what the lines say
unfoldable pub noted_of : ℕ → List ℕ → List ℕ → List LengthLine → LengthNotes
noted_of tasks begin finish said = record {
  length = laid tasks (λ i. ticks_for (i + 1) (at finish i - at begin i) said);
  dropped = laid tasks (λ i. cond (any_of (says_drop (i + 1)) said) 1 0);
  known = laid tasks (λ i. cond (any_of (says_length (i + 1)) said) 1 0);
}

-- ---- the planned lengths, place by place

module _ (begin finish : List ℕ) where
  abbrev pub Planned : ℕ → List ℕ → Type 0
  Planned i l = l ≡ laid i (λ k. at finish k - at begin k)

  pub planned-none : Planned 0 (replicate 64 0)
  unfolding laid each
  planned-none = refl

  pub planned-turn : (i : ℕ) {l : List ℕ} {v : ℕ} → Planned i l → v ≡ at finish i - at begin i → Planned (i + 1) (set l i v)
  unfolding laid
  planned-turn i p q = rw (p, q) (sym (each_turn i (λ k. at finish k - at begin k) (replicate 64 0)))

  pub planned-end : {tasks i : ℕ} {l : List ℕ} → i ≤ tasks → tasks ≤ i → Planned i l → l ≡ planned_in tasks begin finish
  unfolding planned_in
  planned-end {tasks} {i} h g p = let e : i ≡ tasks = omega arith in p ∙ ap (λ (n : ℕ). laid n (λ k. at finish k - at begin k)) e

-- ---- one place of a laid out array stored anew

module _ (tasks : ℕ) (few : tasks ≤ 64) where
  laid-put :
      (f g : ℕ → ℕ) (k v : ℕ) → k < tasks → g k ≡ v → ((i : ℕ) → i ≢ k → g i ≡ f i) → set (laid tasks f) k v ≡ laid tasks g
  laid-put f g k v h here other =
      laid-is tasks g (set (laid tasks f) k v) few (length-set (laid tasks f) k v ∙ length-laid tasks f)
      (λ j b.
      by-eq j k
      (λ e. rw e (get_or-set_same (laid tasks f) k v 0 (omega (arith, length-laid tasks f)) ∙ sym here))
      (λ n. get_or-set_other (laid tasks f) k j v 0 n ∙ laid-at tasks f few j b ∙ sym (other j n)))
      (λ j b. get_or-set_other (laid tasks f) k j v 0 (λ e. omega arith) ∙ laid-past tasks f j b)

  -- a value for one task
  task-put :
      (f : ℕ → ℕ) (task v : ℕ) → 1 ≤ task → task ≤ tasks → set (laid tasks f) (task - 1) v ≡ laid tasks (λ i. cond (eqb task (i + 1)) v (f i))
  task-put f task v h g =
      laid-put f (λ i. cond (eqb task (i + 1)) v (f i)) (task - 1) v (omega arith)
      (rw (eq-eqb task (task - 1 + 1) (omega arith)))
      (λ i n. let m : task ≢ i + 1 = λ e. n (omega arith) in rw (ne_eqb task (i + 1) m))

  -- a mark for one task
  mark-put :
      (p : ℕ → Bool) (task : ℕ) → 1 ≤ task → task ≤ tasks
      → set (laid tasks (λ i. cond (p i) 1 0)) (task - 1) 1 ≡ laid tasks (λ i. cond (eqb task (i + 1) || p i) 1 0)
  mark-put p task h g =
      laid-put (λ i. cond (p i) 1 0) (λ i. cond (eqb task (i + 1) || p i) 1 0) (task - 1) 1 (omega arith)
      (rw (eq-eqb task (task - 1 + 1) (omega arith)))
      (λ i n. let m : task ≢ i + 1 = λ e. n (omega arith) in rw (ne_eqb task (i + 1) m))

  module _ (begin finish : List ℕ) (said : List LengthLine) where
    pub noted-turn : (line : LengthLine) → Names tasks line → note_of (noted_of tasks begin finish said) line ≡ noted_of tasks begin finish (line ∷ said)
    unfolding noted_of ticks_for any_of
    noted-turn (Length task ticks) n =
        let l = task-put (λ i. ticks_for (i + 1) (at finish i - at begin i) said) task ticks n.0 n.1 in
        let k = mark-put (λ i. any_of (says_length (i + 1)) said) task n.0 n.1 in
        λ i. record { length = l i; dropped = (noted_of tasks begin finish said).dropped; known = k i }
    noted-turn (Drop task) n =
        let d = mark-put (λ i. any_of (says_drop (i + 1)) said) task n.0 n.1 in
        λ i. record { length = (noted_of tasks begin finish said).length; dropped = d i; known = (noted_of tasks begin finish said).known }
    noted-turn (Refused code column) n = refl

    -- ---- the marks say what the lines say

    mark-is : (p : ℕ → Bool) (task : ℕ) → 1 ≤ task → task ≤ tasks → marked (laid tasks (λ i. cond (p (i + 1)) 1 0)) task ≡ p task
    mark-is p task h g =
        let e : task - 1 + 1 ≡ task = omega arith in
        rw (laid-at tasks (λ i. cond (p (i + 1)) 1 0) few (task - 1) (omega arith), e) (one-is (p task))
      where
        one-is : (b : Bool) → eqb (cond b 1 0) 1 ≡ b
        one-is true = refl
        one-is false = refl

    pub line-is :
        (s : List ℕ) → line_said tasks (marked (noted_of tasks begin finish said).known) (marked (noted_of tasks begin finish said).dropped) s ≡ next_said tasks said s
    unfolding noted_of
    line-is s =
        line_same tasks few (mark-is (λ task. any_of (says_length task) said)) (mark-is (λ task. any_of (says_drop task) said)) s

-- before any line
pub noted-none :
    (tasks : ℕ) (begin finish : List ℕ) {l : List ℕ} → l ≡ planned_in tasks begin finish
    → ◌≡◌ {A = LengthNotes} (record { length = l; dropped = replicate 64 0; known = replicate 64 0 }) (noted_of tasks begin finish [])
unfolding noted_of planned_in ticks_for any_of
noted-none tasks begin finish e = λ i. record { length = e i; dropped = zeros-laid tasks i; known = zeros-laid tasks i }

pub given_is :
    (tasks : ℕ) (begin finish : List ℕ) (said : List LengthLine) {noted : LengthNotes} → noted ≡ noted_of tasks begin finish said
    → ◌≡◌ {A = Lengths} (record { length = noted.length; dropped = noted.dropped }) (given_of tasks begin finish said)
unfolding noted_of given_of
given_is tasks begin finish said e = rw e
