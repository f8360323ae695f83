-- What is laid out of a log is what its lines say of each task.
use Prim.Native.Nat.{ℕ, ◌≤◌, ◌<◌}
use native.Mathlib.Omega.{arith}
use mathlib.Core.Bool.{Bool, true, false, not, cond, ◌&&◌}
use mathlib.Core.List.{List}
use mathlib.Core.Path.{◌≡◌, refl, sym, ap, ◌∙◌}
use lib.Dec.{eqb}
use borrow.Author.Tests.{not-false, eq-eqb, ne_eqb}
use mir.Val.{bool_byte}
use Rattle.laws.proofs.Cases.{by_bool, and_l}
use Rattle.plan.specs.Value.{at}
use Rattle.book_view.specs.View.{laid}
use Rattle.book_view.proofs.Laid.{laid-at, laid_same}
use Rattle.school.specs.Tasks.{is_start, is_end, how_many, first_of, is_known, start_in, end_in, are_on}
use Rattle.school.specs.Said.{LogLine}
use Rattle.school_read.specs.Found.{up_to_two, noted, lines_found}
use Rattle.school_read.specs.declared.Found.{Found}
use Rattle.school_read.specs.declared.Noted.{Noted}
use Rattle.school_read.proofs.ReadLaws.{one_kept}
use Rattle.school_judge.specs.Tests.{is_amiss}
use Rattle.school_judge.specs.Private.Laid.{known_in, right_in, tick_in}

marked : (b : Bool) → eqb (cond b 1 0) 1 ≡ b
marked b = by_bool b (λ t. rw t) (λ f. rw f)

pub byte-of : (b : Bool) → bool_byte b ≡ cond b 1 0
byte-of true = refl
byte-of false = refl

pub tick-is : {known tick r : ℕ} → known ≡ 1 → r ≡ tick → r ≡ cond (eqb known 1) tick 0
tick-is {known} h e = e ∙ sym (rw (eq-eqb known 1 h))

pub tick-none : {known r : ℕ} (tick : ℕ) → (known ≡ 1 → ⊥) → r ≡ 0 → r ≡ cond (eqb known 1) tick 0
tick-none {known} tick h e = e ∙ sym (rw (ne_eqb known 1 h))

-- all places of the tasks are filled
pub laid_out : (n k : ℕ) (f : ℕ → ℕ) {l : List ℕ} → l ≡ laid k f → k ≤ n → n ≤ k → l ≡ laid n f
laid_out n k f e h g = let q : k ≡ n = omega arith in rw q at e

-- a value of a task that is known
abbrev pub of_known : List LogLine → (ℕ → ℕ) → ℕ → ℕ
of_known lines tick i = cond (is_known lines i) (tick i) 0

module _ (tasks : ℕ) (few : tasks ≤ 64) (lines : List LogLine) {found : Found} (f : found ≡ lines_found lines) where
  -- what is noted of the starts, or of the ends
  module _ (says : ℕ → LogLine → Bool) {side : Noted} (e : side ≡ noted says lines) (i : ℕ) (l : i < tasks) where
    one : eqb (at side.many i) 1 ≡ eqb (how_many (says i) lines) 1
    unfolding noted
    one =
        ap (λ (x : Noted). eqb (at x.many i) 1) e
        ∙ ap (λ (n : ℕ). eqb n 1) (laid-at 64 (λ t. up_to_two (how_many (says t) lines)) (omega arith) i (omega arith))
        ∙ one_kept (how_many (says i) lines)

    tick-at : at side.tick i ≡ (first_of (says i) lines).tick
    unfolding noted
    tick-at =
        ap (λ (x : Noted). at x.tick i) e ∙ laid-at 64 (λ t. (first_of (says t) lines).tick) (omega arith) i (omega arith)

    board_at : at side.board i ≡ (first_of (says i) lines).board
    unfolding noted
    board_at =
        ap (λ (x : Noted). at x.board i) e ∙ laid-at 64 (λ t. (first_of (says t) lines).board) (omega arith) i (omega arith)

  starts-are : found.starts ≡ noted is_start lines
  starts-are = ap (λ (x : Found). x.starts) f

  ends-are : found.ends ≡ noted is_end lines
  ends-are = ap (λ (x : Found). x.ends) f

  known-here : (i : ℕ) → i < tasks → known_in found i ≡ of_known lines (λ j. 1) i
  known-here i l = rw (one is_start starts-are i l, one is_end ends-are i l)

  module _ {known : List ℕ} (k : known ≡ laid tasks (known_in found)) where
    pub known-laid : known ≡ laid tasks (of_known lines (λ i. 1))
    known-laid = k ∙ laid_same tasks _ _ known-here

    known_at : (i : ℕ) → i < tasks → eqb (at known i) 1 ≡ is_known lines i
    known_at i l =
        ap (λ (s : List ℕ). eqb (at s i) 1) known-laid
        ∙ ap (λ (n : ℕ). eqb n 1) (laid-at tasks (of_known lines (λ j. 1)) few i l)
        ∙ marked (is_known lines i)

    -- ticks of those that are known
    ticks : (says : ℕ → LogLine → Bool) {side : Noted} → side ≡ noted says lines → {r : List ℕ} → r ≡ laid tasks (tick_in known side) → r ≡ laid tasks (of_known lines (λ i. (first_of (says i) lines).tick))
    ticks says {side} q e =
        e
        ∙ laid_same tasks _ _ (λ i l.
        ap (λ (b : Bool). cond b (at side.tick i) 0) (known_at i l) ∙ ap (λ (n : ℕ). cond (is_known lines i) n 0) (tick-at says q i l))

    pub starts-laid : {r : List ℕ} → r ≡ laid tasks (tick_in known found.starts) → r ≡ laid tasks (of_known lines (start_in lines))
    starts-laid = ticks is_start starts-are

    pub ends-laid : {r : List ℕ} → r ≡ laid tasks (tick_in known found.ends) → r ≡ laid tasks (of_known lines (end_in lines))
    ends-laid = ticks is_end ends-are

    module _ (board : List ℕ) {right : List ℕ} (r : right ≡ laid tasks (right_in known board found)) where
      -- who is not right is wrong
      pub amiss-is : (i : ℕ) → i < tasks → is_amiss right i ≡ not (is_known lines i && are_on (at board i) lines i)
      amiss-is i l =
          ap (λ (s : List ℕ). not (eqb (at s i) 1)) r
          ∙ ap (λ (n : ℕ). not (eqb n 1)) (laid-at tasks (right_in known board found) few i l)
          ∙ ap not (marked (eqb (at known i) 1 && (eqb (at found.starts.board i) (at board i) && eqb (at found.ends.board i) (at board i))))
          ∙ rw (known_at i l, board_at is_start starts-are i l, board_at is_end ends-are i l)

      -- so where nobody is wrong all are known
      pub all_known : ((i : ℕ) → i < tasks → is_amiss right i ≡ false) → (i : ℕ) → i < tasks → is_known lines i ≡ true
      all_known none i l = and_l _ (are_on (at board i) lines i) (not-false _ (sym (amiss-is i l) ∙ none i l))

-- and their ticks are those that the lines say
pub tick-known :
    (tasks : ℕ) (lines : List LogLine) (tick : ℕ → ℕ) → tasks ≤ 64 → {r : List ℕ} → r ≡ laid tasks (of_known lines tick) → (i : ℕ) → i < tasks
    → is_known lines i ≡ true → at r i ≡ tick i
tick-known tasks lines tick few e i l t =
    ap (λ (s : List ℕ). at s i) e ∙ laid-at tasks (of_known lines tick) few i l ∙ rw t
