-- What an accepted plan says: its ranges, that some task is planned at 0, and that of two clashing tasks one waits for the other.
use Prim.Native.Nat.{ℕ, ◌+◌, ◌<◌, ◌≤◌}
use native.Mathlib.Omega.{arith}
use mathlib.Core.Bool.{Bool, true, false, not, cond, ◌&&◌, ◌||◌, and_comm, or_comm}
use mathlib.Core.List.{List, [], ◌∷◌}
use mathlib.Core.Path.{◌≡◌, refl, sym, ap, ◌∙◌}
use mathlib.Core.Logic.{◌≢◌, ◌⊎◌, inl, inr, ⊎_elim}
use lib.Dec.{eqb, ltb, leb, lit<}
use borrow.Author.Tests.{eqb-true, eq-eqb, ne_eqb, ltb-false, le-leb, lt-ltb}
use Rattle.laws.proofs.Cases.{by_le, true-false, same_test, and-of, or_at, or_r, guard_passed}
use Rattle.laws.specs.Lists.{any_of}
use Rattle.text_fields.specs.Items.{drive_of, is_shared}
use Rattle.theory.proofs.Facts.{Lawful}
use Rattle.theory.proofs.Waits.{minding-lawful}
use Rattle.plan.specs.Task.{Task}
use Rattle.plan.specs.Pairs.{overlap, same_board, holds_clash, clash_by_drive, is_listed, clash, breaks_after, pair_code}
use Rattle.plan.specs.Value.{at, task_at, is_accepted}
use Rattle.plan.specs.declared.Plan.{Plan}
use Rattle.plan.proofs.FirstFault.{NoPair}
use Rattle.plan.proofs.Judged.{Begins, tasks-fine, accepted-ranges, accepted-tasks}
use Rattle.plan.proofs.PlanTasks.{RangesKept, ranges-kept, task-kept, task-fits}
use Rattle.book_view.specs.View.{minds_by, plan_for}

pub record TaskFacts (plan : Plan) (k : ℕ) : Type 0 where
  pub board-from : 0 < at plan.board k
  pub board-to : at plan.board k ≤ plan.boards
  pub ready : at plan.ready k ≤ at plan.begin k
  pub lasts : at plan.begin k < at plan.finish k
  pub by_most : at plan.finish k ≤ 1000000

pub record PlanFacts (plan : Plan) : Type 0 where
  pub boards-from : 0 < plan.boards
  pub boards-to : plan.boards ≤ 8
  pub tasks-from : 0 < plan.tasks
  pub tasks-to : plan.tasks ≤ 64
  pub task : (k : ℕ) → k < plan.tasks → TaskFacts plan k
  pub begins : Begins plan.tasks (task_at plan)
  pub pair : (a b : ℕ) → a ≤ b → b < plan.tasks → pair_code (task_at plan) a b ≡ 0

module _ (plan : Plan) (ok : is_accepted plan ≡ true) where
  ranges : RangesKept plan
  ranges = ranges-kept plan (accepted-ranges plan ok)

  fine : Begins plan.tasks (task_at plan) × NoPair plan.tasks (task_at plan)
  fine = (tasks-fine plan.tasks (task_at plan)).0 (accepted-tasks plan ok)

  task-facts : (k : ℕ) → k < plan.tasks → TaskFacts plan k
  task-facts k l =
      let t = task-fits plan.boards plan.tasks (task_at plan k) (task-kept plan k (ranges.kept k l)).task in
      record { board-from = t.board.0; board-to = t.board.1; ready = t.ready; lasts = t.runs; by_most = t.ends }

  pub plan-facts : PlanFacts plan
  plan-facts = record {
    boards-from = ranges.boards.0;
    boards-to = ranges.boards.1;
    tasks-from = ranges.tasks.0;
    tasks-to = ranges.tasks.1;
    task = task-facts;
    begins = fine.0;
    pair = fine.1;
  }

  -- an accepted plan is lawful by either rule
  pub plan-lawful : (rule : ℕ) → Lawful (plan_for rule plan)
  plan-lawful rule =
      minding-lawful (minds_by rule (task_at plan)) plan.tasks (at plan.ready) (at plan.begin) (at plan.finish)
      (λ k l. (task-facts k l).ready) (λ k l. (task-facts k l).lasts)

-- of two tasks that do not overlap one waits for the other
apart : (a b c d : ℕ) → (ltb a d && ltb c b) ≡ false → (leb d a ≡ true) ⊎ (leb b c ≡ true)
apart a b c d h =
    by_le d a (λ l. inl (le-leb d a l)) (λ l. inr (le-leb b c (ltb-false c b (rw (lt-ltb a d l) at h))))

not-both : (a b : Bool) → (a && b) ≡ false → b ≡ true → a ≡ false
not-both true b h e = true-false e h
not-both false b h e = refl

or-neither : (a b : Bool) → (a || b) ≡ false → (a ≡ false) × (b ≡ false)
or-neither true b h = true-false refl h
or-neither false b h = (refl, h)

-- what a pair that is not faulty says
module _ (task : ℕ → Task) (a b : ℕ) (differ : a ≢ b) (none : pair_code task a b ≡ 0) where
  abbrev meet : Bool
  meet = not (eqb a b) && overlap (task a) (task b)

  abbrev break : Bool
  break = breaks_after task a b || breaks_after task b a

  pass-6 : ((meet && same_board (task a) (task b)) ≡ false) × (◌≡◌ {A = ℕ} (cond (meet && clash_by_drive (task a).holds (task b).holds) 7 (cond break 8 0)) 0)
  unfolding pair_code
  pass-6 = guard_passed (meet && same_board (task a) (task b)) 6 (cond (meet && clash_by_drive (task a).holds (task b).holds) 7 (cond break 8 0)) (lit< tt) none

  pass-7 : ((meet && clash_by_drive (task a).holds (task b).holds) ≡ false) × (◌≡◌ {A = ℕ} (cond break 8 0) 0)
  pass-7 = guard_passed (meet && clash_by_drive (task a).holds (task b).holds) 7 (cond break 8 0) (lit< tt) pass-6.1

  pass-8 : break ≡ false
  pass-8 = (guard_passed break 8 0 (lit< tt) pass-7.1).0

  pub keeps-after : (breaks_after task a b ≡ false) × (breaks_after task b a ≡ false)
  keeps-after = or-neither (breaks_after task a b) (breaks_after task b a) pass-8

  abbrev InOrder : Type 0
  InOrder = (leb (task b).finish (task a).begin ≡ true) ⊎ (leb (task a).finish (task b).begin ≡ true)

  met-apart : (x : Bool) → (meet && x) ≡ false → x ≡ true → InOrder
  met-apart x h e =
      let m = not-both meet x h e in
      apart (task a).begin (task a).finish (task b).begin (task b).finish (rw (ne_eqb a b differ) at m)

  listed : (x y : ℕ) → breaks_after task x y ≡ false → is_listed (task x).after (y + 1) ≡ true → leb (task y).finish (task x).begin ≡ true
  listed x y h e = le-leb (task y).finish (task x).begin (ltb-false (task x).begin (task y).finish (not-both (ltb (task x).begin (task y).finish) _ h e))

  pub pair-in-order : clash task a b ≡ true → InOrder
  pair-in-order h =
      ⊎_elim (met-apart (same_board (task a) (task b)) pass-6.0)
      (λ h2.
      ⊎_elim (met-apart (clash_by_drive (task a).holds (task b).holds) pass-7.0)
      (λ h3.
      ⊎_elim (λ h4. inl (listed a b keeps-after.0 h4)) (λ h4. inr (listed b a keeps-after.1 h4))
      (or_at (is_listed (task a).after (b + 1)) _ h3))
      (or_at (clash_by_drive (task a).holds (task b).holds) _ h2))
      (or_at (same_board (task a) (task b)) _ h)

-- a clash goes both ways
module _ {A : Type 0} where
  any-or : (p q : A → Bool) (l : List A) → any_of (λ x. p x || q x) l ≡ (any_of p l || any_of q l)
  unfolding any_of
  any-or p q [] = refl
  any-or p q (x ∷ l) = rw (any-or p q l) (swap (p x) (q x) (any_of p l) (any_of q l))
    where
      swap : (a b c d : Bool) → ((a || b) || (c || d)) ≡ ((a || c) || (b || d))
      swap true b c d = refl
      swap false true true d = refl
      swap false true false d = refl
      swap false false c d = refl

  any_none : (l : List A) → any_of (λ x. false) l ≡ false
  unfolding any_of
  any_none [] = refl
  any_none (x ∷ l) = any_none l

  any_same : (p q : A → Bool) → ((x : A) → p x ≡ q x) → (l : List A) → any_of p l ≡ any_of q l
  unfolding any_of
  any_same p q f [] = refl
  any_same p q f (x ∷ l) = rw (f x, any_same p q f l)

  any_swap : (r : A → A → Bool) (l m : List A) → any_of (λ x. any_of (r x) m) l ≡ any_of (λ y. any_of (λ x. r x y) l) m
  unfolding any_of
  any_swap r [] m = sym (any_none m)
  any_swap r (x ∷ l) m =
      ap (λ (b : Bool). any_of (r x) m || b) (any_swap r l m) ∙ sym (any-or (r x) (λ y. any_of (λ z. r z y) l) m)

eqb_swap : (a b : ℕ) → eqb a b ≡ eqb b a
eqb_swap a b = same_test (eqb a b) (eqb b a) (λ h. eq-eqb b a (sym (eqb-true a b h))) (λ h. eq-eqb a b (sym (eqb-true b a h)))

holds-swap : (g h : ℕ) → holds_clash g h ≡ holds_clash h g
holds-swap g h = rw (eqb_swap (drive_of g) (drive_of h), and_comm (is_shared g) (is_shared h))

drive-swap : (these those : List ℕ) → clash_by_drive these those ≡ clash_by_drive those these
unfolding clash_by_drive
drive-swap these those =
    any_swap holds_clash these those
    ∙ any_same (λ y. any_of (λ x. holds_clash x y) these) (λ y. any_of (holds_clash y) these)
    (λ y. any_same (λ x. holds_clash x y) (holds_clash y) (λ x. holds-swap x y) these) those

pub clash-swap : (task : ℕ → Task) (a b : ℕ) → clash task a b ≡ clash task b a
clash-swap task a b =
    rw (
      eqb_swap (task a).board (task b).board,
      drive-swap (task a).holds (task b).holds,
      or_comm (is_listed (task a).after (b + 1)) (is_listed (task b).after (a + 1)),
    )

flip : {A B : Type 0} → A ⊎ B → B ⊎ A
flip (inl a) = inr a
flip (inr b) = inl b

module _ (plan : Plan) (ok : is_accepted plan ≡ true) (rule : ℕ) where
  -- of two clashing tasks one waits for the other, by either rule
  pub clash-waits :
      (a b : ℕ) → a < plan.tasks → b < plan.tasks → a ≢ b → clash (task_at plan) a b ≡ true
      → ((plan_for rule plan).waits a b ≡ true) ⊎ ((plan_for rule plan).waits b a ≡ true)
  clash-waits a b la lb n h =
      ⊎_elim (λ e. inl (and-of (or_r (eqb rule 0) h) e)) (λ e. inr (and-of (or_r (eqb rule 0) (sym (clash-swap (task_at plan) a b) ∙ h)) e))
      (by_le a b
      (λ l. pair-in-order (task_at plan) a b n ((plan-facts plan ok).pair a b l lb) h)
      (λ l. flip
      (pair-in-order (task_at plan) b a (λ e. n (sym e)) ((plan-facts plan ok).pair b a (omega arith) la)
      (sym (clash-swap (task_at plan) a b) ∙ h))))
