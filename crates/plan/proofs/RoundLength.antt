-- How long the text of a plan is at most.
use Prim.Native.Nat.{ℕ, zero, suc, ◌+◌, ◌*◌, ◌/◌, ◌<◌, ◌≤◌}
use mathlib.Core.List.{List, [], ◌∷◌, map}
use mathlib.Core.Bool.{Bool, true}
use mathlib.Core.Path.{◌≡◌}
use native.Mathlib.Omega.{arith}
use native.Mathlib.Nat.{mul-suc, mul-le-mul_left, mul-zero}
use lib.Dec.{eqb}
use lib.ListN.{length, length-append}
use Rattle.laws.proofs.Cases.{by_bool, by_le, and_l, and_r}
use Rattle.laws.specs.Digits.{digits_of}
use Rattle.laws.proofs.Digits.{digits-small, digits-big}
use Rattle.laws.specs.Lists.{all_of}
use Rattle.laws.specs.Split.{join_on}
use Rattle.text.proofs.Numerals.{digits-seven}
use Rattle.text.specs.Line.{TAB, LF, line_text, lines_below}
use Rattle.text_fields.specs.Items.{COMMA, between, drive_of, list_text, hold_text}
use Rattle.plan.specs.Task.{Task}
use Rattle.plan.specs.Write.{sizes_text, task_text, task_texts}
use Rattle.plan.proofs.PlanTasks.{TaskFits, between-facts}

digits-one : (n : ℕ) → n < 10 → length (digits_of n) ≡ 1
digits-one n h = rw (digits-small n h)

digits-two : (n : ℕ) → n < 100 → length (digits_of n) ≤ 2
digits-two n h =
    by_le 10 n
    (λ g. rw (digits-big n g, length-append) (omega (arith, digits-one (n / 10) (omega arith))))
    (λ g. omega (arith, digits-one n g))

-- a list of items of less than width bytes each
module _ (text : ℕ → List ℕ) (p : ℕ → Bool) (width : ℕ) (short : (x : ℕ) → p x ≡ true → length (text x) < width) where
  join-length : (x : ℕ) (l : List ℕ) → all_of p (x ∷ l) ≡ true → length (join_on COMMA (map text (x ∷ l))) < width * suc (length l)
  unfolding join_on all_of
  join-length x [] a = let h = short x (and_l (p x) true a) in rw (mul-suc, mul-zero) (omega arith)
  join-length x (y ∷ l) a =
      let h = short x (and_l (p x) (all_of p (y ∷ l)) a) in
      let i = join-length y l (and_r (p x) (all_of p (y ∷ l)) a) in
      rw (mul-suc width (suc (length l)), length-append) (omega arith)

  pub list_length : (most : ℕ) (l : List ℕ) → length l ≤ most → all_of p l ≡ true → length (list_text text l) ≤ width * most + 1
  unfolding list_text
  list_length most [] h a = omega arith
  list_length most (x ∷ l) h a =
      omega (arith, join-length x l a, mul-le-mul_left {m = suc (length l)} {n = most} width h)

hold-short : (h : ℕ) → between 1 32 (drive_of h) ≡ true → length (hold_text h) < 4
hold-short h b = let r = between-facts 1 32 (drive_of h) b in omega (arith, digits-two (drive_of h) (omega arith))

after-short : (tasks : ℕ) → tasks ≤ 64 → (n : ℕ) → between 1 tasks n ≡ true → length (digits_of n) < 3
after-short tasks few n b = let r = between-facts 1 tasks n b in omega (arith, digits-two n (omega arith))

-- a line is as long as its fields, each with its tab or LF
abbrev total : List (List ℕ) → ℕ
total [] = 0
total (f ∷ fs) = length f + 1 + total fs

line-total : (f : List ℕ) (fs : List (List ℕ)) → length (line_text (f ∷ fs)) ≡ total (f ∷ fs)
unfolding join_on
line-total f [] = omega (arith, length-append f (LF ∷ []))
line-total f (g ∷ fs) =
    let rest = line-total g fs in
    omega
    (arith, rest, length-append (join_on TAB (f ∷ g ∷ fs)) (LF ∷ []), length-append f (TAB ∷ join_on TAB (g ∷ fs)), length-append (join_on TAB (g ∷ fs)) (LF ∷ []))

-- a task line
pub task-length :
    (edition boards tasks number : ℕ) (task : Task) → boards ≤ 8 → tasks ≤ 64 → number ≤ 64 → TaskFits boards tasks task
    → length (task_text edition number task) ≤ 358
unfolding task_text
task-length edition boards tasks number task p q r f =
    let n1 = digits-two number (omega arith) in
    let n2 = digits-one task.board (omega (arith, f.board.1)) in
    let n = digits-seven task.ready (omega (arith, f.ready, f.runs, f.ends)) in
    let n3 = digits-seven task.begin (omega (arith, f.runs, f.ends)) in
    let n4 = digits-seven task.finish f.ends in
    let l5 =
    list_length hold_text (λ x. between 1 32 (drive_of x)) 4 hold-short 32 task.holds f.holds.room f.holds.within in
    let l6 =
    list_length digits_of (between 1 tasks) 3 (after-short tasks q) 64 task.after (omega (arith, f.after.room))
    f.after.within in
    rw line-total (by_bool (eqb edition 2) (λ e. rw e (omega arith)) (λ e. rw e (omega arith)))

-- the task lines
pub texts-length :
    (edition : ℕ) (task : ℕ → Task) (n : ℕ) → ((k : ℕ) → k < n → length (task_text edition (k + 1) (task k)) ≤ 358)
    → length (task_texts edition task n) ≤ n * 358
unfolding lines_below
texts-length edition task zero f = omega arith
texts-length edition task (suc n) f =
    let i = texts-length edition task n (λ k h. f k (omega arith)) in let h = f n (omega arith) in simp length-append (omega arith)

-- the first line
pub sizes-length :
    (edition boards tasks : ℕ) → edition ≤ 2 → boards ≤ 8 → tasks ≤ 64 → length (sizes_text edition boards tasks) ≤ 12
unfolding sizes_text
sizes-length edition boards tasks e p q =
    rw line-total (omega (arith, digits-one edition (omega arith), digits-one boards (omega arith), digits-two tasks (omega arith)))
