-- The ways out of the soundness test's loops, a task's state by its mark, and the test part by part.
use Prim.Native.Nat.{ℕ}
use native.Mathlib.Omega.{arith}
use mathlib.Core.Bool.{Bool, true, false, not, ◌&&◌, and-false, and-true, and_assoc}
use mathlib.Core.List.{List}
use mathlib.Core.Path.{◌≡◌, sym, ap, ◌∙◌}
use mathlib.Core.Logic.{◌≢◌}
use lib.Bits.{bit_and}
use lib.Dec.{eqb, ltb, leb}
use borrow.Author.Tests.{eq-eqb, ne_eqb, eqb-true, le-leb, lt-leb, lt-ltb, ltb-true}
use Rattle.laws.proofs.Cases.{by-eq, true-false, same_test, and_no, and_l, and_r, and-of}
use Rattle.laws.specs.Bits.{has, set_of}
use Rattle.laws.proofs.Bits.{has-and, has-none, has-set, some-bit}
use Rattle.laws.specs.Every.{every, any}
use Rattle.laws.specs.Picked.{latest}
use Rattle.theory.specs.Plan.{Plan}
use Rattle.theory.specs.Book.{Book, ended, all_ended, due, ready_due, limit, task_test, sound_test}
use Rattle.theory.proofs.Reflect.{all-ended-at, all-ended-of}
use Rattle.plan.specs.Value.{at}
use Rattle.book_view.specs.View.{plan_seen, book_seen}
use Rattle.book_sound.specs.Sound.{nothing_past, sound_on}

pub and-four :
    {a b c d p q r t : Bool} → a ≡ p → b ≡ q → c ≡ r → d ≡ t → ((a && b) && (c && d)) ≡ (p && (q && (r && t)))
and-four {p} {q} {r} {t} e f g h = rw (e, f, g, h) (and_assoc p q (r && t))

-- all that a task waits for have ended where its set has nobody in common with those who have not
module _ (plan : Plan) (mark : ℕ → ℕ) (i awaited unended : ℕ) (w : (j : ℕ) → plan.waits i j ≡ has awaited j)
    (u : unended ≡ set_of plan.tasks (λ j. not (ended mark j))) where
  left_over : (j : ℕ) → has (bit_and awaited unended) j ≡ (has awaited j && (ltb j plan.tasks && not (ended mark j)))
  left_over j =
      has-and awaited unended j
      ∙ ap (λ (x : Bool). has awaited j && x) (ap (λ (x : ℕ). has x j) u ∙ has-set plan.tasks (λ j. not (ended mark j)) j)

  none_left : eqb (bit_and awaited unended) 0 ≡ true → all_ended plan mark i ≡ true
  none_left h =
      all-ended-of plan mark i
      (λ j l v.
      by-eq (mark j) 2 (λ e. e)
      (λ n.
      let alone : not (ended mark j) ≡ true = ap not (ne_eqb (mark j) 2 n) in
      true-false (left_over j ∙ and-of (sym (w j) ∙ v) (and-of (lt-ltb j plan.tasks l) alone))
      (ap (λ (x : ℕ). has x j) (eqb-true (bit_and awaited unended) 0 h) ∙ has-none j)))

  all-gone : all_ended plan mark i ≡ true → eqb (bit_and awaited unended) 0 ≡ true
  all-gone all =
      by-eq (bit_and awaited unended) 0 (λ e. eq-eqb _ 0 e)
      (λ n.
      let bit = some-bit (bit_and awaited unended) n in
      let j = bit.0 in
      let both = sym (left_over j) ∙ bit.1 in
      let rest = and_r (has awaited j) _ both in
      let over = all-ended-at plan mark i all j (ltb-true j plan.tasks (and_l _ _ rest)) (w j ∙ and_l (has awaited j) _ both) in
      true-false (and_r (ltb j plan.tasks) _ rest) (ap not (eq-eqb (mark j) 2 over)))

  pub free-is : eqb (bit_and awaited unended) 0 ≡ all_ended plan mark i
  free-is = same_test _ _ none_left all-gone

-- a task's state by its mark
module _ (tasks : ℕ) (ready begin finish waits mark start end dropped : List ℕ) (clock i : ℕ) {free : Bool}
    (h : free ≡ all_ended (plan_seen tasks ready begin finish waits) (at mark) i) where
  abbrev plan : Plan
  plan = plan_seen tasks ready begin finish waits

  abbrev book : Book
  book = book_seen mark start end dropped clock

  pub test-waiting :
      book.mark i ≡ 0 → (leb (book.dropped i) 1 && (not free && (eqb (book.start i) 0 && eqb (book.end i) 0))) ≡ task_test plan book i
  unfolding task_test
  test-waiting m = rw (h, eq-eqb (book.mark i) 0 m)

  module _ (n0 : book.mark i ≢ 0) where
    pub test-skipped :
        {since : ℕ} → since ≡ due plan book.end i → {some : Bool} → book.dropped i ≡ 1 → some ≡ any plan.tasks (plan.waits i)
        → (eqb (book.mark i) 2
        && (some && (free && (eqb (book.start i) since && (eqb (book.end i) (book.start i) && leb (book.end i) book.clock)))))
        ≡ task_test plan book i
    unfolding task_test
    test-skipped s d w =
        by-eq (book.mark i) 1
        (λ m. rw (le-leb (book.dropped i) 1 (omega arith), ne_eqb (book.mark i) 0 n0, eq-eqb (book.mark i) 1 m, ne_eqb (book.mark i) 2 (omega arith), ne_eqb (book.dropped i) 0 (omega arith)))
        (λ n1. rw (h, s, w, le-leb (book.dropped i) 1 (omega arith), ne_eqb (book.mark i) 0 n0, ne_eqb (book.mark i) 1 n1, eq-eqb (book.dropped i) 1 d))

    module _ {since until : ℕ} (s : since ≡ ready_due plan book.end i) (u : until ≡ limit plan book i) (d : book.dropped i ≢ 1) where
      -- dropped neither 1 nor 0 is no mark
      drop-small : (b : Bool) → (leb (book.dropped i) 1 && (eqb (book.dropped i) 0 && b)) ≡ (eqb (book.dropped i) 0 && b)
      drop-small b =
          by-eq (book.dropped i) 0
          (λ z. rw (le-leb (book.dropped i) 1 (omega arith)))
          (λ n. rw (ne_eqb (book.dropped i) 0 n, lt-leb (book.dropped i) 1 (omega arith)))

      drop-small-in :
          (a b : Bool)
          → (leb (book.dropped i) 1 && (a && (eqb (book.dropped i) 0 && b))) ≡ (a && (eqb (book.dropped i) 0 && b))
      drop-small-in true b = drop-small b
      drop-small-in false b = and_no (leb (book.dropped i) 1)

      pub test-running :
          {clock : ℕ} → book.mark i ≡ 1 → clock ≡ book.clock
          → (eqb (book.dropped i) 0 && (free && (eqb (book.start i) since && (eqb (book.end i) 0 && leb clock until)))) ≡ task_test plan book i
      unfolding task_test
      test-running m c = rw (h, s, u, c, ne_eqb (book.mark i) 0 n0, eq-eqb (book.mark i) 1 m) (sym (drop-small _))

      pub test-ended :
          {over : ℕ} → book.mark i ≢ 1 → over ≡ book.end i
          → (eqb (book.mark i) 2
          && (eqb (book.dropped i) 0
          && (free && (eqb (book.start i) since && (ltb (book.start i) (book.end i) && (leb over until && leb (book.end i) book.clock))))))
          ≡ task_test plan book i
      unfolding task_test
      test-ended n1 c =
          rw (h, s, u, c, ne_eqb (book.mark i) 0 n0, ne_eqb (book.mark i) 1 n1, ne_eqb (book.dropped i) 1 d) (sym
          (drop-small-in (eqb (book.mark i) 2)
          (all_ended plan book.mark i
          && (eqb (book.start i) (ready_due plan book.end i)
          && (ltb (book.start i) (book.end i)
          && (leb (book.end i) (limit plan book i) && leb (book.end i) book.clock))))))

-- the test, part by part
module _ (on : Plan) (mark start end dropped : List ℕ) (clock : ℕ) {past : Bool} (q : past ≡ nothing_past on.tasks mark start end dropped) where
  pub unsound-past : past ≡ false → false ≡ sound_on on mark start end dropped clock
  unfolding sound_on
  unsound-past h = rw (sym q ∙ h, and-false)

  module _ (nothing : past ≡ true) {tasks : Bool}
      (r : tasks ≡ every on.tasks (task_test on (book_seen mark start end dropped clock))) where
    pub unsound-task : tasks ≡ false → false ≡ sound_on on mark start end dropped clock
    unfolding sound_on sound_test
    unsound-task h = rw (sym r ∙ h)

    pub sound-clock :
        tasks ≡ true → {last : ℕ} → last ≡ latest on.tasks (ended (at mark)) (at end)
        → eqb clock last ≡ sound_on on mark start end dropped clock
    unfolding sound_on sound_test
    sound-clock h e =
        rw (sym q ∙ nothing, sym r ∙ h, e)
        (sym (and-true (eqb clock _)))
