-- The tests of a task and of a pair are what the words say, where each line has its form.
use Prim.Native.Nat.{ℕ, ◌+◌, ◌-◌, ◌≤◌, ◌<◌}
use native.Mathlib.Omega.{arith}
use mathlib.Core.Path.{◌≡◌, sym, ap, ◌∙◌}
use mathlib.Core.Logic.{◌⊎◌, inl, inr, ⊎_elim}
use mathlib.Core.Bool.{Bool, true, false, ◌&&◌}
use mathlib.Core.List.{List}
use lib.Dec.{eqb, leb, ltb}
use borrow.Author.Tests.{eq-eqb, eqb-true, leb-true, le-leb, ltb-true, ltb-false, lt-ltb, not-true, not-false}
use Rattle.laws.proofs.Cases.{by_bool, by-eq, by_le, and_l, and_r, and-of, or_at, or_no, or_l, or_r, true-false}
use Rattle.laws.specs.Digits.{digits_of}
use Rattle.text.specs.Bytes.{bytes}
use Rattle.plan.specs.Pairs.{clash}
use Rattle.plan.specs.Value.{at, task_at}
use Rattle.plan.specs.declared.Plan.{Plan}
use Rattle.book_view.proofs.Accepted.{clash-swap}
use Rattle.school.specs.Lines.{said_in}
use Rattle.school.specs.Tasks.{is_start, is_end, how_many, first_of, start_in, end_in, is_known, are_on}
use Rattle.school.specs.Tests.{is_wrong, is_mislong, is_sooner, is_against, is_untimely}
use Rattle.school.specs.Said.{LogLine}
use Rattle.promises.specs.Clashes.{Clashes}
use Rattle.promises.proofs.Demand3.{clash-is}
use Rattle.promises_school.specs.Lines.{IsThere, HasForm, Once, On, Wrong}
use Rattle.promises_school.specs.Judged.{Ran, Misplaced, Mislong, Sooner, Untimely}
use Rattle.promises_school.proofs.Forms.{digits-one}
use Rattle.promises_school.proofs.Moments.{Tells, start-tells, end-tells, one, Found, found, once_is, once-of, board-of}

module _ (boards tasks : ℕ) (log : List ℕ) (forms : (k : ℕ) → IsThere log k → HasForm boards tasks log k)
    (word : List ℕ) (p : LogLine → Bool) (task : ℕ) (tells : Tells boards tasks log forms word p task) (board : ℕ) where
  abbrev many : ℕ
  many = how_many p (said_in boards tasks log)

  abbrev this : LogLine
  this = one boards tasks log forms word p task tells

  -- it is wrong, or there is one and it is on the board
  right-or-wrong : Wrong log word task board ⊎ ((many ≡ 1) × (this.board ≡ board))
  right-or-wrong = go (found boards tasks log forms word p task tells)
    where
      go : Found boards tasks log forms word p task tells → Wrong log word task board ⊎ ((many ≡ 1) × (this.board ≡ board))
      go (Found.none n f) = inl (Wrong.missing f)
      go (Found.once e o on) =
          by-eq this.board board
          (λ q. inr (e, q))
          (λ d. inl (Wrong.elsewhere o.line o.names (λ q. d (digits-one this.board board (sym (on o.line o.names) ∙ q)))))
      go (Found.twice n j k l a b) = inl (Wrong.doubled j k l a b)

  not-both : many ≡ 1 → this.board ≡ board → Wrong log word task board → ⊥
  not-both e q (Wrong.missing f) = let o = (once_is boards tasks log forms word p task tells e).0 in f o.line o.names
  not-both e q (Wrong.doubled j k l a b) =
      let o = (once_is boards tasks log forms word p task tells e).0 in
      let x = o.only j a in
      let y = o.only k b in
      omega arith
  not-both e q (Wrong.elsewhere k n d) = d ((once_is boards tasks log forms word p task tells e).1 k n ∙ ap digits_of q)

module _ (plan : Plan) (log : List ℕ) (forms : (k : ℕ) → IsThere log k → HasForm plan.boards plan.tasks log k) where
  abbrev pub lines : List LogLine
  lines = said_in plan.boards plan.tasks log

  abbrev pub start : ℕ → ℕ
  start = start_in lines

  abbrev pub end : ℕ → ℕ
  end = end_in lines

  module _ (i : ℕ) where
    abbrev starts : Tells plan.boards plan.tasks log forms (bytes "start") (is_start i) (i + 1)
    starts = start-tells plan.boards plan.tasks log forms i

    abbrev ends : Tells plan.boards plan.tasks log forms (bytes "end") (is_end i) (i + 1)
    ends = end-tells plan.boards plan.tasks log forms i

    pub known_is : is_known lines i ≡ true → Ran log i (start i) (end i)
    known_is h = record {
      starts =
          (once_is plan.boards plan.tasks log forms (bytes "start") (is_start i) (i + 1) starts
          (eqb-true (how_many (is_start i) lines) 1 (and_l (eqb (how_many (is_start i) lines) 1) _ h))
          ).0;
      ends =
          (once_is plan.boards plan.tasks log forms (bytes "end") (is_end i) (i + 1) ends
          (eqb-true (how_many (is_end i) lines) 1 (and_r (eqb (how_many (is_start i) lines) 1) (eqb (how_many (is_end i) lines) 1) h))
          ).0;
    }

    pub start-one : (tick : ℕ) → Once log (bytes "start") (i + 1) tick → (how_many (is_start i) lines ≡ 1) × (tick ≡ start i)
    start-one = once-of plan.boards plan.tasks log forms (bytes "start") (is_start i) (i + 1) starts

    pub end-one : (tick : ℕ) → Once log (bytes "end") (i + 1) tick → (how_many (is_end i) lines ≡ 1) × (tick ≡ end i)
    end-one = once-of plan.boards plan.tasks log forms (bytes "end") (is_end i) (i + 1) ends

    pub known_of : (s e : ℕ) → Ran log i s e → (is_known lines i ≡ true) × (s ≡ start i) × (e ≡ end i)
    known_of s e r =
        let a = start-one s r.starts in
        let b = end-one e r.ends in
        (and-of (eq-eqb (how_many (is_start i) lines) 1 a.0) (eq-eqb (how_many (is_end i) lines) 1 b.0), a.1, b.1)

    -- 24
    abbrev board : ℕ
    board = at plan.board i

    abbrev first-start : LogLine
    first-start = first_of (is_start i) lines

    abbrev first-end : LogLine
    first-end = first_of (is_end i) lines

    pub wrong-is : is_wrong plan lines i ≡ true → Misplaced plan log i
    wrong-is h =
        ⊎_elim (λ w. inl w)
        (λ a.
        ⊎_elim (λ w. inr w)
        (λ b.
        let k : is_known lines i ≡ true = and-of (eq-eqb (how_many (is_start i) lines) 1 a.0) (eq-eqb (how_many (is_end i) lines) 1 b.0) in
        let o : are_on board lines i ≡ true = and-of (eq-eqb first-start.board board a.1) (eq-eqb first-end.board board b.1) in
        true-false (and-of k o) (not-true (is_known lines i && are_on board lines i) h))
        (right-or-wrong plan.boards plan.tasks log forms (bytes "end") (is_end i) (i + 1) ends board))
        (right-or-wrong plan.boards plan.tasks log forms (bytes "start") (is_start i) (i + 1) starts board)

    -- one start and one end, on the board
    pub record Right : Type 0 where
      pub start-many : how_many (is_start i) lines ≡ 1
      pub end-many : how_many (is_end i) lines ≡ 1
      pub start-board : first-start.board ≡ board
      pub end-board : first-end.board ≡ board

    pub right_is : is_wrong plan lines i ≡ false → Right
    right_is h =
        let w = not-false (is_known lines i && are_on board lines i) h in
        let k = and_l (is_known lines i) _ w in
        let o = and_r (is_known lines i) (are_on board lines i) w in
        record {
          start-many = eqb-true (how_many (is_start i) lines) 1 (and_l (eqb (how_many (is_start i) lines) 1) _ k);
          end-many = eqb-true (how_many (is_end i) lines) 1 (and_r (eqb (how_many (is_start i) lines) 1) (eqb (how_many (is_end i) lines) 1) k);
          start-board = eqb-true first-start.board board (and_l (eqb first-start.board board) _ o);
          end-board = eqb-true first-end.board board (and_r (eqb first-start.board board) (eqb first-end.board board) o);
        }

    pub wrong-of : Misplaced plan log i → is_wrong plan lines i ≡ true
    wrong-of m = by_bool (is_wrong plan lines i) (λ t. t) (λ f. let r = right_is f in
        ⊎_elim
        (λ w.
        absurd
        (not-both plan.boards plan.tasks log forms (bytes "start") (is_start i) (i + 1) starts board r.start-many r.start-board w))
        (λ w.
        absurd
        (not-both plan.boards plan.tasks log forms (bytes "end") (is_end i) (i + 1) ends board r.end-many r.end-board w))
        m)

    pub right_of : Ran log i (start i) (end i) → On log (bytes "start") (i + 1) board → On log (bytes "end") (i + 1) board → is_wrong plan lines i ≡ false
    right_of r a b =
        let s = (start-one (start i) r.starts).0 in
        let e = (end-one (end i) r.ends).0 in
        let sb = board-of plan.boards plan.tasks log forms (bytes "start") (is_start i) (i + 1) starts board s a in
        let eb = board-of plan.boards plan.tasks log forms (bytes "end") (is_end i) (i + 1) ends board e b in
        rw (
          eq-eqb (how_many (is_start i) lines) 1 s,
          eq-eqb (how_many (is_end i) lines) 1 e,
          eq-eqb first-start.board board sb,
          eq-eqb first-end.board board eb,
        )

    -- what such a task's lines say
    module _ (r : Right) where
      pub ran : Ran log i (start i) (end i)
      ran =
          known_is (and-of (eq-eqb (how_many (is_start i) lines) 1 r.start-many) (eq-eqb (how_many (is_end i) lines) 1 r.end-many))

      pub on-board : On log (bytes "start") (i + 1) board × On log (bytes "end") (i + 1) board
      on-board =
          let s = once_is plan.boards plan.tasks log forms (bytes "start") (is_start i) (i + 1) starts r.start-many in
          let e = once_is plan.boards plan.tasks log forms (bytes "end") (is_end i) (i + 1) ends r.end-many in
          (λ k n. s.1 k n ∙ ap digits_of r.start-board, λ k n. e.1 k n ∙ ap digits_of r.end-board)

      -- 25
      abbrev planned : ℕ
      planned = at plan.finish i - at plan.begin i

      abbrev inside : Bool
      inside = leb 1 (end i - start i) && leb (end i - start i) planned

      pub mislong-is : is_mislong plan start end i ≡ true → Mislong plan log i
      mislong-is h = (
        start i,
        end i,
        ran,
        by_le (end i) (start i) (λ l. inl l)
            (λ l.
            by_le (end i - start i) planned
            (λ m. true-false (and-of (le-leb 1 (end i - start i) (omega arith)) (le-leb (end i - start i) planned m)) (not-true inside h))
            (λ m. inr m)),
      )

      pub long-is : is_mislong plan start end i ≡ false → (start i < end i) × (end i - start i ≤ planned)
      long-is h =
          let w = not-false inside h in
          let a = leb-true 1 (end i - start i) (and_l (leb 1 (end i - start i)) _ w) in
          (omega arith, leb-true (end i - start i) planned (and_r (leb 1 (end i - start i)) (leb (end i - start i) planned) w))

      pub mislong-of : Mislong plan log i → is_mislong plan start end i ≡ true
      mislong-of (s, e, q, out) =
          by_bool (is_mislong plan start end i) (λ t. t)
          (λ f.
          let l = long-is f in
          let k = known_of s e q in
          let lo = l.0 in
          let hi = l.1 in
          let ks = k.1 in
          let ke = k.2 in
          let m : e - s ≡ end i - start i = ap (λ (x : ℕ). x - s) ke ∙ ap (λ (x : ℕ). end i - x) ks in
          ⊎_elim (λ o. absurd (omega arith)) (λ o. absurd (omega arith)) out)

      -- 27
      pub untimely-is : is_untimely plan start i ≡ true → Untimely plan log i
      untimely-is h = (
        start i,
        ran.starts,
        ⊎_elim (λ t. inl (ltb-true (at plan.begin i) (start i) t)) (λ t. inr (ltb-true (start i) (at plan.ready i) t))
            (or_at (ltb (at plan.begin i) (start i)) _ h),
      )

      pub timely-is : is_untimely plan start i ≡ false → (at plan.ready i ≤ start i) × (start i ≤ at plan.begin i)
      timely-is h =
          let w = or_no (ltb (at plan.begin i) (start i)) (ltb (start i) (at plan.ready i)) h in
          (ltb-false (start i) (at plan.ready i) w.1, ltb-false (at plan.begin i) (start i) w.0)

      pub untimely-of : Untimely plan log i → is_untimely plan start i ≡ true
      untimely-of (s, o, out) =
          by_bool (is_untimely plan start i) (λ t. t)
          (λ f.
          let t = timely-is f in
          let lo = t.0 in
          let hi = t.1 in
          let q = (start-one s o).1 in
          ⊎_elim (λ u. absurd (omega arith)) (λ u. absurd (omega arith)) out)

  -- 26
  module _ (b a : ℕ) (rb : Right b) (ra : Right a) where
    abbrev in_order : Bool
    in_order = clash (task_at plan) b a && leb (at plan.finish a) (at plan.begin b)

    pub sooner-is : is_sooner plan start end b a ≡ true → Sooner plan log b a
    sooner-is h =
        let o = and_l in_order _ h in (
          (clash-is (task_at plan) b a).0 (and_l (clash (task_at plan) b a) _ o),
          leb-true (at plan.finish a) (at plan.begin b) (and_r (clash (task_at plan) b a) (leb (at plan.finish a) (at plan.begin b)) o),
          (
            start b,
            end a,
            (ran b rb).starts,
            (ran a ra).ends,
            ltb-true (start b) (end a) (and_r in_order (ltb (start b) (end a)) h),
          ),
        )

    pub sooner-of : Sooner plan log b a → is_sooner plan start end b a ≡ true
    sooner-of (c, o, (tick, until, s, e, l)) =
        let x = (start-one b tick s).1 in
        let y = (end-one a until e).1 in
        and-of
        (and-of ((clash-is (task_at plan) b a).1 c) (le-leb (at plan.finish a) (at plan.begin b) o))
        (lt-ltb (start b) (end a) (omega arith))

    -- in plan order
    pub order_is : is_sooner plan start end b a ≡ false → Clashes (task_at plan) a b → at plan.finish a ≤ at plan.begin b → end a ≤ start b
    order_is h c o =
        by_le (end a) (start b) (λ l. l)
        (λ l.
        true-false
        (and-of
        (and-of (clash-swap (task_at plan) b a ∙ (clash-is (task_at plan) a b).1 c) (le-leb (at plan.finish a) (at plan.begin b) o))
        (lt-ltb (start b) (end a) l))
        h)

  module _ (a b : ℕ) (ra : Right a) (rb : Right b) where
    pub against-is : is_against plan start end a b ≡ true → Sooner plan log a b ⊎ Sooner plan log b a
    against-is h = ⊎_elim (λ t. inl (sooner-is a b ra rb t)) (λ t. inr (sooner-is b a rb ra t)) (or_at (is_sooner plan start end a b) (is_sooner plan start end b a) h)

    pub against-of : Sooner plan log a b ⊎ Sooner plan log b a → is_against plan start end a b ≡ true
    against-of =
        ⊎_elim (λ t. or_l (is_sooner plan start end b a) (sooner-of a b ra rb t))
        (λ t. or_r (is_sooner plan start end a b) (sooner-of b a rb ra t))
