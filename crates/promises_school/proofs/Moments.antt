-- The starts and ends that lines say, each of its form: none, one or more of a task, and the one's board and tick.
use Prim.Native.Nat.{ℕ, ◌+◌, ◌<◌}
use native.Mathlib.Omega.{arith}
use mathlib.Core.Path.{◌≡◌, refl, sym, ap, ◌∙◌}
use mathlib.Core.Logic.{◌≢◌, inr}
use mathlib.Core.Bool.{Bool, true, false}
use mathlib.Core.List.{List, [], ◌∷◌}
use lib.Dec.{eqb}
use lib.ListN.{length}
use borrow.Author.Tests.{eq-eqb, ne_eqb, eqb-true}
use Rattle.laws.proofs.Cases.{by-eq, true-false}
use Rattle.laws.proofs.Digits.{value-digits}
use Rattle.laws.specs.Digits.{digits_of}
use Rattle.laws.specs.Lists.{same}
use Rattle.laws.specs.Split.{index_of, split_on}
use Rattle.text.specs.Bytes.{bytes}
use Rattle.text.specs.Number.{value_of, most}
use Rattle.text.specs.Line.{skip, line_at, field}
use Rattle.school.specs.Lines.{says_none, said_in}
use Rattle.school.specs.Tasks.{is_start, is_end, how_many, first_of}
use Rattle.school.specs.Said.{LogLine}
use Rattle.promises_school.specs.Lines.{Number, IsThere, HasForm, Names, Once, On}
use Rattle.promises_school.proofs.Counts.{Counted, counted}
use Rattle.promises_school.proofs.Forms.{number-value, digits-one}
use Rattle.promises_school.proofs.Places.{line-there, line-back}
use Rattle.promises_school.proofs.Kind.{two-words, it, Kind, kind}

nil : (s : List ℕ) → length s ≡ 0 → s ≡ []
nil [] e = refl
nil (b ∷ s) e = absurd (omega arith)

-- a line that is not there has no word
no_word : (log : List ℕ) (k : ℕ) → length (skip k log) ≡ 0 → field (line_at log k) 0 ≡ []
unfolding index_of split_on
no_word log k z = rw (nil (skip k log) z)

spelt-own : (low high : ℕ) (s : List ℕ) → Number low high s → s ≡ digits_of (value_of s)
spelt-own low high s n = n.spelt ∙ ap digits_of (sym (number-value low high s n))

-- a field that is a number, and the number that is said
spelt-as : (low high : ℕ) (s : List ℕ) → Number low high s → (n : ℕ) → n ≡ value_of s → s ≡ digits_of n
spelt-as low high s number n e = spelt-own low high s number ∙ ap digits_of (sym e)

module _ (boards tasks : ℕ) (log : List ℕ) (forms : (k : ℕ) → IsThere log k → HasForm boards tasks log k) where
  abbrev lines : List LogLine
  lines = said_in boards tasks log

  -- a line that passes a test names the task, and says the board and the tick that it has
  pub record Tells (word : List ℕ) (p : LogLine → Bool) (task : ℕ) : Type 0 where
    pub is :
        (k : ℕ) → k < length lines → p (it boards tasks log k) ≡ true
        → Names log word task k × (field (line_at log k) 2 ≡ digits_of (it boards tasks log k).board)
        × (field (line_at log k) 3 ≡ digits_of (it boards tasks log k).tick)
    pub of : (k : ℕ) → k < length lines → Names log word task k → p (it boards tasks log k) ≡ true
    pub there : (k : ℕ) → Names log word task k → k < length lines

  named-there : (word : List ℕ) → same word [] ≡ false → (task k : ℕ) → Names log word task k → k < length lines
  named-there word some task k n =
      line-there boards tasks log k
      (by-eq (length (skip k log)) 0 (λ z. absurd (two-words (field (line_at log k) 0) some n.0 (no_word log k z))) (λ d. inr (omega arith)))

  no-task : (i : ℕ) → eqb 0 (i + 1) ≡ false
  no-task i = ne_eqb 0 (i + 1) (λ e. absurd (omega arith))

  named-task : (s : List ℕ) (i : ℕ) → s ≡ digits_of (i + 1) → eqb (value_of s) (i + 1) ≡ true
  named-task s i e = eq-eqb (value_of s) (i + 1) (ap value_of e ∙ value-digits (i + 1))

  module _ (i k : ℕ) (l : k < length lines) where
    abbrev own : LogLine
    own = it boards tasks log k

    abbrev line : List ℕ
    line = line_at log k

    start_none : own.start ≡ 0 → is_start i own ≡ true → ⊥
    start_none z h = true-false (ap (λ (n : ℕ). eqb n (i + 1)) (sym z) ∙ h) (no-task i)

    end_none : own.end ≡ 0 → is_end i own ≡ true → ⊥
    end_none z h = true-false (ap (λ (n : ℕ). eqb n (i + 1)) (sym z) ∙ h) (no-task i)

    start_is :
        Kind boards tasks log k → is_start i own ≡ true
        → Names log (bytes "start") (i + 1) k × (field line 2 ≡ digits_of own.board) × (field line 3 ≡ digits_of own.tick)
    start_is (Kind.start f m e) h = (
      (
        m.is,
        spelt-as 1 tasks (field line 1) m.task (i + 1)
            (sym (eqb-true own.start (i + 1) h) ∙ ap (λ (x : LogLine). x.start) e),
      ),
      spelt-as 1 boards (field line 2) m.board own.board (ap (λ (x : LogLine). x.board) e),
      spelt-as 0 most (field line 3) m.tick own.tick (ap (λ (x : LogLine). x.tick) e),
    )
    start_is (Kind.end f m e) h = absurd (start_none (ap (λ (x : LogLine). x.start) e) h)
    start_is (Kind.other f a b e) h = absurd (start_none (ap (λ (x : LogLine). x.start) e) h)
    start_is (Kind.bad f e) h = absurd (start_none (ap (λ (x : LogLine). x.start) e) h)

    end_is :
        Kind boards tasks log k → is_end i own ≡ true
        → Names log (bytes "end") (i + 1) k × (field line 2 ≡ digits_of own.board) × (field line 3 ≡ digits_of own.tick)
    end_is (Kind.end f m e) h = (
      (
        m.is,
        spelt-as 1 tasks (field line 1) m.task (i + 1)
            (sym (eqb-true own.end (i + 1) h) ∙ ap (λ (x : LogLine). x.end) e),
      ),
      spelt-as 1 boards (field line 2) m.board own.board (ap (λ (x : LogLine). x.board) e),
      spelt-as 0 most (field line 3) m.tick own.tick (ap (λ (x : LogLine). x.tick) e),
    )
    end_is (Kind.start f m e) h = absurd (end_none (ap (λ (x : LogLine). x.end) e) h)
    end_is (Kind.other f a b e) h = absurd (end_none (ap (λ (x : LogLine). x.end) e) h)
    end_is (Kind.bad f e) h = absurd (end_none (ap (λ (x : LogLine). x.end) e) h)

    start_of : Kind boards tasks log k → Names log (bytes "start") (i + 1) k → is_start i own ≡ true
    unfolding same
    start_of (Kind.start f m e) n = ap (λ (x : LogLine). eqb x.start (i + 1)) e ∙ named-task (field line 1) i n.1
    start_of (Kind.end f m e) n = absurd (two-words (field line 0) refl m.is n.0)
    start_of (Kind.other f a b e) n = absurd (a n.0)
    start_of (Kind.bad f e) n = absurd (f (forms k (line-back boards tasks log k l)))

    end_of : Kind boards tasks log k → Names log (bytes "end") (i + 1) k → is_end i own ≡ true
    unfolding same
    end_of (Kind.end f m e) n = ap (λ (x : LogLine). eqb x.end (i + 1)) e ∙ named-task (field line 1) i n.1
    end_of (Kind.start f m e) n = absurd (two-words (field line 0) refl m.is n.0)
    end_of (Kind.other f a b e) n = absurd (b n.0)
    end_of (Kind.bad f e) n = absurd (f (forms k (line-back boards tasks log k l)))

  pub start-tells : (i : ℕ) → Tells (bytes "start") (is_start i) (i + 1)
  unfolding same
  start-tells i = record {
    is = λ k l h. start_is i k l (kind boards tasks log k l) h;
    of = λ k l n. start_of i k l (kind boards tasks log k l) n;
    there = λ k n. named-there (bytes "start") refl (i + 1) k n;
  }

  pub end-tells : (i : ℕ) → Tells (bytes "end") (is_end i) (i + 1)
  unfolding same
  end-tells i = record {
    is = λ k l h. end_is i k l (kind boards tasks log k l) h;
    of = λ k l n. end_of i k l (kind boards tasks log k l) n;
    there = λ k n. named-there (bytes "end") refl (i + 1) k n;
  }

  -- of a word, a test and a task that go together
  module _ (word : List ℕ) (p : LogLine → Bool) (task : ℕ) (tells : Tells word p task) where
    abbrev pub one : LogLine
    one = first_of p lines

    pub data Found : Type 0 where
      none : how_many p lines ≢ 1 → ((k : ℕ) → Names log word task k → ⊥) → Found
      once : how_many p lines ≡ 1 → Once log word task one.tick → On log word task one.board → Found
      twice : how_many p lines ≢ 1 → (j k : ℕ) → j < k → Names log word task j → Names log word task k → Found

    pub found : Found
    found = go (counted p (says_none true) lines)
      where
        go : Counted p (says_none true) lines → Found
        go (Counted.none e n) =
            Found.none (λ q. absurd (omega arith)) (λ k m. let l = tells.there k m in true-false (tells.of k l m) (n k l))
        go (Counted.one e k l h only first) =
            let t = tells.is k l h in
            let single : (j : ℕ) → Names log word task j → j ≡ k = λ j m. let lj = tells.there j m in only j lj (tells.of j lj m) in
            Found.once e
            (record { line = k; names = t.0; only = single; says = t.2 ∙ ap (λ (x : LogLine). digits_of x.tick) (sym first) })
            (λ j m.
            ap (λ (n : ℕ). field (line_at log n) 2) (single j m) ∙ t.1 ∙ ap (λ (x : LogLine). digits_of x.board) (sym first))
        go (Counted.more e j k o l a b) =
            Found.twice (λ q. absurd (omega arith)) j k o (tells.is j (omega arith) a).0 (tells.is k l b).0

    -- one line alone, and its tick and board
    pub once_is : how_many p lines ≡ 1 → Once log word task one.tick × On log word task one.board
    once_is h = go found
      where
        go : Found → Once log word task one.tick × On log word task one.board
        go (Found.none n f) = absurd (n h)
        go (Found.once e o b) = (o, b)
        go (Found.twice n j k l a b) = absurd (n h)

    pub once-of : (tick : ℕ) → Once log word task tick → (how_many p lines ≡ 1) × (tick ≡ one.tick)
    once-of tick o = go found
      where
        go : Found → (how_many p lines ≡ 1) × (tick ≡ one.tick)
        go (Found.none n f) = absurd (f o.line o.names)
        go (Found.once e q b) = (
          e,
          digits-one tick one.tick
              (sym o.says ∙ ap (λ (n : ℕ). field (line_at log n) 3) (q.only o.line o.names) ∙ q.says),
        )
        go (Found.twice n j k l a b) = let x = o.only j a in let y = o.only k b in absurd (omega arith)

    pub board-of : (board : ℕ) → how_many p lines ≡ 1 → On log word task board → one.board ≡ board
    board-of board h on =
        let r = once_is h in
        let o = r.0 in
        digits-one one.board board (sym (r.1 o.line o.names) ∙ on o.line o.names)
