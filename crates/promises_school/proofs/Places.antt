-- What stands in place k of the list of a log's lines: what line k says.
use Prim.Native.Nat.{ℕ, zero, suc, ◌≤◌, ◌<◌}
use native.Mathlib.Omega.{arith}
use mathlib.Core.Path.{◌≡◌, refl, ap, ◌∙◌}
use mathlib.Core.Logic.{◌⊎◌, inl, inr, ⊎_elim}
use mathlib.Core.Bool.{Bool, true, false, not, cond, ◌&&◌, ◌||◌}
use mathlib.Core.List.{List, [], ◌∷◌}
use lib.Dec.{eqb}
use lib.ListN.{length, get_or, length-drop}
use borrow.Author.Tests.{ne_eqb, lt-ltb, le-ltb}
use Rattle.laws.proofs.Cases.{by_le, true-false}
use Rattle.laws.specs.Lists.{same}
use Rattle.laws.specs.Split.{index_of, before, after, skip_on, split_on}
use Rattle.laws.proofs.Split.{split-found, split-none, skip-le}
use Rattle.text.specs.Line.{LF, has_line, skip, line_at}
use Rattle.text.proofs.Parts.{First, first_part}
use Rattle.school.specs.Lines.{says_none, line_said, said_from, said_in}
use Rattle.school.specs.Said.{LogLine}
use Rattle.promises_school.specs.Lines.{IsThere}

module _ (boards tasks : ℕ) where
  -- what line k of a text says, which may begin the log
  abbrev pub said_at : Bool → List ℕ → ℕ → LogLine
  said_at is_first s k =
      cond (has_line (skip k s)) (line_said boards tasks (is_first && eqb k 0) (line_at s k)) (says_none false)

  abbrev There : Bool → List ℕ → ℕ → Type 0
  There is_first s k = ((is_first ≡ true) × (k ≡ 0)) ⊎ (0 < length (skip k s))

  -- the place is there exactly where the line is
  record Place (is_first : Bool) (s : List ℕ) (k : ℕ) : Type 0 where
    there : There is_first s k → k < length (said_from boards tasks is_first (split_on LF s))
    back : k < length (said_from boards tasks is_first (split_on LF s)) → There is_first s k
    says :
        k < length (said_from boards tasks is_first (split_on LF s))
        → get_or (said_from boards tasks is_first (split_on LF s)) k (says_none true) ≡ said_at is_first s k

  from_more :
      (is_first : Bool) (line : List ℕ) (s : List ℕ)
      → said_from boards tasks is_first (line ∷ split_on LF s) ≡ line_said boards tasks is_first line ∷ said_from boards tasks false (split_on LF s)
  unfolding said_from
  from_more is_first line s = go (first_part LF s)
    where
      go :
          First LF s
          → said_from boards tasks is_first (line ∷ split_on LF s) ≡ line_said boards tasks is_first line ∷ said_from boards tasks false (split_on LF s)
      go (First.first later e) = rw e

  -- a text that begins with a line, and one that does not
  turn :
      (is_first : Bool) (s : List ℕ) → index_of LF s < length s
      → said_from boards tasks is_first (split_on LF s)
      ≡ line_said boards tasks is_first (before LF s) ∷ said_from boards tasks false (split_on LF (after LF s))
  turn is_first s h = ap (said_from boards tasks is_first) (split-found LF s h) ∙ from_more is_first (before LF s) (after LF s)

  stop :
      (is_first : Bool) (s : List ℕ) → length s ≤ index_of LF s
      → said_from boards tasks is_first (split_on LF s) ≡ cond (is_first || not (same s [])) (says_none false ∷ []) []
  unfolding said_from
  stop is_first s h = rw (split-none LF s h)

  -- nothing follows the last line
  nothing : (s : List ℕ) (k : ℕ) → length s ≤ index_of LF s → length (skip (suc k) s) ≡ 0
  unfolding skip_on
  nothing s k h = omega (arith, skip-le LF k (after LF s), length-drop (suc (index_of LF s)) s)

  last-place : (is_first : Bool) (s : List ℕ) (k : ℕ) → length s ≤ index_of LF s → Place is_first s k
  unfolding skip_on same
  last-place true [] zero h = record {
    there = λ t. rw (stop true [] h) (omega arith);
    back = λ l. inl (refl, refl);
    says = λ l. rw (stop true [] h, le-ltb (index_of LF []) (length {A = ℕ} []) h);
  }
  last-place false [] zero h = record {
    there = ⊎_elim (λ e. true-false e.0 refl) (λ l. absurd (omega arith));
    back = λ l. let m = rw (stop false [] h) at l in absurd (omega arith);
    says = λ l. let m = rw (stop false [] h) at l in absurd (omega arith);
  }
  last-place is_first (b ∷ s) zero h =
      let e : said_from boards tasks is_first (split_on LF (b ∷ s)) ≡ says_none false ∷ [] = stop is_first (b ∷ s) h ∙ some is_first in
      record {
        there = λ t. rw e (omega arith);
        back = λ l. inr (omega arith);
        says = λ l. rw (e, le-ltb (index_of LF (b ∷ s)) (length (b ∷ s)) h);
      }
    where
      some : (x : Bool) → ◌≡◌ {A = List LogLine} (cond (x || true) (says_none false ∷ []) []) (says_none false ∷ [])
      some true = refl
      some false = refl
  last-place is_first s (suc k) h =
      let short = at_most is_first (same s []) in
      record {
        there = ⊎_elim (λ e. absurd (let q = e.1 in omega arith)) (λ l. absurd (omega (arith, nothing s k h)));
        back = λ l. let m = rw (stop is_first s h) at l in absurd (omega arith);
        says = λ l. let m = rw (stop is_first s h) at l in absurd (omega arith);
      }
    where
      at_most : (x y : Bool) → length (cond (x || not y) (says_none false ∷ []) []) ≤ 1
      at_most true y = omega arith
      at_most false true = omega arith
      at_most false false = omega arith

  place : (is_first : Bool) (s : List ℕ) (k : ℕ) → Place is_first s k
  unfolding skip_on
  place is_first s zero =
      by_le (length s) (index_of LF s)
      (λ h. last-place is_first s zero h)
      (λ h.
      let e = turn is_first s h in
      record {
        there = λ t. rw e (omega arith);
        back = λ l. inr (omega arith);
        says = λ l. rw (e, lt-ltb (index_of LF s) (length s) h) (first is_first);
      })
    where
      first : (x : Bool) → line_said boards tasks x (before LF s) ≡ line_said boards tasks (x && true) (before LF s)
      first true = refl
      first false = refl
  place is_first s (suc k) =
      by_le (length s) (index_of LF s)
      (λ h. last-place is_first s (suc k) h)
      (λ h.
      let e = turn is_first s h in
      let r = place false (after LF s) k in
      record {
        there = ⊎_elim (λ q. absurd (let z = q.1 in omega arith)) (λ l. let m = r.there (inr l) in rw e (omega arith));
        back = λ l.
            let m = rw e at l in
            ⊎_elim (λ q. true-false q.0 refl) (λ n. inr n) (r.back (omega arith));
        says = λ l. let m = rw e at l in rw e (r.says (omega arith) ∙ later is_first);
      })
    where
      later : (x : Bool) → said_at false (after LF s) k ≡ said_at x s (suc k)
      later true = rw (ne_eqb (suc k) 0 (λ e. absurd (omega arith)))
      later false = refl

  -- of a whole log
  module _ (log : List ℕ) (k : ℕ) where
    pub line-there : IsThere log k → k < length (said_in boards tasks log)
    line-there = ⊎_elim (λ e. (place true log k).there (inl (refl, e))) (λ l. (place true log k).there (inr l))

    pub line-back : k < length (said_in boards tasks log) → IsThere log k
    line-back l = ⊎_elim (λ e. inl e.1) (λ m. inr m) ((place true log k).back l)

    pub line-says :
        k < length (said_in boards tasks log) → get_or (said_in boards tasks log) k (says_none true) ≡ said_at true log k
    line-says = (place true log k).says
