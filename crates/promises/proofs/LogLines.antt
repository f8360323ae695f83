-- A log is lines, each ended by an LF: a word, and what follows it.
use Prim.Native.Nat.{ℕ, zero, suc, ◌<◌}
use native.Mathlib.Omega.{arith}
use mathlib.Core.Path.{◌≡◌, refl, sym, ap, subst, ◌∙◌}
use mathlib.Core.Logic.{◌⊎◌, inl, inr, ⊎_elim}
use mathlib.Core.Bool.{Bool, true, false, not}
use mathlib.Core.List.{List, [], ◌∷◌, ◌++◌, map, append_assoc, append-nil}
use lib.ListN.{get_or}
use lib.Dec.{eqb}
use Rattle.laws.specs.Lists.{all_of, same}
use Rattle.laws.specs.Digits.{digits_of}
use Rattle.laws.specs.Split.{index_of, skip_on, join_on}
use Rattle.laws.proofs.Cases.{by_bool, and_l, and_r, and-of, true-false}
use Rattle.laws.proofs.Lists.{all_append, same_refl}
use Rattle.laws.proofs.Split.{free, split-join, before-seam, after-seam}
use Rattle.text.specs.Bytes.{bytes}
use Rattle.text.specs.Line.{TAB, LF, skip, line_at, fields, field, line_text, lines_below}
use Rattle.text.proofs.Numerals.{digits-free}
use Rattle.book.specs.declared.Book.{Book}
use Rattle.log_write.specs.Lines.{numbers_line, run_by, start_word}
use Rattle.log_run.specs.Lines.{has_started, start_lines}
use Rattle.theory.specs.Book.{is_dropped}
use Rattle.plan.specs.Value.{at}

-- text of lines, after what is printed before it, of each of which something holds: of what is printed before the line, and of it
pub data AllLines (P : List ℕ → List ℕ → Type 0) : List ℕ → List ℕ → Type 0 where
  none : {front : List ℕ} → AllLines P front []
  more :
      {front : List ℕ} (line rest : List ℕ) → free LF line ≡ true → P front line → AllLines P (front ++ (line ++ (LF ∷ []))) rest
      → AllLines P front (line ++ (LF ∷ rest))

no_line : (n : ℕ) → line_at [] n ≡ []
unfolding skip_on index_of
no_line zero = refl
no_line (suc n) = no_line n

-- a line between what is printed before and after it
between : (front line rest : List ℕ) → (front ++ (line ++ (LF ∷ []))) ++ rest ≡ front ++ (line ++ (LF ∷ rest))
between front line rest = append_assoc front (line ++ (LF ∷ [])) rest ∙ ap (λ (l : List ℕ). front ++ l) (append_assoc line (LF ∷ []) rest)

-- what holds of the line at a place, and what is printed before it
pub record At (P : List ℕ → List ℕ → Type 0) (front s : List ℕ) (n : ℕ) : Type 0 where
  pub before-it : List ℕ
  pub whole : front ++ s ≡ (before-it ++ (line_at s n ++ (LF ∷ []))) ++ skip (suc n) s
  pub holds : P before-it (line_at s n)

module _ {P : List ℕ → List ℕ → Type 0} where
  pub lines-append : {front s : List ℕ} (t : List ℕ) → AllLines P front s → AllLines P (front ++ s) t → AllLines P front (s ++ t)
  lines-append {front} t AllLines.none b = subst (λ (f : List ℕ). AllLines P f t) (append-nil front) b
  lines-append {front} t (AllLines.more line rest f p a) b =
      subst (AllLines P front) (sym (append_assoc line (LF ∷ rest) t))
      (AllLines.more line (rest ++ t) f p
      (lines-append t a (subst (λ (x : List ℕ). AllLines P x t) (sym (between front line rest)) b)))

  pub line_of : (front s : List ℕ) → AllLines P front s → (n : ℕ) → (line_at s n ≡ []) ⊎ At P front s n
  unfolding skip_on index_of
  line_of front s AllLines.none n = inl (no_line n)
  line_of front s (AllLines.more line rest f p a) zero =
      inr (record {
        before-it = front;
        whole =
            sym (between front line rest)
            ∙ (λ i. (front ++ (sym (before-seam LF line rest f) i ++ (LF ∷ []))) ++ sym (after-seam LF line rest f) i);
        holds = subst (P front) (sym (before-seam LF line rest f)) p;
      })
  line_of front s (AllLines.more line rest f p a) (suc n) =
      let e = sym (after-seam LF line rest f) in
      ⊎_elim (λ z. inl (ap (λ (t : List ℕ). line_at t n) (sym e) ∙ z))
      (λ r.
      inr (record {
        before-it = r.before-it;
        whole =
            sym (between front line rest) ∙ r.whole
            ∙ (λ i. (r.before-it ++ (line_at (e i) n ++ (LF ∷ []))) ++ skip (suc n) (e i));
        holds = subst (λ (t : List ℕ). P r.before-it (line_at t n)) e r.holds;
      }))
      (line_of (front ++ (line ++ (LF ∷ []))) rest a n)

-- no part has a tab or an LF
abbrev pub Clean : List (List ℕ) → Type 0
Clean parts = (all_of (free TAB) parts ≡ true) × (all_of (free LF) parts ≡ true)

pub free-join : (parts : List (List ℕ)) → all_of (free LF) parts ≡ true → free LF (join_on TAB parts) ≡ true
unfolding join_on all_of
free-join [] h = refl
free-join (f ∷ []) h = and_l (free LF f) true h
free-join (f ∷ g ∷ fs) h =
    all_append (λ b. not (eqb b LF)) f (TAB ∷ join_on TAB (g ∷ fs))
    ∙ and-of (and_l (free LF f) (all_of (free LF) (g ∷ fs)) h) (free-join (g ∷ fs) (and_r (free LF f) (all_of (free LF) (g ∷ fs)) h))

-- one line
pub line-one :
    {P : List ℕ → List ℕ → Type 0} {front : List ℕ} (f : List ℕ) (fs : List (List ℕ)) → Clean (f ∷ fs)
    → ((line : List ℕ) → fields line ≡ f ∷ fs → line ++ (LF ∷ []) ≡ line_text (f ∷ fs) → P front line) → AllLines P front (line_text (f ∷ fs))
line-one f fs c p =
    AllLines.more (join_on TAB (f ∷ fs)) [] (free-join (f ∷ fs) c.1) (p (join_on TAB (f ∷ fs)) (split-join TAB f fs c.0) refl) AllLines.none

-- a word and numbers
pub digits-clean : (c : ℕ) → c < 48 → (numbers : List ℕ) → all_of (free c) (map digits_of numbers) ≡ true
unfolding all_of
digits-clean c l [] = refl
digits-clean c l (n ∷ numbers) = and-of (digits-free c n l) (digits-clean c l numbers)

pub numbers-one :
    {P : List ℕ → List ℕ → Type 0} {front : List ℕ} (word numbers : List ℕ) → Clean (word ∷ [])
    → ((line : List ℕ) → fields line ≡ word ∷ map digits_of numbers → line ++ (LF ∷ []) ≡ numbers_line word numbers → P front line)
    → AllLines P front (numbers_line word numbers)
unfolding numbers_line all_of
numbers-one word numbers c p =
    line-one word (map digits_of numbers) (
      and-of (and_l (free TAB word) true c.0) (digits-clean TAB (omega arith) numbers),
      and-of (and_l (free LF word) true c.1) (digits-clean LF (omega arith) numbers),
    ) p

-- a line by its first word alone
abbrev pub Other : (List ℕ → List ℕ → Type 0) → Type 0
Other P = (front line : List ℕ) → (field line 0 ≡ bytes "early" → ⊥) → (field line 0 ≡ bytes "refused" → ⊥) → P front line

module _ {P : List ℕ → List ℕ → Type 0} (other : Other P) where
  -- of two words that begin otherwise
  named : (front line word : List ℕ) (rest : List (List ℕ)) → same word (bytes "early") ≡ false → same word (bytes "refused") ≡ false → fields line ≡ word ∷ rest → P front line
  named front line word rest e r f =
      let first : field line 0 ≡ word = ap (λ (l : List (List ℕ)). get_or l 0 []) f in
      other front line
      (λ q. true-false (same_of word (bytes "early") (sym first ∙ q)) e)
      (λ q. true-false (same_of word (bytes "refused") (sym first ∙ q)) r)
    where
      same_of : (s t : List ℕ) → s ≡ t → same s t ≡ true
      same_of s t q = rw q (same_refl t)

  task-lines : (front word numbers : List ℕ) → Clean (word ∷ []) → same word (bytes "early") ≡ false → same word (bytes "refused") ≡ false → AllLines P front (numbers_line word numbers)
  task-lines front word numbers c e r = numbers-one word numbers c (λ line f q. named front line word (map digits_of numbers) e r f)

  pub end_line : (front numbers : List ℕ) → AllLines P front (numbers_line (bytes "end") numbers)
  unfolding all_of same
  end_line front numbers = task-lines front (bytes "end") numbers (refl, refl) refl refl

  pub drop-line : (front numbers : List ℕ) → AllLines P front (numbers_line (bytes "drop") numbers)
  unfolding all_of same
  drop-line front numbers = task-lines front (bytes "drop") numbers (refl, refl) refl refl

  start-line : (front : List ℕ) (dropped : Bool) (numbers : List ℕ) → AllLines P front (numbers_line (start_word dropped) numbers)
  unfolding all_of same
  start-line front true numbers = task-lines front (bytes "skip") numbers (refl, refl) refl refl
  start-line front false numbers = task-lines front (bytes "start") numbers (refl, refl) refl refl

  pub starts-lines : (front : List ℕ) (old new : Book) (n : ℕ) → AllLines P front (start_lines old new n)
  unfolding lines_below
  starts-lines front old new zero = AllLines.none
  starts-lines front old new (suc n) =
      lines-append _ (starts-lines front old new n)
      (by_bool (has_started old new n)
      (λ e. rw e (start-line (front ++ start_lines old new n) (is_dropped (at new.dropped) n) _))
      (λ e. rw e AllLines.none))

  pub run-lines : (front : List ℕ) (rule boards tasks : ℕ) → AllLines P front (run_by rule boards tasks)
  unfolding run_by all_of same
  run-lines front rule boards tasks =
      by_bool (eqb rule 0)
      (λ e. rw e (task-lines front (bytes "run") (1 ∷ boards ∷ tasks ∷ []) (refl, refl) refl refl))
      (λ e.
      rw e
      (line-one (bytes "run") (digits_of 2 ∷ digits_of boards ∷ digits_of tasks ∷ bytes "clash" ∷ [])
      (clean TAB (omega arith) refl refl, clean LF (omega arith) refl refl)
      (λ line f q. named front line (bytes "run") (digits_of 2 ∷ digits_of boards ∷ digits_of tasks ∷ bytes "clash" ∷ []) refl refl f)))
    where
      clean : (c : ℕ) → c < 48 → free c (bytes "run") ≡ true → free c (bytes "clash") ≡ true → all_of (free c) (bytes "run" ∷ digits_of 2 ∷ digits_of boards ∷ digits_of tasks ∷ bytes "clash" ∷ []) ≡ true
      clean c l r w = and-of r (and-of (digits-free c 2 l) (and-of (digits-free c boards l) (and-of (digits-free c tasks l) (and-of w refl))))
