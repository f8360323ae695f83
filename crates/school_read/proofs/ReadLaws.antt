-- What is found in a log, place by place, and which line is the last that it can name.
use Prim.Native.Nat.{ℕ, ◌+◌, ◌≤◌, ◌<◌, min}
use mathlib.Core.Path.{◌≡◌, refl, sym, ap, ◌∙◌}
use mathlib.Core.Bool.{Bool, true, false, not, cond, ◌||◌}
use mathlib.Core.List.{List, [], ◌∷◌}
use native.Mathlib.Omega.{arith}
use lib.Dec.{eqb}
use lib.ListN.{length}
use borrow.Author.Tests.{eq-eqb, ne_eqb}
use Rattle.std.specs.Prelude.{Result, Ok, Err}
use Rattle.laws.specs.Lists.{all_of, first_not, same}
use Rattle.laws.specs.Split.{cons_first, split_on}
use Rattle.laws.proofs.Cases.{by_bool, by-eq, true-false}
use Rattle.text.specs.Line.{LF}
use Rattle.school.specs.Lines.{says_none, said_from, said_in}
use Rattle.school.specs.Said.{LogLine}
use Rattle.school_read.specs.Found.{is_formed, up_to_two, lines_read, found_of}
use Rattle.school_read.specs.declared.Found.{Found}

-- none, and one, are told from the rest
pub none_kept : (n : ℕ) → eqb (up_to_two n) 0 ≡ eqb n 0
none_kept n =
    by-eq n 0
    (λ e. eq-eqb (up_to_two n) 0 (omega arith) ∙ sym (eq-eqb n 0 e))
    (λ z. ne_eqb (up_to_two n) 0 (λ e. z (omega arith)) ∙ sym (ne_eqb n 0 z))

pub one_kept : (n : ℕ) → eqb (up_to_two n) 1 ≡ eqb n 1
one_kept n =
    by-eq n 1
    (λ e. eq-eqb (up_to_two n) 1 (omega arith) ∙ sym (eq-eqb n 1 e))
    (λ z. ne_eqb (up_to_two n) 1 (λ e. z (omega arith)) ∙ sym (ne_eqb n 1 z))

-- ---- no line past the log's length is named

first-few : (b : ℕ) (l : List (List ℕ)) (n : ℕ) → length l ≤ n → 1 ≤ n → length (cons_first b l) ≤ n
unfolding cons_first
first-few b [] n h g = g
first-few b (f ∷ fs) n h g = h

parts-few : (c : ℕ) (s : List ℕ) → length (split_on c s) ≤ length s + 1
unfolding split_on
parts-few c [] = omega arith
parts-few c (b ∷ s) =
    let r = parts-few c s in
    by_bool (eqb b c)
    (λ e. rw e (omega arith))
    (λ e. rw e (first-few b (split_on c s) (length (b ∷ s) + 1) (omega arith) (omega arith)))

said-few : (boards tasks : ℕ) (is_first : Bool) (parts : List (List ℕ)) → length (said_from boards tasks is_first parts) ≤ length parts
unfolding said_from
said-few boards tasks is_first [] = omega arith
said-few boards tasks is_first (last ∷ []) = go (is_first || not (same last []))
  where
    go : (b : Bool) → length (cond b (says_none false ∷ []) []) ≤ 1
    go true = omega arith
    go false = omega arith
said-few boards tasks is_first (line ∷ next ∷ lines) = let r = said-few boards tasks false (next ∷ lines) in omega arith

first_below : (lines : List LogLine) → all_of is_formed lines ≡ false → first_not is_formed lines < length lines
unfolding all_of first_not
first_below [] h = true-false refl h
first_below (said ∷ lines) h =
    by_bool said.formed
    (λ e. let r = first_below lines (rw e at h) in rw e (omega arith))
    (λ e. rw e (omega arith))

-- 0 where all lines have their form
abbrev pub line_of : Result Found ℕ → ℕ
line_of (Ok found) = 0
line_of (Err line) = line

abbrev pub is_found : Result Found ℕ → Bool
is_found (Ok found) = true
is_found (Err line) = false

abbrev pub found_else : Found → Result Found ℕ → Found
found_else other (Ok found) = found
found_else other (Err line) = other

named-most : (boards tasks : ℕ) (log : List ℕ) → line_of (found_of boards tasks log) ≤ length log + 1
unfolding found_of lines_read
named-most boards tasks log =
    let lines = said_in boards (min tasks 64) log in
    let few = parts-few LF log in
    let said = said-few boards (min tasks 64) true (split_on LF log) in
    by_bool (all_of is_formed lines)
    (λ e. rw e (omega arith))
    (λ e. let r = first_below lines e in rw e (omega arith))

pub line-most : (boards tasks : ℕ) (log : List ℕ) {line : ℕ} → Err line ≡ found_of boards tasks log → line ≤ length log + 1
line-most boards tasks log e = let q = ap line_of e in omega (arith, named-most boards tasks log)
