-- A text of whole lines is split into just these lines.
use Prim.Native.Nat.{ℕ}
use native.Mathlib.Omega.{arith}
use mathlib.Core.Path.{◌≡◌, refl, sym, ap, subst, ◌∙◌}
use mathlib.Core.Bool.{true}
use mathlib.Core.Logic.{◌≢◌}
use mathlib.Core.List.Memᴰ
use mathlib.Core.List.{List, [], ◌∷◌, ◌++◌, map, append_assoc, append-nil, Memᴰ}
use Rattle.laws.specs.Digits.{digits_of}
use Rattle.laws.specs.Lists.{all_of}
use Rattle.laws.specs.Split.{split_on, join_on}
use Rattle.laws.proofs.Cases.{and_l, and-of}
use Rattle.laws.proofs.Split.{free, split-first, split-join}
use Rattle.text.specs.Bytes.{bytes}
use Rattle.text.specs.Line.{TAB, LF, fields, field, line_text}
use Rattle.log_write.specs.Lines.{numbers_line}
use Rattle.promises.proofs.LogLines.{Clean, free-join, digits-clean}

-- a text, and the lines that it is made of
pub data Whole : List ℕ → List (List ℕ) → Type 0 where
  none : Whole [] []
  more : (line rest : List ℕ) (lines : List (List ℕ)) → free LF line ≡ true → Whole rest lines → Whole (line ++ (LF ∷ rest)) (line ∷ lines)

pub whole_append : {s : List ℕ} {ls : List (List ℕ)} (t : List ℕ) (ms : List (List ℕ)) → Whole s ls → Whole t ms → Whole (s ++ t) (ls ++ ms)
whole_append t ms Whole.none w = w
whole_append t ms (Whole.more line rest lines f v) w =
    subst (λ (x : List ℕ). Whole x (line ∷ (lines ++ ms))) (sym (append_assoc line (LF ∷ rest) t))
    (Whole.more line (rest ++ t) (lines ++ ms) f (whole_append t ms v w))

pub split-append : {s : List ℕ} {ls : List (List ℕ)} (t : List ℕ) → Whole s ls → split_on LF (s ++ t) ≡ ls ++ split_on LF t
split-append t Whole.none = refl
split-append t (Whole.more line rest lines f v) =
    ap (split_on LF) (append_assoc line (LF ∷ rest) t) ∙ split-first LF line (rest ++ t) f
    ∙ ap (λ (l : List (List ℕ)). line ∷ l) (split-append t v)

pub whole_split : {s : List ℕ} {ls : List (List ℕ)} → Whole s ls → split_on LF s ≡ ls ++ ([] ∷ [])
unfolding split_on
whole_split {s} w = ap (split_on LF) (sym (append-nil s)) ∙ split-append [] w

-- a text none of whose lines is a `drop` line
abbrev pub NoDrop : List ℕ → Type 0
NoDrop text = (line : List ℕ) → Memᴰ line (split_on LF text) → field line 0 ≢ bytes "drop"

module _ {s : List ℕ} {ls : List (List ℕ)} (t : List ℕ) (w : Whole s ls) (none : NoDrop (s ++ t)) where
  pub none_here : (line : List ℕ) → Memᴰ line ls → field line 0 ≢ bytes "drop"
  none_here line m = none line (subst (Memᴰ line) (sym (split-append t w)) (Memᴰ.append_left (split_on LF t) m))

  pub none-later : NoDrop t
  none-later line m = none line (subst (Memᴰ line) (sym (split-append t w)) (Memᴰ.append_right ls m))

-- one line of such fields
pub record OneLine (text : List ℕ) (parts : List (List ℕ)) : Type 0 where
  pub line : List ℕ
  pub whole : Whole text (line ∷ [])
  pub has : fields line ≡ parts

pub one_line : (f : List ℕ) (fs : List (List ℕ)) → Clean (f ∷ fs) → OneLine (line_text (f ∷ fs)) (f ∷ fs)
one_line f fs c = record {
  line = join_on TAB (f ∷ fs);
  whole = Whole.more (join_on TAB (f ∷ fs)) [] [] (free-join (f ∷ fs) c.1) Whole.none;
  has = split-join TAB f fs c.0;
}

pub numbers-line : (word numbers : List ℕ) → Clean (word ∷ []) → OneLine (numbers_line word numbers) (word ∷ map digits_of numbers)
unfolding numbers_line all_of
numbers-line word numbers c =
    one_line word (map digits_of numbers) (
      and-of (and_l (free TAB word) true c.0) (digits-clean TAB (omega arith) numbers),
      and-of (and_l (free LF word) true c.1) (digits-clean LF (omega arith) numbers),
    )
