-- A line whose last number may not be known.
use Prim.Native.Nat.{ℕ, ◌≤◌}
use mathlib.Core.Path.{◌≡◌, refl, sym, ap, ◌∙◌}
use mathlib.Core.Bool.{Bool, true, false}
use mathlib.Core.List.{List, [], ◌∷◌, ◌++◌, map}
use Rattle.laws.specs.Digits.{digits_of}
use Rattle.text.specs.Bytes.{bytes}
use Rattle.log_write.specs.Lines.{numbers_line, Lined}
use Rattle.log_write.specs.Short.{line_to}
use Rattle.log_write.proofs.WriteLaws.{to-tabbed, lined-looser}
use Rattle.log_write.proofs.RunLaws.{last-tabbed}
use Rattle.desk_answers.specs.Answers.{known_line}

digits_last : (l : List ℕ) (x : ℕ) → map digits_of (l ++ (x ∷ [])) ≡ map digits_of l ++ (digits_of x ∷ [])
digits_last [] x = refl
digits_last (n ∷ l) x = ap (λ (s : List (List ℕ)). digits_of n ∷ s) (digits_last l x)

module _ (word numbers : List ℕ) (n : ℕ) {known : Bool} {out : List ℕ} {at a : ℕ} {m : List ℕ} {p : ℕ} (few : a ≤ 52) where
  pub known-yes :
      known ≡ true → Lined out at (numbers_line word (numbers ++ (n ∷ []))) a m p → Lined out at (known_line word numbers known n) 52 m p
  unfolding known_line numbers_line
  known-yes k w = rw k (rw (digits_last numbers n) at (lined-looser few w))

  pub known-not :
      known ≡ false → Lined out at (line_to (9 ∷ (bytes "-" ++ (10 ∷ []))) word numbers) a m p → Lined out at (known_line word numbers known n) 52 m p
  unfolding known_line
  known-not k w =
      let e = to-tabbed (9 ∷ (bytes "-" ++ (10 ∷ []))) word numbers ∙ sym (last-tabbed (bytes "-") word numbers) in
      rw k (rw e at (lined-looser few w))
