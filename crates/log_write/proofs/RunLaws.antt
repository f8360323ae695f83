-- The `run` line by either rule.
use Prim.Native.Nat.{ℕ}
use mathlib.Core.Path.{◌≡◌, sym, ap, ◌∙◌}
use mathlib.Core.Logic.{◌≢◌}
use mathlib.Core.List.{List, [], ◌∷◌, ◌++◌, map, append_assoc}
use native.Mathlib.Omega.{arith}
use borrow.Author.Tests.{eq-eqb, ne_eqb}
use Rattle.laws.specs.Digits.{digits_of}
use Rattle.laws.specs.Split.{join_on}
use Rattle.text.specs.Bytes.{bytes}
use Rattle.log_write.specs.Lines.{numbers_line, run_by, Lined}
use Rattle.log_write.specs.Short.{line_to}
use Rattle.log_write.proofs.WriteLaws.{tabbed, to-tabbed, lined-looser}

-- a word after the numbers is a line's end as well
pub last-tabbed : (last word l : List ℕ) → join_on 9 (word ∷ (map digits_of l ++ (last ∷ []))) ++ (10 ∷ []) ≡ word ++ tabbed (9 ∷ (last ++ (10 ∷ []))) l
unfolding join_on tabbed
last-tabbed last word [] = append_assoc word (9 ∷ last) (10 ∷ [])
last-tabbed last word (n ∷ l) =
    append_assoc word (9 ∷ join_on 9 (digits_of n ∷ (map digits_of l ++ (last ∷ [])))) (10 ∷ [])
    ∙ ap (λ (s : List ℕ). word ++ (9 ∷ s)) (last-tabbed last (digits_of n) l)

module _ (rule boards tasks : ℕ) {out : List ℕ} {at : ℕ} {m : List ℕ} {p : ℕ} where
  pub run-early : rule ≡ 0 → Lined out at (numbers_line (bytes "run") (1 ∷ boards ∷ tasks ∷ [])) 41 m p → Lined out at (run_by rule boards tasks) 47 m p
  unfolding run_by
  run-early z w = rw (eq-eqb rule 0 z) (lined-looser (omega arith) w)

  pub run-clash :
      rule ≢ 0 → Lined out at (line_to (9 ∷ (bytes "clash" ++ (10 ∷ []))) (bytes "run") (2 ∷ boards ∷ tasks ∷ [])) 47 m p
      → Lined out at (run_by rule boards tasks) 47 m p
  unfolding run_by
  run-clash n w =
      let numbers : List ℕ = 2 ∷ boards ∷ tasks ∷ [] in
      let e = to-tabbed (9 ∷ (bytes "clash" ++ (10 ∷ []))) (bytes "run") numbers ∙ sym (last-tabbed (bytes "clash") (bytes "run") numbers) in
      rw (ne_eqb rule 0 n) (rw e at w)
