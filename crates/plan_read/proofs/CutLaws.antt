-- The fields of a task line, each looked for where the one before it ends.
use Prim.Native.Nat.{ℕ, suc}
use mathlib.Core.Path.{◌≡◌, refl, ap, ◌∙◌}
use mathlib.Core.List.{List}
use lib.ListN.{length, drop}
use Rattle.laws.specs.Split.{before, skip_on}
use Rattle.text.specs.Line.{TAB, field}
use Rattle.text.proofs.Parts.{From, from_start, from_field, from_next, skip-next, field_at}

pub record Cut (line p0 p1 p2 p3 : List ℕ) : Type 0 where
  pub first : p0 ≡ field line 0
  pub second : p1 ≡ field line 1
  pub third : p2 ≡ field line 2
  pub fourth : p3 ≡ field line 3

pub line-cut :
    {line p0 r1 p1 r2 p2 r3 p3 : List ℕ}
    → p0 ≡ before TAB line → r1 ≡ drop (suc (length p0)) line
    → p1 ≡ before TAB r1 → r2 ≡ drop (suc (length p1)) r1
    → p2 ≡ before TAB r2 → r3 ≡ drop (suc (length p2)) r2
    → p3 ≡ before TAB r3 → Cut line p0 p1 p2 p3
line-cut {line} e0 q1 e1 q2 e2 q3 e3 =
    let f0 : From TAB line 0 _ = from_start TAB line in
    let f1 : From TAB line 1 _ = from_next TAB line 0 _ _ f0 e0 _ q1 in
    let f2 : From TAB line 2 _ = from_next TAB line 1 _ _ f1 e1 _ q2 in
    let f3 : From TAB line 3 _ = from_next TAB line 2 _ _ f2 e2 _ q3 in
    record {
      first = from_field TAB line 0 _ _ f0 e0;
      second = from_field TAB line 1 _ _ f1 e1;
      third = from_field TAB line 2 _ _ f2 e2;
      fourth = from_field TAB line 3 _ _ f3 e3;
    }

-- its first three fields
pub record Head (line p0 p1 p2 : List ℕ) : Type 0 where
  pub first : p0 ≡ field line 0
  pub second : p1 ≡ field line 1
  pub third : p2 ≡ field line 2

pub head-cut :
    {line p0 r1 p1 r2 p2 : List ℕ}
    → p0 ≡ before TAB line → r1 ≡ drop (suc (length p0)) line
    → p1 ≡ before TAB r1 → r2 ≡ drop (suc (length p1)) r1 → p2 ≡ before TAB r2 → Head line p0 p1 p2
head-cut e0 q1 e1 q2 e2 =
    let c = line-cut e0 q1 e1 q2 e2 refl refl in record { first = c.first; second = c.second; third = c.third }

pub ready_field : (line : List ℕ) {rest part : List ℕ} → rest ≡ skip_on TAB 3 line → part ≡ before TAB rest → part ≡ field line 3
ready_field line r e = e ∙ ap (before TAB) r ∙ field_at TAB line 3

-- what is left after the first three
pub line-rest :
    (line : List ℕ) {p0 r1 p1 r2 p2 r3 : List ℕ}
    → p0 ≡ before TAB line → r1 ≡ drop (suc (length p0)) line
    → p1 ≡ before TAB r1 → r2 ≡ drop (suc (length p1)) r1
    → p2 ≡ before TAB r2 → r3 ≡ drop (suc (length p2)) r2 → r3 ≡ skip_on TAB 3 line
unfolding skip_on
line-rest line e0 q1 e1 q2 e2 q3 =
    skip-next TAB 2 line _ _ (skip-next TAB 1 line _ _ (skip-next TAB 0 line _ _ refl e0 q1) e1 q2) e2 q3
