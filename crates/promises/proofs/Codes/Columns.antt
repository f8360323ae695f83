-- The column that a refused line names is that of its leftmost field of the worst kind.
use Prim.Native.Nat.{ℕ, ◌+◌, ◌≤◌, ◌<◌}
use mathlib.Core.Path.{◌≡◌, refl, sym, ap, ◌∙◌}
use mathlib.Core.Logic.{◌≢◌, ◌⊎◌, inl, inr, ⊎_elim}
use mathlib.Core.Bool.{Bool, true, false, ◌&&◌}
use mathlib.Core.List.{List, []}
use native.Mathlib.Omega.{arith}
use lib.Dec.{eqb, leb}
use lib.ListN.{length, get_or-eq_default}
use borrow.Author.Tests.{le-leb, ltb-true, ltb-false}
use Rattle.laws.proofs.Cases.{by_bool, by_le}
use Rattle.laws.specs.Lists.{any_of, same}
use Rattle.laws.specs.Split.{index_of}
use Rattle.laws.proofs.Split.{index-found, index-first, skip-down, skip-beyond}
use Rattle.text.specs.Line.{TAB, fields, field}
use Rattle.text_fields.specs.Faults.{code_for, word_code, end_code, worst, column_of}
use Rattle.text_fields.proofs.Alike.{Plain}
use Rattle.text_fields.proofs.FaultLaws.{any_found}
use Rattle.plan.specs.Value.{at}
use Rattle.promises.specs.Columns.{Names, ColumnSays, begins_at}
use Rattle.promises.specs.Says.{LineCode}

abbrev pub ThreeOrFour : ℕ → Type 0
ThreeOrFour code = (code ≡ 3) ⊎ (code ≡ 4)

-- the worst code stands somewhere, another than 3 only where no 3 does, 20 and 18 only where no 4 does, and 18 only where no 20 does
pub record Worst (codes : List ℕ) (code : ℕ) : Type 0 where
  pub kind : LineCode code
  pub found : index_of code codes < length codes
  pub no_three : code ≢ 3 → length codes ≤ index_of 3 codes
  pub no_four : code ≢ 3 → code ≢ 4 → length codes ≤ index_of 4 codes
  pub no_twenty : code ≡ 18 → length codes ≤ index_of 20 codes

pub worst-is : (codes : List ℕ) → worst codes ≢ 0 → Worst codes (worst codes)
unfolding worst
worst-is codes n =
    let here : (c : ℕ) → any_of (eqb c) codes ≡ true → index_of c codes < length codes =
    λ c e. ltb-true (index_of c codes) (length codes) (sym (any_found c codes) ∙ e) in
    let nowhere : (c : ℕ) → any_of (eqb c) codes ≡ false → length codes ≤ index_of c codes =
    λ c e. ltb-false (index_of c codes) (length codes) (sym (any_found c codes) ∙ e) in
    by_bool (any_of (eqb 3) codes)
    (λ e. rw e (record { kind = inl refl; found = here 3 e; no_three = λ z. absurd (z refl); no_four = λ z. absurd (z refl); no_twenty = λ z. absurd (omega arith) }))
    (λ e.
    by_bool (any_of (eqb 4) codes)
    (λ f.
    rw (e, f)
    (record { kind = inr (inl refl); found = here 4 f; no_three = λ z. nowhere 3 e; no_four = λ z y. absurd (y refl); no_twenty = λ z. absurd (omega arith) }))
    (λ f.
    by_bool (any_of (eqb 20) codes)
    (λ t.
    rw (e, f, t)
    (record { kind = inr (inr (inl refl)); found = here 20 t; no_three = λ z. nowhere 3 e; no_four = λ z y. nowhere 4 f; no_twenty = λ z. absurd (omega arith) }))
    (λ t.
    by_bool (any_of (eqb 18) codes)
    (λ h.
    rw (e, f, t, h)
    (record { kind = inr (inr (inr refl)); found = here 18 h; no_three = λ z. nowhere 3 e; no_four = λ z y. nowhere 4 f; no_twenty = λ z. nowhere 20 t }))
    (λ h. absurd (n (rw (e, f, t, h)))))))

-- ---- no code but that of a ready tick is 18, and none but that of the holds is 20

-- so it is neither
pub plain-not : {code : ℕ} → Plain code → (other : ℕ) → 4 < other → code ≢ other
plain-not p other l z = ⊎_elim (λ e. absurd (omega arith)) (λ f. ⊎_elim (λ e. absurd (omega arith)) (λ e. absurd (omega arith)) f) p

pub for-plain : (spelt fine : Bool) → Plain (code_for spelt fine)
for-plain true true = inl refl
for-plain true false = inr (inr refl)
for-plain false fine = inr (inl refl)

pub word-plain : (word s : List ℕ) → Plain (word_code word s)
unfolding word_code
word-plain word s = by_bool (same s word) (λ e. rw e (inl refl)) (λ e. rw e (inr (inl refl)))

pub end-plain : (ended : Bool) (n : ℕ) (line : List ℕ) → Plain (end_code ended n line)
unfolding end_code
end-plain ended n line = by_bool (ended && leb (length (fields line)) n) (λ e. rw e (inl refl)) (λ e. rw e (inr (inl refl)))

-- so a line of other codes is refused by 3 or 4
pub worst-plain : (codes : List ℕ) → ((n : ℕ) → Plain (at codes n)) → worst codes ≢ 0 → ThreeOrFour (worst codes)
worst-plain codes plain n =
    let w = worst-is codes n in
    let not_so : (other : ℕ) → 4 < other → worst codes ≢ other =
    λ other l e. plain-not (plain (index_of (worst codes) codes)) other l (index-found (worst codes) codes 0 w.found ∙ e) in
    ⊎_elim (λ e. inl e)
    (⊎_elim (λ e. inr e)
    (⊎_elim (λ e. absurd (not_so 20 (omega arith) e)) (λ e. absurd (not_so 18 (omega arith) e))))
    w.kind

-- whatever is there is ended, or one more
end-wrong : (ended : Bool) (n : ℕ) (line : List ℕ) → end_code ended n line ≢ 0 → length (fields line) ≤ n → ended ≡ false
unfolding end_code
end-wrong true n line h few = absurd (h (rw (le-leb (length (fields line)) n few)))
end-wrong false n line h few = refl

end-three : (ended : Bool) (n : ℕ) (line : List ℕ) → end_code ended n line ≢ 0 → end_code ended n line ≡ 3
unfolding end_code
end-three ended n line h =
    by_bool (ended && leb (length (fields line)) n) (λ e. absurd (h (rw e))) (λ e. rw e)

-- a line whose codes are those of its fields, 3 for a missing one, and that of its end
module _ (width : ℕ) (ended : Bool) (line codes : List ℕ)
    (all : length codes ≡ width + 1) (end : at codes width ≡ end_code ended width line)
    (missing : (n : ℕ) → n < width → length (fields line) ≤ n → at codes n ≡ 3) where
  abbrev code : ℕ
  code = worst codes

  abbrev place : ℕ
  place = index_of code codes

  module _ (n : worst codes ≢ 0) where
    w : Worst codes code
    w = worst-is codes n

    there : at codes place ≡ code
    there = index-found code codes 0 w.found

    past-last : length (fields line) ≤ place → column_of line codes code ≡ length line + 1
    past-last few = omega (arith, skip-beyond TAB line place few)

    pub names : Names width ended line codes code (column_of line codes code)
    names =
        by_le width place
        (λ last.
        let here : place ≡ width = omega (arith, last, w.found, all) in
        let is : code ≡ end_code ended width line = sym there ∙ ap (at codes) here ∙ end in
        by_le (length (fields line)) width
        (λ few. Names.missing_lf few (end-wrong ended width line (λ z. n (is ∙ z)) few) (is ∙ end-three ended width line (λ z. n (is ∙ z))) (past-last (omega (arith, few, last))))
        (λ more. Names.field_too_many more (is ∙ end-three ended width line (λ z. n (is ∙ z))) (ap (begins_at width ended line codes code code) here)))
        (λ inner.
        by_le (length (fields line)) place
        (λ few. Names.missing_field (omega (arith, few, inner)) (sym there ∙ missing place inner few) (past-last few))
        (λ some. Names.faulty_field place inner some there refl))

    pub column-says : ColumnSays width ended line codes code (column_of line codes code)
    column-says = record {
      from = omega arith;
      to = omega arith;
      names = names;
      leftmost = λ j h l e. by_le place j (λ after. omega (arith, skip-down TAB line place j after, l)) (λ earlier. index-first code codes 0 j earlier e);
      no_three = λ z j h e. index-first 3 codes 0 j (omega (arith, w.no_three z, all, h)) e;
      no_four = λ z y j h e. index-first 4 codes 0 j (omega (arith, w.no_four z y, all, h)) e;
      no_twenty = λ z j h e. index-first 20 codes 0 j (omega (arith, w.no_twenty z, all, h)) e;
    }

pub worst-kind : (codes : List ℕ) → worst codes ≢ 0 → LineCode (worst codes)
worst-kind codes n = (worst-is codes n).kind

-- a missing field counts as an empty one
pub no_field : (line : List ℕ) (n : ℕ) → length (fields line) ≤ n → field line n ≡ []
no_field line n few = get_or-eq_default (fields line) [] few
