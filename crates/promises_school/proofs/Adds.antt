-- What lines of a log add to what is known of the starts and ends of all tasks.
use Prim.Native.Nat.{ℕ, suc, ◌+◌, ◌-◌, ◌<◌}
use native.Mathlib.Omega.{arith}
use mathlib.Core.Path.{◌≡◌, refl, sym, ap, subst, ◌∙◌}
use mathlib.Core.Logic.{◌≢◌, ⊎_elim}
use mathlib.Core.Bool.{Bool, true, false}
use mathlib.Core.List.Memᴰ
use mathlib.Core.List.{List, [], ◌∷◌, ◌++◌, map, map-append, Memᴰ}
use borrow.Author.Tests.{eq-eqb, ne_eqb}
use Rattle.laws.specs.Digits.{digits_of}
use Rattle.laws.specs.Lists.{all_of}
use Rattle.laws.proofs.Cases.{by-eq, and-of}
use Rattle.laws.proofs.Digits.{value-digits}
use Rattle.laws.proofs.Lists.{all_append}
use Rattle.text.specs.Bytes.{bytes}
use Rattle.text.specs.Line.{field}
use Rattle.text.specs.Number.{value_of}
use Rattle.plan.specs.Value.{at}
use Rattle.plan.specs.declared.Plan.{Plan}
use Rattle.school.specs.Lines.{says_none, later_said}
use Rattle.school.specs.Tasks.{is_start, is_end, how_many, first_of}
use Rattle.school.specs.Said.{LogLine}
use Rattle.promises_school.proofs.OwnMoments.{Moment, moment-append, moment-stays}

-- what is known of each start and end: 0 for nothing, or the tick and 1
pub record Known : Type 0 where
  pub start : ℕ → ℕ
  pub end : ℕ → ℕ

abbrev pub says : Plan → List (List ℕ) → List LogLine
says plan lines = map (later_said plan.boards plan.tasks) lines

-- an `end` line carries the ticks early of the end that is known
pub record Carries (finish known : ℕ) (figure : List ℕ) : Type 0 where
  pub tick : ℕ
  pub seen : known ≡ suc tick
  pub is : figure ≡ digits_of (finish - tick)

-- lines after the first, each of its form
pub record Adds (plan : Plan) (old new : Known) (lines : List (List ℕ)) : Type 0 where
  pub formed : all_of (λ (said : LogLine). said.formed) (says plan lines) ≡ true
  pub starts : (i : ℕ) → i < plan.tasks → Moment (is_start i) (at plan.board i) (says plan lines) (old.start i) (new.start i)
  pub ends : (i : ℕ) → i < plan.tasks → Moment (is_end i) (at plan.board i) (says plan lines) (old.end i) (new.end i)
  pub own :
      (line : List ℕ) → Memᴰ line lines → (i : ℕ) → i < plan.tasks → field line 0 ≡ bytes "end"
      → field line 1 ≡ digits_of (i + 1) → Carries (at plan.finish i) (new.end i) (field line 4)

-- nothing is added
pub adds-nothing :
    (plan : Plan) (known other : Known) → ((i : ℕ) → i < plan.tasks → other.start i ≡ known.start i)
    → ((i : ℕ) → i < plan.tasks → other.end i ≡ known.end i) → Adds plan known other []
unfolding all_of how_many
adds-nothing plan known other s e = record {
  formed = refl;
  starts = λ i l. Moment.same (s i l) refl;
  ends = λ i l. Moment.same (e i l) refl;
  own = λ line m i l w t. absurd (Memᴰ.not-nil m);
}

pub adds-append : (plan : Plan) (a b c : Known) (l m : List (List ℕ)) → Adds plan a b l → Adds plan b c m → Adds plan a c (l ++ m)
adds-append plan a b c l m x y =
    let e : says plan (l ++ m) ≡ says plan l ++ says plan m = map-append (later_said plan.boards plan.tasks) l m in
    record {
      formed = rw e (all_append (λ (said : LogLine). said.formed) (says plan l) (says plan m) ∙ and-of x.formed y.formed);
      starts = λ i h.
          subst (λ (s : List LogLine). Moment (is_start i) (at plan.board i) s (a.start i) (c.start i)) (sym e)
          (moment-append (is_start i) (at plan.board i) (says plan l) (says plan m) (a.start i) (b.start i) (c.start i) (x.starts i h) (y.starts i h));
      ends = λ i h.
          subst (λ (s : List LogLine). Moment (is_end i) (at plan.board i) s (a.end i) (c.end i)) (sym e)
          (moment-append (is_end i) (at plan.board i) (says plan l) (says plan m) (a.end i) (b.end i) (c.end i) (x.ends i h) (y.ends i h));
      own = λ line q i h w t.
          ⊎_elim
          (λ p.
          let r = x.own line p i h w t in
          record {
            tick = r.tick;
            seen = moment-stays (is_end i) (at plan.board i) (says plan m) (b.end i) (c.end i) r.tick (y.ends i h) r.seen;
            is = r.is;
          })
          (λ p. y.own line p i h w t) (Memᴰ.append_cases l q);
    }

-- what is known of the tasks is all that counts
pub adds-like :
    (plan : Plan) (a b c d : Known) (l : List (List ℕ)) → ((i : ℕ) → i < plan.tasks → a.start i ≡ c.start i)
    → ((i : ℕ) → i < plan.tasks → a.end i ≡ c.end i) → ((i : ℕ) → i < plan.tasks → b.start i ≡ d.start i)
    → ((i : ℕ) → i < plan.tasks → b.end i ≡ d.end i) → Adds plan a b l → Adds plan c d l
adds-like plan a b c d l s e s' e' x = record {
  formed = x.formed;
  starts = λ i h. rw (← s i h, ← s' i h) (x.starts i h);
  ends = λ i h. rw (← e i h, ← e' i h) (x.ends i h);
  own = λ line m i h w t.
      let r = x.own line m i h w t in record { tick = r.tick; seen = sym (e' i h) ∙ r.seen; is = r.is };
}

-- one line
module _ (p : LogLine → Bool) (said : LogLine) where
  many-not : p said ≡ false → how_many p (said ∷ []) ≡ 0
  unfolding how_many
  many-not e = rw e

  many-one : p said ≡ true → how_many p (said ∷ []) ≡ 1
  unfolding how_many
  many-one e = rw e

  first_one : p said ≡ true → first_of p (said ∷ []) ≡ said
  unfolding first_of
  first_one e = rw e

module _ (plan : Plan) (line : List ℕ) (said : LogLine) (e : later_said plan.boards plan.tasks line ≡ said) (formed : said.formed ≡ true) where
  says-one : says plan (line ∷ []) ≡ said ∷ []
  says-one = rw e

  formed-one : all_of (λ (s : LogLine). s.formed) (says plan (line ∷ [])) ≡ true
  unfolding all_of
  formed-one = rw e (and-of formed refl)

  silent : (p : LogLine → Bool) (board old new : ℕ) → p said ≡ false → new ≡ old → Moment p board (says plan (line ∷ [])) old new
  silent p board old new f q = Moment.same q (ap (how_many p) says-one ∙ many-not p said f)

  spoken :
      (p : LogLine → Bool) (board old new tick : ℕ) → p said ≡ true → old ≡ 0 → new ≡ suc tick → said.board ≡ board → said.tick ≡ tick
      → Moment p board (says plan (line ∷ [])) old new
  spoken p board old new tick f o n b t =
      let first : first_of p (says plan (line ∷ [])) ≡ said = ap (first_of p) says-one ∙ first_one p said f in
      Moment.said tick o n (ap (how_many p) says-one ∙ many-one p said f)
      (ap (λ (s : LogLine). s.board) first ∙ b) (ap (λ (s : LogLine). s.tick) first ∙ t)

  not_end :
      (new : Known) → field line 0 ≢ bytes "end"
      → (other : List ℕ) → Memᴰ other (line ∷ []) → (i : ℕ) → i < plan.tasks → field other 0 ≡ bytes "end"
      → field other 1 ≡ digits_of (i + 1) → Carries (at plan.finish i) (new.end i) (field other 4)
  not_end new n other m i l w t =
      absurd (n (ap (λ (x : List ℕ). field x 0) (sym (Memᴰ.eq_of_singleton m)) ∙ w))

-- a line that says neither
pub adds-remark :
    (plan : Plan) (known : Known) (line : List ℕ) → later_said plan.boards plan.tasks line ≡ says_none true
    → field line 0 ≢ bytes "end" → Adds plan known known (line ∷ [])
adds-remark plan known line e n = record {
  formed = formed-one plan line (says_none true) e refl;
  starts = λ i l. silent plan line (says_none true) e refl (is_start i) _ _ _ (ne_eqb 0 (i + 1) (omega arith)) refl;
  ends = λ i l. silent plan line (says_none true) e refl (is_end i) _ _ _ (ne_eqb 0 (i + 1) (omega arith)) refl;
  own = not_end plan line (says_none true) e refl known n;
}

-- a `start` line of task j
pub adds-start :
    (plan : Plan) (old new : Known) (line : List ℕ) (j tick : ℕ)
    → later_said plan.boards plan.tasks line ≡ record { formed = true; start = j + 1; end = 0; board = at plan.board j; tick = tick }
    → field line 0 ≢ bytes "end" → old.start j ≡ 0 → new.start j ≡ suc tick → ((i : ℕ) → i < plan.tasks → i ≢ j → new.start i ≡ old.start i)
    → ((i : ℕ) → i < plan.tasks → new.end i ≡ old.end i) → Adds plan old new (line ∷ [])
adds-start plan old new line j tick e n o k s v =
    let said : LogLine = record { formed = true; start = j + 1; end = 0; board = at plan.board j; tick = tick } in
    record {
      formed = formed-one plan line said e refl;
      starts = λ i l.
          by-eq i j
          (λ q.
          spoken plan line said e refl (is_start i) _ _ _ tick (eq-eqb (j + 1) (i + 1) (omega arith))
          (ap old.start q ∙ o) (ap new.start q ∙ k) (ap (at plan.board) (sym q)) refl)
          (λ q. silent plan line said e refl (is_start i) _ _ _ (ne_eqb (j + 1) (i + 1) (λ z. q (omega arith))) (s i l q));
      ends = λ i l. silent plan line said e refl (is_end i) _ _ _ (ne_eqb 0 (i + 1) (omega arith)) (v i l);
      own = not_end plan line said e refl new n;
    }

-- an `end` line of task j
pub adds-end :
    (plan : Plan) (old new : Known) (line : List ℕ) (j tick : ℕ)
    → later_said plan.boards plan.tasks line ≡ record { formed = true; start = 0; end = j + 1; board = at plan.board j; tick = tick }
    → field line 1 ≡ digits_of (j + 1) → field line 4 ≡ digits_of (at plan.finish j - tick)
    → old.end j ≡ 0 → new.end j ≡ suc tick → ((i : ℕ) → i < plan.tasks → i ≢ j → new.end i ≡ old.end i)
    → ((i : ℕ) → i < plan.tasks → new.start i ≡ old.start i) → Adds plan old new (line ∷ [])
adds-end plan old new line j tick e task figure o k s v =
    let said : LogLine = record { formed = true; start = 0; end = j + 1; board = at plan.board j; tick = tick } in
    record {
      formed = formed-one plan line said e refl;
      starts = λ i l. silent plan line said e refl (is_start i) _ _ _ (ne_eqb 0 (i + 1) (omega arith)) (v i l);
      ends = λ i l.
          by-eq i j
          (λ q.
          spoken plan line said e refl (is_end i) _ _ _ tick (eq-eqb (j + 1) (i + 1) (omega arith))
          (ap old.end q ∙ o) (ap new.end q ∙ k) (ap (at plan.board) (sym q)) refl)
          (λ q. silent plan line said e refl (is_end i) _ _ _ (ne_eqb (j + 1) (i + 1) (λ z. q (omega arith))) (s i l q));
      own = λ other m i l w t.
          let same = Memᴰ.eq_of_singleton m in
          let digits : digits_of (j + 1) ≡ digits_of (i + 1) = sym task ∙ ap (λ (x : List ℕ). field x 1) (sym same) ∙ t in
          let next : j + 1 ≡ i + 1 = sym (value-digits (j + 1)) ∙ ap value_of digits ∙ value-digits (i + 1) in
          let q : i ≡ j = omega arith in
          record {
            tick = tick;
            seen = ap new.end q ∙ k;
            is = ap (λ (x : List ℕ). field x 4) same ∙ figure ∙ ap (λ (x : ℕ). digits_of (at plan.finish x - tick)) (sym q);
          };
    }
