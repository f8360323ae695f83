-- A search, turn by turn and as a fact.
use Prim.Native.Nat.{ℕ, zero, suc, ◌+◌, ◌-◌, ◌<◌, ◌≤◌}
use native.Mathlib.Numerals.{add-one}
use native.Mathlib.Omega.{arith}
use mathlib.Core.Bool.{Bool, true, false}
use mathlib.Core.Path.{◌≡◌, refl, ◌∙◌}
use mathlib.Core.Logic.{◌⊎◌, inl, inr, ⊎_elim}
use Rattle.laws.specs.Scan.{scan, scan_to}
use Rattle.laws.proofs.Cases.{by_bool, by-eq, true-false}

module _ {A : Type 0} (stop : A → Bool) (otherwise : A) (f : ℕ → A) where
  suc-left : (i n : ℕ) → i < n → n - i ≡ suc (n - suc i)
  suc-left i n h = omega arith

  pub scan-turn : (i n : ℕ) → i < n → stop (f i) ≡ false → scan_to stop otherwise f i n ≡ scan_to stop otherwise f (i + 1) n
  unfolding scan
  scan-turn i n h e = rw (suc-left i n h, e, add-one i)

  pub scan-hit : (i n : ℕ) → i < n → stop (f i) ≡ true → scan_to stop otherwise f i n ≡ f i
  unfolding scan
  scan-hit i n h e = rw (suc-left i n h, e)

  pub scan-end : (i n : ℕ) → n ≤ i → scan_to stop otherwise f i n ≡ otherwise
  unfolding scan
  scan-end i n h = let e : n - i ≡ 0 = omega arith in rw e

  -- what was found, and that nothing before it stops
  pub record Found (i n : ℕ) : Type 0 where
    pub place : ℕ
    pub from : i ≤ place
    pub below : place < n
    pub stops : stop (f place) ≡ true
    pub first : (j : ℕ) → i ≤ j → j < place → stop (f j) ≡ false
    pub is : scan_to stop otherwise f i n ≡ f place

  pub record Nothing (i n : ℕ) : Type 0 where
    pub passed : (j : ℕ) → i ≤ j → j < n → stop (f j) ≡ false
    pub is : scan_to stop otherwise f i n ≡ otherwise

  scan-go : (m i n : ℕ) → n - i ≡ m → Found i n ⊎ Nothing i n
  scan-go zero i n e = inr (record { passed = λ j a b. absurd (omega arith); is = scan-end i n (omega arith) })
  scan-go (suc m) i n e =
      by_bool (stop (f i))
      (λ h.
      inl
      (record {
        place = i;
        from = omega arith;
        below = omega arith;
        stops = h;
        first = λ j a b. absurd (omega arith);
        is = scan-hit i n (omega arith) h;
      }))
      (λ h. grow h (scan-go m (i + 1) n (omega arith)))
    where
      grow : stop (f i) ≡ false → Found (i + 1) n ⊎ Nothing (i + 1) n → Found i n ⊎ Nothing i n
      grow h (inl r) =
          inl
          (record {
            place = r.place;
            from = omega (arith, r.from);
            below = r.below;
            stops = r.stops;
            first = λ j a b. by-eq j i (λ q. rw q h) (λ ne. r.first j (omega arith) b);
            is = scan-turn i n (omega arith) h ∙ r.is;
          })
      grow h (inr r) =
          inr
          (record {
            passed = λ j a b. by-eq j i (λ q. rw q h) (λ ne. r.passed j (omega arith) b);
            is = scan-turn i n (omega arith) h ∙ r.is;
          })

  pub scan-cases : (i n : ℕ) → Found i n ⊎ Nothing i n
  scan-cases i n = scan-go (n - i) i n refl

-- the search looks only at the places that it passes
pub scan-same :
    {A : Type 0} (stop : A → Bool) (otherwise : A) (f g : ℕ → A) (i n : ℕ) → ((j : ℕ) → i ≤ j → j < n → f j ≡ g j)
    → scan_to stop otherwise f i n ≡ scan_to stop otherwise g i n
unfolding scan
scan-same stop otherwise f g i n e = go (n - i) i (λ j h l. e j h (omega arith))
  where
    go : (m i : ℕ) → ((j : ℕ) → i ≤ j → j < i + m → f j ≡ g j) → scan stop otherwise f i m ≡ scan stop otherwise g i m
    go zero i e = refl
    go (suc m) i e = rw (e i (omega arith) (omega arith), go m (suc i) (λ j h l. e j (omega arith) (omega arith)))

module _ {A : Type 0} (stop : A → Bool) (otherwise : A) (f : ℕ → A) (i n : ℕ) where
  -- a search that finds nothing passes every place
  pub scan-clean : stop (scan_to stop otherwise f i n) ≡ false → (j : ℕ) → i ≤ j → j < n → stop (f j) ≡ false
  scan-clean p j h l =
      ⊎_elim (λ r. true-false (rw r.is r.stops) p) (λ r. r.passed j h l) (scan-cases stop otherwise f i n)

  -- and the other way round
  pub scan-none : ((j : ℕ) → i ≤ j → j < n → stop (f j) ≡ false) → scan_to stop otherwise f i n ≡ otherwise
  scan-none e =
      ⊎_elim (λ r. true-false r.stops (e r.place r.from r.below)) (λ r. r.is) (scan-cases stop otherwise f i n)
