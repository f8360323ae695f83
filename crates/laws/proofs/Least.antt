-- What the least of those picked is, and who has it.
use mathlib.Core.Path.{◌≡◌, refl, ap, ◌∙◌}
use mathlib.Core.Bool.{Bool, true, false, not, cond}
use mathlib.Core.Option.{Option, none, some, get_or}
use Prim.Native.Nat.{ℕ, zero, suc, ◌≤◌, ◌<◌, min}
use native.Mathlib.Omega.{arith}
use borrow.Author.Tests.{not-true, not-false}
use Rattle.laws.specs.Picked.{least}
use Rattle.laws.specs.Every.{every}
use Rattle.laws.proofs.Cases.{by_bool, by-eq, by_le, true-false}
use Rattle.laws.proofs.Every.{every-at, every-fails}

-- at most each one picked
pub least_under :
    (n : ℕ) (w : ℕ → Bool) (f : ℕ → ℕ) (j : ℕ) → j < n → w j ≡ true → (v : ℕ) × (least n w f ≡ some v) × (v ≤ f j)
unfolding least
least_under zero w f j l h = absurd (omega arith)
least_under (suc n) w f j l h =
    by-eq j n
    (λ q. let h' : w n ≡ true = rw q at h in rw (q, h', least) (head (least n w f)))
    (λ ne.
    let r = least_under n w f j (omega arith) h in
    by_bool (w n)
    (λ e. (min r.0 (f n), rw (e, r.1, least), omega (arith, r.2)))
    (λ e. (r.0, rw e r.1, r.2)))
  where
    head : (o : Option ℕ) → (v : ℕ) × (some (elim o [ none ↦ f n | some u ↦ min u (f n) ]) ≡ some v) × (v ≤ f n)
    head none = (f n, refl, omega arith)
    head (some u) = (min u (f n), refl, omega arith)

pub least-or-under :
    (n : ℕ) (w : ℕ → Bool) (f : ℕ → ℕ) (d j : ℕ) → j < n → w j ≡ true → get_or (least n w f) d ≤ f j
least-or-under n w f d j l h = let r = least_under n w f j l h in rw r.1 r.2

-- none where none is picked
pub least-none : (n : ℕ) (w : ℕ → Bool) (f : ℕ → ℕ) → ((j : ℕ) → j < n → w j ≡ false) → least n w f ≡ none
unfolding least
least-none zero w f g = refl
least-none (suc n) w f g = rw (g n (omega arith)) (least-none n w f (λ j l. g j (omega arith)))

-- one of those picked
pub least-met :
    (n : ℕ) (w : ℕ → Bool) (f : ℕ → ℕ) (v : ℕ) → least n w f ≡ some v → (j : ℕ) × (j < n) × (w j ≡ true) × (f j ≡ v)
unfolding least
least-met zero w f v h = let z : ◌≡◌ {A = ℕ} 0 1 = cc in absurd (omega arith)
least-met (suc n) w f v h =
    by_bool (w n)
    (λ e. head e (least n w f) (λ u q. least-met n w f u q) refl (rw (e, least) at h))
    (λ e. let r = least-met n w f v (rw e at h) in (r.0, omega arith, r.2, r.3))
  where
    head :
        w n ≡ true → (o : Option ℕ)
        → ((u : ℕ) → least n w f ≡ some u → (j : ℕ) × (j < n) × (w j ≡ true) × (f j ≡ u)) → least n w f ≡ o
        → some (elim o [ none ↦ f n | some u ↦ min u (f n) ]) ≡ some v
        → (j : ℕ) × (j < suc n) × (w j ≡ true) × (f j ≡ v)
    head e none below q h = (n, omega arith, e, cc)
    head e (some u) below q h =
        let m : min u (f n) ≡ v = cc in
        let r = below u q in
        by_le (f n) u
        (λ l. (n, omega arith, e, omega arith))
        (λ l. (r.0, omega (arith, r.1), r.2, omega (arith, r.3)))

-- at least whatever is at most each one picked
pub least-or-over :
    (n : ℕ) (w : ℕ → Bool) (f : ℕ → ℕ) (d m : ℕ) → ((j : ℕ) → j < n → w j ≡ true → m ≤ f j) → (j : ℕ) → j < n → w j ≡ true
    → m ≤ get_or (least n w f) d
least-or-over n w f d m low j l h =
    let r = least_under n w f j l h in
    let q = least-met n w f r.0 r.1 in
    rw r.1 (omega (arith, low q.0 q.1 q.2, q.3))

-- the value of the one who has the least
pub least-or-is :
    (n : ℕ) (w : ℕ → Bool) (f : ℕ → ℕ) (d j : ℕ) → j < n → w j ≡ true → ((i : ℕ) → i < n → w i ≡ true → f j ≤ f i)
    → get_or (least n w f) d ≡ f j
least-or-is n w f d j l h low =
    let a = least-or-under n w f d j l h in let b = least-or-over n w f d (f j) low j l h in omega arith

-- who has the least
pub record Least (n : ℕ) (w : ℕ → Bool) (f : ℕ → ℕ) : Type 0 where
  pub who : ℕ
  pub below : who < n
  pub picked : w who ≡ true
  pub least-of : (j : ℕ) → j < n → w j ≡ true → f who ≤ f j

pub has-least : (n : ℕ) (w : ℕ → Bool) (f : ℕ → ℕ) (k : ℕ) → k < n → w k ≡ true → Least n w f
has-least zero w f k l h = absurd (omega arith)
has-least (suc n) w f k l h =
    by_bool (every n (λ j. not (w j)))
    (λ a.
    let alone : (j : ℕ) → j < n → w j ≡ true → ⊥ =
    λ j lj hj. true-false hj (not-true (w j) (every-at n (λ x. not (w x)) a j lj)) in
    record {
      who = k;
      below = l;
      picked = h;
      least-of = λ j lj hj.
          by-eq j k
          (λ e. rw e (omega arith))
          (λ ne. absurd (by-eq k n (λ kn. alone j (omega arith) hj) (λ kn. alone k (omega arith) h)));
    })
    (λ a.
    let r = every-fails n (λ x. not (w x)) a in grow (has-least n w f r.0 r.1 (not-false (w r.0) r.2)))
  where
    stay : (m : Least n w f) → (w n ≡ true → f m.who ≤ f n) → Least (suc n) w f
    stay m le = record {
      who = m.who;
      below = omega (arith, m.below);
      picked = m.picked;
      least-of = λ j lj hj. by-eq j n (λ e. rw e (le (rw e at hj))) (λ ne. m.least-of j (omega arith) hj);
    }

    grow : Least n w f → Least (suc n) w f
    grow m =
        by_bool (w n)
        (λ wn.
        by_le (f m.who) (f n)
        (λ le. stay m (λ h. le))
        (λ gt. record {
          who = n;
          below = omega arith;
          picked = wn;
          least-of = λ j lj hj.
              by-eq j n (λ e. rw e (omega arith)) (λ ne. let q = m.least-of j (omega arith) hj in omega arith);
        }))
        (λ wn. stay m (λ h. true-false h wn))

-- only the values below n count
pub least-same : (n : ℕ) (w : ℕ → Bool) (f g : ℕ → ℕ) → ((j : ℕ) → j < n → f j ≡ g j) → least n w f ≡ least n w g
unfolding least
least-same zero w f g e = refl
least-same (suc n) w f g e =
    ap (λ (o : Option ℕ). grown o (f n)) (least-same n w f g (λ j l. e j (omega arith)))
    ∙ ap (grown (least n w g)) (e n (omega arith))
  where
    grown : Option ℕ → ℕ → Option ℕ
    grown o x = cond (w n) (some (elim o [ none ↦ x | some v ↦ min v x ])) o
