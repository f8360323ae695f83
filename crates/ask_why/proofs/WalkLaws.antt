-- Walks over the tasks that one waits for, turn by turn.
use Prim.Native.Nat.{ℕ, ◌+◌, ◌<◌, ◌≤◌, max}
use native.Mathlib.Omega.{arith}
use mathlib.Core.Bool.{Bool, true, false}
use mathlib.Core.Path.{◌≡◌, sym, ap, ◌∙◌}
use borrow.Author.Tests.{lt-ltb, le-ltb}
use Rattle.std.specs.Prelude.{Some, None}
use Rattle.laws.specs.Picked.{latest}
use Rattle.laws.proofs.Latest.{latest-turn}
use Rattle.laws.specs.Scan.{scan_to}
use Rattle.laws.proofs.Scan.{scan-turn, scan-hit, scan-end}
use Rattle.ask_why.specs.Private.Asked.{below}

-- the latest so far
module _ (n : ℕ) (w : ℕ → Bool) (e : ℕ → ℕ) {last : ℕ} (h : last ≡ latest n w e) where
  pub latest-taken : w n ≡ true → max last (e n) ≡ latest (n + 1) w e
  latest-taken t = rw (latest-turn n w e, t, h)

  pub latest-passed : w n ≡ false → last ≡ latest (n + 1) w e
  latest-passed f = h ∙ (let z : latest (n + 1) w e ≡ max (latest n w e) 0 = latest-turn n w e ∙ rw f in omega (arith, z))

-- a search for the lowest
module _ (p : ℕ → Bool) (n j : ℕ) (q : scan_to p n (λ k. k) j n ≡ scan_to p n (λ k. k) 0 n) where
  pub lowest-hit : j < n → p j ≡ true → Some j ≡ below n (scan_to p n (λ k. k) 0 n)
  lowest-hit l h =
      let e : scan_to p n (λ k. k) 0 n ≡ j = sym q ∙ scan-hit p n (λ k. k) j n l h in
      sym (ap (below n) e ∙ rw (lt-ltb j n l))

  pub lowest-turn : j < n → p j ≡ false → scan_to p n (λ k. k) (j + 1) n ≡ scan_to p n (λ k. k) 0 n
  lowest-turn l h = sym (scan-turn p n (λ k. k) j n l h) ∙ q

  pub lowest-end : n ≤ j → None ≡ below n (scan_to p n (λ k. k) 0 n)
  lowest-end l =
      let e : scan_to p n (λ k. k) 0 n ≡ n = sym q ∙ scan-end p n (λ k. k) j n l in
      sym (ap (below n) e ∙ rw (le-ltb n n (omega arith)))
