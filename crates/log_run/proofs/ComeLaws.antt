-- The lines that are still to come: what is printed was to come, or is paid by the line of ends.txt.
use Prim.Native.Nat.{ℕ, zero, suc, ◌+◌, ◌-◌, ◌*◌, ◌≤◌, ◌<◌}
use mathlib.Core.Path.{◌≡◌, refl, sym}
use mathlib.Core.Logic.{◌≢◌}
use mathlib.Core.Bool.{Bool, true, false, not, cond, ◌&&◌}
use mathlib.Core.List.{List}
use native.Mathlib.Omega.{arith}
use lib.Dec.{eqb}
use borrow.Author.Tests.{ne_eqb}
use Rattle.laws.proofs.Cases.{by-eq}
use Rattle.laws.specs.Private.Count.{count}
use Rattle.plan.specs.Value.{at}
use Rattle.log_run.specs.Private.Writes.{starting}
use Rattle.log_run.specs.Private.Room.{lines_left, to_come}

-- ---- the lines of one task, by its marks and whether it is dropped

abbrev bit : ℕ → ℕ → ℕ
bit old new = cond (eqb old 0 && not (eqb new 0)) 1 0

lines-gone : (mark d : ℕ) → d ≡ 1 → lines_left mark d ≡ 1 - mark
unfolding lines_left
lines-gone mark d e = rw e

lines-kept : (mark d : ℕ) → d ≢ 1 → lines_left mark d ≡ 2 - mark
unfolding lines_left
lines-kept mark d n = rw (ne_eqb d 1 n)

one_bit : (b : Bool) → cond b 1 0 ≤ 1
one_bit true = omega arith
one_bit false = omega arith

same_bit : (m : ℕ) → bit m m ≡ 0
same_bit m = go (eqb m 0)
  where
    go : (t : Bool) → ◌≡◌ {A = ℕ} (cond (t && not t) 1 0) 0
    go true = refl
    go false = refl

-- it stays as it was
pub lines_stay : (old new d d' : ℕ) → new ≡ old → d' ≡ d → lines_left new d' + bit old new ≤ lines_left old d
lines_stay old new d d' e q = rw (e, q) (omega (arith, same_bit old))

-- it waited and is started or skipped
pub lines-go : (old new d d' : ℕ) → old ≡ 0 → new ≢ 0 → d' ≡ d → lines_left new d' + bit old new ≤ lines_left old d
lines-go old new d d' z n q =
    let b = one_bit (eqb old 0 && not (eqb new 0)) in
    rw q
    (by-eq d 1
    (λ e. omega (arith, lines-gone new d e, lines-gone old d e))
    (λ e. omega (arith, lines-kept new d e, lines-kept old d e)))

-- it ran and has ended
pub lines_end :
    (old new d d' : ℕ) → old ≡ 1 → new ≡ 2 → d ≡ 0 → d' ≡ d → lines_left new d' + bit old new + 1 ≤ lines_left old d
lines_end old new d d' o n z q =
    let e : d ≢ 1 = λ w. omega arith in
    rw (q, o, n) (omega (arith, lines-kept 2 d e, lines-kept 1 d e))

-- it waits and was dropped
pub lines-drop :
    (old new d d' : ℕ) → new ≡ old → old ≡ 0 → d ≢ 1 → d' ≡ 1 → lines_left new d' + bit old new + 1 ≤ lines_left old d
lines-drop old new d d' e z n q = rw e (omega (arith, same_bit old, lines-kept old d n, lines-gone old d' q))

lines-most : (mark d : ℕ) → lines_left mark d ≤ 2
lines-most mark d =
    by-eq d 1 (λ e. omega (arith, lines-gone mark d e)) (λ e. omega (arith, lines-kept mark d e))

-- ---- of all tasks

come-suc : (mark dropped : List ℕ) (n : ℕ) → to_come mark dropped (suc n) ≡ to_come mark dropped n + lines_left (at mark n) (at dropped n)
unfolding to_come
come-suc mark dropped n = refl

count-suc : (n : ℕ) (w : ℕ → Bool) → count (suc n) w ≡ cond (w n) 1 0 + count n w
unfolding count
count-suc n w = refl

pub come-most : (mark dropped : List ℕ) (n : ℕ) → to_come mark dropped n ≤ 2 * n
unfolding to_come
come-most mark dropped zero = omega arith
come-most mark dropped (suc n) = omega (arith, come-most mark dropped n, lines-most (at mark n) (at dropped n))

-- one task k of those below t gives a line more than it prints here
module _ (old new dropped dropped' : List ℕ) (t k : ℕ)
    (stay : (i : ℕ) → i < t → i ≢ k
    → lines_left (at new i) (at dropped' i) + bit (at old i) (at new i) ≤ lines_left (at old i) (at dropped i))
    (here : lines_left (at new k) (at dropped' k) + bit (at old k) (at new k) + 1 ≤ lines_left (at old k) (at dropped k))
  where
    pays-before : (n : ℕ) → n ≤ t → n ≤ k → to_come new dropped' n + count n (starting old new) ≤ to_come old dropped n
    unfolding to_come count
    pays-before zero l h = omega arith
    pays-before (suc n) l h =
        omega (
          arith,
          pays-before n (omega arith) (omega arith),
          stay n (omega arith) (λ e. omega arith),
          come-suc new dropped' n,
          come-suc old dropped n,
          count-suc n (starting old new),
        )

    pub pays : (n : ℕ) → n ≤ t → k < n → to_come new dropped' n + count n (starting old new) + 1 ≤ to_come old dropped n
    pays zero l h = absurd (omega arith)
    pays (suc n) l h =
        by-eq k n
        (λ e.
        let q : lines_left (at new n) (at dropped' n) + bit (at old n) (at new n) + 1 ≤ lines_left (at old n) (at dropped n) =
        rw e at here in
        omega
        (arith, pays-before n (omega arith) (omega arith), come-suc new dropped' n, come-suc old dropped n, count-suc n (starting old new)))
        (λ ne.
        omega (
          arith,
          pays n (omega arith) (omega arith),
          stay n (omega arith) (λ q. ne (sym q)),
          come-suc new dropped' n,
          come-suc old dropped n,
          count-suc n (starting old new),
        ))
