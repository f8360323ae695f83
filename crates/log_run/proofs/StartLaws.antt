-- The `start` and `skip` lines, one after the other.
use Prim.Native.Nat.{ℕ, zero, suc, ◌+◌, ◌*◌, ◌≤◌, ◌<◌}
use mathlib.Core.Path.{◌≡◌, refl, sym, ap}
use mathlib.Core.Bool.{Bool, true, false, not, cond, ◌&&◌, ◌||◌}
use mathlib.Core.List.{List, [], ◌++◌}
use native.Mathlib.Omega.{arith}
use native.Mathlib.Numerals.{add-one}
use lib.Dec.{eqb}
use lib.ListN.{length, get_or}
use Rattle.laws.proofs.Cases.{by_bool}
use Rattle.laws.specs.Private.Count.{count}
use Rattle.text.specs.Line.{lines_below}
use Rattle.book.specs.declared.Book.{Book}
use Rattle.log_write.specs.Lines.{Lined}
use Rattle.log_write.specs.Private.Wrote.{Wrote}
use Rattle.log_write.proofs.WriteLaws.{also, nothing, wrote-length, wrote-line}
use Rattle.log_run.specs.Lines.{start_line}
use Rattle.log_run.specs.Private.Writes.{starting, starts_in}

not-starting : (a b : Bool) → (not a || b) ≡ true → (a && not b) ≡ false
not-starting true true h = refl
not-starting true false h = sym h
not-starting false b h = refl

is-starting : (a b : Bool) → (not a || b) ≡ false → (a && not b) ≡ true
is-starting true true h = sym h
is-starting true false h = refl
is-starting false b h = sym h

pub count-below : (n : ℕ) (w : ℕ → Bool) → count n w ≤ n
unfolding count
count-below zero w = omega arith
count-below (suc n) w =
    let r = count-below n w in by_bool (w n) (λ e. rw e (omega arith)) (λ e. rw e (omega arith))

count-step : (i : ℕ) (w : ℕ → Bool) → count (i + 1) w ≡ cond (w i) 1 0 + count i w
unfolding count
count-step i w = ap (λ (n : ℕ). count n w) (add-one i)

module _ (old : List ℕ) (book : Book) where
  -- the lines of the tasks below i were written
  abbrev pub Below : ℕ → List ℕ → ℕ → List ℕ → ℕ → Type 0
  Below i out at m p = Wrote out at (starts_in old book i) (52 * count i (starting old book.mark)) m p

  pub starts_none : (out : List ℕ) (at : ℕ) → Below 0 out at out at
  unfolding starts_in lines_below count
  starts_none out at = nothing out at 0

  abbrev one_start : ℕ → List ℕ
  one_start i = cond (starting old book.mark i) (start_line book i) []

  starts-step : (i : ℕ) → starts_in old book (i + 1) ≡ starts_in old book i ++ one_start i
  unfolding starts_in lines_below
  starts-step i = ap (starts_in old book) (add-one i)

  start_small : (i : ℕ) → length (one_start i) ≤ 52 → length (one_start i) ≤ 52 * cond (starting old book.mark i) 1 0
  start_small i h = by_bool (starting old book.mark i) (λ e. rw e (rw e at h)) (λ e. rw e (omega arith))

  module _ {out : List ℕ} {at : ℕ} {m : List ℕ} {p : ℕ} (i : ℕ) (v : Below i out at m p) where
    starts-turn : {m' : List ℕ} {p' : ℕ} → Wrote m p (one_start i) 52 m' p' → Below (i + 1) out at m' p'
    starts-turn {m'} {p'} w =
        let y : Wrote m p (one_start i) (52 * cond (starting old book.mark i) 1 0) m' p' =
        record { place = w.place; bytes = w.bytes; small = start_small i w.small } in
        let z = also v y in
        let e = count-step i (starting old book.mark) in
        record { place = rw starts-step z.place; bytes = rw starts-step z.bytes; small = rw starts-step (omega (arith, z.small, e)) }

    -- it still waits, or waited no longer before
    pub starts-passes : (not (eqb (get_or old i 0) 0) || eqb (get_or book.mark i 0) 0) ≡ true → Below (i + 1) out at m p
    starts-passes h =
        starts-turn (rw (not-starting (eqb (get_or old i 0) 0) (eqb (get_or book.mark i 0) 0) h) (nothing m p 52))

    pub starts-goes :
        {m' : List ℕ} {p' : ℕ} → (not (eqb (get_or old i 0) 0) || eqb (get_or book.mark i 0) 0) ≡ false → at + 3328 ≤ length out → i < 64
        → Lined m p (start_line book i) 52 m' p' → Below (i + 1) out at m' p'
    starts-goes h fits few w =
        let c = count-below i (starting old book.mark) in
        starts-turn
        (rw (is-starting (eqb (get_or old i 0) 0) (eqb (get_or book.mark i 0) 0) h)
        (wrote-line (omega (arith, v.place, v.small, wrote-length v)) w))

    pub starts-end : {n : ℕ} → i ≤ n → n ≤ i → Below n out at m p
    starts-end {n} h g = let e : n ≡ i = omega arith in rw e v
