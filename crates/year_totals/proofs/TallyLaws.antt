-- A board's totals, task by task; the totals' array of ended tasks added up.
use Prim.Native.Nat.{ℕ, suc, ◌+◌, ◌-◌, ◌*◌, ◌≤◌, ◌<◌, max, min}
use mathlib.Core.Path.{◌≡◌, sym, ◌∙◌}
use mathlib.Core.List.{List, [], ◌∷◌}
use native.Mathlib.Omega.{arith}
use lib.ListN.{length}
use borrow.Author.Tests.{eq-eqb, ne_eqb}
use Rattle.plan.specs.Value.{at}
use Rattle.year_rules.specs.Figures.{figures_on, sum_of}
use Rattle.year_rules.specs.declared.Tally.{Tally}
use Rattle.year_rules.proofs.FigureLaws.{max-picks, min-picks, after_none, after_next}
use Rattle.year_rules.proofs.BoardLaws.{figures-none, figures-here, figures-there}
use Rattle.year_totals.specs.Private.Tallies.{with_figure, tally_after}

-- ---- one figure more

module _ (held : Tally) (figure : ℕ) where
  pub first-figure :
      {ended sum : ℕ} → held.ended ≡ 0 → ended ≡ held.ended + 1 → sum ≡ held.sum + figure
      → record { ended = ended; sum = sum; greatest = figure; least = figure } ≡ with_figure held figure
  unfolding with_figure
  first-figure z e s = rw (eq-eqb held.ended 0 z, e, s)

  pub later-figure :
      {ended sum greatest least : ℕ} → (held.ended ≡ 0 → ⊥) → ended ≡ held.ended + 1 → sum ≡ held.sum + figure
      → greatest ≡ max held.greatest figure → least ≡ min held.least figure
      → record { ended = ended; sum = sum; greatest = greatest; least = least } ≡ with_figure held figure
  unfolding with_figure
  later-figure n e s g l = rw (ne_eqb held.ended 0 n, e, s, g, l)

-- ---- all figures of a board

tally-none : (held : Tally) → tally_after held [] ≡ held
unfolding tally_after sum_of
tally-none held =
    let e : held.ended + 0 ≡ held.ended = omega arith in
    let s : held.sum + 0 ≡ held.sum = omega arith in
    let g = after_none max held.ended held.greatest in
    let l = after_none min held.ended held.least in
    λ i. record { ended = e i; sum = s i; greatest = g i; least = l i }

tally-next : (held : Tally) (x : ℕ) (l : List ℕ) → tally_after held (x ∷ l) ≡ with_figure (tally_after held l) x
unfolding tally_after with_figure sum_of
tally-next held x l =
    let e : held.ended + suc (length l) ≡ held.ended + length l + 1 = omega arith in
    let s : held.sum + (x + sum_of l) ≡ held.sum + sum_of l + x = omega arith in
    let g = after_next max max-picks held.ended held.greatest x l in
    let m = after_next min min-picks held.ended held.least x l in
    λ i. record { ended = e i; sum = s i; greatest = g i; least = m i }

module _ (held : Tally) (number : ℕ) (board finish end : List ℕ) where
  abbrev pub Seen : ℕ → Tally → Type 0
  Seen i tally = tally ≡ tally_after held (figures_on number board finish end i)

  pub seen_none : Seen 0 held
  seen_none = sym (rw (figures-none number board finish end) (tally-none held))

  module _ (i : ℕ) {tally next : Tally} (h : Seen i tally) where
    pub seen-here : at board i ≡ number → {x : ℕ} → x ≡ at finish i - at end i → next ≡ with_figure tally x → Seen (i + 1) next
    seen-here q v e = rw (figures-here number board finish end i q, tally-next) (e ∙ (rw (h, v)))

    pub seen-there : (at board i ≡ number → ⊥) → next ≡ tally → Seen (i + 1) next
    seen-there n e = rw (figures-there number board finish end i n) (e ∙ h)

-- a tally that no further figure of a log can make wrap
pub record Roomy (tally : Tally) (n : ℕ) : Type 0 where
  pub ended : tally.ended ≤ 640000 + n
  pub sum : tally.sum ≤ 640000000000 + 4294967296 * n

module _ {tally next : Tally} {n : ℕ} (r : Roomy tally n) where
  pub roomy-here : {x : ℕ} → x < 4294967296 → next ≡ with_figure tally x → Roomy next (n + 1)
  unfolding with_figure
  roomy-here h e =
      let a = r.ended in
      let s = r.sum in
      rw e (record { ended = omega arith; sum = omega arith })

  pub roomy-there : next ≡ tally → Roomy next (n + 1)
  roomy-there e =
      let a = r.ended in
      let s = r.sum in
      rw e (record { ended = omega arith; sum = omega arith })
