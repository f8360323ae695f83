-- `all` is of all boards: the `end` lines of the accepted logs, whatever board they name.
use Prim.Native.Nat.{ℕ, zero, suc, ◌+◌, ◌-◌, ◌≤◌, ◌<◌, max, min}
use mathlib.Core.Path.{◌≡◌, refl, sym, ◌∙◌}
use mathlib.Core.Bool.{true, cond}
use mathlib.Core.List.{List, [], ◌∷◌, ◌++◌, append_assoc, Permᴰ}
use native.Mathlib.Omega.{arith}
use lib.Dec.{eqb, leb}
use lib.ListN.{length, length-append}
use borrow.Author.Tests.{eq-eqb, ne_eqb, leb-true}
use Rattle.laws.specs.Lists.{all_of}
use Rattle.laws.specs.Split.{split_on}
use Rattle.laws.proofs.Cases.{by_bool, by-eq, and_l, and_r, implies-at}
use Rattle.text_fields.specs.Items.{between}
use Rattle.text.specs.Line.{LF}
use Rattle.plan.specs.Value.{at}
use Rattle.plan.specs.declared.Plan.{Plan}
use Rattle.school.specs.Said.{LogLine}
use Rattle.year_rules.specs.Figures.{sum_of, best_of}
use Rattle.year_rules.specs.Totals.{boards}
use Rattle.year_rules.proofs.FigureLaws.{Picks, max-picks, min-picks, sum-append, best-next, after-append, after-than}
use Rattle.year_rules.proofs.BoardLaws.{boards-at, boards-sum, add_to, add-last}
use Rattle.year_rules.specs.Totals.{board_tally}
use Rattle.year_write.specs.Report.{bests_below, all_tally}
use Rattle.promises_year.specs.Year.{Morning, is_taken, lines_of, on_board, on_any, is_end_line, ends_of, figures_of, tallied, year_of}
use Rattle.promises_year.proofs.Perms.{length-perm, sum-perm, best-perm}
use Rattle.promises_year.proofs.Accepted.{end_ok, ends-of-plan, log-taken}
use Rattle.promises_year.proofs.Orders.{swap-parts}

-- the lists of boards n and below, one after the other
unfoldable joined : ℕ → (ℕ → List ℕ) → List ℕ
joined zero f = []
joined (suc n) f = f n ++ joined n f

joined_length : (n : ℕ) (f : ℕ → List ℕ) → length (joined n f) ≡ add_to n (λ b. length (f b))
unfolding joined add_to
joined_length zero f = refl
joined_length (suc n) f = rw (add-last n (λ b. length (f b)), length-append (f n) (joined n f), joined_length n f) (omega arith)

joined-sum : (n : ℕ) (f : ℕ → List ℕ) → sum_of (joined n f) ≡ add_to n (λ b. sum_of (f b))
unfolding joined add_to sum_of
joined-sum zero f = refl
joined-sum (suc n) f = rw (add-last n (λ b. sum_of (f b)), sum-append (f n) (joined n f), joined-sum n f) (omega arith)

joined-none : (n : ℕ) (f : ℕ → List ℕ) → ((b : ℕ) → f b ≡ []) → joined n f ≡ []
unfolding joined
joined-none zero f e = refl
joined-none (suc n) f e = rw (e n) (joined-none n f e)

joined-append : (n : ℕ) (f g : ℕ → List ℕ) → Permᴰ (joined n (λ b. f b ++ g b)) (joined n f ++ joined n g)
unfolding joined
joined-append zero f g = mathlib.Core.List.Permᴰ.nil
joined-append (suc n) f g =
    let r = joined-append n f g in
    let a : Permᴰ ((f n ++ g n) ++ joined n (λ b. f b ++ g b)) (f n ++ (g n ++ (joined n f ++ joined n g))) =
    rw (append_assoc (f n) (g n) (joined n (λ b. f b ++ g b))) (mathlib.Core.List.Permᴰ.append_left (f n) (mathlib.Core.List.Permᴰ.append_left (g n) r)) in
    let b : Permᴰ (f n ++ (g n ++ (joined n f ++ joined n g))) ((f n ++ joined n f) ++ (g n ++ joined n g)) =
    rw (append_assoc (f n) (joined n f) (g n ++ joined n g)) (mathlib.Core.List.Permᴰ.append_left (f n) (swap-parts (g n) (joined n f) (joined n g))) in
    mathlib.Core.List.Permᴰ.trans a b

-- ---- one figure more, on one board

module _ (x board : ℕ) (f : ℕ → List ℕ) where
  abbrev with : ℕ → List ℕ
  with b = cond (eqb board (b + 1)) (x ∷ f b) (f b)

  with_none : (n : ℕ) → n < board → joined n with ≡ joined n f
  unfolding joined
  with_none zero h = refl
  with_none (suc n) h = rw (ne_eqb board (n + 1) (λ e. omega arith), with_none n (omega arith))

  with-one : (n : ℕ) → 1 ≤ board → board ≤ n → Permᴰ (x ∷ joined n f) (joined n with)
  unfolding joined
  with-one zero h k = absurd (omega arith)
  with-one (suc n) h k =
      by-eq board (n + 1)
      (λ e. rw (eq-eqb board (n + 1) e, with_none n (omega arith)) (mathlib.Core.List.Permᴰ.refl _))
      (λ e.
      rw (ne_eqb board (n + 1) e)
      (mathlib.Core.List.Permᴰ.trans (mathlib.Core.List.Permᴰ.symm (mathlib.Core.List.Permᴰ.middle x (f n) (joined n f))) (mathlib.Core.List.Permᴰ.append_left (f n) (with-one n h (omega (arith, e))))))

ends-joined :
    (plan : Plan) (boards tasks : ℕ) → boards ≤ 8 → (lines : List LogLine) → all_of (end_ok boards tasks) lines ≡ true
    → Permᴰ (ends_of on_any plan lines) (joined 8 (λ b. ends_of (on_board (b + 1)) plan lines))
unfolding ends_of all_of
ends-joined plan boards tasks few [] h = rw (joined-none 8 (λ b. []) (λ b. refl)) mathlib.Core.List.Permᴰ.nil
ends-joined plan boards tasks few (said ∷ lines) h =
    let r = ends-joined plan boards tasks few lines (and_r (end_ok boards tasks said) (all_of (end_ok boards tasks) lines) h) in
    by_bool (is_end_line said)
    (λ e.
    let ok = implies-at (is_end_line said) _ (and_l (end_ok boards tasks said) (all_of (end_ok boards tasks) lines) h) e in
    let on = and_r (between 1 tasks said.end) (between 1 boards said.board) ok in
    let low = leb-true 1 said.board (and_l (leb 1 said.board) (leb said.board boards) on) in
    let high = leb-true said.board boards (and_r (leb 1 said.board) (leb said.board boards) on) in
    rw e
    (mathlib.Core.List.Permᴰ.trans (mathlib.Core.List.Permᴰ.cons refl r)
    (with-one (at plan.finish (said.end - 1) - said.tick) said.board (λ b. ends_of (on_board (b + 1)) plan lines) 8 low (omega arith))))
    (λ e. rw e r)

part-joined :
    (m : Morning)
    → Permᴰ (cond (is_taken m) (ends_of on_any m.plan (lines_of m)) [])
    (joined 8 (λ b. cond (is_taken m) (ends_of (on_board (b + 1)) m.plan (lines_of m)) []))
part-joined m =
    let plan = m.plan in
    by_bool (is_taken m)
    (λ h.
    rw h
    (ends-joined plan plan.boards plan.tasks (log-taken plan m.log h).facts.boards-to (lines_of m)
    (ends-of-plan plan.boards plan.tasks true (split_on LF m.log))))
    (λ h. rw (h, joined-none 8 (λ b. []) (λ b. refl)) mathlib.Core.List.Permᴰ.nil)

figures-joined : (year : List Morning) → Permᴰ (figures_of on_any year) (joined 8 (λ b. figures_of (on_board (b + 1)) year))
unfolding figures_of
figures-joined [] = rw (joined-none 8 (λ b. []) (λ b. refl)) mathlib.Core.List.Permᴰ.nil
figures-joined (m ∷ year) =
    let mine : ℕ → List ℕ = λ b. cond (is_taken m) (ends_of (on_board (b + 1)) m.plan (lines_of m)) [] in
    let rest : ℕ → List ℕ = λ b. figures_of (on_board (b + 1)) year in
    mathlib.Core.List.Permᴰ.trans (append-both (part-joined m) (figures-joined year)) (mathlib.Core.List.Permᴰ.symm (joined-append 8 mine rest))
  where
    append-both : {a b k l : List ℕ} → Permᴰ a b → Permᴰ k l → Permᴰ (a ++ k) (b ++ l)
    append-both {a} {b} {k} {l} p q = mathlib.Core.List.Permᴰ.trans (mathlib.Core.List.Permᴰ.append_right k p) (mathlib.Core.List.Permᴰ.append_left b q)

-- ---- the best of the boards' bests is the best of all

module _ (pick : ℕ → ℕ → ℕ) (laws : Picks pick) (ended best : List ℕ) (f : ℕ → List ℕ) where
  record SameBest (n : ℕ) : Type 0 where
    pub many : eqb (length (bests_below ended best n)) 0 ≡ eqb (length (joined n f)) 0
    pub is : best_of pick (bests_below ended best n) ≡ best_of pick (joined n f)

  module _ (n : ℕ) (r : SameBest n) where
    unfolded : bests_below ended best (suc n) ≡ cond (eqb (at ended n) 0) (bests_below ended best n) (at best n ∷ bests_below ended best n)
    unfolding bests_below
    unfolded = refl

    grown : (l : List ℕ) → f n ≡ l → at ended n ≡ length l → at best n ≡ best_of pick l → SameBest (suc n)
    unfolding joined
    grown [] e h b =
        let lower : bests_below ended best (suc n) ≡ bests_below ended best n = unfolded ∙ (rw h) in
        record { many = rw (lower, e) r.many; is = rw (lower, e) r.is }
    grown (x ∷ l) e h b =
        let lower : bests_below ended best (suc n) ≡ at best n ∷ bests_below ended best n =
        unfolded ∙ (rw (ne_eqb (at ended n) 0 (λ z. omega arith))) in
        record {
          many =
              rw (lower, e, ne_eqb (suc (length (bests_below ended best n))) 0 (λ z. omega arith), ne_eqb (suc (length (l ++ joined n f))) 0 (λ z. omega arith));
          is =
              rw (lower, e)
              (best-next pick laws (at best n) (bests_below ended best n)
              ∙ (rw (r.many, r.is, b, laws.comm (best_of pick (joined n f)) (best_of pick (x ∷ l)))
              (sym (after-than pick (length (x ∷ l)) (best_of pick (x ∷ l)) (joined n f) (omega arith))))
              ∙ after-append pick laws (x ∷ l) (joined n f));
        }

  same-best : (n : ℕ) → ((b : ℕ) → b < n → (at ended b ≡ length (f b)) × (at best b ≡ best_of pick (f b))) → SameBest n
  unfolding bests_below joined
  same-best zero h = record { many = refl; is = refl }
  same-best (suc n) h =
      let r = same-best n (λ b l. h b (omega arith)) in
      let q = h n (omega arith) in
      grown n r (f n) refl q.0 q.1

-- ---- the tallies of a year

pub board-tally : (year : List Morning) (b : ℕ) → b < 8 → board_tally (year_of year) b ≡ tallied (figures_of (on_board (b + 1)) year)
unfolding year_of
board-tally year b h =
    let figures : ℕ → List ℕ = λ b'. figures_of (on_board (b' + 1)) year in
    rw (
      boards-at (λ b'. length (figures b')) b h,
      boards-at (λ b'. sum_of (figures b')) b h,
      boards-at (λ b'. best_of max (figures b')) b h,
      boards-at (λ b'. best_of min (figures b')) b h,
    )

pub all-tally : (year : List Morning) → all_tally (year_of year) ≡ tallied (figures_of on_any year)
unfolding year_of all_tally
all-tally year =
    let figures : ℕ → List ℕ = λ b. figures_of (on_board (b + 1)) year in
    let p = figures-joined year in
    let ended : List ℕ = boards (λ b. length (figures b)) in
    let best : (ℕ → ℕ → ℕ) → List ℕ = λ pick. boards (λ b. best_of pick (figures b)) in
    let same : (pick : ℕ → ℕ → ℕ) → Picks pick → best_of pick (bests_below ended (best pick) 8) ≡ best_of pick (figures_of on_any year) =
    λ pick laws.
    (same-best pick laws ended (best pick) figures 8
    (λ b h. (boards-at (λ b'. length (figures b')) b h, boards-at (λ b'. best_of pick (figures b')) b h))
    ).is
    ∙ sym (best-perm pick laws p) in
    let e = boards-sum (λ b. length (figures b)) ∙ sym (joined_length 8 figures) ∙ sym (length-perm p) in
    let s = boards-sum (λ b. sum_of (figures b)) ∙ sym (joined-sum 8 figures) ∙ sym (sum-perm p) in
    let g = same max max-picks in
    let l = same min min-picks in
    λ i. record { ended = e i; sum = s i; greatest = g i; least = l i }
