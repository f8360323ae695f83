-- Totals fed one log after another are those of the list.
use Prim.Native.Nat.{ℕ, ◌+◌, ◌≤◌, ◌<◌, max, min}
use mathlib.Core.Path.{◌≡◌, refl, sym, ap, ◌∙◌}
use mathlib.Core.Bool.{Bool, true, false, not, cond}
use mathlib.Core.List.{List, [], ◌∷◌, ◌++◌, append_assoc, append-nil, Permᴰ}
use native.Mathlib.Omega.{arith}
use lib.ListN.{length, take, length-append}
use lib.Seq.{take_all, take_at}
use Rattle.laws.proofs.Cases.{by_bool, by_le}
use Rattle.plan.specs.Value.{at}
use Rattle.school.specs.Tests.{judged_of}
use Rattle.school.specs.Said.{LogLine}
use Rattle.year_rules.specs.Figures.{sum_of, best_of, best_after}
use Rattle.year_rules.specs.Totals.{logs_most, boards, zero_totals, with_figures, with_refused, with_judged, added_of}
use Rattle.year_rules.specs.declared.AddResult.{AddResult}
use Rattle.year_rules.specs.declared.Totals.{Totals}
use Rattle.year_rules.proofs.FigureLaws.{Picks, max-picks, min-picks, sum-append, after-append, after_same}
use Rattle.year_rules.proofs.BoardLaws.{boards-at, boards-same, boards-sum, add_none}
use Rattle.year_rules.proofs.BoundLaws.{InBounds, facts-ok}
use Rattle.year_rules.proofs.AddedLaws.{figures_in, judged-adds, judged-adds-none, added_full, added-on, added-in}
use Rattle.promises_year.specs.Year.{Morning, is_taken, lines_of, on_board, ends_of, figures_of, many_of, year_of, fed_from, fed}
use Rattle.promises_year.proofs.Perms.{length-perm, sum-perm, best-perm}
use Rattle.promises_year.proofs.Accepted.{log-taken}
use Rattle.promises_year.proofs.Ends.{by_lines}

-- ---- the order of figures does not matter to what is added

module _ (totals : Totals) (f g : ℕ → List ℕ) (perm : (b : ℕ) → Permᴰ (f b) (g b)) where
  after-perm : (pick : ℕ → ℕ → ℕ) → Picks pick → (ended best b : ℕ) → best_after pick ended best (f b) ≡ best_after pick ended best (g b)
  after-perm pick laws ended best b = after_same pick ended best (f b) (g b) (length-perm (perm b)) (best-perm pick laws (perm b))

  pub figures-perm : with_figures totals f ≡ with_figures totals g
  unfolding with_figures
  figures-perm =
      rw (
        boards-same (λ b. at totals.ended b + length (f b)) (λ b. at totals.ended b + length (g b)) (λ b h. rw (length-perm (perm b))),
        boards-same (λ b. at totals.sum b + sum_of (f b)) (λ b. at totals.sum b + sum_of (g b)) (λ b h. rw (sum-perm (perm b))),
        boards-same (λ b. best_after max (at totals.ended b) (at totals.greatest b) (f b)) (λ b. best_after max (at totals.ended b) (at totals.greatest b) (g b)) (λ b h. after-perm max max-picks _ _ b),
        boards-same (λ b. best_after min (at totals.ended b) (at totals.least b) (f b)) (λ b. best_after min (at totals.ended b) (at totals.least b) (g b)) (λ b h. after-perm min min-picks _ _ b),
      )

pub totals-same :
    (s t : Totals) → s.accepted ≡ t.accepted → s.refused ≡ t.refused → s.ended ≡ t.ended → s.sum ≡ t.sum
    → s.greatest ≡ t.greatest → s.least ≡ t.least → s ≡ t
totals-same s t a r e u g l = λ i. record { accepted = a i; refused = r i; ended = e i; sum = u i; greatest = g i; least = l i }

-- ---- a list with one more at its end

many_more : (test : Morning → Bool) (year : List Morning) (m : Morning) → many_of test (year ++ (m ∷ [])) ≡ many_of test year + cond (test m) 1 0
unfolding many_of
many_more test [] m = omega arith
many_more test (x ∷ year) m = rw (many_more test year m) (omega arith)

-- what a morning adds to a board's figures
abbrev pub part : (LogLine → Bool) → Morning → List ℕ
part which m = cond (is_taken m) (ends_of which m.plan (lines_of m)) []

figures-more : (which : LogLine → Bool) (year : List Morning) (m : Morning) → figures_of which (year ++ (m ∷ [])) ≡ figures_of which year ++ part which m
unfolding figures_of
figures-more which [] m = append-nil (part which m)
figures-more which (x ∷ year) m = rw (figures-more which year m) (sym (append_assoc (part which x) (figures_of which year) (part which m)))

many-all : (year : List Morning) → many_of is_taken year + many_of (λ m. not (is_taken m)) year ≡ length year
unfolding many_of
many-all [] = refl
many-all (m ∷ year) =
    let r = many-all year in by_bool (is_taken m) (λ h. rw h (omega arith)) (λ h. rw h (omega arith))

pub year-logs : (year : List Morning) → (year_of year).accepted + (year_of year).refused ≡ length year
unfolding year_of
year-logs year = many-all year

-- ---- the figures of a board after one log more

module _ (year : List Morning) (m : Morning) where
  abbrev next : List Morning
  next = year ++ (m ∷ [])

  abbrev sofar : ℕ → List ℕ
  sofar b = figures_of (on_board (b + 1)) year

  taken_more : is_taken m ≡ true → (b : ℕ) → figures_of (on_board (b + 1)) next ≡ sofar b ++ ends_of (on_board (b + 1)) m.plan (lines_of m)
  taken_more h b = figures-more (on_board (b + 1)) year m ∙ (rw h)

  refused-more : is_taken m ≡ false → (b : ℕ) → figures_of (on_board (b + 1)) next ≡ sofar b
  refused-more h b = figures-more (on_board (b + 1)) year m ∙ (rw h (append-nil (sofar b)))

  module _ (h : is_taken m ≡ true) where
    abbrev ends : ℕ → List ℕ
    ends b = ends_of (on_board (b + 1)) m.plan (lines_of m)

    best-more :
        (pick : ℕ → ℕ → ℕ) → Picks pick → (ended best : List ℕ) → ended ≡ boards (λ b. length (sofar b)) → best ≡ boards (λ b. best_of pick (sofar b))
        → boards (λ b. best_after pick (at ended b) (at best b) (ends b)) ≡ boards (λ b. best_of pick (figures_of (on_board (b + 1)) next))
    best-more pick laws ended best e f =
        boards-same _ _
        (λ b l.
        rw
        (e, f, boards-at (λ b'. length (sofar b')) b l, boards-at (λ b'. best_of pick (sofar b')) b l, taken_more h b)
        (after-append pick laws (sofar b) (ends b)))

    taken-year : with_figures (year_of year) ends ≡ year_of next
    unfolding with_figures year_of
    taken-year =
        totals-same (with_figures (year_of year) ends) (year_of next)
        (sym (many_more is_taken year m ∙ (rw h)))
        (sym (many_more (λ x. not (is_taken x)) year m ∙ (rw h (omega arith))))
        (boards-same _ _ (λ b l. rw (boards-at (λ b'. length (sofar b')) b l, taken_more h b) (sym (length-append (sofar b) (ends b)))))
        (boards-same _ _ (λ b l. rw (boards-at (λ b'. sum_of (sofar b')) b l, taken_more h b) (sym (sum-append (sofar b) (ends b)))))
        (best-more max max-picks _ _ refl refl)
        (best-more min min-picks _ _ refl refl)

  refused-year : is_taken m ≡ false → with_refused (year_of year) ≡ year_of next
  unfolding year_of
  refused-year h =
      totals-same (with_refused (year_of year)) (year_of next)
      (sym (many_more is_taken year m ∙ (rw h (omega arith))))
      (sym (many_more (λ x. not (is_taken x)) year m ∙ (rw h)))
      (boards-same _ _ (λ b l. rw (refused-more h b)))
      (boards-same _ _ (λ b l. rw (refused-more h b)))
      (boards-same _ _ (λ b l. rw (refused-more h b)))
      (boards-same _ _ (λ b l. rw (refused-more h b)))

-- ---- a call

-- an accepted log adds the figures of its `end` lines
pub taken-adds :
    (totals : Totals) (m : Morning) → is_taken m ≡ true
    → with_judged totals m.plan (judged_of m.plan m.log) ≡ with_figures totals (λ b. ends_of (on_board (b + 1)) m.plan (lines_of m))
taken-adds totals m h =
    judged-adds totals m.plan (judged_of m.plan m.log) h
    ∙ figures-perm totals (figures_in m.plan (judged_of m.plan m.log)) (λ b. ends_of (on_board (b + 1)) m.plan (lines_of m))
    (λ b. by_lines m.plan m.log (log-taken m.plan m.log h) (b + 1))

abbrev after : Totals → Morning → Totals
after totals m = (added_of totals m.plan m.log).totals

module _ (year : List Morning) (m : Morning) (ok : InBounds (year_of year)) where
  full : logs_most ≤ length year → after (year_of year) m ≡ year_of year
  full h =
      ap (λ (a : AddResult). a.totals)
      (added_full (year_of year) m.plan m.log (facts-ok (year_of year) ok) (omega (arith, year-logs year)))

  grows : length year < logs_most → after (year_of year) m ≡ year_of (year ++ (m ∷ []))
  grows h =
      ap (λ (a : AddResult). a.totals)
      (added-on (year_of year) m.plan m.log (facts-ok (year_of year) ok) (omega (arith, year-logs year)))
      ∙ by_bool (is_taken m)
      (λ t. taken-adds (year_of year) m t ∙ taken-year year m t)
      (λ t. judged-adds-none (year_of year) m.plan (judged_of m.plan m.log) t ∙ refused-year year m t)

-- ---- the list

none-year : zero_totals ≡ year_of []
unfolding year_of many_of figures_of sum_of best_of
none-year = refl

none_in : InBounds (year_of [])
none_in = rw (← none-year) (record {
  logs = omega arith;
  tasks = rw (boards-sum (λ b. 0), add_none 8 (λ b. 0) (λ b h. refl)) (omega arith);
  board = λ b l. record {
    sum = rw (boards-at (λ b'. 0) b l) (omega arith);
    greatest = rw (boards-at (λ b'. 0) b l) (omega arith);
    least = rw (boards-at (λ b'. 0) b l) (omega arith);
  };
})

fed-from : (year more : List Morning) → InBounds (year_of year) → length year ≤ logs_most → fed_from (year_of year) more ≡ year_of (take logs_most (year ++ more))
unfolding fed_from
fed-from year [] ok few =
    ap year_of (sym (ap (take logs_most) (append-nil year) ∙ take_all logs_most year few))
fed-from year (m ∷ more) ok few =
    by_le logs_most (length year)
    (λ h.
    let exact : length year ≡ logs_most = omega arith in
    ap (λ (t : Totals). fed_from t more) (full year m ok h)
    ∙ fed-from year more ok few
    ∙ ap year_of (take_at year more logs_most exact ∙ sym (take_at year (m ∷ more) logs_most exact)))
    (λ h.
    let next : InBounds (year_of (year ++ (m ∷ []))) = rw (grows year m ok h) at (added-in (year_of year) m.plan m.log ok) in
    ap (λ (t : Totals). fed_from t more) (grows year m ok h)
    ∙ fed-from (year ++ (m ∷ [])) more next (rw length-append (omega arith))
    ∙ ap (λ (l : List Morning). year_of (take logs_most l)) (append_assoc year (m ∷ []) more))

pub fed-year : (year : List Morning) → fed year ≡ year_of (take logs_most year)
fed-year year = ap (λ (t : Totals). fed_from t year) none-year ∙ fed-from [] year none_in (omega arith)

in-from : (totals : Totals) (year : List Morning) → InBounds totals → InBounds (fed_from totals year)
unfolding fed_from
in-from totals [] ok = ok
in-from totals (m ∷ year) ok = in-from (after totals m) year (added-in totals m.plan m.log ok)

pub fed-in : (year : List Morning) → InBounds (fed year)
fed-in year = in-from zero_totals year (rw none-year none_in)
