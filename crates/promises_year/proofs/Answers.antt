-- When a call is refused, and what it answers.
use Prim.Native.Nat.{ℕ, ◌+◌, ◌≤◌, ◌<◌}
use mathlib.Core.Path.{◌≡◌, refl, sym, ap, ◌∙◌}
use mathlib.Core.Logic.{◌⊎◌, inl, inr, ⊎_elim}
use mathlib.Core.Bool.{Bool, true, false, ◌&&◌}
use mathlib.Core.List.{List}
use native.Mathlib.Omega.{arith}
use lib.ListN.{length, take}
use lib.Seq.{length-take-le}
use borrow.Author.Tests.{eqb-true, eqb-false, leb-false}
use Rattle.laws.proofs.Cases.{by_bool, by_le}
use Rattle.laws.proofs.Every.{every-fails}
use Rattle.plan.specs.Answer.{refuse, granted}
use Rattle.school.specs.Tests.{judged_of}
use Rattle.school.specs.declared.JudgedLog.{JudgedLog}
use Rattle.year_rules.specs.Totals.{logs_most, board_ok, totals_ok, not_added, added_of, with_judged}
use Rattle.year_rules.specs.declared.AddResult.{AddResult}
use Rattle.year_rules.specs.declared.Totals.{Totals}
use Rattle.year_rules.proofs.BoundLaws.{InBounds, ok-facts, facts-ok}
use Rattle.year_rules.proofs.AddedLaws.{judged-adds-none, added-nine, added_full, added-on, added-in}
use Rattle.promises.specs.Ladder.{Ladder}
use Rattle.promises.proofs.Ladder.{First, ladder_of}
use Rattle.promises_year.specs.Says.{PastBounds, add_checks, AddedSays}
use Rattle.promises_year.specs.Year.{Morning, is_taken, fed}
use Rattle.promises_year.proofs.Fed.{taken-adds, year-logs, fed-year, fed-in}

module _ (totals : Totals) where
  past-refused : PastBounds totals → InBounds totals → ⊥
  past-refused (PastBounds.logs h) ok = let q = ok.logs in omega arith
  past-refused (PastBounds.tasks h) ok = let q = ok.tasks in omega arith
  past-refused (PastBounds.ticks b l h) ok = let q = (ok.board b l).sum in omega arith
  past-refused (PastBounds.greatest b l h) ok = let q = (ok.board b l).greatest in omega arith
  past-refused (PastBounds.least b l h) ok = let q = (ok.board b l).least in omega arith

  -- of two tests one fails
  either : (a b : Bool) → (a && b) ≡ false → (a ≡ false) ⊎ (b ≡ false)
  either true b h = inr h
  either false b h = inl refl

  board-past : (b : ℕ) → b < 8 → board_ok totals b ≡ false → PastBounds totals
  board-past b l h =
      ⊎_elim
      (λ s. PastBounds.ticks b l (leb-false _ _ s))
      (λ r. ⊎_elim (λ g. PastBounds.greatest b l (leb-false _ _ g)) (λ m. PastBounds.least b l (leb-false _ _ m)) (either _ _ r))
      (either _ _ h)

  refused-past : totals_ok totals ≡ false → PastBounds totals
  unfolding totals_ok
  refused-past h =
      ⊎_elim
      (λ n. PastBounds.logs (leb-false _ _ n))
      (λ r.
      ⊎_elim
      (λ t. PastBounds.tasks (leb-false _ _ t))
      (λ e. let f = every-fails 8 (board_ok totals) e in board-past f.0 f.1 f.2)
      (either _ _ r))
      (either _ _ h)

module _ (totals : Totals) (m : Morning) where
  abbrev added : AddResult
  added = added_of totals m.plan m.log

  abbrev count : ℕ
  count = totals.accepted + totals.refused

  data Case : Type 0 where
    nine : totals_ok totals ≡ false → added ≡ not_added (refuse 9 0 0) totals → Case
    full : totals_ok totals ≡ true → count ≡ logs_most → added ≡ not_added (refuse 28 0 0) totals → Case
    on :
        totals_ok totals ≡ true → count < logs_most
        → added ≡ record { answer = granted; judged = judged_of m.plan m.log; totals = with_judged totals m.plan (judged_of m.plan m.log) }
        → Case

  cases : Case
  cases =
      by_bool (totals_ok totals)
      (λ h.
      by_le logs_most count
      (λ f. let q = (ok-facts totals h).logs in Case.full h (omega arith) (added_full totals m.plan m.log h f))
      (λ f. Case.on h f (added-on totals m.plan m.log h f)))
      (λ h. Case.nine h (added-nine totals m.plan m.log h))

  first : First (add_checks totals) added.answer.code
  first = go cases
    where
      go : Case → First (add_checks totals) added.answer.code
      go (Case.nine h e) = First.here (refused-past totals h) (ap (λ (a : AddResult). a.answer.code) e)
      go (Case.full h n e) =
          First.past (λ p. past-refused totals p (ok-facts totals h)) (First.here n (ap (λ (a : AddResult). a.answer.code) e))
      go (Case.on h l e) =
          First.past (λ p. past-refused totals p (ok-facts totals h))
          (First.past (λ (n : count ≡ logs_most). omega arith) (First.end (ap (λ (a : AddResult). a.answer.code) e)))

  pub add-ladder : Ladder (add_checks totals) added.answer.code
  add-ladder = ladder_of (add_checks totals) added.answer.code refl first

  not-zero : (c : ℕ) → 0 < c → added ≡ not_added (refuse c 0 0) totals → AddedSays totals m added
  not-zero c p e =
      let answer = ap (λ (a : AddResult). a.answer.code) e in
      AddedSays.not_added (λ z. omega arith) (ap (λ (a : AddResult). a.answer.first) e) (ap (λ (a : AddResult). a.answer.second) e)
      (ap (λ (a : AddResult). a.judged) e) (ap (λ (a : AddResult). a.totals) e)

  pub add-says : AddedSays totals m added
  add-says = go cases
    where
      go : Case → AddedSays totals m added
      go (Case.nine h e) = not-zero 9 (omega arith) e
      go (Case.full h n e) = not-zero 28 (omega arith) e
      go (Case.on h l e) =
          let judged = ap (λ (a : AddResult). a.judged) e in
          let found = ap (λ (j : JudgedLog). j.answer.code) judged in
          let totalled = ap (λ (a : AddResult). a.totals) e in
          by_bool (is_taken m)
          (λ t. AddedSays.accepted_log (ap (λ (a : AddResult). a.answer) e) judged (found ∙ eqb-true _ 0 t) (totalled ∙ taken-adds totals m t))
          (λ t.
          AddedSays.refused_log (ap (λ (a : AddResult). a.answer) e) judged (λ z. eqb-false _ 0 t (sym found ∙ z))
          (totalled ∙ judged-adds-none totals m.plan (judged_of m.plan m.log) t))

  pub stays-in : totals_ok totals ≡ true → totals_ok added.totals ≡ true
  stays-in h = facts-ok added.totals (added-in totals m.plan m.log (ok-facts totals h))

pub fed-ok : (year : List Morning) → totals_ok (fed year) ≡ true
fed-ok year = facts-ok (fed year) (fed-in year)

-- the 10,001st log, and any later
pub past-full :
    (year : List Morning) (m : Morning) → 10000 ≤ length year → added_of (fed year) m.plan m.log ≡ not_added (refuse 28 0 0) (fed year)
past-full year m h =
    let n = year-logs (take logs_most year) in
    let l = length-take-le logs_most year h in
    let e = ap (λ (t : Totals). t.accepted + t.refused) (fed-year year) in
    added_full (fed year) m.plan m.log (fed-ok year) (omega arith)
