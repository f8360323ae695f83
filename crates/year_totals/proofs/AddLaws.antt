-- The bounds of totals, board by board of an accepted log, and what a call adds.
use Prim.Native.Nat.{ℕ, zero, suc, ◌+◌, ◌≤◌, ◌<◌}
use mathlib.Core.Path.{◌≡◌, refl, sym, ap, ◌∙◌}
use mathlib.Core.Bool.{Bool, true, false}
use mathlib.Core.List.{List, [], ◌∷◌}
use native.Mathlib.Omega.{arith}
use lib.ListN.{set, replicate}
use borrow.Author.Tests.{eq-eqb, ne_eqb}
use Rattle.laws.specs.Each.{each}
use Rattle.laws.proofs.Each.{each_turn}
use Rattle.plan.specs.Answer.{refuse, granted, is_granted}
use Rattle.plan.specs.Value.{at}
use Rattle.plan.specs.declared.Answer.{Answer}
use Rattle.plan.specs.declared.Plan.{Plan}
use Rattle.book_view.proofs.Accepted.{plan-facts}
use Rattle.school.specs.Tests.{judged_of}
use Rattle.school.specs.declared.JudgedLog.{JudgedLog}
use Rattle.year_rules.specs.Figures.{sum_of}
use Rattle.year_rules.specs.Totals.{board_tally, totals_ok, boards, with_figures, with_refused, with_judged, not_added, added_of}
use Rattle.year_rules.specs.declared.AddResult.{AddResult}
use Rattle.year_rules.specs.declared.Tally.{Tally}
use Rattle.year_rules.specs.declared.Totals.{Totals}
use Rattle.year_rules.proofs.BoundLaws.{ok-facts}
use Rattle.year_rules.proofs.AddedLaws.{figures_in, judged-accepted, judged-adds, judged-adds-none, added-nine, added_full, added-on}
use Rattle.year_totals.specs.Private.Tallies.{tally_after}

-- ---- a board's totals leave room for a log

at-within : (l : List ℕ) (i : ℕ) → at l i ≤ sum_of l
unfolding sum_of
at-within [] i = omega arith
at-within (x ∷ l) zero = omega arith
at-within (x ∷ l) (suc i) = let r = at-within l i in omega arith

pub board-roomy :
    (totals : Totals) (b : ℕ) → b < 8 → totals_ok totals ≡ true → totals.accepted + totals.refused < 10000
    → (at totals.ended b ≤ 640000) × (at totals.sum b ≤ 640000000000)
board-roomy totals b h ok room =
    let f = ok-facts totals ok in
    let w = at-within totals.ended b in
    let t = f.tasks in
    let s = (f.board b h).sum in
    (omega arith, omega arith)

-- ---- the boards one after the other

module _ (totals : Totals) (figures : ℕ → List ℕ) where
  abbrev zeros : List ℕ
  zeros = replicate 8 0

  abbrev after : ℕ → Tally
  after b = tally_after (board_tally totals b) (figures b)

  -- the boards below n are done
  pub record Filled (n : ℕ) (ended sum greatest least : List ℕ) : Type 0 where
    pub ended_is : ended ≡ each n (λ b. (after b).ended) zeros
    pub sum_is : sum ≡ each n (λ b. (after b).sum) zeros
    pub greatest-is : greatest ≡ each n (λ b. (after b).greatest) zeros
    pub least-is : least ≡ each n (λ b. (after b).least) zeros

  pub filled_none : Filled 0 zeros zeros zeros zeros
  unfolding each
  filled_none = record { ended_is = refl; sum_is = refl; greatest-is = refl; least-is = refl }

  pub filled-turn :
      (n : ℕ) {ended sum greatest least : List ℕ} {next : Tally} → Filled n ended sum greatest least → next ≡ after n
      → Filled (n + 1) (set ended n next.ended) (set sum n next.sum) (set greatest n next.greatest) (set least n next.least)
  filled-turn n {next = next} f e = record {
    ended_is = rw (f.ended_is, e) (sym (each_turn n (λ b. (after b).ended) zeros));
    sum_is = rw (f.sum_is, e) (sym (each_turn n (λ b. (after b).sum) zeros));
    greatest-is = rw (f.greatest-is, e) (sym (each_turn n (λ b. (after b).greatest) zeros));
    least-is = rw (f.least-is, e) (sym (each_turn n (λ b. (after b).least) zeros));
  }

  pub filled-all :
      (n : ℕ) {ended sum greatest least : List ℕ} → n ≡ 8 → Filled n ended sum greatest least
      → record {
        accepted = totals.accepted + 1;
        refused = totals.refused;
        ended = ended;
        sum = sum;
        greatest = greatest;
        least = least;
      } ≡ with_figures totals figures
  unfolding with_figures boards tally_after
  filled-all n e f = rw (f.ended_is, f.sum_is, f.greatest-is, f.least-is, e)

-- ---- a call

module _ (totals : Totals) (plan : Plan) (log : List ℕ) where
  pub call-nine :
      {ok : Bool} {answer : Answer} {r : AddResult} → ok ≡ totals_ok totals → ok ≡ false → answer ≡ refuse 9 0 0
      → r ≡ not_added answer totals → r ≡ added_of totals plan log
  call-nine {ok} e n a p =
      p ∙ ap (λ (x : Answer). not_added x totals) a ∙ sym (added-nine totals plan log (sym e ∙ n))

  module _ {ok : Bool} {accepted refused : ℕ} (e : ok ≡ totals_ok totals) (n : ok ≡ true) (p : accepted ≡ totals.accepted) (q : refused ≡ totals.refused) where
    in_bounds : totals_ok totals ≡ true
    in_bounds = sym e ∙ n

    pub call-full :
        {answer : Answer} {r : AddResult} → 10000 ≤ accepted + refused → answer ≡ refuse 28 0 0 → r ≡ not_added answer totals
        → r ≡ added_of totals plan log
    call-full h a g =
        g ∙ ap (λ (x : Answer). not_added x totals) a ∙ sym (added_full totals plan log in_bounds (omega arith))

    module _ (room : accepted + refused < 10000) {judged : JudgedLog} (found : judged ≡ judged_of plan log) where
      pub has_room : (totals_ok totals ≡ true) × (totals.accepted + totals.refused < 10000)
      has_room = (in_bounds, omega arith)

      goes_on : added_of totals plan log ≡ record { answer = granted; judged = judged; totals = with_judged totals plan judged }
      goes_on = rw found (added-on totals plan log in_bounds (omega arith))

      pub call-refused :
          {answer : Answer} {next : Totals} → answer ≡ refuse 0 0 0 → (judged.answer.code ≡ 0 → ⊥) → next ≡ with_refused totals
          → record { answer = answer; judged = judged; totals = next } ≡ added_of totals plan log
      call-refused a c t =
          rw (a, t) (sym (goes_on ∙ ap (λ (x : Totals). record { answer = granted; judged = judged; totals = x }) (judged-adds-none totals plan judged (ne_eqb judged.answer.code 0 c))))

      pub call-accepted :
          {answer : Answer} {next : Totals} → answer ≡ refuse 0 0 0 → judged.answer.code ≡ 0 → next ≡ with_figures totals (figures_in plan judged)
          → record { answer = answer; judged = judged; totals = next } ≡ added_of totals plan log
      call-accepted a c t =
          rw (a, t) (sym (goes_on ∙ ap (λ (x : Totals). record { answer = granted; judged = judged; totals = x }) (judged-adds totals plan judged (eq-eqb judged.answer.code 0 c))))

      pub tasks-few : judged.answer.code ≡ 0 → plan.tasks ≤ 64
      tasks-few c =
          (plan-facts plan (judged-accepted plan log (ap (λ (j : JudgedLog). is_granted j.answer) (sym found) ∙ eq-eqb judged.answer.code 0 c))).tasks-to
