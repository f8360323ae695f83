-- The bounds of totals as facts, and that an added log keeps them.
use Prim.Native.Nat.{ℕ, ◌+◌, ◌*◌, ◌≤◌, ◌<◌, max, min}
use mathlib.Core.Path.{◌≡◌, ◌∙◌}
use mathlib.Core.Bool.{true, ◌&&◌}
use mathlib.Core.List.{List}
use native.Mathlib.Omega.{arith}
use lib.Dec.{leb}
use lib.ListN.{length}
use borrow.Author.Tests.{leb-true, le-leb}
use Rattle.laws.specs.Every.{every}
use Rattle.laws.specs.Lists.{all_of}
use Rattle.laws.proofs.Cases.{and_l, and_r, and-of}
use Rattle.laws.proofs.Every.{every-at, every_of}
use Rattle.plan.specs.Value.{at}
use Rattle.year_rules.specs.Figures.{sum_of, best_after}
use Rattle.year_rules.specs.Totals.{logs_most, board_ok, totals_ok, with_figures, with_refused}
use Rattle.year_rules.specs.declared.Totals.{Totals}
use Rattle.year_rules.proofs.FigureLaws.{max-picks, min-picks, sum_bound, after-bound}
use Rattle.year_rules.proofs.BoardLaws.{boards-at, boards-sum, add_to, add-plus, add-within}

pub record BoardIn (totals : Totals) (b : ℕ) : Type 0 where
  pub sum : at totals.sum b ≤ 1000000 * at totals.ended b
  pub greatest : at totals.greatest b ≤ 1000000
  pub least : at totals.least b ≤ 1000000

pub record InBounds (totals : Totals) : Type 0 where
  pub logs : totals.accepted + totals.refused ≤ logs_most
  pub tasks : sum_of totals.ended ≤ 64 * totals.accepted
  pub board : (b : ℕ) → b < 8 → BoardIn totals b

pub board-facts : (totals : Totals) (b : ℕ) → board_ok totals b ≡ true → BoardIn totals b
board-facts totals b h =
    let s = leb (at totals.sum b) (1000000 * at totals.ended b) in
    let g = leb (at totals.greatest b) 1000000 in
    let l = leb (at totals.least b) 1000000 in
    record {
      sum = leb-true _ _ (and_l s (g && l) h);
      greatest = leb-true _ _ (and_l g l (and_r s (g && l) h));
      least = leb-true _ _ (and_r g l (and_r s (g && l) h));
    }

pub facts-board : (totals : Totals) (b : ℕ) → BoardIn totals b → board_ok totals b ≡ true
facts-board totals b f =
    and-of (le-leb _ _ f.sum) (and-of (le-leb _ _ f.greatest) (le-leb _ _ f.least))

module _ (totals : Totals) where
  pub ok-facts : totals_ok totals ≡ true → InBounds totals
  unfolding totals_ok
  ok-facts h =
      let n = leb (totals.accepted + totals.refused) logs_most in
      let t = leb (sum_of totals.ended) (64 * totals.accepted) in
      let e = every 8 (board_ok totals) in
      record {
        logs = leb-true _ _ (and_l n (t && e) h);
        tasks = leb-true _ _ (and_l t e (and_r n (t && e) h));
        board = λ b l. board-facts totals b (every-at 8 (board_ok totals) (and_r t e (and_r n (t && e) h)) b l);
      }

  pub facts-ok : InBounds totals → totals_ok totals ≡ true
  unfolding totals_ok
  facts-ok f =
      and-of (le-leb _ _ f.logs)
      (and-of (le-leb _ _ f.tasks) (every_of 8 (board_ok totals) (λ b l. facts-board totals b (f.board b l))))

  module _ (ok : InBounds totals) (room : totals.accepted + totals.refused < logs_most) where
    pub refused-in : InBounds (with_refused totals)
    refused-in = record {
      logs = omega arith;
      tasks = ok.tasks;
      board = λ b l. record { sum = (ok.board b l).sum; greatest = (ok.board b l).greatest; least = (ok.board b l).least };
    }

    pub figures-in :
        (figures : ℕ → List ℕ) → add_to 8 (λ b. length (figures b)) ≤ 64
        → ((b : ℕ) → all_of (λ x. leb x 1000000) (figures b) ≡ true) → InBounds (with_figures totals figures)
    unfolding with_figures
    figures-in figures few small = record {
      logs = omega arith;
      tasks =
          let s =
          boards-sum (λ b. at totals.ended b + length (figures b))
          ∙ add-plus 8 (at totals.ended) (λ b. length (figures b)) in
          let w = add-within 8 totals.ended in
          let t = ok.tasks in
          rw s (omega arith);
      board = λ b l.
          let f = ok.board b l in
          let s = sum_bound 1000000 (figures b) (small b) in
          let p = f.sum in
          record {
            sum = rw (
              boards-at (λ b'. at totals.sum b' + sum_of (figures b')) b l,
              boards-at (λ b'. at totals.ended b' + length (figures b')) b l,
            ) (omega arith);
            greatest =
                rw (boards-at (λ b'. best_after max (at totals.ended b') (at totals.greatest b') (figures b')) b l)
                (after-bound max max-picks (at totals.ended b) (at totals.greatest b) 1000000 (figures b) f.greatest (small b));
            least =
                rw (boards-at (λ b'. best_after min (at totals.ended b') (at totals.least b') (figures b')) b l)
                (after-bound min min-picks (at totals.ended b) (at totals.least b) 1000000 (figures b) f.least (small b));
          };
    }
