-- What is done by the table is what the theory says: dropped tasks skipped, then whoever may go let go.
use Prim.Native.Nat.{ℕ, zero, suc, ◌<◌, ◌≤◌, max}
use native.Mathlib.Omega.{arith}
use mathlib.Core.Bool.{false, cond, and_comm}
use mathlib.Core.List.{List, []}
use mathlib.Core.Path.{◌≡◌, refl, ap, ◌∙◌}
use lib.ListN.{length}
use borrow.Author.Tests.{le-ltb}
use Rattle.laws.proofs.Cases.{by_bool, and_l}
use Rattle.theory.specs.Plan.{Plan}
use Rattle.theory.specs.Book.{Book, is_dropped}
use Rattle.theory.specs.Report.{goes, skips, skip_once, skip_times, let_go}
use Rattle.theory.proofs.Past.{past_skip, past-let-go}
use Rattle.theory.proofs.Reflect.{all-ended-at}
use Rattle.theory.proofs.Skip.{goes_at}
use Rattle.plan.specs.Value.{at}
use Rattle.book_view.specs.View.{plan_seen}
use Rattle.book.specs.Private.Table.{SmallTable, goes_by_row, skips_by_row, round_by, rounds_by, starts_by, seen_as, moved_to, TableTo, Closed, Past, Fit}
use Rattle.book.specs.declared.StepArrays.{StepArrays}
use Rattle.book.proofs.StartLaws.{put-at, length-put, go-by-row}
use Rattle.book.proofs.SkipLaws.{waits_back}
use Rattle.book.proofs.TableLaws.{row_small}
use Rattle.book.proofs.Views.{past_by, own-laid}

-- a round keeps marks closed
closed-skip : (plan : Plan) (book : Book) → Closed plan book.mark → Closed plan (skip_once plan book).mark
closed-skip plan book closed i j li lj n w =
    ended-on
    (by_bool (skips plan book i)
    (λ h.
    let g = goes_at plan book i (and_l _ _ h) in
    all-ended-at plan book.mark i g.2 j lj w)
    (λ h. closed i j li lj (λ z. n (rw h z)) w))
  where
    ended-on : book.mark j ≡ 2 → cond (skips plan book j) 2 (book.mark j) ≡ 2
    ended-on e = by_bool (skips plan book j) (λ h. rw h) (λ h. rw h e)

-- the table looks at no ready tick
pub seen-rows :
    (tasks : ℕ) (ready finish waits : List ℕ) (board mark : ℕ → ℕ) (n : ℕ) (table : List (List ℕ))
    → TableTo (plan_seen tasks [] [] finish waits) board mark n table → TableTo (plan_seen tasks ready [] finish waits) board mark n table
seen-rows tasks ready finish waits board mark n table t = record { rows = λ i l z. record { cells = (t.rows i l z).cells } }

module _ (plan : Plan) (board : ℕ → ℕ) (dropped : List ℕ) (clock : ℕ) (table : List (List ℕ)) where
  -- what the rounds and the starts keep
  pub record Ready (moved : StepArrays) : Type 0 where
    pub fit : Fit plan board (seen_as moved dropped clock)
    pub rows : TableTo plan board (at moved.mark) plan.tasks table
    pub size-mark : length moved.mark ≡ 64
    pub size-start : length moved.start ≡ 64
    pub size-end : length moved.end ≡ 64

  pub ready-small : (moved : StepArrays) → Ready moved → (plan.tasks ≤ 64) × SmallTable (at moved.mark) plan.tasks table
  ready-small moved r = (r.fit.few, λ i l z. row_small plan board i _ _ r.fit.few (r.rows.rows i l z))

  module _ (moved : StepArrays) (r : Ready moved) where
    abbrev seen : Book
    seen = seen_as moved dropped clock

    skip-by-row : (i : ℕ) → i < plan.tasks → skips_by_row moved.mark dropped table i ≡ skips plan seen i
    skip-by-row i l =
        rw (go-by-row plan board moved dropped clock table r.fit r.rows i l)
        (and_comm (is_dropped (at dropped) i) (goes plan seen i))

    skips-not : (j : ℕ) → plan.tasks ≤ j → skips plan seen j ≡ false
    unfolding goes
    skips-not j h = rw (le-ltb j plan.tasks h)

    goes-not : (j : ℕ) → plan.tasks ≤ j → goes plan seen j ≡ false
    unfolding goes
    goes-not j h = rw (le-ltb j plan.tasks h)

    few-in : (l : List ℕ) → length l ≡ 64 → plan.tasks ≤ length l
    few-in l e = omega (arith, e, r.fit.few)

    view-round : seen_as (round_by dropped table clock plan.tasks moved) dropped clock ≡ skip_once plan seen
    unfolding round_by
    view-round =
        λ i. record {
          mark = λ j. put-at (skips_by_row moved.mark dropped table) (λ k. 2) moved.mark plan.tasks (skips plan seen) (few-in moved.mark r.size-mark) skip-by-row skips-not j i;
          start = λ j. put-at (skips_by_row moved.mark dropped table) (λ k. clock) moved.start plan.tasks (skips plan seen) (few-in moved.start r.size-start) skip-by-row skips-not j i;
          end = λ j. put-at (skips_by_row moved.mark dropped table) (λ k. clock) moved.end plan.tasks (skips plan seen) (few-in moved.end r.size-end) skip-by-row skips-not j i;
          dropped = at dropped;
          clock = clock;
        }

    view-starts : seen_as (starts_by plan.ready table clock plan.tasks moved) dropped clock ≡ let_go plan seen
    unfolding starts_by
    view-starts =
        λ i. record {
          mark = λ j. put-at (goes_by_row moved.mark table) (λ k. 1) moved.mark plan.tasks (goes plan seen) (few-in moved.mark r.size-mark) (go-by-row plan board moved dropped clock table r.fit r.rows) goes-not j i;
          start = λ j. put-at (goes_by_row moved.mark table) (λ k. max (plan.ready k) clock) moved.start plan.tasks (goes plan seen) (few-in moved.start r.size-start) (go-by-row plan board moved dropped clock table r.fit r.rows) goes-not j i;
          end = at moved.end;
          dropped = at dropped;
          clock = clock;
        }

    fit-round : Fit plan board (skip_once plan seen)
    fit-round = record {
      few = r.fit.few;
      onward = r.fit.onward;
      on = r.fit.on;
      turn = r.fit.turn;
      closed = closed-skip plan seen r.fit.closed;
      past = past_by plan _ seen (past_skip plan seen) r.fit.past;
    }

    sizes : Ready (round_by dropped table clock plan.tasks moved)
    unfolding round_by
    sizes = record {
      fit = rw view-round fit-round;
      rows = record { rows = λ i l z. r.rows.rows i l (waits_back dropped table clock plan.tasks moved i z) };
      size-mark = length-put (skips_by_row moved.mark dropped table) (λ k. 2) moved.mark plan.tasks ∙ r.size-mark;
      size-start = length-put (skips_by_row moved.mark dropped table) (λ k. clock) moved.start plan.tasks ∙ r.size-start;
      size-end = length-put (skips_by_row moved.mark dropped table) (λ k. clock) moved.end plan.tasks ∙ r.size-end;
    }

    -- the starts are the arrays of what the theory says
    starts-laid : starts_by plan.ready table clock plan.tasks moved ≡ moved_to plan.tasks (let_go plan seen)
    unfolding starts_by
    starts-laid = own ∙ ap (λ (b : Book). moved_to plan.tasks b) view-starts
      where
        past : Past plan.tasks (seen_as (starts_by plan.ready table clock plan.tasks moved) dropped clock)
        past = rw view-starts (past_by plan _ seen (past-let-go plan seen) r.fit.past)

        own : starts_by plan.ready table clock plan.tasks moved ≡ moved_to plan.tasks (seen_as (starts_by plan.ready table clock plan.tasks moved) dropped clock)
        own =
            λ i. record {
              mark = own-laid plan.tasks (starts_by plan.ready table clock plan.tasks moved).mark r.fit.few (length-put (goes_by_row moved.mark table) (λ k. 1) moved.mark plan.tasks ∙ r.size-mark) past.mark i;
              start = own-laid plan.tasks (starts_by plan.ready table clock plan.tasks moved).start r.fit.few (length-put (goes_by_row moved.mark table) (λ k. max (plan.ready k) clock) moved.start plan.tasks ∙ r.size-start) past.start i;
              end = own-laid plan.tasks moved.end r.fit.few r.size-end past.end i;
            }

  rounds-ready : (k : ℕ) (moved : StepArrays) → Ready moved → Ready (rounds_by k dropped table clock plan.tasks moved)
  unfolding rounds_by
  rounds-ready zero moved r = r
  rounds-ready (suc k) moved r = rounds-ready k (round_by dropped table clock plan.tasks moved) (sizes moved r)

  rounds-view :
      (k : ℕ) (moved : StepArrays) → Ready moved
      → seen_as (rounds_by k dropped table clock plan.tasks moved) dropped clock ≡ skip_times k plan (seen_as moved dropped clock)
  unfolding rounds_by skip_times
  rounds-view zero moved r = refl
  rounds-view (suc k) moved r =
      rounds-view k (round_by dropped table clock plan.tasks moved) (sizes moved r) ∙ ap (skip_times k plan) (view-round moved r)

  module _ (moved : StepArrays) (r : Ready moved) {skipped : StepArrays} (s : skipped ≡ rounds_by plan.tasks dropped table clock plan.tasks moved) where
    pub skipped-ready : Ready skipped
    skipped-ready = rw s (rounds-ready plan.tasks moved r)

    pub settled_is :
        {settled : StepArrays} → settled ≡ starts_by plan.ready table clock plan.tasks skipped
        → settled ≡ moved_to plan.tasks (let_go plan (skip_times plan.tasks plan (seen_as moved dropped clock)))
    settled_is e =
        e ∙ starts-laid skipped skipped-ready
        ∙ ap (λ (b : Book). moved_to plan.tasks (let_go plan b))
        (ap (λ (m : StepArrays). seen_as m dropped clock) s ∙ rounds-view plan.tasks moved r)
