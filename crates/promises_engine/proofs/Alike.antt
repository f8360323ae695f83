-- Lengths and drops that are alike give the same timetable; and by the clash rule nobody starts later.
use Prim.Native.Nat.{ℕ, ◌≤◌, ◌<◌}
use native.Mathlib.Omega.{arith}
use mathlib.Core.Path.{◌≡◌, sym, ap, ◌∙◌}
use mathlib.Core.Logic.{◌≢◌}
use mathlib.Core.Bool.{Bool, true, not, ◌&&◌}
use borrow.Author.Tests.{eq-eqb, ne_eqb}
use Rattle.laws.proofs.Cases.{by-eq, and_r}
use Rattle.laws.specs.Every.{any}
use Rattle.theory.specs.Plan as theory-plan
use Rattle.theory.specs.Book.{is_dropped}
use Rattle.theory.specs.Times.{bad_length, idle_drop}
use Rattle.theory.proofs.TimesAlike.{start-time-given, end-time-given}
use Rattle.theory.proofs.Lowest.{lowest-same}
use Rattle.theory.proofs.Refused.{none-bad, none-idle}
use Rattle.theory.proofs.Sooner.{fits_more, starts-sooner}
use Rattle.theory.proofs.Fits.{Fits}
use Rattle.engine.proofs.LengthLaws.{lengths_none, lengths-same}
use Rattle.plan.specs.Answer.{granted}
use Rattle.plan.specs.Value.{at, task_at}
use Rattle.plan.specs.declared.Plan.{Plan}
use Rattle.book_view.specs.View.{minds_by, plan_for}
use Rattle.book_view.proofs.Accepted.{plan-lawful}
use Rattle.book_view.proofs.Laid.{laid_same}
use Rattle.book.specs.Open.{rule_number}
use Rattle.book.specs.declared.Rule.{Rule}
use Rattle.book.specs.declared.Rule.TheVariants.{EarlyStart, Clash}
use Rattle.engine.specs.Timetable.{timetable_answer, filled_timetable, timetable_of}
use Rattle.engine.specs.declared.Lengths.{Lengths}
use Rattle.promises_engine.specs.Says.{Alike}
use Rattle.promises_engine.proofs.Said.{Given, given-of}

module _ (plan : Plan) (rule : Rule) (given other : Lengths) (alike : Alike plan.tasks given other) where
  abbrev seen : theory-plan.Plan
  seen = plan_for (rule_number rule) plan

  drops : (i : ℕ) → i < plan.tasks → is_dropped (at given.dropped) i ≡ is_dropped (at other.dropped) i
  drops i l =
      by-eq (at given.dropped i) 1
      (λ d. eq-eqb (at given.dropped i) 1 d ∙ sym (eq-eqb (at other.dropped i) 1 ((alike i l).0.0 d)))
      (λ n. ne_eqb (at given.dropped i) 1 n ∙ sym (ne_eqb (at other.dropped i) 1 (λ q. n ((alike i l).0.1 q))))

  lengths : (i : ℕ) → i < plan.tasks → at given.dropped i ≢ 1 → at given.length i ≡ at other.length i
  lengths i l n = (alike i l).1 n

  bad-same :
      (i : ℕ) → i < plan.tasks
      → bad_length seen (at given.length) (at given.dropped) i ≡ bad_length seen (at other.length) (at other.dropped) i
  bad-same i l =
      by-eq (at given.dropped i) 1
      (λ d. rw (drops i l, eq-eqb (at other.dropped i) 1 ((alike i l).0.0 d)))
      (λ n. rw (drops i l, lengths i l n))

  idle-same :
      (i : ℕ) → i < plan.tasks → idle_drop seen (at given.dropped) i ≡ idle_drop seen (at other.dropped) i
  idle-same i l = ap (λ (b : Bool). b && not (any plan.tasks (seen.waits i))) (drops i l)

  filled-same : filled_timetable seen given ≡ filled_timetable seen other
  filled-same =
      λ k. record {
        answer = granted;
        start = laid_same plan.tasks _ _ (start-time-given seen (at given.length) (at other.length) (at given.dropped) (at other.dropped) drops lengths) k;
        end = laid_same plan.tasks _ _ (end-time-given seen (at given.length) (at other.length) (at given.dropped) (at other.dropped) drops lengths) k;
      }

  pub alike-timetables : timetable_of plan rule given ≡ timetable_of plan rule other
  unfolding timetable_of timetable_answer
  alike-timetables =
      rw (
        lengths-same plan.tasks (bad_length seen (at given.length) (at given.dropped)) (idle_drop seen (at given.dropped)) (bad_length seen (at other.length) (at other.dropped)) (idle_drop seen (at other.dropped))
            (lowest-same plan.tasks _ _ bad-same) (lowest-same plan.tasks _ _ idle-same),
        filled-same,
      )

-- the clash rule's wait sets are within those of Early Start
module _ (plan : Plan) (given : Lengths) (g : (timetable_of plan Clash given).answer ≡ granted) where
  table : Given plan Clash given
  table = given-of plan Clash given g

  fewer :
      (i j : ℕ) → i < plan.tasks → j < plan.tasks → (plan_for 1 plan).waits i j ≡ true → (plan_for 0 plan).waits i j ≡ true
  fewer i j l lj w = and_r (minds_by 1 (task_at plan) i j) _ w

  fits : Fits (plan_for 0 plan) (at given.length) (at given.dropped)
  fits =
      fits_more plan.tasks (at plan.ready) (at plan.begin) (at plan.finish) (plan_for 1 plan).waits (plan_for 0 plan).waits fewer
      (at given.length) (at given.dropped) table.fits

  pub early-takes : (timetable_of plan EarlyStart given).answer ≡ granted
  unfolding timetable_of timetable_answer
  early-takes = rw (table.ok, lengths_none plan.tasks _ _ (none-bad (plan_for 0 plan) _ _ fits) (none-idle (plan_for 0 plan) _ _ fits))

  pub no-later :
      (i : ℕ) → i < plan.tasks → at (timetable_of plan Clash given).start i ≤ at (timetable_of plan EarlyStart given).start i
  no-later i l =
      let early = given-of plan EarlyStart given early-takes in
      let s =
      starts-sooner plan.tasks (at plan.ready) (at plan.begin) (at plan.finish) (plan_for 1 plan).waits (plan_for 0 plan).waits fewer
      (plan-lawful plan table.ok 1) (plan-lawful plan table.ok 0) (at given.length) (at given.dropped) i l in
      omega (arith, table.starts i l, early.starts i l)
