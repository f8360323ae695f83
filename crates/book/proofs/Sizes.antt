-- What the functions hand out has the arrays' lengths and keeps the plan.
use Prim.Native.Nat.{ℕ}
use mathlib.Core.Path.{◌≡◌, refl}
use Rattle.theory.specs.Book as theory-book
use Rattle.plan.specs.declared.Plan.{Plan}
use Rattle.book_view.proofs.Laid.{length-laid}
use Rattle.book.specs.View.{plan_in, lay_out}
use Rattle.book.specs.Open.{rule_number, opened_on}
use Rattle.book.specs.Report.{next_book}
use Rattle.book.specs.Drop.{dropped_in}
use Rattle.book.specs.declared.Book.{Book}
use Rattle.book.specs.declared.Rule.{Rule}
pub use Rattle.book.specs.Words.Sized.{SizedPlan, Sized}

pub sized-laid : (rule : ℕ) (plan : Plan) (seen : theory-book.Book) → SizedPlan plan → Sized (lay_out rule plan seen)
unfolding lay_out
sized-laid rule plan seen s = record {
  plan = s;
  start = length-laid _ _;
  end = length-laid _ _;
  mark = length-laid _ _;
  dropped = length-laid _ _;
}

pub plan-laid : (rule : ℕ) (plan : Plan) (seen : theory-book.Book) → plan_in (lay_out rule plan seen) ≡ plan
unfolding lay_out
plan-laid rule plan seen = refl

pub rule-laid : (rule : ℕ) (plan : Plan) (seen : theory-book.Book) → (lay_out rule plan seen).rule ≡ rule
unfolding lay_out
rule-laid rule plan seen = refl

pub sized-next : (book : Book) (k tick : ℕ) → Sized book → Sized (next_book book k tick)
unfolding next_book
sized-next book k tick s = sized-laid _ _ _ s.plan

pub sized-dropped : (book : Book) (k : ℕ) → Sized book → Sized (dropped_in book k)
unfolding dropped_in
sized-dropped book k s = sized-laid _ _ _ s.plan

pub sized-opened : (plan : Plan) (rule : Rule) → SizedPlan plan → Sized (opened_on plan rule)
unfolding opened_on
sized-opened plan rule s = sized-laid _ plan _ s

pub plan-next : (book : Book) (k tick : ℕ) → plan_in (next_book book k tick) ≡ plan_in book
unfolding next_book
plan-next book k tick = plan-laid _ _ _

pub rule-next : (book : Book) (k tick : ℕ) → (next_book book k tick).rule ≡ book.rule
unfolding next_book
rule-next book k tick = rule-laid _ _ _

pub plan-dropped : (book : Book) (k : ℕ) → plan_in (dropped_in book k) ≡ plan_in book
unfolding dropped_in
plan-dropped book k = plan-laid _ _ _

pub rule_dropped : (book : Book) (k : ℕ) → (dropped_in book k).rule ≡ book.rule
unfolding dropped_in
rule_dropped book k = rule-laid _ _ _

pub plan-opened : (plan : Plan) (rule : Rule) → plan_in (opened_on plan rule) ≡ plan
unfolding opened_on
plan-opened plan rule = plan-laid _ _ _

pub rule-opened : (plan : Plan) (rule : Rule) → (opened_on plan rule).rule ≡ rule_number rule
unfolding opened_on
rule-opened plan rule = rule-laid _ _ _
