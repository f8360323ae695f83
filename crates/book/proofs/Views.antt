-- The theory's book laid out is seen as itself, and a book of which nothing is kept past its tasks is laid out as itself.
use Prim.Native.Nat.{ℕ, ◌<◌, ◌≤◌}
use native.Mathlib.Omega.{arith}
use mathlib.Core.Bool.{true}
use mathlib.Core.List.{List}
use mathlib.Core.Path.{◌≡◌, refl, ◌∙◌}
use mathlib.Core.Logic.{◌↔◌}
use lib.ListN.{length, set, length-set}
use lib.Seq.{get_or-set_same, get_or-set_other}
use borrow.Author.Tests.{eq-eqb, ne_eqb}
use Rattle.laws.proofs.Cases.{by-eq, and_l, and_r, and-of}
use Rattle.theory.specs.Plan as theory-plan
use Rattle.theory.specs.Book as theory-book
use Rattle.theory.specs.Report.{put_at, next, drop_it, blank, opened}
use Rattle.theory.proofs.Past.{SamePast, past_next, past-drop, past-opened}
use Rattle.plan.specs.Value.{at, blank_from}
use Rattle.plan.specs.declared.Plan.{Plan}
use Rattle.book_view.specs.View.{plan_for, laid}
use Rattle.book_view.proofs.Blank.{blank-at, blank_of}
use Rattle.book_view.proofs.Laid.{laid-own, laid-is, laid-past}
use Rattle.book_sound.specs.Sound.{nothing_past}
use Rattle.book.specs.View.{plan_in, plan_view, book_view, lay_out}
use Rattle.book.specs.Open.{rule_number, opened_on}
use Rattle.book.specs.Report.{next_book}
use Rattle.book.specs.Drop.{dropped_in}
use Rattle.book.specs.Private.Table.{Past}
use Rattle.book.specs.declared.Book.{Book}
use Rattle.book.specs.declared.Rule.{Rule}

-- nothing is known past the tasks
pub past_by :
    (plan : theory-plan.Plan) (book other : theory-book.Book) → SamePast plan book other → Past plan.tasks other → Past plan.tasks book
past_by plan book other s p = record {
  mark = λ j l. s.marks j l ∙ p.mark j l;
  start = λ j l. s.starts j l ∙ p.start j l;
  end = λ j l. s.ends j l ∙ p.end j l;
  dropped = λ j l. s.drops j l ∙ p.dropped j l;
}

pub past-blank : (n : ℕ) → Past n blank
past-blank n = record { mark = λ j l. refl; start = λ j l. refl; end = λ j l. refl; dropped = λ j l. refl }

pub past-book : (book : Book) → (nothing_past book.tasks book.mark book.start book.end book.dropped ≡ true) ↔ Past book.tasks (book_view book)
past-book book = (
  λ h.
      let rest = and_r (blank_from book.tasks book.start) _ h in
      record {
        start = blank-at book.tasks book.start (and_l _ _ h);
        end = blank-at book.tasks book.end (and_l _ _ rest);
        mark = blank-at book.tasks book.mark (and_l _ _ (and_r (blank_from book.tasks book.end) _ rest));
        dropped = blank-at book.tasks book.dropped
            (and_r (blank_from book.tasks book.mark) _ (and_r (blank_from book.tasks book.end) _ rest));
      },
  λ f.
      and-of (blank_of book.tasks book.start f.start)
      (and-of (blank_of book.tasks book.end f.end)
      (and-of (blank_of book.tasks book.mark f.mark) (blank_of book.tasks book.dropped f.dropped))),
)

module _ (rule : ℕ) (plan : Plan) (few : plan.tasks ≤ 64) (seen : theory-book.Book) (past : Past plan.tasks seen) where
  pub view-laid : book_view (lay_out rule plan seen) ≡ seen
  unfolding lay_out
  view-laid =
      λ i. record {
        mark = λ j. laid-own plan.tasks seen.mark few past.mark j i;
        start = λ j. laid-own plan.tasks seen.start few past.start j i;
        end = λ j. laid-own plan.tasks seen.end few past.end j i;
        dropped = λ j. laid-own plan.tasks seen.dropped few past.dropped j i;
        clock = seen.clock;
      }

pub nothing-past-laid :
    (rule : ℕ) (plan : Plan) (seen : theory-book.Book) → Past plan.tasks (book_view (lay_out rule plan seen))
unfolding lay_out
nothing-past-laid rule plan seen = record {
  mark = laid-past plan.tasks seen.mark;
  start = laid-past plan.tasks seen.start;
  end = laid-past plan.tasks seen.end;
  dropped = laid-past plan.tasks seen.dropped;
}

-- an array whose places past n hold nothing is laid out as itself
pub own-laid : (n : ℕ) (l : List ℕ) → n ≤ 64 → length l ≡ 64 → ((j : ℕ) → n ≤ j → at l j ≡ 0) → l ≡ laid n (at l)
own-laid n l few size past = laid-is n (at l) l few size (λ j h. refl) past

-- one place stored
pub set-put : (l : List ℕ) (k v : ℕ) → k < length l → (j : ℕ) → at (set l k v) j ≡ put_at k v (at l) j
set-put l k v h j =
    by-eq j k
    (λ e. rw (e, get_or-set_same l k v 0 h, eq-eqb k k refl))
    (λ n. rw (ne_eqb j k n, get_or-set_other l k j v 0 n))

pub set-laid :
    (n : ℕ) (l : List ℕ) (k v : ℕ) → n ≤ 64 → length l ≡ 64 → k < n → ((j : ℕ) → n ≤ j → at l j ≡ 0)
    → set l k v ≡ laid n (put_at k v (at l))
set-laid n l k v few size h past =
    laid-is n (put_at k v (at l)) (set l k v) few (length-set l k v ∙ size)
    (λ j b. set-put l k v (omega arith) j)
    (λ j b. get_or-set_other l k j v 0 (λ e. omega arith) ∙ past j b)

-- what the functions hand out, as the theory sees it
module _ (book : Book) (few : book.tasks ≤ 64) (past : Past book.tasks (book_view book)) where
  pub view-next :
      (k tick : ℕ) → k < book.tasks → book_view (next_book book k tick) ≡ next (plan_view book) (book_view book) k tick
  unfolding next_book
  view-next k tick h =
      view-laid _ (plan_in book) few _ (past_by (plan_view book) _ _ (past_next (plan_view book) (book_view book) k tick h) past)

  pub view-dropped : (k : ℕ) → k < book.tasks → book_view (dropped_in book k) ≡ drop_it (book_view book) k
  unfolding dropped_in
  view-dropped k h =
      view-laid _ (plan_in book) few _ (past_by (plan_view book) _ _ (past-drop (plan_view book) (book_view book) k h) past)

pub past_of-opened : (rule : ℕ) (plan : Plan) → Past plan.tasks (opened (plan_for rule plan))
past_of-opened rule plan = past_by (plan_for rule plan) _ blank (past-opened (plan_for rule plan)) (past-blank plan.tasks)

pub view-opened :
    (plan : Plan) (rule : Rule) → plan.tasks ≤ 64 → book_view (opened_on plan rule) ≡ opened (plan_for (rule_number rule) plan)
unfolding opened_on
view-opened plan rule few =
    view-laid (rule_number rule) plan few (opened (plan_for (rule_number rule) plan)) (past_of-opened (rule_number rule) plan)
