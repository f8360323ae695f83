-- What every later book keeps of an earlier one.
use mathlib.Core.Path.{◌≡◌, refl, ap, ◌∙◌}
use mathlib.Core.Logic.{◌≢◌, ◌⊎◌, inl, inr}
use mathlib.Core.List.{List, [], ◌∷◌}
use Prim.Native.Nat.{ℕ, ◌≤◌, ◌<◌}
use native.Mathlib.Omega.{arith}
use borrow.Author.Tests.{eq-eqb, ne_eqb}
use Rattle.laws.proofs.Cases.{by-eq}
use Rattle.theory.specs.Plan.{Plan}
use Rattle.theory.specs.Book.{Book}
use Rattle.theory.specs.Report.{next, drop_it}
use Rattle.theory.specs.Words.Events.{Accepts, Event}
use Rattle.theory.proofs.Facts.{step_to, book_after, run}
use Rattle.theory.proofs.Reflect.{Taken, code-taken, Said, said}
use Rattle.theory.proofs.Step.{AtTask, next-at, next-clock, next-dropped}

pub record Later (plan : Plan) (book later : Book) : Type 0 where
  pub clocks : book.clock ≤ later.clock
  pub ended-stay : (j : ℕ) → j < plan.tasks → book.mark j ≡ 2 → (later.mark j ≡ 2) × (later.end j ≡ book.end j)
  pub started-stay : (j : ℕ) → j < plan.tasks → book.mark j ≢ 0 → (later.mark j ≢ 0) × (later.start j ≡ book.start j)
  pub drops-stay : (j : ℕ) → j < plan.tasks → book.dropped j ≡ 1 → later.dropped j ≡ 1
  pub new-ends : (j : ℕ) → j < plan.tasks → book.mark j ≢ 2 → later.mark j ≡ 2 → book.clock ≤ later.end j

pub later_refl : (plan : Plan) (book : Book) → Later plan book book
later_refl plan book = record {
  clocks = omega arith;
  ended-stay = λ j l h. (h, refl);
  started-stay = λ j l h. (h, refl);
  drops-stay = λ j l h. h;
  new-ends = λ j l n h. absurd (n h);
}

pub later_trans : (plan : Plan) (book mid later : Book) → Later plan book mid → Later plan mid later → Later plan book later
later_trans plan book mid later p q = record {
  clocks = omega (arith, p.clocks, q.clocks);
  ended-stay = λ j l h. let u = p.ended-stay j l h in let v = q.ended-stay j l u.0 in (v.0, v.1 ∙ u.1);
  started-stay = λ j l h. let u = p.started-stay j l h in let v = q.started-stay j l u.0 in (v.0, v.1 ∙ u.1);
  drops-stay = λ j l h. q.drops-stay j l (p.drops-stay j l h);
  new-ends = λ j l n h.
      by-eq (mid.mark j) 2
      (λ m. let u = p.new-ends j l n m in let v = q.ended-stay j l m in omega arith)
      (λ m. let u = q.new-ends j l m h in omega (arith, p.clocks));
}

module _ (plan : Plan) (book : Book) (k tick : ℕ) where
  -- task k ends at the tick
  pub next-ends : k < plan.tasks → ((next plan book k tick).mark k ≡ 2) × ((next plan book k tick).end k ≡ tick)
  next-ends l = go (next-at plan book k tick k l)
    where
      go :
          AtTask plan book k tick (next plan book k tick) k
          → ((next plan book k tick).mark k ≡ 2) × ((next plan book k tick).end k ≡ tick)
      go (AtTask.ends e m s v) = (m, v)
      go (AtTask.starts n z all m s v) = absurd (n refl)
      go (AtTask.skipped n z d all m s v) = absurd (n refl)
      go (AtTask.stands n z m s v) = absurd (n refl)
      go (AtTask.lingers n z all m s v) = absurd (n refl)

  -- and no other but dropped ones
  pub next-new :
      (j : ℕ) → j < plan.tasks → book.mark j ≢ 2 → (next plan book k tick).mark j ≡ 2
      → ((j ≡ k) ⊎ (book.dropped j ≡ 1)) × ((next plan book k tick).end j ≡ tick)
  next-new j l n h = go (next-at plan book k tick j l)
    where
      go :
          AtTask plan book k tick (next plan book k tick) j
          → ((j ≡ k) ⊎ (book.dropped j ≡ 1)) × ((next plan book k tick).end j ≡ tick)
      go (AtTask.ends e m s v) = (inl e, v)
      go (AtTask.starts ne z all m s v) = absurd (omega arith)
      go (AtTask.skipped ne z d all m s v) = (inr d, v)
      go (AtTask.stands ne z m s v) = absurd (omega arith)
      go (AtTask.lingers ne z all m s v) = absurd (omega arith)

  pub later-next : Accepts plan book k tick → Later plan book (next plan book k tick)
  later-next ok = record {
    clocks = omega (arith, next-clock plan book k tick, ok.now);
    ended-stay = λ j l h. ended j h (next-at plan book k tick j l);
    started-stay = λ j l h. started j h (next-at plan book k tick j l);
    drops-stay = λ j l h. ap (λ (f : ℕ → ℕ). f j) (next-dropped plan book k tick) ∙ h;
    new-ends = λ j l n h. let e = (next-new j l n h).1 in omega (arith, ok.now);
  }
    where
      after : Book
      after = next plan book k tick

      ended :
          (j : ℕ) → book.mark j ≡ 2 → AtTask plan book k tick after j
          → (after.mark j ≡ 2) × (after.end j ≡ book.end j)
      ended j h (AtTask.ends e m s v) = let q : book.mark j ≡ 1 = rw e ok.runs in absurd (omega arith)
      ended j h (AtTask.starts n z all m s v) = absurd (omega arith)
      ended j h (AtTask.skipped n z d all m s v) = absurd (omega arith)
      ended j h (AtTask.stands n z m s v) = (m ∙ h, v)
      ended j h (AtTask.lingers n z all m s v) = absurd (omega arith)

      started :
          (j : ℕ) → book.mark j ≢ 0 → AtTask plan book k tick after j
          → (after.mark j ≢ 0) × (after.start j ≡ book.start j)
      started j h (AtTask.ends e m s v) = (omega arith, s)
      started j h (AtTask.starts n z all m s v) = absurd (h z)
      started j h (AtTask.skipped n z d all m s v) = absurd (h z)
      started j h (AtTask.stands n z m s v) = (omega arith, s)
      started j h (AtTask.lingers n z all m s v) = absurd (h z)

pub later-drop : (plan : Plan) (book : Book) (k : ℕ) → Later plan book (drop_it book k)
later-drop plan book k = record {
  clocks = omega arith;
  ended-stay = λ j l h. (h, refl);
  started-stay = λ j l h. (h, refl);
  drops-stay = λ j l h. by-eq j k (λ e. rw (eq-eqb j k e)) (λ n. rw (ne_eqb j k n) h);
  new-ends = λ j l n h. absurd (n h);
}

pub later-step : (plan : Plan) (book : Book) (event : Event) → Taken plan book event → Later plan book (step_to plan book event)
later-step plan book (Event.ends k tick) ok = later-next plan book k tick ok
later-step plan book (Event.drops k) ok = later-drop plan book k

pub later-after : (plan : Plan) (book : Book) (event : Event) → Later plan book (book_after plan book event)
later-after plan book event = go (book_after plan book event) (said plan book event)
  where
    go : (after : Book) → Said plan book event after → Later plan book after
    go after (Said.taken z e) = rw e (later-step plan book event (code-taken plan book event z))
    go after (Said.refused n e) = rw e (later_refl plan book)

pub later-run : (plan : Plan) (book : Book) (events : List Event) → Later plan book (run plan book events)
unfolding run
later-run plan book [] = later_refl plan book
later-run plan book (event ∷ rest) =
    later_trans plan book (book_after plan book event) _ (later-after plan book event) (later-run plan (book_after plan book event) rest)
