-- What the answer shows of the figure.
use Prim.Native.Nat.{ℕ, ◌<◌}
use native.Mathlib.Omega.{arith}
use mathlib.Core.Path.{◌≡◌, refl, sym, ap, ◌∙◌}
use mathlib.Core.Logic.{◌↔◌, ⊎_elim}
use mathlib.Core.Bool.{Bool, true, false}
use lib.Dec.{eqb}
use mathlib.Core.Option.{Option, none, some}
use borrow.Author.Tests.{eq-eqb, eqb-true, lt-ltb, ltb-true}
use Rattle.laws.proofs.Cases.{by_bool, by-eq, true-false, or_at, or_l, or_r}
use Rattle.theory.proofs.Facts.{Lawful}
use Rattle.theory.specs.Exact.{not_started, exact_early}
use Rattle.plan.specs.Answer.{refuse, granted}
use Rattle.plan.specs.Value.{at}
use Rattle.book_view.proofs.Accepted.{plan-lawful}
use Rattle.book.specs.View.{plan_in, plan_view, book_view}
use Rattle.book.specs.Sound.{is_sound}
use Rattle.book.specs.declared.Book.{Book}
use Rattle.book.proofs.Soundness.{SoundFacts, is-sound-facts}
use Rattle.ask_exact.specs.Shown.{shown}
use Rattle.ask_exact.specs.Figure.{answered, exact_of}
use Rattle.ask_exact.specs.declared.Exact.{Exact}
use Rattle.theory.proofs.Largest.{exact_none}
use Rattle.promises.specs.Ladder.{Ladder}
use Rattle.promises.proofs.Ladder.{First, ladder_of}
use Rattle.promises.specs.Runs.{NotBegun}
use Rattle.promises_ask.specs.Exact.{exact_checks}

-- the flag of a figure
abbrev flag : Option ℕ → Bool
flag o = (shown o).known

shown-some : (o : Option ℕ) → flag o ≡ true → o ≡ some (shown o).early
shown-some none h = absurd (true-false h refl)
shown-some (some v) h = refl

shown-none : (o : Option ℕ) → (flag o ≡ false) ↔ (o ≡ none)
shown-none none = (λ h. refl, λ h. refl)
shown-none (some v) = (λ h. absurd (true-false refl h), λ h. let z : ◌≡◌ {A = ℕ} 0 1 = cc in absurd (omega arith))

-- the promises' word for the definition's
pub not_begun : (book : Book) (i : ℕ) → (not_started (book_view book) i ≡ true) ↔ NotBegun book i
not_begun book i = (
  λ h n.
      ⊎_elim (λ w. absurd (n (eqb-true (at book.mark i) 0 w))) (λ p. ltb-true book.clock (at book.start i) p)
      (or_at _ _ h),
  λ f.
      by-eq (at book.mark i) 0
      (λ z. or_l _ (eq-eqb (at book.mark i) 0 z))
      (λ n. or_r (eqb (at book.mark i) 0) (lt-ltb book.clock (at book.start i) (f n))),
)

module _ (book : Book) where
  pub refused : is_sound book ≡ false → exact_of book ≡ answered (refuse 9 0 0) (shown none)
  unfolding exact_of
  refused h = rw h

  pub shows : is_sound book ≡ true → exact_of book ≡ answered granted (shown (exact_early (plan_view book) (book_view book)))
  unfolding exact_of
  shows h = rw h

  pub known-sound : (exact_of book).known ≡ true → is_sound book ≡ true
  known-sound k =
      by_bool (is_sound book) (λ h. h)
      (λ h. absurd (true-false k (ap (λ (x : Exact). x.known) (refused h))))

  pub sound-facts : is_sound book ≡ true → SoundFacts book
  sound-facts h = (is-sound-facts book).0 h

  pub lawful : is_sound book ≡ true → Lawful (plan_view book)
  lawful h = plan-lawful (plan_in book) (sound-facts h).accepted book.rule

  pub known_some : (exact_of book).known ≡ true → exact_early (plan_view book) (book_view book) ≡ some (exact_of book).early
  known_some k =
      let e = shows (known-sound k) in
      let known : flag (exact_early (plan_view book) (book_view book)) ≡ true = sym (ap (λ (x : Exact). x.known) e) ∙ k in
      shown-some (exact_early (plan_view book) (book_view book)) known ∙ ap some (sym (ap (λ (x : Exact). x.early) e))

  pub known-none : is_sound book ≡ true → ((exact_of book).known ≡ false) ↔ (exact_early (plan_view book) (book_view book) ≡ none)
  known-none h =
      let e = ap (λ (x : Exact). x.known) (shows h) in
      let s = shown-none (exact_early (plan_view book) (book_view book)) in
      (λ k. s.0 (sym e ∙ k), λ k. e ∙ s.1 k)

  pub checks : Ladder (exact_checks book) (exact_of book).answer.code
  checks =
      ladder_of (exact_checks book) (exact_of book).answer.code refl
      (by_bool (is_sound book)
      (λ h. First.past (λ r. true-false h r) (First.end (ap (λ (x : Exact). x.answer.code) (shows h))))
      (λ h. First.here h (ap (λ (x : Exact). x.answer.code) (refused h))))

  pub none_is :
      is_sound book ≡ true → ((exact_of book).known ≡ false) ↔ ((i : ℕ) → i < book.tasks → NotBegun book i → ⊥)
  none_is h =
      let k = known-none h in
      let n = exact_none (plan_view book) (lawful h) (book_view book) (sound-facts h).sound in (
        λ e i l f. true-false ((not_begun book i).1 f) (n.0 (k.0 e) i l),
        λ all.
            k.1 (n.1 (λ i l. by_bool (not_started (book_view book) i) (λ t. absurd (all i l ((not_begun book i).0 t))) (λ f. f))),
      )
