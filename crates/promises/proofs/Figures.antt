-- Minimum early of a sound book: the least of its terms.
use Prim.Native.Nat.{ℕ, ◌≤◌, ◌<◌}
use native.Mathlib.Omega.{arith}
use mathlib.Core.Bool.{true}
use mathlib.Core.Path.{◌≡◌, ap, ◌∙◌}
use Rattle.laws.proofs.Cases.{by-eq}
use Rattle.theory.specs.Figure.{minimum_early}
use Rattle.theory.proofs.Task.{mark-range}
use Rattle.theory.proofs.Figure as theory-figure
use Rattle.plan.specs.Answer.{granted}
use Rattle.plan.specs.Value.{at}
use Rattle.book.specs.View.{plan_view, book_view}
use Rattle.book.specs.Sound.{is_sound}
use Rattle.book.specs.Early.{figure_of}
use Rattle.book.specs.declared.Book.{Book}
use Rattle.book.specs.declared.Figure.{Figure}
use Rattle.promises.specs.Runs.{Term}
use Rattle.promises.proofs.RunView.{Good}
use Rattle.promises.proofs.SoundBook.{facts, unbegun-unended}

pub figure-is :
    (book : Book) → is_sound book ≡ true
    → figure_of book ≡ record { answer = granted; early = minimum_early (plan_view book) (book_view book) }
unfolding figure_of
figure-is book h = rw h

module _ (book : Book) (g : Good book) where
  pub early_is : (figure_of book).early ≡ minimum_early (plan_view book) (book_view book)
  early_is = ap (λ (x : Figure). x.early) (figure-is book g.sound)

  -- a term is one of the theory's, and back
  term-seen :
      (i : ℕ) → i < book.tasks → (early : ℕ) → Term book i early → theory-figure.Term (plan_view book) (book_view book) i early
  term-seen i l early (Term.begun m q e) = theory-figure.Term.begun m q e
  term-seen i l early (Term.not_begun o n e) =
      by-eq (at book.mark i) 0
      (λ z. theory-figure.Term.waits z o e)
      (λ d.
      by-eq (at book.mark i) 2
      (λ z. absurd (unbegun-unended book g i l n z))
      (λ d2.
      let r = mark-range ((facts book g).sound.task i l) in
      let m : at book.mark i ≡ 1 = omega arith in
      theory-figure.Term.ahead m (n d) o e))

  seen-term : (i early : ℕ) → theory-figure.Term (plan_view book) (book_view book) i early → Term book i early
  seen-term i early (theory-figure.Term.begun m q e) = Term.begun m q e
  seen-term i early (theory-figure.Term.ahead m q o e) = Term.not_begun o (λ n. q) e
  seen-term i early (theory-figure.Term.waits m o e) = Term.not_begun o (λ n. absurd (n m)) e

  pub least-term : (i : ℕ) → i < book.tasks → (early : ℕ) → Term book i early → (figure_of book).early ≤ early
  least-term i l early t =
      rw early_is (theory-figure.figure-least (plan_view book) (book_view book) i l early (term-seen i l early t))

  pub one-term :
      (k : ℕ) → k < book.tasks → (early : ℕ) → Term book k early
      → (i : ℕ) × (i < book.tasks) × Term book i (figure_of book).early
  one-term k l early t =
      let m = theory-figure.figure-met (plan_view book) (book_view book) k l early (term-seen k l early t) in
      (m.0, m.1, rw early_is (seen-term m.0 _ m.2))

  pub no-term : ((i : ℕ) → i < book.tasks → (early : ℕ) → Term book i early → ⊥) → (figure_of book).early ≡ 0
  no-term idle =
      early_is
      ∙ theory-figure.figure-none (plan_view book) (book_view book) (λ i l early t. idle i l early (seen-term i early t))
