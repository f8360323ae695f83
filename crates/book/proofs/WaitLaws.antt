-- The wait sets that the functions lend say what the book's rule says, and so do the functions that go by them.
use Prim.Native.Nat.{ℕ, ◌<◌}
use mathlib.Core.Bool.{Bool, true, false, not, cond, ◌&&◌}
use mathlib.Core.List.{List, []}
use mathlib.Core.Path.{◌≡◌, sym, ap, ◌∙◌}
use mathlib.Core.Logic.{⊎_elim, inl, inr}
use Rattle.std.specs.Prelude.{Option, Result, Ok, Err}
use Rattle.std.specs.Result.{is_ok}
use Rattle.laws.proofs.Cases.{by_bool, and_l}
use Rattle.theory.specs.Plan as theory-plan
use Rattle.theory.specs.Book as theory-book
use Rattle.theory.specs.Figure.{minimum_early}
use Rattle.theory.specs.Report.{skip_times, let_go, report_code, drop_code, from_one}
use Rattle.theory.proofs.Alike.{skips-alike, let-go-alike}
use Rattle.plan.specs.Value.{at, is_accepted}
use Rattle.plan.specs.View.{viewed}
use Rattle.book_view.specs.View.{is_rule}
use Rattle.book_view.specs.Shown.{plan_shown, book_shown}
use Rattle.book_view.specs.declared.BookView.{BookView}
use Rattle.book_waits.specs.Waits.{sets_by}
use Rattle.book_sound.specs.Sound.{sound_waits}
use Rattle.book_sound.proofs.WaitLaws.{agree, err-sound, ok-sound}
use Rattle.book.specs.View.{plan_in, plan_view, book_view, shown}
use Rattle.book.specs.Sound.{is_sound, judged_in}
use Rattle.book.specs.Report.{code_of}
use Rattle.book.specs.Drop.{drop_code_of}
use Rattle.book.specs.Private.Table.{plan_by, moved_to, Fit}
use Rattle.book.specs.declared.Book.{Book}
use Rattle.book.specs.declared.StepArrays.{StepArrays}

-- a book that is judged
module _ (book : Book) where
  pub its-soundness : is_ok (judged_in book) ≡ is_sound book
  unfolding sound_waits
  its-soundness = by_bool (is_sound book) (λ t. rw t) (λ f. rw f)

  pub unsound-err : {held : Option (List ℕ)} → Err held ≡ judged_in book → is_sound book ≡ false
  unsound-err w = err-sound book.rule (plan_in book) book.mark book.start book.end book.dropped book.clock (sym w)

  pub sound-ok : {sets : List ℕ} → Ok sets ≡ judged_in book → (is_sound book ≡ true) × (sets ≡ sets_by book.rule (plan_in book))
  sound-ok w =
      let known = ok-sound book.rule (plan_in book) book.mark book.start book.end book.dropped book.clock (sym w) in (known.0, sym known.1)

-- what is judged where the book stands
module _ (v : BookView) {book : Book} (s : shown v ≡ book) where
  pub its-code :
      (task tick : ℕ) {judged code : ℕ} → judged ≡ cond (not (is_sound (shown v))) 9 (code_of (shown v) task tick) → judged ≡ code
      → code ≡ cond (not (is_sound book)) 9 (code_of book task tick)
  its-code task tick c e = sym e ∙ c ∙ ap (λ (b : Book). cond (not (is_sound b)) 9 (code_of b task tick)) s

  pub drop-judged :
      (task : ℕ) {judged code : ℕ} → judged ≡ cond (not (is_sound (shown v))) 9 (drop_code_of (shown v) task) → judged ≡ code
      → code ≡ cond (not (is_sound book)) 9 (drop_code_of book task)
  drop-judged task c e = sym e ∙ c ∙ ap (λ (b : Book). cond (not (is_sound b)) 9 (drop_code_of b task)) s

  pub its-sets : {sets : List ℕ} → sets ≡ sets_by v.rule (viewed v.plan) → sets ≡ sets_by book.rule (plan_in book)
  its-sets e = e ∙ ap (λ (b : Book). sets_by b.rule (plan_in b)) s

  pub its-figure :
      {early : ℕ} → early ≡ minimum_early (plan_shown v) (book_shown v) → early ≡ minimum_early (plan_view book) (book_view book)
  its-figure e = e ∙ ap (λ (b : Book). minimum_early (plan_view b) (book_view b)) s

  pub its-judged : {judged : Result (List ℕ) (Option (List ℕ))} → judged ≡ judged_in (shown v) → judged ≡ judged_in book
  its-judged e = e ∙ ap judged_in s

-- a code once it is known whether the book is sound
module _ (v : BookView) (task : ℕ) {code : ℕ} (t : is_sound (shown v) ≡ true) where
  pub report-code :
      (tick : ℕ) → code ≡ from_one (λ k. report_code (plan_shown v) (book_shown v) k tick) task
      → code ≡ cond (not (is_sound (shown v))) 9 (code_of (shown v) task tick)
  unfolding code_of
  report-code tick c = c ∙ ap (λ (b : Bool). cond (not b) 9 (code_of (shown v) task tick)) (sym t)

  pub drop-code :
      code ≡ from_one (drop_code (plan_shown v) (book_shown v)) task → code ≡ cond (not (is_sound (shown v))) 9 (drop_code_of (shown v) task)
  unfolding drop_code_of
  drop-code c = c ∙ ap (λ (b : Bool). cond (not b) 9 (drop_code_of (shown v) task)) (sym t)

pub unsound-code : (book : Book) (other : ℕ) → is_sound book ≡ false → 9 ≡ cond (not (is_sound book)) 9 other
unsound-code book other f = ap (λ (b : Bool). cond (not b) 9 other) (sym f)

-- a sound book's plan is accepted and its rule is one of the two
pub good_of : (book : Book) → is_sound book ≡ true → (is_accepted (plan_in book) && is_rule book.rule) ≡ true
good_of book sound = and_l _ _ sound

module _ (book : Book) (good : (is_accepted (plan_in book) && is_rule book.rule) ≡ true) {sets : List ℕ}
    (s : sets ≡ sets_by book.rule (plan_in book)) where
  abbrev by-sets : theory-plan.Plan
  by-sets = plan_by book sets

  same : (i j : ℕ) → i < book.tasks → j < book.tasks → by-sets.waits i j ≡ (plan_view book).waits i j
  same = agree book.rule (plan_in book) good s

  pub fit-seen : (seen : theory-book.Book) → Fit (plan_view book) (at book.board) seen → Fit by-sets (at book.board) seen
  fit-seen seen fit = record {
    few = fit.few;
    onward = λ i j li lj v. fit.onward i j li lj (sym (same i j li lj) ∙ v);
    on = fit.on;
    turn = λ i j li lj n e. ⊎_elim (λ v. inl (same i j li lj ∙ v)) (λ v. inr (same j i lj li ∙ v)) (fit.turn i j li lj n e);
    closed = λ i j li lj n v. fit.closed i j li lj n (sym (same i j li lj) ∙ v);
    past = fit.past;
  }

  pub settled-seen :
      (seen : theory-book.Book) {moved : StepArrays} → moved ≡ moved_to book.tasks (let_go by-sets (skip_times book.tasks by-sets seen))
      → moved ≡ moved_to book.tasks (let_go (plan_view book) (skip_times book.tasks (plan_view book) seen))
  settled-seen seen e =
      let tasks = book.tasks in
      e
      ∙ ap (λ (b : theory-book.Book). moved_to tasks (let_go by-sets b))
      (skips-alike tasks (at book.ready) (at []) (at book.finish) (at book.begin) (at book.finish) by-sets.waits (plan_view book).waits same tasks seen)
      ∙ ap (moved_to tasks)
      (let-go-alike tasks (at book.ready) (at []) (at book.finish) (at book.begin) (at book.finish) by-sets.waits (plan_view book).waits same (skip_times tasks (plan_view book) seen))
