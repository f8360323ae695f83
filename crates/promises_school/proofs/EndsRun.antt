-- What the lines of ends.txt print, one after the other.
use Prim.Native.Nat.{ℕ, zero, suc, ◌+◌, ◌≤◌, ◌<◌}
use native.Mathlib.Omega.{arith}
use mathlib.Core.Path.{◌≡◌, refl, sym, subst}
use mathlib.Core.Logic.{◌≢◌}
use mathlib.Core.Bool.{true, false}
use mathlib.Core.List.{List, [], ◌++◌}
use lib.Dec.{eqb}
use lib.ListN.{length, length-drop}
use borrow.Author.Tests.{eqb-false}
use Rattle.laws.specs.Split.{index_of, after}
use Rattle.laws.proofs.Cases.{by_bool}
use Rattle.text.specs.Line.{LF}
use Rattle.plan.specs.Value.{is_accepted}
use Rattle.plan.specs.declared.Plan.{Plan}
use Rattle.book.specs.declared.Book.{Book}
use Rattle.book.specs.declared.Rule.{Rule}
use Rattle.log_read.specs.Entries.{next_entry, entry_code}
use Rattle.log_read.specs.Said.{Entry}
use Rattle.log_run.specs.Log.{told_of, told_log, ends_log}
use Rattle.promises.specs.Runs.{SizedPlan, Dropped}
use Rattle.promises.proofs.SoundRun.{OnPlan}
use Rattle.promises_school.proofs.WholeLines.{NoDrop, none-later}
use Rattle.promises_school.proofs.OwnPrinted.{printed-append, printed-nothing, known_in}
use Rattle.promises_school.proofs.Turns.{Turn, entry-turn}

-- one line of ends.txt, and what follows
ends-none : (book : Book) (n : ℕ) (ends : List ℕ) → ends_log 0 book n ends ≡ []
unfolding ends_log
ends-none book n ends = refl

module _ (fuel : ℕ) (book : Book) (n : ℕ) (ends : List ℕ) where
  abbrev entry : Entry
  entry = next_entry ends

  ends-nil : eqb (length ends) 0 ≡ true → ends_log (suc fuel) book n ends ≡ []
  unfolding ends_log
  ends-nil z = rw z

  ends_more :
      eqb (length ends) 0 ≡ false → eqb (entry_code entry) 0 ≡ true
      → ends_log (suc fuel) book n ends
      ≡ told_log book entry (told_of n book entry) ++ ends_log fuel (told_of n book entry).book (n + 1) (after LF ends)
  unfolding ends_log
  ends_more z c = rw (z, c)

  ends_last :
      eqb (length ends) 0 ≡ false → eqb (entry_code entry) 0 ≡ false
      → ends_log (suc fuel) book n ends ≡ told_log book entry (told_of n book entry) ++ []
  unfolding ends_log
  ends_last z c = rw (z, c)

-- the lines of ends.txt, one after the other
module _ (plan : Plan) (rule : Rule) (size : SizedPlan plan) (ok : is_accepted plan ≡ true) where
  abbrev Step : Book → Book → List ℕ → Type 0
  Step book next text = Turn plan rule size ok book next text

  step-append : (a b c : Book) (s t : List ℕ) → Step a b s → Step b c t → Step a c (s ++ t)
  step-append a b c s t x y = record {
    on = y.on;
    undropped = y.undropped;
    printed = printed-append plan (known_in a) (known_in b) (known_in c) s t x.printed y.printed;
  }

  abbrev Undropped : Book → Type 0
  Undropped book = (i : ℕ) → i < plan.tasks → Dropped book i → ⊥

  step-stay : (book : Book) → OnPlan plan rule book → Undropped book → Step book book []
  step-stay book on kept =
      record { on = on; undropped = kept; printed = printed-nothing plan (known_in book) (known_in book) (λ i l. refl) (λ i l. refl) }

  -- some book to which a text leads
  pub record Ahead (book : Book) (text : List ℕ) : Type 0 where
    pub next : Book
    pub step : Turn plan rule size ok book next text

  pub ends-step :
      (fuel : ℕ) (book : Book) (n : ℕ) (ends : List ℕ) → OnPlan plan rule book → Undropped book → n + length ends ≤ 40000
      → NoDrop (ends_log fuel book n ends) → Ahead book (ends_log fuel book n ends)
  ends-step zero book n ends on kept l nodrop =
      subst (Ahead book) (sym (ends-none book n ends)) (record { next = book; step = step-stay book on kept })
  ends-step (suc fuel) book n ends on kept l nodrop =
      by_bool (eqb (length ends) 0)
      (λ z. subst (Ahead book) (sym (ends-nil fuel book n ends z)) (record { next = book; step = step-stay book on kept }))
      (λ z.
      let some : length ends ≢ 0 = eqb-false (length ends) 0 z in
      let entry = next_entry ends in
      let told = told_of n book entry in
      let said = told_log book entry told in
      by_bool (eqb (entry_code entry) 0)
      (λ c.
      let rest = ends_log fuel told.book (n + 1) (after LF ends) in
      let is = ends_more fuel book n ends z c in
      let whole = subst NoDrop is nodrop in
      let one = entry-turn plan rule size ok book on kept n ends rest entry refl l whole in
      let more =
      ends-step fuel told.book (n + 1) (after LF ends) one.on one.undropped
      (omega (arith, length-drop (suc (index_of LF ends)) ends)) (none-later rest one.printed.whole whole) in
      subst (Ahead book) (sym is) (record { next = more.next; step = step-append book told.book more.next said rest one more.step }))
      (λ c.
      let is = ends_last fuel book n ends z c in
      let one = entry-turn plan rule size ok book on kept n ends [] entry refl l (subst NoDrop is nodrop) in
      subst (Ahead book) (sym is)
      (record { next = told.book; step = step-append book told.book told.book said [] one (step-stay told.book one.on one.undropped) })))
