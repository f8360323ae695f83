-- One line: what it changes, and when it is kept.
use Prim.Native.Nat.{ℕ, ◌+◌, ◌≤◌}
use mathlib.Core.Path.{◌≡◌, refl, ap, ◌∙◌}
use mathlib.Core.Logic.{◌≢◌, ◌↔◌}
use mathlib.Core.Bool.{Bool, true, false}
use mathlib.Core.List.{List}
use lib.Dec.{leb, eqb}
use lib.ListN.{length}
use borrow.Author.Tests.{eq-eqb, ne_eqb, le-leb, leb-true}
use Rattle.laws.proofs.Cases.{by_bool, by-eq, true-false}
use Rattle.plan.specs.Answer.{refuse}
use Rattle.plan.specs.declared.Answer.{Answer}
use Rattle.book.specs.View.{plan_in}
use Rattle.book.specs.Sound.{is_sound}
use Rattle.book.specs.declared.Book.{Book}
use Rattle.book.specs.declared.Rule.TheVariants.{Clash}
use Rattle.log_read.specs.Said.{Entry}
use Rattle.log_read.specs.Said.{Entry as said}
use Rattle.log_write.specs.Lines.{refused_line}
use Rattle.log_run.specs.Log.{told_of, told_log}
use Rattle.log_run.proofs.BookLaws.{report-stays, drop-stays}
use Rattle.log_run.proofs.AnswerLaws.{opening-sound}
use Rattle.desk_read.specs.Asked.{DeskLine}
use Rattle.desk_read.specs.Asked.DeskLine.{Step, Rule, Early, Exact, Now, Drive, Why}
use Rattle.desk_read.proofs.ReadLaws.{step-near}
use Rattle.desk_turns.specs.Turns.{Turned, saying, taking, entry_turn, rule_turn, turn_by, turn_of}
use Rattle.desk_turns.specs.declared.Morning.{Morning}
use Rattle.promises_desk.specs.Sessions.{asked_at, Question, Accepted}

-- ---- questions

quiet : (morning : Morning) (n size : ℕ) (asked : DeskLine) → Question asked → ((turn_by morning n size asked).morning ≡ morning) × ((turn_by morning n size asked).keeps ≡ false)
unfolding turn_by
quiet morning n size Early Question.early = (refl, refl)
quiet morning n size Exact Question.exact = (refl, refl)
quiet morning n size Now Question.now = (refl, refl)
quiet morning n size _ (Question.drive d) = (refl, refl)
quiet morning n size _ (Question.why task) = (refl, refl)

pub questions-quiet :
    (morning : Morning) (n : ℕ) (ended : Bool) (line : List ℕ) → Question (asked_at morning ended line)
    → ((turn_of morning n ended line).morning ≡ morning) × ((turn_of morning n ended line).keeps ≡ false)
unfolding turn_of
questions-quiet morning n ended line q = quiet morning n (length line) (asked_at morning ended line) q

-- ---- a line that may be kept

module _ (morning : Morning) (size : ℕ) (answer : Answer) (book : Book) (text : List ℕ) where
  abbrev it : Turned
  it = taking morning size answer book text

  pub taking-no : answer.code ≢ 0 → it ≡ saying morning text
  unfolding taking
  taking-no n = rw (ne_eqb answer.code 0 n)

  pub taking-yes :
      answer.code ≡ 0 → morning.kept + size + 1 ≤ 32768
      → it ≡ record { morning = record { book = book; kept = morning.kept + size + 1 }; says = text; keeps = true }
  unfolding taking
  taking-yes z h = rw (eq-eqb answer.code 0 z, le-leb (morning.kept + size + 1) 32768 h)

  taking-unkept : it.keeps ≡ false → it.morning ≡ morning
  unfolding taking
  taking-unkept =
      by-eq answer.code 0
      (λ z.
      by_bool (leb (morning.kept + size + 1) 32768)
      (λ l. rw (eq-eqb answer.code 0 z, l) (λ k. true-false refl k))
      (λ l. rw (eq-eqb answer.code 0 z, l) (λ k. refl)))
      (λ n. rw (ne_eqb answer.code 0 n) (λ k. refl))

  taking-kept : it.keeps ≡ true → (answer.code ≡ 0) × (morning.kept + size + 1 ≤ 32768)
  unfolding taking
  taking-kept =
      by-eq answer.code 0
      (λ z.
      by_bool (leb (morning.kept + size + 1) 32768)
      (λ l k. (z, leb-true (morning.kept + size + 1) 32768 l))
      (λ l. rw (eq-eqb answer.code 0 z, l) (λ k. true-false k refl)))
      (λ n. rw (ne_eqb answer.code 0 n) (λ k. true-false k refl))

  taking-sound : is_sound morning.book ≡ true → (answer.code ≡ 0 → is_sound book ≡ true) → is_sound it.morning.book ≡ true
  unfolding taking
  taking-sound h f =
      by-eq answer.code 0
      (λ z.
      by_bool (leb (morning.kept + size + 1) 32768)
      (λ l. rw (eq-eqb answer.code 0 z, l) (f z))
      (λ l. rw (eq-eqb answer.code 0 z, l) h))
      (λ n. rw (ne_eqb answer.code 0 n) h)

-- ---- what is not kept changes nothing

unkept : (morning : Morning) (n size : ℕ) (asked : DeskLine) → (turn_by morning n size asked).keeps ≡ false → (turn_by morning n size asked).morning ≡ morning
unfolding turn_by
unkept morning n size (Step entry) k = taking-unkept morning size _ _ _ k
unkept morning n size Rule k = taking-unkept morning size _ _ _ k
unkept morning n size Early k = refl
unkept morning n size Exact k = refl
unkept morning n size Now k = refl
unkept morning n size (Drive d) k = refl
unkept morning n size (Why task) k = refl

pub unkept-unchanged : (morning : Morning) (n : ℕ) (ended : Bool) (line : List ℕ) → (turn_of morning n ended line).keeps ≡ false → (turn_of morning n ended line).morning ≡ morning
unfolding turn_of
unkept-unchanged morning n ended line k = unkept morning n (length line) (asked_at morning ended line) k

-- ---- what is kept

kept-is :
    (morning : Morning) (n : ℕ) (ended : Bool) (line : List ℕ) (asked : DeskLine) → asked_at morning ended line ≡ asked
    → (turn_by morning n (length line) asked).keeps ≡ true → Accepted morning ended line
unfolding turn_by told_of
kept-is morning n ended line (Step (said.End task tick)) e k = let r = taking-kept morning (length line) _ _ _ k in Accepted.an_end task tick e r.0 r.1
kept-is morning n ended line (Step (said.Drop task)) e k = let r = taking-kept morning (length line) _ _ _ k in Accepted.a_drop task e r.0 r.1
kept-is morning n ended line (Step (said.Refused code column)) e k =
    absurd ((step-near (eqb morning.kept 0) ended line refl e).0 (taking-kept morning (length line) _ _ _ k).0)
kept-is morning n ended line Rule e k = let r = taking-kept morning (length line) _ _ _ k in Accepted.the_rule e r.0 r.1
kept-is morning n ended line Early e k = true-false k refl
kept-is morning n ended line Exact e k = true-false k refl
kept-is morning n ended line Now e k = true-false k refl
kept-is morning n ended line (Drive d) e k = true-false k refl
kept-is morning n ended line (Why task) e k = true-false k refl

module _ (morning : Morning) (n : ℕ) (ended : Bool) (line : List ℕ) where
  by-asked : (asked : DeskLine) → asked_at morning ended line ≡ asked → turn_of morning n ended line ≡ turn_by morning n (length line) asked
  unfolding turn_of
  by-asked asked e = ap (turn_by morning n (length line)) e

  pub step-taken : (entry : Entry) → asked_at morning ended line ≡ Step entry → turn_of morning n ended line ≡ entry_turn morning n (length line) entry
  unfolding turn_by
  step-taken entry e = by-asked (Step entry) e

  -- a refused line is told its refusal, and changes nothing
  pub refused-taken :
      (code column : ℕ) → asked_at morning ended line ≡ Step (said.Refused code column)
      → turn_of morning n ended line ≡ saying morning (refused_line (refuse code n column))
  unfolding told_of told_log
  refused-taken code column e =
      let d : code ≢ 0 = (step-near (eqb morning.kept 0) ended line refl e).0 in
      step-taken (said.Refused code column) e ∙ taking-no morning (length line) _ _ _ d ∙ ap (saying morning) (rw (ne_eqb code 0 d))

  pub rule-taken : asked_at morning ended line ≡ Rule → turn_of morning n ended line ≡ rule_turn morning (length line)
  unfolding turn_by
  rule-taken e = by-asked Rule e

  accepted-kept : Accepted morning ended line → (turn_of morning n ended line).keeps ≡ true
  unfolding told_of
  accepted-kept (Accepted.an_end task tick e z h) =
      ap (λ (t : Turned). t.keeps) (step-taken (said.End task tick) e) ∙ ap (λ (t : Turned). t.keeps) (taking-yes morning (length line) _ _ _ z h)
  accepted-kept (Accepted.a_drop task e z h) =
      ap (λ (t : Turned). t.keeps) (step-taken (said.Drop task) e) ∙ ap (λ (t : Turned). t.keeps) (taking-yes morning (length line) _ _ _ z h)
  accepted-kept (Accepted.the_rule e z h) =
      ap (λ (t : Turned). t.keeps) (rule-taken e) ∙ ap (λ (t : Turned). t.keeps) (taking-yes morning (length line) _ _ _ z h)

  pub kept-accepted : ((turn_of morning n ended line).keeps ≡ true) ↔ Accepted morning ended line
  unfolding turn_of
  kept-accepted = ((λ k. kept-is morning n ended line (asked_at morning ended line) refl k), accepted-kept)

-- ---- a sound book stays one

pub entry-sound : (n : ℕ) (book : Book) (entry : Entry) → is_sound book ≡ true → (told_of n book entry).answer.code ≡ 0 → is_sound (told_of n book entry).book ≡ true
unfolding told_of
entry-sound n book (said.End task tick) h z = report-stays book task tick refl z
entry-sound n book (said.Drop task) h z = drop-stays book task refl z
entry-sound n book (said.Refused code column) h z = h

sound-by : (morning : Morning) (n size : ℕ) (asked : DeskLine) → is_sound morning.book ≡ true → is_sound (turn_by morning n size asked).morning.book ≡ true
unfolding turn_by
sound-by morning n size (Step entry) h = taking-sound morning size _ _ _ h (entry-sound n morning.book entry h)
sound-by morning n size Rule h = taking-sound morning size _ _ _ h (opening-sound (plan_in morning.book) Clash refl)
sound-by morning n size Early h = h
sound-by morning n size Exact h = h
sound-by morning n size Now h = h
sound-by morning n size (Drive d) h = h
sound-by morning n size (Why task) h = h

pub turn-sound : (morning : Morning) (n : ℕ) (ended : Bool) (line : List ℕ) → is_sound morning.book ≡ true → is_sound (turn_of morning n ended line).morning.book ≡ true
unfolding turn_of
turn-sound morning n ended line h = sound-by morning n (length line) (asked_at morning ended line) h
