-- The lines that `runlog` prints, and what they add to what is known.
use Prim.Native.Nat.{ℕ, zero, suc, ◌+◌, ◌-◌, ◌≤◌, ◌<◌}
use native.Mathlib.Omega.{arith}
use mathlib.Core.Path.{◌≡◌, refl, sym, ap, ◌∙◌}
use mathlib.Core.Logic.{◌≢◌}
use mathlib.Core.Bool.{true, false, cond}
use mathlib.Core.List.{List, [], ◌∷◌, ◌++◌}
use lib.Dec.{ltb}
use lib.ListN.{get_or}
use borrow.Author.Tests.{eq-eqb, ne_eqb, eqb-false, not-true, lt-ltb, le-ltb}
use Rattle.laws.specs.Lists.{all_of, same}
use Rattle.laws.proofs.Cases.{by_bool, by-eq, by_le, and_l, and_r, true-false}
use Rattle.laws.proofs.Lists.{same_refl}
use Rattle.text.specs.Bytes.{bytes}
use Rattle.text.specs.Line.{fields, field, lines_below}
use Rattle.text.specs.Number.{most}
use Rattle.plan.specs.Value.{at, is_accepted}
use Rattle.plan.specs.declared.Answer.{Answer}
use Rattle.plan.specs.declared.Plan.{Plan}
use Rattle.book_view.proofs.Accepted.{plan-facts}
use Rattle.theory.specs.Book.{waiting, ended}
use Rattle.book.specs.declared.Book.{Book}
use Rattle.book.specs.declared.Rule.{Rule}
use Rattle.log_write.specs.Lines.{numbers_line, refused_line}
use Rattle.log_run.specs.Lines.{start_line, has_started, start_lines}
use Rattle.promises.specs.Runs.{SizedPlan, Started, Dropped, start_of}
use Rattle.promises.proofs.SoundRun.{OnPlan, not_late}
use Rattle.promises_school.proofs.WholeLines.{Whole, whole_append, numbers-line}
use Rattle.promises_school.proofs.LineSays.{start-says, end-says, early-says, refused_says}
use Rattle.promises_school.proofs.Adds.{Known, Adds, adds-nothing, adds-append, adds-like, adds-remark, adds-start, adds-end}

-- a text of whole lines, and what they add
pub record Printed (plan : Plan) (old new : Known) (text : List ℕ) : Type 0 where
  pub lines : List (List ℕ)
  pub whole : Whole text lines
  pub adds : Adds plan old new lines

pub printed-append :
    (plan : Plan) (a b c : Known) (s t : List ℕ) → Printed plan a b s → Printed plan b c t → Printed plan a c (s ++ t)
printed-append plan a b c s t x y = record {
  lines = x.lines ++ y.lines;
  whole = whole_append t y.lines x.whole y.whole;
  adds = adds-append plan a b c x.lines y.lines x.adds y.adds;
}

-- nothing printed
pub printed-nothing :
    (plan : Plan) (a b : Known) → ((i : ℕ) → i < plan.tasks → b.start i ≡ a.start i) → ((i : ℕ) → i < plan.tasks → b.end i ≡ a.end i)
    → Printed plan a b []
printed-nothing plan a b s e = record { lines = []; whole = Whole.none; adds = adds-nothing plan a b s e }

pub printed-like :
    (plan : Plan) (a b c d : Known) (t : List ℕ) → ((i : ℕ) → i < plan.tasks → a.start i ≡ c.start i)
    → ((i : ℕ) → i < plan.tasks → a.end i ≡ c.end i) → ((i : ℕ) → i < plan.tasks → b.start i ≡ d.start i)
    → ((i : ℕ) → i < plan.tasks → b.end i ≡ d.end i) → Printed plan a b t → Printed plan c d t
printed-like plan a b c d t s e s' e' x =
    record { lines = x.lines; whole = x.whole; adds = adds-like plan a b c d x.lines s e s' e' x.adds }

-- a line by its first word
pub other_word :
    (line word other : List ℕ) (rest : List (List ℕ)) → fields line ≡ word ∷ rest → same word other ≡ false → field line 0 ≢ other
other_word line word other rest f d q =
    let e : word ≡ other = ap (λ (l : List (List ℕ)). get_or l 0 []) (sym f) ∙ q in
    true-false (rw e (same_refl other)) d

module _ (plan : Plan) where
  pub early-printed :
      (known : Known) (clock early : ℕ) → clock ≤ most → early ≤ most
      → Printed plan known known (numbers_line (bytes "early") (clock ∷ early ∷ []))
  unfolding all_of same
  early-printed known clock early c e =
      let one = numbers-line (bytes "early") (clock ∷ early ∷ []) (refl, refl) in
      record {
        lines = one.line ∷ [];
        whole = one.whole;
        adds = adds-remark plan known one.line (early-says plan.boards plan.tasks one.line clock early one.has c e)
            (other_word one.line (bytes "early") (bytes "end") _ one.has refl);
      }

  pub refused-printed :
      (known : Known) (answer : Answer) → answer.code ≤ most → answer.first ≤ most → answer.second ≤ most
      → Printed plan known known (refused_line answer)
  unfolding all_of same
  refused-printed known answer c f s =
      let one = numbers-line (bytes "refused") (answer.code ∷ answer.first ∷ answer.second ∷ []) (refl, refl) in
      record {
        lines = one.line ∷ [];
        whole = one.whole;
        adds = adds-remark plan known one.line
            (refused_says plan.boards plan.tasks one.line answer.code answer.first answer.second one.has c f s)
            (other_word one.line (bytes "refused") (bytes "end") _ one.has refl);
      }

  module _ (ok : is_accepted plan ≡ true) (old new : Known) (j tick : ℕ) (l : j < plan.tasks) (t : tick ≤ most) where
    pub start-printed :
        old.start j ≡ 0 → new.start j ≡ suc tick → ((i : ℕ) → i < plan.tasks → i ≢ j → new.start i ≡ old.start i)
        → ((i : ℕ) → i < plan.tasks → new.end i ≡ old.end i)
        → Printed plan old new (numbers_line (bytes "start") ((j + 1) ∷ at plan.board j ∷ tick ∷ (at plan.begin j - tick) ∷ []))
    unfolding all_of same
    start-printed o n s e =
        let one = numbers-line (bytes "start") ((j + 1) ∷ at plan.board j ∷ tick ∷ (at plan.begin j - tick) ∷ []) (refl, refl) in
        let f = (plan-facts plan ok).task j l in
        record {
          lines = one.line ∷ [];
          whole = one.whole;
          adds = adds-start plan old new one.line j tick
              (start-says plan.boards plan.tasks one.line (j + 1) (at plan.board j) tick (at plan.begin j - tick) one.has
              (omega arith) (omega arith) f.board-from f.board-to t (omega (arith, f.lasts, f.by_most)))
              (other_word one.line (bytes "start") (bytes "end") _ one.has refl) o n s e;
        }

    pub end-printed :
        old.end j ≡ 0 → new.end j ≡ suc tick → ((i : ℕ) → i < plan.tasks → i ≢ j → new.end i ≡ old.end i)
        → ((i : ℕ) → i < plan.tasks → new.start i ≡ old.start i)
        → Printed plan old new (numbers_line (bytes "end") ((j + 1) ∷ at plan.board j ∷ tick ∷ (at plan.finish j - tick) ∷ []))
    unfolding all_of same
    end-printed o n s e =
        let one = numbers-line (bytes "end") ((j + 1) ∷ at plan.board j ∷ tick ∷ (at plan.finish j - tick) ∷ []) (refl, refl) in
        let f = (plan-facts plan ok).task j l in
        record {
          lines = one.line ∷ [];
          whole = one.whole;
          adds = adds-end plan old new one.line j tick
              (end-says plan.boards plan.tasks one.line (j + 1) (at plan.board j) tick (at plan.finish j - tick) one.has
              (omega arith) (omega arith) f.board-from f.board-to t (omega (arith, f.lasts, f.by_most)))
              (ap (λ (p : List (List ℕ)). get_or p 1 []) one.has) (ap (λ (p : List (List ℕ)). get_or p 4 []) one.has) o n s e;
        }

-- what a book knows of a start, and of an end
abbrev pub start_known : Book → ℕ → ℕ
start_known book i = cond (waiting (at book.mark) i) 0 (suc (at book.start i))

abbrev pub end_known : Book → ℕ → ℕ
end_known book i = cond (ended (at book.mark) i) (suc (at book.end i)) 0

abbrev pub known_in : Book → Known
known_in book = record { start = start_known book; end = end_known book }

-- the starts of tasks below n, by rising number
module _ (plan : Plan) (rule : Rule) (size : SizedPlan plan) (ok : is_accepted plan ≡ true) (old new : Book) (on : OnPlan plan rule new)
    (undropped : (i : ℕ) → i < plan.tasks → Dropped new i → ⊥)
    (kept : (i : ℕ) → i < plan.tasks → Started old i → Started new i × (start_of new i ≡ start_of old i)) (ends : ℕ → ℕ) where
  abbrev up_to : ℕ → Known
  up_to n = record { start = λ i. cond (ltb i n) (start_known new i) (start_known old i); end = ends }

  step_other : (n i : ℕ) → i ≢ n → (up_to (suc n)).start i ≡ (up_to n).start i
  step_other n i d =
      by_le n i
      (λ h. rw (le-ltb i (suc n) (omega arith), le-ltb i n h))
      (λ h. rw (lt-ltb i (suc n) (omega arith), lt-ltb i n h))

  before-it : (n : ℕ) → (up_to n).start n ≡ start_known old n
  before-it n = rw (le-ltb n n (omega arith))

  after-it : (n : ℕ) → (up_to (suc n)).start n ≡ start_known new n
  after-it n = rw (lt-ltb n (suc n) (omega arith))

  -- a task that has not just started keeps what is known
  same_start : (n : ℕ) → n < plan.tasks → has_started old new n ≡ false → start_known new n ≡ start_known old n
  same_start n l h =
      by-eq (at old.mark n) 0
      (λ z.
      by-eq (at new.mark n) 0
      (λ y. rw (eq-eqb (at old.mark n) 0 z, eq-eqb (at new.mark n) 0 y))
      (λ d. true-false (rw (eq-eqb (at old.mark n) 0 z, ne_eqb (at new.mark n) 0 d)) h))
      (λ d.
      let k = kept n l d in
      rw (ne_eqb (at old.mark n) 0 d, ne_eqb (at new.mark n) 0 k.0) (ap suc k.1))

  -- the line of one that has
  line-is :
      (n : ℕ) → n < plan.tasks
      → start_line new n
      ≡ numbers_line (bytes "start") ((n + 1) ∷ at plan.board n ∷ at new.start n ∷ (at plan.begin n - at new.start n) ∷ [])
  line-is n l =
      rw (ne_eqb (at new.dropped n) 1 (undropped n l))
      (ap (λ (p : Plan). numbers_line (bytes "start") ((n + 1) ∷ at p.board n ∷ at new.start n ∷ (at p.begin n - at new.start n) ∷ [])) on.same)

  one-start : (n : ℕ) → n < plan.tasks → Printed plan (up_to n) (up_to (suc n)) (cond (has_started old new n) (start_line new n) [])
  one-start n l =
      by_bool (has_started old new n)
      (λ h.
      let was = and_l (waiting (at old.mark) n) _ h in
      let is = eqb-false (at new.mark n) 0 (not-true _ (and_r (waiting (at old.mark) n) _ h)) in
      let f = (plan-facts plan ok).task n l in
      let late = not_late plan rule size ok new on n l is in
      rw (h, line-is n l)
      (start-printed plan ok (up_to n) (up_to (suc n)) n (at new.start n) l (omega (arith, late, f.lasts, f.by_most))
      (before-it n ∙ rw was) (after-it n ∙ rw (ne_eqb (at new.mark n) 0 is)) (λ i m d. step_other n i d) (λ i m. refl)))
      (λ h.
      rw h
      (printed-nothing plan (up_to n) (up_to (suc n))
      (λ i m. by-eq i n (λ q. rw q (after-it n ∙ same_start n l h ∙ sym (before-it n))) (λ d. step_other n i d)) (λ i m. refl)))

  go : (n : ℕ) → n ≤ plan.tasks → Printed plan (up_to 0) (up_to n) (start_lines old new n)
  unfolding lines_below
  go zero h = printed-nothing plan (up_to 0) (up_to 0) (λ i m. refl) (λ i m. refl)
  go (suc n) h =
      printed-append plan (up_to 0) (up_to n) (up_to (suc n)) (start_lines old new n) (cond (has_started old new n) (start_line new n) [])
      (go n (omega arith)) (one-start n (omega arith))

  pub starts-printed :
      Printed plan (record { start = start_known old; end = ends }) (record { start = start_known new; end = ends }) (start_lines old new plan.tasks)
  starts-printed =
      printed-like plan (up_to 0) (up_to plan.tasks) (record { start = start_known old; end = ends }) (record { start = start_known new; end = ends })
      (start_lines old new plan.tasks)
      (λ i m. rw (le-ltb i 0 (omega arith))) (λ i m. refl) (λ i m. rw (lt-ltb i plan.tasks m)) (λ i m. refl)
      (go plan.tasks (omega arith))
