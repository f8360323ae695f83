-- Lines of ends and drops: the desk answers them as the log of ends.txt has it.
use Prim.Native.Nat.{ℕ, zero, suc, ◌+◌, ◌≤◌}
use mathlib.Core.Path.{◌≡◌, refl, sym, ap, ◌∙◌}
use mathlib.Core.Logic.{◌≢◌, ◌⊎◌, inl, inr}
use mathlib.Core.Bool.{Bool, true, false, cond}
use mathlib.Core.List.{List, [], ◌∷◌, ◌++◌, append-nil}
use native.Mathlib.Omega.{arith}
use lib.Dec.{eqb}
use lib.ListN.{length, get_or, length-append, length-take, length-drop}
use borrow.Author.Tests.{eq-eqb, ne_eqb, le-ltb, ltb-true}
use Rattle.laws.proofs.Cases.{by_bool, by-eq}
use Rattle.laws.specs.Digits.{digits_of}
use Rattle.laws.specs.Lists.{same}
use Rattle.laws.specs.Split.{index_of, before, after, split_on, join_on}
use Rattle.laws.proofs.Split.{join-split}
use Rattle.laws.proofs.Width.{ten-digits}
use Rattle.text.specs.Bytes.{bytes}
use Rattle.text.specs.Line.{LF, has_line, fields, field}
use Rattle.text.specs.Number.{most}
use Rattle.plan.specs.Answer.{refuse}
use Rattle.plan.specs.Read.{reading_of}
use Rattle.plan.specs.declared.Answer.{Answer}
use Rattle.plan.proofs.ReadOk.{read_answer, read-accepted}
use Rattle.plan.specs.Value.{is_accepted}
use Rattle.book.specs.Open.{opened_on}
use Rattle.book.specs.declared.Book.{Book}
use Rattle.book.specs.declared.Rule.TheVariants.{EarlyStart}
use Rattle.log_read.specs.Entries.{entry_of, next_entry, entry_code}
use Rattle.log_read.specs.Rules.{choice_in, choice_of}
use Rattle.log_read.specs.Said.{Choice}
use Rattle.log_read.specs.Said.Choice.{Unsaid}
use Rattle.log_read.specs.Said.{Entry}
use Rattle.log_read.specs.Said.{Entry as said}
use Rattle.log_run.specs.Log.{told_of, told_log, open_log, ends_log, chosen_log, log_of}
use Rattle.log_run.specs.Answers.{entry_log}
use Rattle.log_run.proofs.BookLaws.{report-refused, drop-refused, opening-book}
use Rattle.desk_read.specs.Lines.{word_asked, asked_of}
use Rattle.desk_read.specs.Asked.DeskLine.{Step}
use Rattle.desk_turns.specs.Turns.{Turned, entry_turn, turn_of}
use Rattle.desk_turns.specs.declared.Morning.{Morning}
use Rattle.desk_start.specs.Start.{line_end, text_in, walk_from, walked_by, walked_of, start_log, begun_of}
use Rattle.promises.specs.Says.{entry_answer, EntrySays}
use Rattle.promises.proofs.Codes.EntryLine.{entry-says}
use Rattle.promises_desk.specs.Sessions.{Session, nothing, session_from, session_of, EndsAndDrops}
use Rattle.promises_desk.proofs.Turns.{taking-no, taking-yes, step-taken}

-- ---- such a line is short, and its word is no question's

module _ (line : List ℕ) {word : List ℕ} (w : field line 0 ≡ word) where
  other_word :
      (free ended : Bool) → length line ≤ 64 → same word (bytes "rule") ≡ false → same word (bytes "early") ≡ false → same word (bytes "exact") ≡ false
      → same word (bytes "now") ≡ false → same word (bytes "drive") ≡ false → same word (bytes "why") ≡ false
      → asked_of free ended line ≡ Step (entry_of ended line)
  unfolding asked_of word_asked choice_in
  other_word free ended h r a b c d e =
      let r' : same (field line 0) (bytes "rule") ≡ false = rw w r in
      let a' : same (field line 0) (bytes "early") ≡ false = rw w a in
      let b' : same (field line 0) (bytes "exact") ≡ false = rw w b in
      let c' : same (field line 0) (bytes "now") ≡ false = rw w c in
      let d' : same (field line 0) (bytes "drive") ≡ false = rw w d in
      let e' : same (field line 0) (bytes "why") ≡ false = rw w e in
      by_bool free
      (λ f. rw (le-ltb 64 (length line) h, f, r', a', b', c', d', e'))
      (λ f. rw (le-ltb 64 (length line) h, f, a', b', c', d', e'))

joined-two : (a b : List ℕ) → length (join_on 9 (a ∷ b ∷ [])) ≡ length a + suc (length b)
unfolding join_on
joined-two a b = length-append a (9 ∷ b)

joined-three : (a b c : List ℕ) → length (join_on 9 (a ∷ b ∷ c ∷ [])) ≡ length a + suc (length b + suc (length c))
unfolding join_on
joined-three a b c = length-append a (9 ∷ join_on 9 (b ∷ c ∷ [])) ∙ ap (λ (n : ℕ). length a + suc n) (joined-two b c)

module _ (line : List ℕ) (free ended : Bool) where
  end-asked :
      (task tick : ℕ) → task ≤ most → tick ≤ most → fields line ≡ bytes "end" ∷ digits_of task ∷ digits_of tick ∷ []
      → asked_of free ended line ≡ Step (entry_of ended line)
  unfolding same
  end-asked task tick h g e =
      let w : field line 0 ≡ bytes "end" = ap (λ (l : List (List ℕ)). get_or l 0 []) e in
      let n = ap length (sym (join-split 9 line) ∙ ap (join_on 9) e) ∙ joined-three (bytes "end") (digits_of task) (digits_of tick) in
      other_word line w free ended
      (omega (arith, n, ten-digits task (omega arith), ten-digits tick (omega arith)))
      refl refl refl refl refl refl

  drop-asked :
      (task : ℕ) → task ≤ most → fields line ≡ bytes "drop" ∷ digits_of task ∷ [] → asked_of free ended line ≡ Step (entry_of ended line)
  unfolding same
  drop-asked task h e =
      let w : field line 0 ≡ bytes "drop" = ap (λ (l : List (List ℕ)). get_or l 0 []) e in
      let n = ap length (sym (join-split 9 line) ∙ ap (join_on 9) e) ∙ joined-two (bytes "drop") (digits_of task) in
      other_word line w free ended (omega (arith, n, ten-digits task (omega arith))) refl refl refl refl refl refl

-- ---- what a line that is read says

code_is : (n : ℕ) (entry : Entry) → (entry_answer n entry).code ≡ entry_code entry
code_is n (said.End task tick) = refl
code_is n (said.Drop task) = refl
code_is n (said.Refused code column) = refl

not-refused : {C : Type 0} (n code column : ℕ) (entry : Entry) → entry_code entry ≡ 0 → (code ≡ 3) ⊎ (code ≡ 4) → entry_answer n entry ≡ refuse code n column → C
not-refused n code column entry z k e =
    let q : code ≡ 0 = sym (ap (λ (a : Answer). a.code) e) ∙ code_is n entry ∙ z in
    other k q
  where
    other : {C : Type 0} {code : ℕ} → (code ≡ 3) ⊎ (code ≡ 4) → code ≡ 0 → C
    other (inl e) q = absurd (omega (arith, e, q))
    other (inr e) q = absurd (omega (arith, e, q))

-- it had its LF, it is an end or a drop, and the desk sees the same in it
pub data Read (text : List ℕ) : Type 0 where
  an_end :
      (task tick : ℕ) → has_line text ≡ true → next_entry text ≡ said.End task tick
      → ((free : Bool) → asked_of free (has_line text) (before LF text) ≡ Step (next_entry text))
      → same (field (before LF text) 0) (bytes "rule") ≡ false → Read text
  a_drop :
      (task : ℕ) → has_line text ≡ true → next_entry text ≡ said.Drop task
      → ((free : Bool) → asked_of free (has_line text) (before LF text) ≡ Step (next_entry text))
      → same (field (before LF text) 0) (bytes "rule") ≡ false → Read text

no-rule : (line word : List ℕ) {l : List (List ℕ)} → fields line ≡ word ∷ l → same word (bytes "rule") ≡ false → same (field line 0) (bytes "rule") ≡ false
no-rule line word f h = ap (λ (l : List (List ℕ)). same (get_or l 0 []) (bytes "rule")) f ∙ h

pub is_read : (text : List ℕ) → entry_code (next_entry text) ≡ 0 → Read text
unfolding next_entry same
is_read text z = go (entry-says 1 text)
  where
    go : EntrySays 1 text (next_entry text) → Read text
    go (EntrySays.an_end task tick h g l f e) =
        Read.an_end task tick l e (λ free. end-asked (before LF text) free (has_line text) task tick h g f) (no-rule (before LF text) (bytes "end") f refl)
    go (EntrySays.a_drop task h l f e) = Read.a_drop task l e (λ free. drop-asked (before LF text) free (has_line text) task h f) (no-rule (before LF text) (bytes "drop") f refl)
    go (EntrySays.refused_drop code column s k c e) = not-refused 1 code column (next_entry text) z k e
    go (EntrySays.refused_end code column s k c e) = not-refused 1 code column (next_entry text) z k e

-- ---- one line at the desk, as in the log

module _ (morning : Morning) (n size : ℕ) (entry : Entry) (room : morning.kept + size + 1 ≤ 32768)
    (stays : (told_of n morning.book entry).answer.code ≢ 0 → (told_of n morning.book entry).book ≡ morning.book) where
  turn-says : (entry_turn morning n size entry).says ≡ entry_log n morning.book entry
  turn-says =
      by-eq (told_of n morning.book entry).answer.code 0
      (λ z. ap (λ (t : Turned). t.says) (taking-yes morning size (told_of n morning.book entry).answer (told_of n morning.book entry).book (entry_log n morning.book entry) z room))
      (λ d. ap (λ (t : Turned). t.says) (taking-no morning size (told_of n morning.book entry).answer (told_of n morning.book entry).book (entry_log n morning.book entry) d))

  turn-book : (entry_turn morning n size entry).morning.book ≡ (told_of n morning.book entry).book
  turn-book =
      by-eq (told_of n morning.book entry).answer.code 0
      (λ z. ap (λ (t : Turned). t.morning.book) (taking-yes morning size (told_of n morning.book entry).answer (told_of n morning.book entry).book (entry_log n morning.book entry) z room))
      (λ d. ap (λ (t : Turned). t.morning.book) (taking-no morning size (told_of n morning.book entry).answer (told_of n morning.book entry).book (entry_log n morning.book entry) d) ∙ sym (stays d))

  turn-kept : (entry_turn morning n size entry).morning.kept ≤ morning.kept + size + 1
  turn-kept =
      by-eq (told_of n morning.book entry).answer.code 0
      (λ z. let e = ap (λ (t : Turned). t.morning.kept) (taking-yes morning size (told_of n morning.book entry).answer (told_of n morning.book entry).book (entry_log n morning.book entry) z room) in omega (arith, e))
      (λ d. let e = ap (λ (t : Turned). t.morning.kept) (taking-no morning size (told_of n morning.book entry).answer (told_of n morning.book entry).book (entry_log n morning.book entry) d) in omega (arith, e))

pub record Agrees (morning : Morning) (n : ℕ) (text : List ℕ) (t : Turned) : Type 0 where
  pub says : t.says ≡ told_log morning.book (next_entry text) (told_of n morning.book (next_entry text))
  pub book : t.morning.book ≡ (told_of n morning.book (next_entry text)).book
  pub kept : t.morning.kept ≤ morning.kept + length (before LF text) + 1

module _ (morning : Morning) (n : ℕ) (text : List ℕ) (room : morning.kept + length (before LF text) + 1 ≤ 32768) where
  agrees : Read text → Agrees morning n text (turn_of morning n (has_line text) (before LF text))
  unfolding told_of
  agrees (Read.an_end task tick l e a r) =
      let s = length (before LF text) in
      let t = step-taken morning n (has_line text) (before LF text) (said.End task tick) (a (eqb morning.kept 0) ∙ ap Step e) in
      let h = report-refused morning.book task tick in
      record {
        says = ap (λ (x : Turned). x.says) t ∙ turn-says morning n s (said.End task tick) room h ∙ rw e;
        book = ap (λ (x : Turned). x.morning.book) t ∙ turn-book morning n s (said.End task tick) room h ∙ rw e;
        kept = let q = ap (λ (x : Turned). x.morning.kept) t in omega (arith, q, turn-kept morning n s (said.End task tick) room h);
      }
  agrees (Read.a_drop task l e a r) =
      let s = length (before LF text) in
      let t = step-taken morning n (has_line text) (before LF text) (said.Drop task) (a (eqb morning.kept 0) ∙ ap Step e) in
      let h = drop-refused morning.book task in
      record {
        says = ap (λ (x : Turned). x.says) t ∙ turn-says morning n s (said.Drop task) room h ∙ rw e;
        book = ap (λ (x : Turned). x.morning.book) t ∙ turn-book morning n s (said.Drop task) room h ∙ rw e;
        kept = let q = ap (λ (x : Turned). x.morning.kept) t in omega (arith, q, turn-kept morning n s (said.Drop task) room h);
      }

-- ---- all lines

pub line-length : (text : List ℕ) → has_line text ≡ true → length (before LF text) + 1 + length (after LF text) ≡ length text
line-length text h =
    let i = ltb-true (index_of LF text) (length text) h in
    omega (arith, length-take (index_of LF text) text, length-drop (suc (index_of LF text)) text)

read-line : (text : List ℕ) → Read text → has_line text ≡ true
read-line text (Read.an_end task tick l e a r) = l
read-line text (Read.a_drop task l e a r) = l

pub session-empty : (f : ℕ) (morning : Morning) (n : ℕ) (text : List ℕ) → length text ≡ 0 → session_from f morning n text ≡ nothing morning
unfolding session_from
session-empty zero morning n text h = refl
session-empty (suc f) morning n text h = rw (eq-eqb (length text) 0 h, session_from)

pub session-line :
    (f : ℕ) (morning : Morning) (n : ℕ) (text : List ℕ) → length text ≢ 0
    → session_from (suc f) morning n text
    ≡ record {
      morning = (session_from f (turn_of morning n (has_line text) (before LF text)).morning (n + 1) (after LF text)).morning;
      printed =
          (turn_of morning n (has_line text) (before LF text)).says
          ++ (session_from f (turn_of morning n (has_line text) (before LF text)).morning (n + 1) (after LF text)).printed;
      kept =
          cond (turn_of morning n (has_line text) (before LF text)).keeps (before LF text ++ (LF ∷ [])) []
          ++ (session_from f (turn_of morning n (has_line text) (before LF text)).morning (n + 1) (after LF text)).kept;
    }
unfolding session_from
session-line f morning n text h = rw (ne_eqb (length text) 0 h, session_from)

ends-empty : (f : ℕ) (book : Book) (n : ℕ) (text : List ℕ) → length text ≡ 0 → ends_log f book n text ≡ []
unfolding ends_log
ends-empty zero book n text h = refl
ends-empty (suc f) book n text h = rw (eq-eqb (length text) 0 h, ends_log)

ends-turn :
    (f : ℕ) (book : Book) (n : ℕ) (text : List ℕ) → length text ≢ 0 → entry_code (next_entry text) ≡ 0
    → ends_log (suc f) book n text
    ≡ told_log book (next_entry text) (told_of n book (next_entry text)) ++ ends_log f (told_of n book (next_entry text)).book (n + 1) (after LF text)
unfolding ends_log
ends-turn f book n text h z = rw (ne_eqb (length text) 0 h, eq-eqb (entry_code (next_entry text)) 0 z, ends_log)

pub session-log :
    (f : ℕ) (morning : Morning) (n : ℕ) (text : List ℕ) → morning.kept + length text ≤ 32768 → EndsAndDrops text
    → (session_from f morning n text).printed ≡ ends_log f morning.book n text
unfolding session_from ends_log
session-log zero morning n text room all = refl
session-log (suc f) morning n text room (EndsAndDrops.no_more h) =
    ap (λ (s : Session). s.printed) (session-empty (suc f) morning n text h) ∙ sym (ends-empty (suc f) morning.book n text h)
session-log (suc f) morning n text room (EndsAndDrops.next some z all) =
    let some' : length text ≢ 0 = λ e. omega (arith, some, e) in
    let read = is_read text z in
    let size = line-length text (read-line text read) in
    let a = agrees morning n text (omega (arith, size)) read in
    let t = turn_of morning n (has_line text) (before LF text) in
    ap (λ (s : Session). s.printed) (session-line f morning n text some')
    ∙ (λ i. a.says i ++ (session_from f t.morning (n + 1) (after LF text)).printed)
    ∙ ap (λ (s : List ℕ). told_log morning.book (next_entry text) (told_of n morning.book (next_entry text)) ++ s)
    (session-log f t.morning (n + 1) (after LF text) (omega (arith, size, a.kept)) all
    ∙ ap (λ (b : Book). ends_log f b (n + 1) (after LF text)) a.book)
    ∙ sym (ends-turn f morning.book n text some' z)

-- ---- from a folder without ends.txt

pub choice-none : choice_of [] ≡ Unsaid
unfolding choice_of choice_in same split_on index_of
choice-none = refl

pub choice-read : (text : List ℕ) → Read text → choice_of text ≡ Unsaid
unfolding choice_of choice_in
choice-read text (Read.an_end task tick l e a r) = rw r
choice-read text (Read.a_drop task l e a r) = rw r

pub empty-is : (text : List ℕ) → length text ≡ 0 → text ≡ []
empty-is [] h = refl
empty-is (b ∷ s) h = absurd (omega arith)

choice-all : (text : List ℕ) → EndsAndDrops text → choice_of text ≡ Unsaid
choice-all text (EndsAndDrops.no_more h) = ap choice_of (empty-is text h) ∙ choice-none
choice-all text (EndsAndDrops.next some z all) = choice-read text (is_read text z)

pub plan-accepted : (plan : List ℕ) → (reading_of plan).answer.code ≡ 0 → is_accepted (reading_of plan).plan ≡ true
plan-accepted plan z = read-accepted false plan (ap (λ (a : Answer). a.code) (sym (read_answer false plan)) ∙ z)

text-none : text_in [] ≡ []
unfolding text_in line_end
text-none = refl

module _ (plan text : List ℕ) (z : (reading_of plan).answer.code ≡ 0) where
  log-of : length text ≤ 32768 → choice_of text ≡ Unsaid → log_of plan text ≡ open_log (reading_of plan).plan EarlyStart ++ ends_log (length text) (opened_on (reading_of plan).plan EarlyStart) 1 text
  unfolding log_of chosen_log
  log-of h c =
      rw (eq-eqb (reading_of plan).answer.code 0 z, le-ltb 32768 (length text) h) (ap (λ (x : Choice). chosen_log x (reading_of plan).plan text) c)

pub start_none : (plan : List ℕ) → (reading_of plan).answer.code ≡ 0 → start_log plan [] ≡ open_log (reading_of plan).plan EarlyStart
unfolding ends_log
start_none plan z = ap (log_of plan) text-none ∙ log-of plan [] z (omega arith) choice-none ∙ append-nil (open_log (reading_of plan).plan EarlyStart)

pub morning-none :
    (plan : List ℕ) → (reading_of plan).answer.code ≡ 0
    → (begun_of plan []).morning ≡ record { book = opened_on (reading_of plan).plan EarlyStart; kept = 0 }
unfolding begun_of walked_of walked_by walk_from
morning-none plan z =
    let p = (reading_of plan).plan in
    let t = text-none in
    let b : (walked_of p (text_in [])).book ≡ opened_on p EarlyStart =
    ap (λ (s : List ℕ). (walked_of p s).book) t ∙ ap (λ (c : Choice). (walked_by c p []).book) choice-none ∙ opening-book p EarlyStart (plan-accepted plan z) in
    λ i. record { book = b i; kept = length (t i) }

pub whole-log :
    (plan text : List ℕ) → (reading_of plan).answer.code ≡ 0 → length text ≤ 32768 → EndsAndDrops text
    → start_log plan [] ++ (session_of (begun_of plan []).morning text).printed ≡ log_of plan text
whole-log plan text z h all =
    let m : Morning = record { book = opened_on (reading_of plan).plan EarlyStart; kept = 0 } in
    let a = start_none plan z in
    let b = ap (λ (x : Morning). (session_of x text).printed) (morning-none plan z) ∙ session-log (length text) m 1 text (omega arith) all in
    (λ i. a i ++ b i) ∙ sym (log-of plan text z h (choice-all text all))
