-- What is kept, read again, gives the same morning.
use Prim.Native.Nat.{ℕ, zero, suc, ◌+◌, ◌≤◌, ◌<◌}
use mathlib.Core.Path.{◌≡◌, refl, sym, ap, subst, ◌∙◌}
use mathlib.Core.Logic.{◌≢◌}
use mathlib.Core.Bool.{Bool, true, false, cond, ◌||◌}
use mathlib.Core.List.{List, [], ◌++◌, append_assoc, append-nil}
use native.Mathlib.Omega.{arith}
use lib.Dec.{eqb, ltb}
use lib.ListN.{length, length-append, length-take}
use borrow.Author.Tests.{eq-eqb, ne_eqb, eqb-true, lt-ltb, le-ltb}
use Rattle.laws.proofs.Cases.{by_bool, by-eq, by_le, or_no, true-false}
use Rattle.laws.specs.Split.{before, after}
use Rattle.text.specs.Line.{LF, has_line}
use Rattle.plan.specs.Answer.{refuse}
use Rattle.plan.specs.Read.{reading_of}
use Rattle.plan.specs.declared.Answer.{Answer}
use Rattle.plan.specs.Value.{is_accepted}
use Rattle.plan.specs.declared.Plan.{Plan}
use Rattle.book.specs.View.{plan_in}
use Rattle.book.specs.Sound.{is_sound}
use Rattle.book.specs.Open.{opened_on, opening_of}
use Rattle.book.specs.declared.Book.{Book}
use Rattle.book.specs.declared.Rule.{Rule}
use Rattle.book.specs.declared.Rule.TheVariants.{EarlyStart, Clash}
use Rattle.book.proofs.Sizes.{plan-opened}
use Rattle.book.proofs.Soundness.{opened-is-sound}
use Rattle.log_read.specs.Entries.{entry_of, next_entry, entry_code}
use Rattle.log_read.specs.Rules.{choice_in, choice_of}
use Rattle.log_read.specs.Said.{Choice}
use Rattle.log_read.specs.Said.Choice.{Unsaid, Chosen, Malformed}
use Rattle.log_read.specs.Said.{Entry}
use Rattle.log_read.specs.Said.{Entry as said}
use Rattle.log_run.specs.Log.{told_of}
use Rattle.log_run.specs.Answers.{entry_log, opening_log}
use Rattle.log_run.proofs.BookLaws.{opening-book, report-refused, drop-refused}
use Rattle.desk_read.specs.Asked.{DeskLine as asked}
use Rattle.desk_turns.specs.Turns.{Turned, entry_turn, turn_of}
use Rattle.desk_turns.specs.declared.Morning.{Morning}
use Rattle.desk_start.specs.Start.{line_end, whole_lines, text_in, going, walk_from, walk_in, walked_by, walked_of, way_of, begun_of}
use Rattle.desk_start.specs.declared.EndsResult.{EndsResult}
use Rattle.desk_start.specs.declared.Way.{Way}
use Rattle.desk_start.specs.declared.Way.TheVariants as way
use Rattle.desk_start.proofs.StartLaws.{next_book, in-none, in-stop, in-turn}
use Rattle.promises.specs.Says.{choice_answer, ChoiceSays}
use Rattle.promises.proofs.Codes.RuleLine.{choice-says}
use Rattle.promises_desk.specs.Sessions.{asked_at, HasRoom, Accepted, Session, session_from, session_of}
use Rattle.promises_desk.proofs.Turns.{taking-yes, unkept-unchanged, kept-accepted, step-taken, rule-taken, entry-sound}
use Rattle.promises_desk.proofs.ReadLines.{Read, is_read, choice-read, choice-none, empty-is, plan-accepted, session-empty, session-line}
use Rattle.promises_desk.proofs.Sees.{seen_step, seen-rule}
use Rattle.promises_desk.proofs.WholeText.{Whole, more-line, more-before, more-after, kept, kept-before, kept-after, kept_line, kept-length, whole-more, whole-text, whole-cut}

-- ---- the walk goes on behind whole lines

more-entry : (w x : List ℕ) → has_line w ≡ true → next_entry (w ++ x) ≡ next_entry w
unfolding next_entry
more-entry w x h = let a = more-line w x h ∙ sym h in let b = more-before w x h in λ i. entry_of (a i) (b i)

more-choice : (w x : List ℕ) → has_line w ≡ true → choice_of (w ++ x) ≡ choice_of w
unfolding choice_of
more-choice w x h = let a = more-line w x h ∙ sym h in let b = more-before w x h in λ i. choice_in (a i) (b i)

some_bytes : (w : List ℕ) → has_line w ≡ true → 0 < length w
some_bytes w h = by_le (length w) 0 (λ z. true-false h (line-none w (omega (arith, z)))) (λ l. l)
  where
    line-none : (w : List ℕ) → length w ≡ 0 → has_line w ≡ false
    line-none w z = le-ltb _ (length w) (omega (arith, z))

walk-on : (w x : List ℕ) (b b' : Book) → Whole w → walk_in b w ≡ going b' → walk_in b (w ++ x) ≡ walk_in b' x
walk-on w x b b' (Whole.none z) h =
    let e = ap (λ (r : EndsResult). r.book) (sym (in-none b w z) ∙ h) in
    ap (λ (s : List ℕ). walk_in b (s ++ x)) (empty-is w z) ∙ ap (λ (k : Book). walk_in k x) e
walk-on w x b b' (Whole.line l r) h =
    let some = some_bytes w l in
    by-eq (entry_code (next_entry w)) 0
    (λ z.
    let n = more-entry w x l in
    let z' : entry_code (next_entry (w ++ x)) ≡ 0 = ap entry_code n ∙ z in
    in-turn b (w ++ x) (omega (arith, some, length-append w x)) z'
    ∙ (λ i. walk_in (told_of 0 b (n i)).book (more-after w x l i))
    ∙ walk-on (after LF w) x (next_book b w) b' r (sym (in-turn b w some z) ∙ h))
    (λ n. let s = ap (λ (r : EndsResult). r.stops) (sym (in-stop b w some n) ∙ h) in true-false refl s)

-- a line that is read, behind the book before it
walk-line : (text : List ℕ) (b : Book) (entry : Entry) → entry_of true (before LF text) ≡ entry → entry_code entry ≡ 0 → walk_in b (kept text) ≡ going (told_of 0 b entry).book
unfolding next_entry
walk-line text b entry e z =
    let l = kept_line text in
    let n : next_entry (kept text) ≡ entry = (λ i. entry_of (l i) (kept-before text i)) ∙ e in
    in-turn b (kept text) (some_bytes (kept text) l) (ap entry_code n ∙ z)
    ∙ (λ i. walk_in (told_of 0 b (n i)).book (kept-after text i))
    ∙ in-none (told_of 0 b entry).book [] refl

-- ---- a morning that stands on a text: it is what reading that text gives

pub record Stands (plan : Plan) (w : List ℕ) (morning : Morning) : Type 0 where
  pub whole : Whole w
  pub short : length w ≤ 32768
  pub walks : walked_of plan w ≡ going morning.book
  pub size : morning.kept ≡ length w

module _ (plan : Plan) where
  walked_at : (w : List ℕ) (choice : Choice) → choice_of w ≡ choice → walked_of plan w ≡ walked_by choice plan w
  unfolding walked_of
  walked_at w choice e = ap (λ (c : Choice). walked_by c plan w) e

  -- behind whole lines, at least one
  walk-behind : (w x : List ℕ) (b : Book) → has_line w ≡ true → Whole (after LF w) → walked_of plan w ≡ going b → walked_of plan (w ++ x) ≡ walk_in b x
  unfolding walked_by
  walk-behind w x b l r h = go (choice_of w) refl
    where
      go : (choice : Choice) → choice_of w ≡ choice → walked_of plan (w ++ x) ≡ walk_in b x
      go Unsaid e =
          walked_at (w ++ x) Unsaid (more-choice w x l ∙ e)
          ∙ walk-on w x (opening_of plan EarlyStart).book b (Whole.line l r) (sym (walked_at w Unsaid e) ∙ h)
      go Chosen e =
          walked_at (w ++ x) Chosen (more-choice w x l ∙ e)
          ∙ ap (walk_in (opening_of plan Clash).book) (more-after w x l)
          ∙ walk-on (after LF w) x (opening_of plan Clash).book b r (sym (walked_at w Chosen e) ∙ h)
      go (Malformed column) e = let s = ap (λ (r : EndsResult). r.stops) (sym (walked_at w (Malformed column) e) ∙ h) in true-false refl s

  -- nothing yet: the book is opened by Early Start
  walk_first : (b : Book) → walked_of plan [] ≡ going b → b ≡ (opening_of plan EarlyStart).book
  unfolding walked_by walk_from
  walk_first b h = ap (λ (r : EndsResult). r.book) (sym h ∙ walked_at [] Unsaid choice-none)

  walk-entry :
      (text w : List ℕ) (b : Book) (entry : Entry) → Whole w → walked_of plan w ≡ going b → entry_of true (before LF text) ≡ entry → entry_code entry ≡ 0
      → choice_of (kept text) ≡ Unsaid → walked_of plan (w ++ kept text) ≡ going (told_of 0 b entry).book
  unfolding walked_by
  walk-entry text w b entry (Whole.none z) h e c u =
      let q = empty-is w z in
      ap (λ (s : List ℕ). walked_of plan (s ++ kept text)) q
      ∙ walked_at (kept text) Unsaid u
      ∙ ap (λ (k : Book). walk_in k (kept text)) (sym (walk_first b (ap (walked_of plan) (sym q) ∙ h)))
      ∙ walk-line text b entry e c
  walk-entry text w b entry (Whole.line l r) h e c u = walk-behind w (kept text) b l r h ∙ walk-line text b entry e c

  walk-rule : (text : List ℕ) → choice_of (kept text) ≡ Chosen → walked_of plan (kept text) ≡ going (opening_of plan Clash).book
  unfolding walked_by
  walk-rule text c =
      walked_at (kept text) Chosen c ∙ ap (walk_in (opening_of plan Clash).book) (kept-after text) ∙ in-none (opening_of plan Clash).book [] refl

-- ---- one line more

kept-choice : (text : List ℕ) → has_line text ≡ true → choice_of (kept text) ≡ choice_of text
unfolding choice_of
kept-choice text h = let l = kept_line text ∙ sym h in λ i. choice_in (l i) (kept-before text i)

read-ended : (text : List ℕ) → Read text → (has_line text ≡ true) × (choice_of text ≡ Unsaid)
read-ended text (Read.an_end task tick l e a r) = (l, choice-read text (Read.an_end task tick l e a r))
read-ended text (Read.a_drop task l e a r) = (l, choice-read text (Read.a_drop task l e a r))

chosen-ended : (text : List ℕ) → choice_of text ≡ Chosen → has_line text ≡ true
chosen-ended text c = go (choice_of text) (choice-says text) c
  where
    tag : Choice → ℕ
    tag Unsaid = 0
    tag Chosen = 1
    tag (Malformed column) = 2

    go : (r : Choice) → ChoiceSays text r → r ≡ Chosen → has_line text ≡ true
    go r (ChoiceSays.unsaid s e) c = let k : ◌≡◌ {A = ℕ} 0 1 = ap tag (sym e ∙ c) in absurd (omega (arith, k))
    go r (ChoiceSays.chosen b l e) c = l
    go r (ChoiceSays.malformed column s k e) c = never r c e
      where
        never : (r : Choice) → r ≡ Chosen → choice_answer r ≡ refuse 3 1 column → has_line text ≡ true
        never r c e = let k : ◌≡◌ {A = ℕ} 0 3 = ap (λ (a : Answer). a.code) (sym (ap choice_answer c) ∙ e) in absurd (omega (arith, k))

-- the line's number changes no book
told-book : (n : ℕ) (book : Book) (entry : Entry) → (told_of 0 book entry).book ≡ (told_of n book entry).book
unfolding told_of
told-book n book (said.End task tick) = refl
told-book n book (said.Drop task) = refl
told-book n book (said.Refused code column) = refl

module _ (plan : Plan) (ok : is_accepted plan ≡ true) (w : List ℕ) (morning : Morning) (n : ℕ) (text : List ℕ) (s : Stands plan w morning) where
  abbrev turn : Turned
  turn = turn_of morning n (has_line text) (before LF text)

  room-is : HasRoom morning (before LF text) → length (w ++ kept text) ≤ 32768
  room-is h = omega (arith, h, s.size, length-append w (kept text), kept-length text)

  stands_by :
      (book : Book) → HasRoom morning (before LF text) → turn.morning ≡ record { book = book; kept = morning.kept + length (before LF text) + 1 }
      → walked_of plan (w ++ kept text) ≡ going book → Stands plan (w ++ kept text) turn.morning
  stands_by book h e k = record {
    whole = whole-more text w s.whole;
    short = room-is h;
    walks = k ∙ ap (λ (m : Morning). going m.book) (sym e);
    size = let q = ap (λ (m : Morning). m.kept) e in omega (arith, q, s.size, length-append w (kept text), kept-length text);
  }

  entry-stands :
      (entry : Entry) → entry_code entry ≡ 0 → next_entry text ≡ entry → turn ≡ entry_turn morning n (length (before LF text)) entry
      → (told_of n morning.book entry).answer.code ≡ 0 → HasRoom morning (before LF text) → Stands plan (w ++ kept text) turn.morning
  unfolding next_entry
  entry-stands entry c e t z h =
      let r = read-ended text (is_read text (ap entry_code e ∙ c)) in
      let e' : entry_of true (before LF text) ≡ entry = ap (λ (b : Bool). entry_of b (before LF text)) (sym r.0) ∙ e in
      let b = (told_of n morning.book entry).book in
      stands_by b h
      (ap (λ (x : Turned). x.morning) t
      ∙ ap (λ (x : Turned). x.morning) (taking-yes morning (length (before LF text)) (told_of n morning.book entry).answer b (entry_log n morning.book entry) z h))
      (walk-entry plan text w morning.book entry s.whole s.walks e' c (kept-choice text r.0 ∙ r.1) ∙ ap going (told-book n morning.book entry))

  rule-stands : asked_at morning (has_line text) (before LF text) ≡ asked.Rule → (opening_of (plan_in morning.book) Clash).answer.code ≡ 0 → HasRoom morning (before LF text) → Stands plan (w ++ kept text) turn.morning
  unfolding choice_of
  rule-stands q z h =
      let r = seen-rule (eqb morning.kept 0) (has_line text) (before LF text) q in
      let k : morning.kept ≡ 0 = eqb-true morning.kept 0 r.0 in
      let empty = empty-is w (omega (arith, k, s.size)) in
      let l = chosen-ended text r.1 in
      let m : morning.book ≡ opened_on plan EarlyStart =
      walk_first plan morning.book (ap (walked_of plan) (sym empty) ∙ s.walks) ∙ opening-book plan EarlyStart ok in
      let p : plan_in morning.book ≡ plan = ap plan_in m ∙ plan-opened plan EarlyStart in
      let b = (opening_of (plan_in morning.book) Clash).book in
      stands_by b h
      (ap (λ (x : Turned). x.morning) (rule-taken morning n (has_line text) (before LF text) q)
      ∙ ap (λ (x : Turned). x.morning)
      (taking-yes morning (length (before LF text)) (opening_of (plan_in morning.book) Clash).answer b (opening_log (plan_in morning.book) Clash) z h))
      (ap (λ (x : List ℕ). walked_of plan (x ++ kept text)) empty
      ∙ walk-rule plan text (kept-choice text l ∙ r.1)
      ∙ ap (λ (x : Plan). going (opening_of x Clash).book) (sym p))

  accepted-stands : Accepted morning (has_line text) (before LF text) → Stands plan (w ++ kept text) turn.morning
  unfolding next_entry told_of
  accepted-stands (Accepted.an_end task tick q z h) =
      entry-stands (said.End task tick) refl (seen_step (eqb morning.kept 0) (has_line text) (before LF text) (said.End task tick) q (omega arith))
      (step-taken morning n (has_line text) (before LF text) (said.End task tick) q) z h
  accepted-stands (Accepted.a_drop task q z h) =
      entry-stands (said.Drop task) refl (seen_step (eqb morning.kept 0) (has_line text) (before LF text) (said.Drop task) q (omega arith))
      (step-taken morning n (has_line text) (before LF text) (said.Drop task) q) z h
  accepted-stands (Accepted.the_rule q z h) = rule-stands q z h

  pub line-stands : Stands plan (w ++ cond turn.keeps (kept text) []) turn.morning
  line-stands =
      by_bool turn.keeps
      (λ k. rw k (accepted-stands ((kept-accepted morning n (has_line text) (before LF text)).0 k)))
      (λ k.
      let e = unkept-unchanged morning n (has_line text) (before LF text) k in
      rw k (rw (append-nil w, e) s))

-- ---- all lines

pub session-stands :
    (plan : Plan) → is_accepted plan ≡ true → (f : ℕ) (w : List ℕ) (morning : Morning) (n : ℕ) (text : List ℕ) → Stands plan w morning
    → Stands plan (w ++ (session_from f morning n text).kept) (session_from f morning n text).morning
unfolding session_from
session-stands plan ok zero w morning n text s = rw (append-nil w) s
session-stands plan ok (suc f) w morning n text s =
    by-eq (length text) 0
    (λ z. subst (λ (x : Session). Stands plan (w ++ x.kept) x.morning) (sym (session-empty (suc f) morning n text z)) (rw (append-nil w) s))
    (λ some.
    let t = turn_of morning n (has_line text) (before LF text) in
    let bit = cond t.keeps (kept text) [] in
    let later = session_from f t.morning (n + 1) (after LF text) in
    let r = session-stands plan ok f (w ++ bit) t.morning (n + 1) (after LF text) (line-stands plan ok w morning n text s) in
    subst (λ (x : Session). Stands plan (w ++ x.kept) x.morning) (sym (session-line f morning n text some))
    (subst (λ (x : List ℕ). Stands plan x later.morning) (append_assoc w bit later.kept) r))

-- ---- the start

abbrev tag : Way → ℕ
tag way.Refused = 0
tag way.Stops = 1
tag way.Goes = 2

way-goes : (code : ℕ) (stops : Bool) → way_of code stops ≡ way.Goes → (code ≡ 0) × (stops ≡ false)
unfolding way_of
way-goes code stops =
    by-eq code 0
    (λ z.
    by_bool stops
    (λ s. rw (eq-eqb code 0 z, s) (λ e. let k : ◌≡◌ {A = ℕ} 1 2 = ap tag e in absurd (omega (arith, k))))
    (λ s _. (z, s)))
    (λ n. rw (ne_eqb code 0 n) (λ e. let k : ◌≡◌ {A = ℕ} 0 2 = ap tag e in absurd (omega (arith, k))))

-- what is known where the desk goes on
pub record Goes (plan ends : List ℕ) : Type 0 where
  pub read : (reading_of plan).answer.code ≡ 0
  pub short : length ends ≤ 32768
  pub whole : Whole (text_in ends)
  pub fits : length (text_in ends) ≤ 32768
  pub stands : Stands (reading_of plan).plan (text_in ends) (begun_of plan ends).morning

pub goes_on : (plan ends : List ℕ) → (begun_of plan ends).way ≡ way.Goes → Goes plan ends
unfolding begun_of text_in
goes_on plan ends e =
    let walked = walked_of (reading_of plan).plan (text_in ends) in
    let w = way-goes (reading_of plan).answer.code (ltb 32768 (length ends) || walked.stops) e in
    let o = or_no (ltb 32768 (length ends)) walked.stops w.1 in
    let h : length ends ≤ 32768 = by_le (length ends) 32768 (λ l. l) (λ l. true-false (lt-ltb 32768 (length ends) l) o.0) in
    let t : text_in ends ≡ whole_lines ends = rw o.0 in
    let f : length (text_in ends) ≤ 32768 = rw t (let k = length-take (line_end ends (length ends)) ends in omega (arith, k, h)) in
    let b : Whole (text_in ends) = subst Whole (sym t) (whole-cut ends) in
    record {
      read = w.0;
      short = h;
      whole = b;
      fits = f;
      stands = record {
        whole = b;
        short = f;
        walks = λ i. record { stops = o.1 i; book = walked.book };
        size = refl;
      };
    }

pub stands-begun :
    (plan w : List ℕ) (morning : Morning) → (reading_of plan).answer.code ≡ 0 → Stands (reading_of plan).plan w morning
    → ((begun_of plan w).way ≡ way.Goes) × ((begun_of plan w).morning ≡ morning)
unfolding begun_of way_of
stands-begun plan w morning z s =
    let p = (reading_of plan).plan in
    let t = whole-text w s.whole s.short in
    let k : walked_of p (text_in w) ≡ going morning.book = ap (walked_of p) t ∙ s.walks in
    let l : length (text_in w) ≡ morning.kept = ap length t ∙ sym s.size in (
      rw (eq-eqb (reading_of plan).answer.code 0 z, le-ltb 32768 (length w) s.short) (ap (λ (x : EndsResult). way_of 0 x.stops) k),
      λ i. record { book = (k i).book; kept = l i },
    )

-- the text gone through and what was kept after it
pub read_again :
    (plan ends text : List ℕ) → (begun_of plan ends).way ≡ way.Goes
    → ((begun_of plan (text_in ends ++ (session_of (begun_of plan ends).morning text).kept)).way ≡ way.Goes)
    × ((begun_of plan (text_in ends ++ (session_of (begun_of plan ends).morning text).kept)).morning ≡ (session_of (begun_of plan ends).morning text).morning)
read_again plan ends text e =
    let g = goes_on plan ends e in
    stands-begun plan (text_in ends ++ (session_of (begun_of plan ends).morning text).kept) (session_of (begun_of plan ends).morning text).morning g.read
    (session-stands (reading_of plan).plan (plan-accepted plan g.read) (length text) (text_in ends) (begun_of plan ends).morning 1 text g.stands)

-- ---- the book is sound

told-sound : (book : Book) (entry : Entry) → is_sound book ≡ true → is_sound (told_of 0 book entry).book ≡ true
unfolding told_of
told-sound book entry h = by-eq (told_of 0 book entry).answer.code 0 (entry-sound 0 book entry h) (λ n. stays book entry h n)
  where
    stays : (book : Book) (entry : Entry) → is_sound book ≡ true → (told_of 0 book entry).answer.code ≢ 0 → is_sound (told_of 0 book entry).book ≡ true
    stays book (said.End task tick) h n = rw (report-refused book task tick n) h
    stays book (said.Drop task) h n = rw (drop-refused book task n) h
    stays book (said.Refused code column) h n = h

walk-sound : (f : ℕ) (book : Book) (text : List ℕ) → is_sound book ≡ true → is_sound (walk_from f book text).book ≡ true
unfolding walk_from
walk-sound zero book text h = h
walk-sound (suc f) book text h =
    by-eq (length text) 0
    (λ z. rw (eq-eqb (length text) 0 z, walk_from) h)
    (λ n.
    by-eq (entry_code (next_entry text)) 0
    (λ z.
    rw (ne_eqb (length text) 0 n, eq-eqb (entry_code (next_entry text)) 0 z, walk_from)
    (walk-sound f (told_of 0 book (next_entry text)).book (after LF text) (told-sound book (next_entry text) h)))
    (λ c. rw (ne_eqb (length text) 0 n, ne_eqb (entry_code (next_entry text)) 0 c, walk_from) h))

pub start-sound : (plan ends : List ℕ) → (begun_of plan ends).way ≡ way.Goes → is_sound (begun_of plan ends).morning.book ≡ true
unfolding begun_of walked_of walked_by
start-sound plan ends e = go (choice_of (text_in ends))
  where
    opened : (rule : Rule) → is_sound (opening_of (reading_of plan).plan rule).book ≡ true
    opened rule =
        let ok = plan-accepted plan (goes_on plan ends e).read in
        rw (opening-book (reading_of plan).plan rule ok) (opened-is-sound (reading_of plan).plan rule ok)

    go : (choice : Choice) → is_sound (walked_by choice (reading_of plan).plan (text_in ends)).book ≡ true
    go Unsaid = walk-sound (length (text_in ends)) (opening_of (reading_of plan).plan EarlyStart).book (text_in ends) (opened EarlyStart)
    go Chosen = walk-sound (length (after LF (text_in ends))) (opening_of (reading_of plan).plan Clash).book (after LF (text_in ends)) (opened Clash)
    go (Malformed column) = opened EarlyStart
