-- The desk's start, by the tests that lead to it.
use Prim.Native.Nat.{ℕ, zero, suc, ◌-◌, ◌≤◌, ◌<◌}
use mathlib.Core.Path.{◌≡◌, refl, sym, ap, subst, ◌∙◌}
use mathlib.Core.Logic.{◌≢◌}
use mathlib.Core.Bool.{Bool, true, false, ◌||◌}
use mathlib.Core.List.{List}
use native.Mathlib.Omega.{arith}
use lib.Dec.{ltb}
use lib.ListN.{length, take}
use lib.Seq.{sets}
use borrow.Author.Tests.{eq-eqb, ne_eqb, lt-ltb, le-ltb, le-leb}
use Rattle.laws.proofs.Cases.{by-eq}
use Rattle.laws.specs.Split.{after}
use Rattle.text.specs.Line.{LF}
use Rattle.plan.specs.Read.{reading_of}
use Rattle.plan.specs.Value.{at}
use Rattle.plan.specs.declared.Answer.{Answer}
use Rattle.plan.specs.declared.Plan.{Plan}
use Rattle.plan.specs.declared.Reading.{Reading}
use Rattle.book.specs.Open.{opening_of}
use Rattle.book.specs.Report.{reported_of}
use Rattle.book.specs.Drop.{dropped_of}
use Rattle.book.specs.declared.Book.{Book}
use Rattle.book.specs.declared.BookResult.{BookResult}
use Rattle.book.specs.declared.Rule.TheVariants.{EarlyStart, Clash}
use Rattle.log_read.specs.Entries.{next_entry, entry_code}
use Rattle.log_read.specs.Rules.{choice_of}
use Rattle.log_read.specs.Said.{Choice}
use Rattle.log_read.specs.Said.Choice.{Unsaid, Chosen, Malformed}
use Rattle.log_read.specs.Said.{Entry}
use Rattle.log_read.specs.Said.Entry.{End, Drop}
use Rattle.log_read.proofs.TextLaws.{line-used}
use Rattle.log_run.specs.Log.{told_of, log_of, log_most, log_in}
use Rattle.desk_start.specs.Start.{line_end, text_in, stopping, going, walk_from, walk_in, walked_by, walked_of, way_of, start_log, begun_of}
use Rattle.desk_start.specs.declared.Way as ways
use Rattle.desk_start.specs.declared.Way.TheVariants as way
use Rattle.desk_start.specs.declared.EndsResult.{EndsResult}
use Rattle.desk_start.specs.declared.DeskOpening.{DeskOpening}

-- ---- the last LF

module _ (text : List ℕ) where
  pub end-here : (n : ℕ) → 0 < n → at text (n - 1) ≡ 10 → n ≡ line_end text n
  unfolding line_end
  end-here zero h e = absurd (omega arith)
  end-here (suc n) h e =
      let e' : at text n ≡ 10 = subst (λ (k : ℕ). at text k ≡ 10) (pred n) e in rw (eq-eqb (at text n) 10 e')
    where
      pred : (n : ℕ) → suc n - 1 ≡ n
      pred n = omega arith

  pub end_before : (n : ℕ) → 0 < n → at text (n - 1) ≢ 10 → line_end text (n - 1) ≡ line_end text n
  unfolding line_end
  end_before zero h e = absurd (omega arith)
  end_before (suc n) h e =
      let q : suc n - 1 ≡ n = omega arith in
      let e' : at text n ≢ 10 = subst (λ (k : ℕ). at text k ≢ 10) q e in
      ap (line_end text) q ∙ rw (ne_eqb (at text n) 10 e')

  pub end_none : (n : ℕ) → n ≤ 0 → 0 ≡ line_end text n
  unfolding line_end
  end_none zero h = refl
  end_none (suc n) h = absurd (omega arith)

  pub end-le : (n : ℕ) → line_end text n ≤ n
  unfolding line_end
  end-le zero = omega arith
  end-le (suc n) =
      let r = end-le n in
      by-eq (at text n) 10 (λ e. rw (eq-eqb (at text n) 10 e) (omega arith)) (λ e. rw (ne_eqb (at text n) 10 e) (omega arith))

  pub cut-le : {n : ℕ} → n ≡ line_end text (length text) → n ≤ length text
  cut-le e = omega (arith, e, end-le (length text))

  pub text-long : 32768 < length text → text ≡ text_in text
  unfolding text_in
  text-long h = rw (lt-ltb 32768 (length text) h)

  pub text-short : {n : ℕ} → length text ≤ 32768 → n ≡ line_end text (length text) → take n text ≡ text_in text
  unfolding text_in
  text-short h e = rw (le-ltb 32768 (length text) h) (ap (λ (k : ℕ). take k text) e)

-- ---- the book after an entry

module _ (book : Book) {now : Book} {answer : Answer} where
  pub after-end : (task tick : ℕ) → reported_of book task tick ≡ record { answer = answer; book = now } → now ≡ (told_of 0 book (End task tick)).book
  unfolding told_of
  after-end task tick e = ap (λ (x : BookResult). x.book) (sym e)

  pub after-drop : (task : ℕ) → dropped_of book task ≡ record { answer = answer; book = now } → now ≡ (told_of 0 book (Drop task)).book
  unfolding told_of
  after-drop task e = ap (λ (x : BookResult). x.book) (sym e)

-- ---- the walk: its fuel is enough

walk-empty : (f : ℕ) (book : Book) (s : List ℕ) → length s ≡ 0 → walk_from f book s ≡ going book
unfolding walk_from
walk-empty zero book s h = refl
walk-empty (suc f) book s h = rw (eq-eqb (length s) 0 h, walk_from)

abbrev pub next_book : Book → List ℕ → Book
next_book book s = (told_of 0 book (next_entry s)).book

module _ (f : ℕ) (book : Book) (s : List ℕ) (some : length s ≢ 0) where
  walk-stop : entry_code (next_entry s) ≢ 0 → walk_from (suc f) book s ≡ stopping book
  unfolding walk_from
  walk-stop h = rw (ne_eqb (length s) 0 some, ne_eqb (entry_code (next_entry s)) 0 h, walk_from)

  walk_turn : entry_code (next_entry s) ≡ 0 → walk_from (suc f) book s ≡ walk_from f (next_book book s) (after LF s)
  unfolding walk_from
  walk_turn z = rw (ne_eqb (length s) 0 some, eq-eqb (entry_code (next_entry s)) 0 z, walk_from)

fuel : (f g : ℕ) (book : Book) (s : List ℕ) → length s ≤ f → length s ≤ g → walk_from f book s ≡ walk_from g book s
fuel zero g book s p q = walk-empty zero book s (omega arith) ∙ sym (walk-empty g book s (omega arith))
fuel (suc f) zero book s p q = walk-empty (suc f) book s (omega arith) ∙ sym (walk-empty zero book s (omega arith))
fuel (suc f) (suc g) book s p q =
    by-eq (length s) 0
    (λ z. walk-empty (suc f) book s z ∙ sym (walk-empty (suc g) book s z))
    (λ some.
    by-eq (entry_code (next_entry s)) 0
    (λ t.
    walk_turn f book s some t
    ∙ fuel f g (next_book book s) (after LF s) (omega (arith, line-used s t)) (omega (arith, line-used s t))
    ∙ sym (walk_turn g book s some t))
    (λ h. walk-stop f book s some h ∙ sym (walk-stop g book s some h)))

module _ (book : Book) (s : List ℕ) where
  pub in-none : length s ≡ 0 → walk_in book s ≡ going book
  in-none h = walk-empty (length s) book s h

  module _ (some : 0 < length s) where
    more : walk_in book s ≡ walk_from (suc (length s)) book s
    more = fuel (length s) (suc (length s)) book s (omega arith) (omega arith)

    pub in-stop : entry_code (next_entry s) ≢ 0 → walk_in book s ≡ stopping book
    in-stop h = more ∙ walk-stop (length s) book s (λ z. omega arith) h

    pub in-turn : entry_code (next_entry s) ≡ 0 → walk_in book s ≡ walk_in (next_book book s) (after LF s)
    in-turn t =
        more ∙ walk_turn (length s) book s (λ z. omega arith) t
        ∙ fuel (length s) (length (after LF s)) (next_book book s) (after LF s) (omega (arith, line-used s t)) (omega arith)

-- what the code has: an entry and the book after it
module _ (book : Book) (rest : List ℕ) {whole : EndsResult} (w : walk_in book rest ≡ whole) where
  pub walked_end : length rest ≤ 0 → going book ≡ whole
  walked_end h = sym (in-none book rest (omega arith)) ∙ w

  pub walked-stops : 0 < length rest → entry_code (next_entry rest) ≢ 0 → stopping book ≡ whole
  walked-stops some h = sym (in-stop book rest some h) ∙ w

  pub walked-goes :
      {entry : Entry} → entry ≡ next_entry rest → 0 < length rest → entry_code (next_entry rest) ≡ 0 → {next : List ℕ} {b : Book}
      → b ≡ (told_of 0 book entry).book → next ≡ after LF rest → walk_in b next ≡ whole
  walked-goes n some z {next} {b} e u =
      let e' = e ∙ ap (λ (x : Entry). (told_of 0 book x).book) n in (λ i. walk_in (e' i) (u i)) ∙ sym (in-turn book rest some z) ∙ w

-- ---- by the first line

module _ (plan : Plan) (text : List ℕ) {choice : Choice} (k : choice ≡ choice_of text) {r : EndsResult} where
  walked_by_lem : (this : Choice) → choice ≡ this → r ≡ walked_by this plan text → r ≡ walked_of plan text
  unfolding walked_of
  walked_by_lem this q e = e ∙ ap (λ (x : Choice). walked_by x plan text) (sym q ∙ k)

  pub walked-unsaid : {b : Book} → choice ≡ Unsaid → b ≡ (opening_of plan EarlyStart).book → r ≡ walk_in b text → r ≡ walked_of plan text
  unfolding walked_by
  walked-unsaid q o e = walked_by_lem Unsaid q (e ∙ ap (λ (x : Book). walk_in x text) o)

  pub walked-chosen :
      {b : Book} → choice ≡ Chosen → b ≡ (opening_of plan Clash).book → {rest : List ℕ} → rest ≡ after LF text → r ≡ walk_in b rest → r ≡ walked_of plan text
  unfolding walked_by
  walked-chosen q o u e = walked_by_lem Chosen q (e ∙ (λ i. walk_in (o i) (u i)))

  pub walked-malformed : {b : Book} {column : ℕ} → choice ≡ Malformed column → b ≡ (opening_of plan EarlyStart).book → r ≡ stopping b → r ≡ walked_of plan text
  unfolding walked_by
  walked-malformed {column = column} q o e = walked_by_lem (Malformed column) q (e ∙ ap stopping o)

-- ---- how the desk goes on

module _ (code : ℕ) (stops : Bool) where
  pub way-refused : code ≢ 0 → way.Refused ≡ way_of code stops
  unfolding way_of
  way-refused n = rw (ne_eqb code 0 n)

  pub way-stops : code ≡ 0 → stops ≡ true → way.Stops ≡ way_of code stops
  unfolding way_of
  way-stops z s = rw (eq-eqb code 0 z, s)

  pub way-goes : code ≡ 0 → stops ≡ false → way.Goes ≡ way_of code stops
  unfolding way_of
  way-goes z s = rw (eq-eqb code 0 z, s)

module _ (plan ends out : List ℕ) {written : List ℕ} {n : ℕ} (s : length out ≡ 212992) {text : List ℕ} (t : text ≡ text_in ends)
    (count : n ≡ length (log_in (length out) plan text)) (bytes : written ≡ sets out 0 (log_in (length out) plan text)) (small : n ≤ log_most)
    {reading : Reading} (q : reading ≡ reading_of plan) {walked : EndsResult} (w : walked ≡ walked_of reading.plan text)
    {this : ways.Way} (y : this ≡ way_of reading.answer.code (ltb 32768 (length ends) || walked.stops)) where
  pub begun-is :
      (◌≡◌ {A = DeskOpening} (record { way = this; length = n; morning = record { book = walked.book; kept = length text } }) (begun_of plan ends))
      × (written ≡ sets out 0 (start_log plan ends)) × (n ≤ log_most)
  unfolding begun_of
  begun-is =
      let all : log_in (length out) plan text ≡ start_log plan ends = rw (le-leb log_most (length out) (omega (arith, s))) (ap (log_of plan) t) in
      let v : walked ≡ walked_of (reading_of plan).plan (text_in ends) = w ∙ (λ i. walked_of (q i).plan (t i)) in
      let x : this ≡ way_of (reading_of plan).answer.code (ltb 32768 (length ends) || (walked_of (reading_of plan).plan (text_in ends)).stops) =
      y ∙ (λ i. way_of (q i).answer.code (ltb 32768 (length ends) || (v i).stops)) in
      let c : n ≡ length (start_log plan ends) = count ∙ ap length all in
      ((λ i. record { way = x i; length = c i; morning = record { book = (v i).book; kept = length (t i) } }), bytes ∙ ap (sets out 0) all, small)
