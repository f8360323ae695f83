-- The walk over the lines of a log: what is kept, and the rest goes on from there.
use Prim.Native.Nat.{ℕ, suc, ◌+◌, ◌≤◌, ◌<◌, min}
use mathlib.Core.Path.{◌≡◌, refl, sym, ap, ◌∙◌}
use mathlib.Core.Logic.{◌≢◌}
use mathlib.Core.Bool.{Bool, true, false, not, cond, ◌&&◌, ◌||◌}
use mathlib.Core.List.{List, [], ◌∷◌}
use native.Mathlib.Omega.{arith}
use lib.Dec.{leb, ltb}
use lib.ListN.{length, take, drop, length-drop}
use borrow.Author.Tests.{lt-ltb, le-ltb, leb-true}
use Rattle.std.specs.Prelude.{Some, Result, Ok, Err}
use Rattle.laws.specs.Lists.{same}
use Rattle.laws.specs.Split.{index_of, before, after, split_on}
use Rattle.laws.proofs.Cases.{by_bool, true-false, and_l, and_r, or_no}
use Rattle.laws.proofs.Split.{index-le, split-none, split-found}
use Rattle.text.specs.Bytes.{bytes}
use Rattle.text.specs.Number.{is_number, value_of}
use Rattle.text.specs.Line.{LF, field}
use Rattle.text.proofs.Parts.{First, first, first_part}
use Rattle.plan.specs.Read.{ranged}
use Rattle.school.specs.Lines.{is_tick, is_earliness, is_record, is_moment, is_run, says_none, later_said, line_said, said_from, said_in}
use Rattle.school.specs.Said.{LogLine, said}
use Rattle.school.specs.declared.LogLine as line
use Rattle.school.specs.declared.LogLine.TheVariants as read
use Rattle.school_read.specs.Found.{lines_read, found_of}
use Rattle.school_read.specs.Private.Noted.{IsPlaced, found_with}
use Rattle.school_read.specs.declared.Found.{Found}
use Rattle.school_read.proofs.NoteLaws.{note_of, note-is, formed-is, go_on, begun, go-none, go-line, go-stop, go-later, no_first}

-- ---- one line of the rest

module _ (boards tasks : ℕ) (is_first : Bool) (rest : List ℕ) where
  abbrev pub line_and_later : List LogLine
  line_and_later = line_said boards tasks is_first (before LF rest) ∷ said_from boards tasks false (split_on LF (after LF rest))

  said-line : index_of LF rest < length rest → said_from boards tasks is_first (split_on LF rest) ≡ line_and_later
  unfolding said_from
  said-line h = go (first_part LF (after LF rest))
    where
      go : First LF (after LF rest) → said_from boards tasks is_first (split_on LF rest) ≡ line_and_later
      go (first later e) = rw (split-found LF rest h, e)

  said-unended :
      (is_first || ltb 0 (length rest)) ≡ true
      → length rest ≤ index_of LF rest → said_from boards tasks is_first (split_on LF rest) ≡ says_none false ∷ []
  unfolding said_from same
  said-unended t h = rw (split-none LF rest h) (go rest is_first t)
    where
      go :
          (rest : List ℕ) (is_first : Bool) → (is_first || ltb 0 (length rest)) ≡ true
          → cond (is_first || not (same rest [])) (says_none false ∷ []) [] ≡ says_none false ∷ []
      go rest true t = refl
      go [] false t = true-false t refl
      go (b ∷ s) false t = refl

  said-over : (is_first || ltb 0 (length rest)) ≡ false → said_from boards tasks is_first (split_on LF rest) ≡ []
  unfolding said_from split_on same
  said-over t =
      let o = or_no is_first (ltb 0 (length rest)) t in go rest o.0 o.1
    where
      go : (rest : List ℕ) → is_first ≡ false → ltb 0 (length rest) ≡ false → said_from boards tasks is_first (split_on LF rest) ≡ []
      go [] e n = rw e
      go (b ∷ s) e n = true-false (lt-ltb 0 (length (b ∷ s)) (omega arith)) n

-- ---- the task that a line names

module _ (boards tasks : ℕ) (line : List ℕ) where
  moment-task : (word : List ℕ) → is_moment word boards tasks line ≡ true → (1 ≤ value_of (field line 1)) × (value_of (field line 1) ≤ tasks)
  unfolding is_moment
  moment-task word h =
      let task = field line 1 in
      let others : Bool = ranged 1 boards (field line 2) && (is_tick (field line 3) && is_earliness (field line 4)) in
      let r = and_l (ranged 1 tasks task) others (and_r (is_record word 5 line) (ranged 1 tasks task && others) h) in
      let b = and_r (is_number task) (leb 1 (value_of task) && leb (value_of task) tasks) r in (
        leb-true 1 (value_of task) (and_l (leb 1 (value_of task)) (leb (value_of task) tasks) b),
        leb-true (value_of task) tasks (and_r (leb 1 (value_of task)) (leb (value_of task) tasks) b),
      )

  -- a number that is 0, or a task's
  abbrev pub TaskOrNone : ℕ → Type 0
  TaskOrNone n = n ≢ 0 → (1 ≤ n) × (n ≤ tasks)

  pub line-names : TaskOrNone (later_said boards tasks line).start × TaskOrNone (later_said boards tasks line).end
  unfolding later_said
  line-names =
      by_bool (is_moment (bytes "start") boards tasks line)
      (λ e. rw e (λ n. moment-task (bytes "start") e, λ n. absurd (n refl)))
      (λ e.
      by_bool (is_moment (bytes "end") boards tasks line)
      (λ f. rw (e, f) (λ n. absurd (n refl), λ n. moment-task (bytes "end") f))
      (λ f. rw (e, f) (λ n. absurd (n refl), λ n. absurd (n refl))))

-- the place of a start, or an end
pub line-placed : (boards tasks : ℕ) (text : List ℕ) (line : line.LogLine) → tasks ≤ 64 → said (Some line) ≡ later_said boards tasks text → IsPlaced line
line-placed boards tasks text (read.Start m) few e =
    let s = ap (λ (x : LogLine). x.start) e in omega (arith, (line-names boards tasks text).0 (λ z. omega arith))
line-placed boards tasks text (read.End m) few e =
    let s = ap (λ (x : LogLine). x.end) e in omega (arith, (line-names boards tasks text).1 (λ z. omega arith))
line-placed boards tasks text read.Remark few e = tt

-- ---- the walk

pub rest-less :
    (rest : List ℕ) {k : ℕ} → k ≡ index_of LF rest
    → (k ≡ length rest → ⊥) → {next : List ℕ} → next ≡ drop (suc k) rest → length next < length rest
rest-less rest {k} e n q = rw q (omega (arith, length-drop (suc k) rest, index-le LF rest, n))

-- the rest of the lines after the first
abbrev pub later_lines : ℕ → ℕ → List ℕ → List LogLine
later_lines boards tasks rest = said_from boards tasks false (split_on LF rest)

-- so many lines are noted, and the rest goes on from there
pub record Walk (boards tasks : ℕ) (later : List ℕ) (found : Found) (lines : ℕ) (rest : List ℕ) : Type 0 where
  pub goes : go_on lines found (later_lines boards tasks rest) ≡ lines_read (says_none true ∷ later_lines boards tasks later)
  pub few : lines + length rest ≤ length later + 1
  pub short : length later < 9223372036854775808

pub walk_start :
    (boards tasks : ℕ) (later : List ℕ) {found : Found} → found ≡ begun → length later < 9223372036854775808 → Walk boards tasks later found 1 later
walk_start boards tasks later e h = record {
  goes = rw e (go-later (later_lines boards tasks later));
  few = omega arith;
  short = h;
}

module _ {boards tasks : ℕ} {later : List ℕ} {found : Found} {lines : ℕ} {rest : List ℕ} (w : Walk boards tasks later found lines rest) where
  pub walk_room : lines + 1 < 18446744073709551616
  walk_room = omega (arith, w.few, w.short)

  pub walk_end : length rest ≤ 0 → Ok found ≡ lines_read (says_none true ∷ later_lines boards tasks later)
  walk_end t =
      sym (go-none lines found) ∙ ap (go_on lines found) (sym (said-over boards tasks false rest (le-ltb 0 (length rest) t))) ∙ w.goes

  pub walk-unended :
      0 < length rest → {k : ℕ} → k ≡ index_of LF rest → k ≡ length rest
      → Err (lines + 1) ≡ lines_read (says_none true ∷ later_lines boards tasks later)
  walk-unended t e h =
      sym (go-stop lines found (says_none false) [] refl)
      ∙ ap (go_on lines found) (sym (said-unended boards tasks false rest (lt-ltb 0 (length rest) t) (omega arith)))
      ∙ w.goes

  module _ {k : ℕ} (e : k ≡ index_of LF rest) (n : k ≡ length rest → ⊥) {line : LogLine} (s : line ≡ later_said boards tasks (take k rest)) where
    line-here : go_on lines found (line ∷ later_lines boards tasks (after LF rest)) ≡ lines_read (says_none true ∷ later_lines boards tasks later)
    unfolding line_said
    line-here =
        let h : index_of LF rest < length rest = omega (arith, index-le LF rest) in
        let q : line ≡ later_said boards tasks (before LF rest) = rw e at s in
        ap (λ (x : LogLine). go_on lines found (x ∷ later_lines boards tasks (after LF rest))) q
        ∙ ap (go_on lines found) (sym (said-line boards tasks false rest h))
        ∙ w.goes

    pub walk-stops : line ≡ says_none false → Err (lines + 1) ≡ lines_read (says_none true ∷ later_lines boards tasks later)
    walk-stops f = sym (go-stop lines found line _ (ap (λ (x : LogLine). x.formed) f)) ∙ line-here

    walk-goes : line.formed ≡ true → {next : List ℕ} → next ≡ drop (suc k) rest → Walk boards tasks later (note_of found line) (lines + 1) next
    walk-goes f q = record {
      goes = rw (q, e) (sym (go-line lines found line _ f) ∙ line-here);
      few = rw q (omega (arith, length-drop (suc k) rest, n, index-le LF rest, w.few));
      short = w.short;
    }

  pub walk-on :
      {k : ℕ} → k ≡ index_of LF rest → (k ≡ length rest → ⊥) → (line : line.LogLine) → said (Some line) ≡ later_said boards tasks (take k rest)
      → {more : Found} → more ≡ found_with found line → {next : List ℕ} → next ≡ drop (suc k) rest → Walk boards tasks later more (lines + 1) next
  walk-on e n line s m q = rw (m, note-is found line) (walk-goes e n s (formed-is line) q)

-- ---- the first line

module _ (boards tasks : ℕ) (log : List ℕ) {most : ℕ} (m : most ≡ min tasks 64) {k : ℕ} (e : k ≡ index_of LF log) where
  pub first-unended : k ≡ length log → Err 1 ≡ found_of boards tasks log
  unfolding found_of
  first-unended h = no_first [] ∙ ap lines_read (sym (said-unended boards (min tasks 64) true log refl (omega arith)))

  module _ (n : k ≡ length log → ⊥) {run : Bool} (r : run ≡ is_run boards most (take k log)) where
    lines-are : said_in boards (min tasks 64) log ≡ says_none run ∷ later_lines boards most (after LF log)
    unfolding line_said
    lines-are =
        let h : index_of LF log < length log = omega (arith, index-le LF log) in
        said-line boards (min tasks 64) true log h ∙ rw (r, e, m)

    pub first_stops : run ≡ false → Err 1 ≡ found_of boards tasks log
    unfolding found_of
    first_stops f = no_first (later_lines boards most (after LF log)) ∙ ap lines_read (sym (lines-are ∙ rw f))

    pub first_goes :
        run ≡ true → {later : List ℕ} → later ≡ drop (suc k) log → {read : Result Found ℕ}
        → read ≡ lines_read (says_none true ∷ later_lines boards most later) → read ≡ found_of boards tasks log
    unfolding found_of
    first_goes f q p = p ∙ ap lines_read (rw (q, e) (sym (lines-are ∙ rw f)))
