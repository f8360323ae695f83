-- What is kept of the lines so far, with one line more: it is what these lines say.
use Prim.Native.Nat.{ℕ, zero, suc, ◌+◌, ◌<◌}
use native.Mathlib.Numerals.{add-one}
use mathlib.Core.Path.{◌≡◌, refl, sym, ap, ◌∙◌}
use mathlib.Core.Logic.{◌≢◌}
use mathlib.Core.Bool.{Bool, true, false, cond, ◌&&◌}
use mathlib.Core.List.{List, [], ◌∷◌, ◌++◌, append_assoc, append-nil}
use native.Mathlib.Omega.{arith}
use lib.Dec.{eqb}
use lib.ListN.{set, length-set}
use lib.Seq.{ext_get_or, get_or-set_same, get_or-set_other}
use borrow.Author.Tests.{eq-eqb, ne_eqb, eqb-true}
use Rattle.std.specs.Prelude.{Some, Result, Ok, Err}
use Rattle.std.proofs.lemmas.Bool.{eqb-false}
use Rattle.laws.specs.Lists.{all_of, first_not}
use Rattle.laws.proofs.Cases.{by_bool, by-eq}
use Rattle.plan.specs.Value.{at}
use Rattle.school.specs.Lines.{says_none}
use Rattle.school.specs.Tasks.{is_start, is_end, how_many, first_of}
use Rattle.school.specs.Said.{LogLine, said}
use Rattle.school.specs.declared.LogLine as line
use Rattle.school.specs.declared.LogLine.TheVariants as read
use Rattle.book_view.specs.View.{laid}
use Rattle.book_view.proofs.Laid.{length-laid, laid-at, laid_same, zeros-laid}
use Rattle.school_read.specs.Private.Noted.{none_noted, noted_at, with_one, found_with}
use Rattle.school_read.specs.Found.{is_formed, up_to_two, noted, starts_none, ends_none, lines_found, lines_read}
use Rattle.school_read.specs.declared.Found.{Found}
use Rattle.school_read.specs.declared.Noted.{Noted}
use Rattle.school_read.proofs.ReadLaws.{none_kept}

-- with one of task t, which is 0 for none
abbrev pub noted_with : Noted → ℕ → ℕ → ℕ → Noted
noted_with noted zero = λ board tick. noted
noted_with noted (suc i) = noted_at i noted

-- what is found, with one line more
unfoldable pub note_of : Found → LogLine → Found
note_of found said = record {
  starts = noted_with found.starts said.start said.board said.tick;
  ends = noted_with found.ends said.end said.board said.tick;
  startless = cond (starts_none said) (with_one found.startless) found.startless;
  endless = cond (ends_none said) (with_one found.endless) found.endless;
}

module _ (found : Found) where
  with_place : (noted : Noted) (i board tick : ℕ) → noted_at i noted board tick ≡ noted_with noted (i + 1) board tick
  with_place noted i board tick = ap (λ (n : ℕ). noted_with noted n board tick) (sym (add-one i))

  pub note-is : (line : line.LogLine) → found_with found line ≡ note_of found (said (Some line))
  unfolding note_of
  note-is (read.Start m) =
      let e = with_place found.starts m.place m.board m.tick in
      let n : false ≡ eqb (m.place + 1) 0 = sym (ne_eqb (m.place + 1) 0 (λ z. omega arith)) in
      λ i. record {
        starts = e i;
        ends = found.ends;
        startless = cond (n i) (with_one found.startless) found.startless;
        endless = with_one found.endless;
      }
  note-is (read.End m) =
      let e = with_place found.ends m.place m.board m.tick in
      let n : false ≡ eqb (m.place + 1) 0 = sym (ne_eqb (m.place + 1) 0 (λ z. omega arith)) in
      λ i. record {
        starts = found.starts;
        ends = e i;
        startless = with_one found.startless;
        endless = cond (n i) (with_one found.endless) found.endless;
      }
  note-is read.Remark = refl

pub formed-is : (line : line.LogLine) → (said (Some line)).formed ≡ true
formed-is (read.Start m) = refl
formed-is (read.End m) = refl
formed-is read.Remark = refl

-- line by line from line k + 1 on, up to the first that has not its form
unfoldable pub go_on : ℕ → Found → List LogLine → Result Found ℕ
go_on k found [] = Ok found
go_on k found (said ∷ lines) = cond said.formed (go_on (k + 1) (note_of found said) lines) (Err (k + 1))

-- ---- one line more

module _ (p : LogLine → Bool) (said : LogLine) where
  many-same : p said ≡ true → (lines : List LogLine) → how_many p (lines ++ (said ∷ [])) ≡ how_many p lines + 1
  unfolding how_many
  many-same h [] = rw h
  many-same h (x ∷ lines) = let r = many-same h lines in omega arith

  many-other : p said ≡ false → (lines : List LogLine) → how_many p (lines ++ (said ∷ [])) ≡ how_many p lines
  unfolding how_many
  many-other h [] = rw h
  many-other h (x ∷ lines) = rw (many-other h lines)

  first-same : p said ≡ true → (lines : List LogLine) → first_of p (lines ++ (said ∷ [])) ≡ cond (eqb (how_many p lines) 0) said (first_of p lines)
  unfolding how_many first_of
  first-same h [] = rw h
  first-same h (x ∷ lines) =
      by_bool (p x)
      (λ e. rw (e, ne_eqb (1 + how_many p lines) 0 (λ z. omega arith)))
      (λ e. let z : 0 + how_many p lines ≡ how_many p lines = omega arith in rw (e, z) (first-same h lines))

  first-other : p said ≡ false → (lines : List LogLine) → first_of p (lines ++ (said ∷ [])) ≡ first_of p lines
  unfolding first_of
  first-other h [] = rw h
  first-other h (x ∷ lines) = rw (first-other h lines)

-- one place stored anew
put : (f g : ℕ → ℕ) (s v : ℕ) → (s < 64 → v ≡ g s) → ((t : ℕ) → s ≢ t → g t ≡ f t) → set (laid 64 f) s v ≡ laid 64 g
put f g s v here other =
    ext_get_or 0 (set (laid 64 f) s v) (laid 64 g) (length-set (laid 64 f) s v ∙ length-laid 64 f ∙ sym (length-laid 64 g))
    (λ t h.
    let b : t < 64 = omega (arith, length-set (laid 64 f) s v, length-laid 64 f) in
    by-eq s t
    (λ e.
    rw (← e) (get_or-set_same (laid 64 f) s v 0 (omega (arith, length-laid 64 f)) ∙ here (omega arith) ∙ sym (laid-at 64 g (omega arith) s (omega arith))))
    (λ n. get_or-set_other (laid 64 f) s t v 0 (λ e. n (sym e)) ∙ laid-at 64 f (omega arith) t b ∙ sym (other t n) ∙ sym (laid-at 64 g (omega arith) t b)))

-- of the starts, or of the ends
module _ (key : LogLine → ℕ) (said : LogLine) (lines : List LogLine) where
  abbrev by : ℕ → LogLine → Bool
  by i x = eqb (key x) (i + 1)

  abbrev more : List LogLine
  more = lines ++ (said ∷ [])

  abbrev many : List LogLine → ℕ → ℕ
  many seen i = up_to_two (how_many (by i) seen)

  -- a line that says nothing of a task
  module _ (i : ℕ) (no : by i said ≡ false) where
    many-kept : many more i ≡ many lines i
    many-kept = ap up_to_two (many-other (by i) said no lines)

    first_kept : first_of (by i) more ≡ first_of (by i) lines
    first_kept = first-other (by i) said no lines

  no_other : (s i : ℕ) → key said ≡ s + 1 → s ≢ i → by i said ≡ false
  no_other s i k n = ne_eqb (key said) (i + 1) (λ e. n (omega arith))

  none_more : key said ≡ 0 → noted by lines ≡ noted by more
  unfolding noted
  none_more z =
      let no : (i : ℕ) → by i said ≡ false = λ i. ne_eqb (key said) (i + 1) (λ e. omega arith) in
      let a = laid_same 64 (many lines) (many more) (λ i h. sym (many-kept i (no i))) in
      let b = laid_same 64 (λ i. (first_of (by i) lines).board) (λ i. (first_of (by i) more).board) (λ i h. ap (λ (x : LogLine). x.board) (sym (first_kept i (no i)))) in
      let c = laid_same 64 (λ i. (first_of (by i) lines).tick) (λ i. (first_of (by i) more).tick) (λ i h. ap (λ (x : LogLine). x.tick) (sym (first_kept i (no i)))) in
      λ j. record { many = a j; board = b j; tick = c j }

  module _ (s : ℕ) (k : key said ≡ s + 1) where
    it_is : by s said ≡ true
    it_is = eq-eqb (key said) (s + 1) k

    -- the first that says it
    module _ (value : LogLine → ℕ) where
      first_put : eqb (at (laid 64 (many lines)) s) 0 ≡ true → set (laid 64 (λ i. value (first_of (by i) lines))) s (value said) ≡ laid 64 (λ i. value (first_of (by i) more))
      first_put z =
          put (λ i. value (first_of (by i) lines)) (λ i. value (first_of (by i) more)) s (value said)
          (λ h.
          let e : eqb (how_many (by s) lines) 0 ≡ true =
          sym (none_kept (how_many (by s) lines)) ∙ ap (λ (n : ℕ). eqb n 0) (sym (laid-at 64 (many lines) (omega arith) s h)) ∙ z in
          rw (first-same (by s) said it_is lines, e))
          (λ i n. ap value (first_kept i (no_other s i k n)))

      later_same : eqb (at (laid 64 (many lines)) s) 0 ≡ false → laid 64 (λ i. value (first_of (by i) lines)) ≡ laid 64 (λ i. value (first_of (by i) more))
      later_same f =
          laid_same 64 (λ i. value (first_of (by i) lines)) (λ i. value (first_of (by i) more))
          (λ i h.
          by-eq s i
          (λ q.
          let e : eqb (how_many (by i) lines) 0 ≡ false =
          sym (none_kept (how_many (by i) lines)) ∙ ap (λ (n : ℕ). eqb n 0) (sym (laid-at 64 (many lines) (omega arith) i h)) ∙ (rw q at f) in
          let t : by i said ≡ true = rw q at it_is in
          rw (first-same (by i) said t lines, e))
          (λ n. ap value (sym (first_kept i (no_other s i k n)))))

    one_more : (v : ℕ) → (s < 64 → v ≡ up_to_two (how_many (by s) lines + 1)) → set (laid 64 (many lines)) s v ≡ laid 64 (many more)
    one_more v here =
        put (many lines) (many more) s v
        (λ h. here h ∙ ap up_to_two (sym (many-same (by s) said it_is lines)))
        (λ i n. many-kept i (no_other s i k n))

    count_is : s < 64 → at (laid 64 (many lines)) s ≡ up_to_two (how_many (by s) lines)
    count_is h = laid-at 64 (many lines) (omega arith) s h

    some_more : noted_at s (noted by lines) said.board said.tick ≡ noted by more
    unfolding noted
    some_more =
        by_bool (eqb (at (laid 64 (many lines)) s) 0)
        (λ z.
        let n = eqb-true (at (laid 64 (many lines)) s) 0 z in
        let a = one_more 1 (λ h. let q = count_is h in omega arith) in
        let b = first_put (λ x. x.board) z in
        let c = first_put (λ x. x.tick) z in
        rw z (λ j. record { many = a j; board = b j; tick = c j }))
        (λ f.
        let a = one_more 2 (λ h. let q = count_is h in let n = eqb-false (at (laid 64 (many lines)) s) 0 f in omega arith) in
        let b = later_same (λ x. x.board) f in
        let c = later_same (λ x. x.tick) f in
        rw f (λ j. record { many = a j; board = b j; tick = c j }))

  with_turn : (t : ℕ) → key said ≡ t → noted_with (noted by lines) t said.board said.tick ≡ noted by more
  with_turn zero k = none_more k
  with_turn (suc s) k = some_more s (k ∙ sym (add-one s))

-- how many say none, with one line more
count-turn :
    (none : LogLine → Bool) (said : LogLine) (lines : List LogLine)
    → cond (none said) (with_one (up_to_two (how_many none lines))) (up_to_two (how_many none lines)) ≡ up_to_two (how_many none (lines ++ (said ∷ [])))
count-turn none said lines =
    by_bool (none said)
    (λ e. let n = many-same none said e lines in rw e (omega (arith, n)))
    (λ e. let n = many-other none said e lines in rw e (ap up_to_two (sym n)))

note-turn : (said : LogLine) (lines : List LogLine) → note_of (lines_found lines) said ≡ lines_found (lines ++ (said ∷ []))
unfolding note_of
note-turn said lines =
    let a = with_turn (λ x. x.start) said lines said.start refl in
    let b = with_turn (λ x. x.end) said lines said.end refl in
    let c = count-turn starts_none said lines in
    let d = count-turn ends_none said lines in
    λ i. record { starts = a i; ends = b i; startless = c i; endless = d i }

-- ---- all lines

cond_yes : {A : Type 0} {b : Bool} (x y : A) → b ≡ true → cond b x y ≡ x
cond_yes x y e = rw e

cond_no : {A : Type 0} {b : Bool} (x y : A) → b ≡ false → cond b x y ≡ y
cond_no x y e = rw e

module _ (k : ℕ) (found : Found) where
  pub go-none : go_on k found [] ≡ Ok found
  unfolding go_on
  go-none = refl

  module _ (said : LogLine) (lines : List LogLine) where
    pub go-line : said.formed ≡ true → go_on k found (said ∷ lines) ≡ go_on (k + 1) (note_of found said) lines
    unfolding go_on
    go-line e = cond_yes (go_on (k + 1) (note_of found said) lines) (Err (k + 1)) e

    pub go-stop : said.formed ≡ false → go_on k found (said ∷ lines) ≡ Err (k + 1)
    unfolding go_on
    go-stop e = cond_no (go_on (k + 1) (note_of found said) lines) (Err (k + 1)) e

module _ (said : LogLine) (lines : List LogLine) where
  all-line : said.formed ≡ true → all_of is_formed (said ∷ lines) ≡ all_of is_formed lines
  unfolding all_of
  all-line e = ap (λ (b : Bool). b && all_of is_formed lines) e

  all-stop : said.formed ≡ false → all_of is_formed (said ∷ lines) ≡ false
  unfolding all_of
  all-stop e = ap (λ (b : Bool). b && all_of is_formed lines) e

  first_line : said.formed ≡ true → first_not is_formed (said ∷ lines) ≡ suc (first_not is_formed lines)
  unfolding first_not
  first_line e = cond_yes (suc (first_not is_formed lines)) 0 e

  first-stop : said.formed ≡ false → first_not is_formed (said ∷ lines) ≡ 0
  unfolding first_not
  first-stop e = cond_no (suc (first_not is_formed lines)) 0 e

all_none : all_of is_formed [] ≡ true
unfolding all_of
all_none = refl

go_all :
    (k : ℕ) (seen lines : List LogLine)
    → go_on k (lines_found seen) lines ≡ cond (all_of is_formed lines) (Ok (lines_found (seen ++ lines))) (Err (k + first_not is_formed lines + 1))
go_all k seen [] = go-none k (lines_found seen) ∙ rw (all_none, append-nil seen)
go_all k seen (said ∷ lines) =
    by_bool said.formed
    (λ e.
    let n : k + 1 + first_not is_formed lines + 1 ≡ k + suc (first_not is_formed lines) + 1 = omega arith in
    go-line k (lines_found seen) said lines e
    ∙ ap (λ (found : Found). go_on (k + 1) found lines) (note-turn said seen)
    ∙ go_all (k + 1) (seen ++ (said ∷ [])) lines
    ∙ rw (all-line said lines e, first_line said lines e, append_assoc seen (said ∷ []) lines, n))
    (λ e.
    let n : k + 1 ≡ k + 0 + 1 = omega arith in
    go-stop k (lines_found seen) said lines e ∙ rw (all-stop said lines e, first-stop said lines e) (ap Err n))

abbrev nothing : Found
nothing = record { starts = none_noted; ends = none_noted; startless = 0; endless = 0 }

-- with a first line that has its form
abbrev pub begun : Found
begun = record { starts = none_noted; ends = none_noted; startless = 1; endless = 1 }

none_is : (by : ℕ → LogLine → Bool) → none_noted ≡ noted by []
unfolding noted how_many first_of
none_is by = let z = zeros-laid 64 in λ i. record { many = z i; board = z i; tick = z i }

pub begun_of :
    {starts ends : Noted} → starts ≡ none_noted → ends ≡ none_noted
    → ◌≡◌ {A = Found} (record { starts = starts; ends = ends; startless = 1; endless = 1 }) begun
begun_of a b = λ i. record { starts = a i; ends = b i; startless = 1; endless = 1 }

nothing_is : nothing ≡ lines_found []
unfolding how_many
nothing_is = λ i. record { starts = none_is is_start i; ends = none_is is_end i; startless = 0; endless = 0 }

-- lines after a first one that has its form
pub go-later : (lines : List LogLine) → go_on 1 begun lines ≡ lines_read (says_none true ∷ lines)
unfolding lines_read note_of
go-later lines =
    let n : 0 + first_not is_formed (says_none true ∷ lines) + 1 ≡ first_not is_formed (says_none true ∷ lines) + 1 = omega arith in
    sym (go-line 0 nothing (says_none true) lines refl)
    ∙ ap (λ (found : Found). go_on 0 found (says_none true ∷ lines)) nothing_is
    ∙ go_all 0 [] (says_none true ∷ lines)
    ∙ rw n

pub no_first : (lines : List LogLine) → Err 1 ≡ lines_read (says_none false ∷ lines)
unfolding lines_read
no_first lines = rw (all-stop (says_none false) lines refl, first-stop (says_none false) lines refl)
