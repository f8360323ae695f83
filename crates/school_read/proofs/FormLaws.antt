-- The forms of a line, by the tests of its parts.
use Prim.Native.Nat.{ℕ, suc, ◌+◌, ◌-◌, ◌≤◌, ◌<◌}
use mathlib.Core.Path.{◌≡◌, refl, sym, ap, ◌∙◌}
use mathlib.Core.Bool.{Bool, true, false, ◌&&◌, ◌||◌}
use mathlib.Core.List.{List, ◌∷◌}
use native.Mathlib.Omega.{arith}
use lib.Dec.{eqb, leb, ltb}
use lib.ListN.{length, drop}
use Rattle.std.specs.Prelude.{Option, None, Some}
use Rattle.std.specs.Bool.{then_some}
use borrow.Author.Tests.{lt-ltb, le-ltb, leb-true}
use Rattle.laws.specs.Lists.{same}
use Rattle.laws.specs.Split.{before}
use Rattle.laws.proofs.Lists.{same-eq}
use Rattle.laws.proofs.Cases.{by_bool, by_le, and_l, and_r, and_no, or-false}
use Rattle.text.specs.Bytes.{bytes}
use Rattle.text.specs.Number.{is_number, value_of, most}
use Rattle.text.specs.Line.{TAB, fields, field}
use Rattle.text.proofs.Parts.{part-within, parts_last}
use Rattle.plan.specs.Read.{ranged}
use Rattle.school.specs.Lines.{is_tick, is_earliness, is_moment, is_remark, is_run, says_none, later_said}
use Rattle.school.specs.Said.{LogLine, said}
use Rattle.school.specs.declared.LogLine.TheVariants as read
use Rattle.school.specs.declared.Moment.{Moment}
use Rattle.school_read.specs.Private.Rest.{number_in, moment_rest, moment_in, two_ticks, three_ticks, remark_rest}
use Rattle.school_read.proofs.PartLaws.{eqb-suc, parts-on, parts-stop, more-on, ranged-free, earliness-free, last-field, number-none, number-some}

swap : (a e b : Bool) → (a && (e && b)) ≡ (e && (a && b))
swap true e b = refl
swap false e b = sym (and_no e)

-- ---- ticks alone

module _ (rest part more : List ℕ) (e : part ≡ before TAB rest) (q : more ≡ drop (suc (length part)) rest) where
  pub two_is : {a b : Bool} → a ≡ is_tick part → b ≡ is_tick more → (ltb (length part) (length rest) && (a && b)) ≡ two_ticks rest
  unfolding two_ticks
  two_is p r =
      rw (p, r)
      (by_le (length rest) (length part)
      (λ h. rw (le-ltb (length part) (length rest) h, (parts-stop rest part more e q h).0))
      (λ h.
      rw (lt-ltb (length part) (length rest) h, parts-on rest part more e q h, eqb-suc (length (fields more)) 1, last-field is_tick more (ranged-free 0 most more))
      (swap (is_tick part) (eqb (length (fields more)) 1) (is_tick (field more 0)))))

  pub three-is : {a b : Bool} → a ≡ is_tick part → b ≡ two_ticks more → (ltb (length part) (length rest) && (a && b)) ≡ three_ticks rest
  unfolding two_ticks three_ticks
  three-is p r =
      rw (p, r)
      (by_le (length rest) (length part)
      (λ h. rw (le-ltb (length part) (length rest) h, (parts-stop rest part more e q h).0))
      (λ h.
      rw (lt-ltb (length part) (length rest) h, parts-on rest part more e q h, eqb-suc (length (fields more)) 2)
      (swap (is_tick part) (eqb (length (fields more)) 2) (is_tick (field more 0) && is_tick (field more 1)))))

-- ---- a start

module _ (rest p0 r1 p1 r2 p2 r3 : List ℕ)
    (e0 : p0 ≡ before TAB rest) (q0 : r1 ≡ drop (suc (length p0)) rest)
    (e1 : p1 ≡ before TAB r1) (q1 : r2 ≡ drop (suc (length p1)) r1)
    (e2 : p2 ≡ before TAB r2) (q2 : r3 ≡ drop (suc (length p2)) r2) where
  four-parts : length p2 < length r2 → fields rest ≡ p0 ∷ p1 ∷ p2 ∷ fields r3
  four-parts h =
      let h1 = more-on r1 p1 r2 e1 q1 (omega arith) in
      let h0 = more-on rest p0 r1 e0 q0 (omega arith) in
      parts-on rest p0 r1 e0 q0 h0 ∙ rw (parts-on r1 p1 r2 e1 q1 h1, parts-on r2 p2 r3 e2 q2 h)

  no_four : length r2 ≤ length p2 → eqb (length (fields rest)) 4 ≡ false
  no_four h =
      by_le (length rest) (length p0)
      (λ g. rw (parts-stop rest p0 r1 e0 q0 g).0)
      (λ g.
      by_le (length r1) (length p1)
      (λ f. rw (parts-on rest p0 r1 e0 q0 g, (parts-stop r1 p1 r2 e1 q1 f).0))
      (λ f. rw (parts-on rest p0 r1 e0 q0 g, parts-on r1 p1 r2 e1 q1 f, (parts-stop r2 p2 r3 e2 q2 h).0)))

  module _ (boards tasks : ℕ) where
    -- the tests of its parts
    abbrev fine : Bool
    fine =
        ltb (length p2) (length r2) && (ranged 1 tasks p0 && (ranged 1 boards p1 && (is_tick p2 && is_earliness r3)))

    moment-is : fine ≡ moment_rest boards tasks rest
    unfolding moment_rest
    moment-is =
        let a = ranged 1 tasks p0 in
        let b = ranged 1 boards p1 in
        let c = is_tick p2 in
        let d = is_earliness (field r3 0) in
        let n = eqb (length (fields r3)) 1 in
        by_le (length r2) (length p2)
        (λ h. rw (le-ltb (length p2) (length r2) h, no_four h))
        (λ h.
        rw (
          lt-ltb (length p2) (length r2) h,
          four-parts h,
          eqb-suc (suc (suc (length (fields r3)))) 3,
          eqb-suc (suc (length (fields r3))) 2,
          eqb-suc (length (fields r3)) 1,
          last-field is_earliness r3 (earliness-free r3),
        )
        (ap (λ (t : Bool). a && (b && t)) (swap c n d) ∙ ap (λ (t : Bool). a && t) (swap b n (c && d)) ∙ swap a n (b && (c && d))))

    none-said : fine ≡ false → None ≡ moment_in boards tasks rest
    unfolding moment_in
    none-said e = rw (sym moment-is ∙ e)

    pub moment-unended : length p2 ≡ length r2 → None ≡ moment_in boards tasks rest
    moment-unended h = none-said (rw (le-ltb (length p2) (length r2) (omega arith)))

    pub moment-unearly : {d : Bool} → d ≡ is_earliness r3 → d ≡ false → None ≡ moment_in boards tasks rest
    moment-unearly e f =
        none-said
        (rw (sym e ∙ f, and_no (is_tick p2), and_no (ranged 1 boards p1), and_no (ranged 1 tasks p0), and_no (ltb (length p2) (length r2))))

    pub moment-no-task : None ≡ number_in 1 tasks p0 → None ≡ moment_in boards tasks rest
    moment-no-task e = none-said (rw (number-none 1 tasks p0 e, and_no (ltb (length p2) (length r2))))

    pub moment-no-board : None ≡ number_in 1 boards p1 → None ≡ moment_in boards tasks rest
    moment-no-board e =
        none-said (rw (number-none 1 boards p1 e, and_no (ranged 1 tasks p0), and_no (ltb (length p2) (length r2))))

    pub moment-no-tick : None ≡ number_in 0 most p2 → None ≡ moment_in boards tasks rest
    moment-no-tick e =
        none-said
        (rw (number-none 0 most p2 e, and_no (ranged 1 boards p1), and_no (ranged 1 tasks p0), and_no (ltb (length p2) (length r2))))

    pub moment-said :
        (length p2 ≡ length r2 → ⊥) → {d : Bool} → d ≡ is_earliness r3 → d ≡ true → {x y z : ℕ} → Some x ≡ number_in 1 tasks p0
        → Some y ≡ number_in 1 boards p1 → Some z ≡ number_in 0 most p2
        → Some (let m : Moment = record { place = x - 1; board = y; tick = z } in m) ≡ moment_in boards tasks rest
    unfolding moment_in
    moment-said n e f a b c =
        let h : length p2 < length r2 = omega (arith, n, part-within TAB r2 p2 e2) in
        let x = number-some 1 tasks p0 a in
        let y = number-some 1 boards p1 b in
        let z = number-some 0 most p2 c in
        let t : fine ≡ true = rw (lt-ltb (length p2) (length r2) h, x.0, y.0, z.0, sym e ∙ f) in
        rw (sym moment-is ∙ t, four-parts h, x.1, y.1, z.1)

-- ---- a line

pub other_word : (s w v : List ℕ) → same s w ≡ true → same w v ≡ false → same s v ≡ false
other_word s w v h n = rw (same-eq s w h) n

module _ (word rest : List ℕ) where
  pub remark-early : {s : Bool} → s ≡ same word (bytes "early") → s ≡ true → {r : Bool} → r ≡ two_ticks rest → r ≡ remark_rest word rest
  unfolding remark_rest same
  remark-early e t q =
      let h : same word (bytes "early") ≡ true = sym e ∙ t in
      q ∙ rw (h, other_word word (bytes "early") (bytes "refused") h refl, or-false (two_ticks rest))

  module _ {s : Bool} (e : s ≡ same word (bytes "early")) (n : s ≡ false) {u : Bool} (f : u ≡ same word (bytes "refused")) where
    pub remark-refused : u ≡ true → {r : Bool} → r ≡ three_ticks rest → r ≡ remark_rest word rest
    unfolding remark_rest
    remark-refused t q = q ∙ rw (← e, n, ← f, t)

    pub remark-none : u ≡ false → false ≡ remark_rest word rest
    unfolding remark_rest
    remark-none t = rw (← e, n, ← f, t)

-- the start, or the end, that is said there
abbrev pub start_said : Option Moment → LogLine
start_said None = said None
start_said (Some moment) = said (Some (read.Start moment))

abbrev pub end_said : Option Moment → LogLine
end_said None = said None
end_said (Some moment) = said (Some (read.End moment))

remark_said : (x : Bool) → said (then_some x read.Remark) ≡ says_none x
remark_said true = refl
remark_said false = refl

module _ (boards tasks : ℕ) (line : List ℕ) {word : List ℕ} (e : word ≡ before TAB line) where
  pub said-word : length word ≡ length line → says_none false ≡ later_said boards tasks line
  unfolding later_said is_moment is_remark
  said-word h = rw (parts_last TAB line word e h)

  module _ (n : length word ≡ length line → ⊥) {rest : List ℕ} (q : rest ≡ drop (suc (length word)) line) where
    fields-on : fields line ≡ word ∷ fields rest
    fields-on = parts-on line word rest e q (omega (arith, n, part-within TAB line word e))

    shift : (a b c : Bool) → ((a && b) && c) ≡ (b && (a && c))
    shift true b c = refl
    shift false b c = sym (and_no b)

    moment-of : (w : List ℕ) → is_moment w boards tasks line ≡ (same word w && moment_rest boards tasks rest)
    unfolding is_moment moment_rest
    moment-of w = rw (fields-on, eqb-suc (length (fields rest)) 4) (shift (eqb (length (fields rest)) 4) (same word w) _)

    remark-of : is_remark line ≡ remark_rest word rest
    unfolding is_remark remark_rest two_ticks three_ticks
    remark-of =
        rw (fields-on, eqb-suc (length (fields rest)) 2, eqb-suc (length (fields rest)) 3)
        (rw (
          shift (eqb (length (fields rest)) 2) (same word (bytes "early")) (is_tick (field rest 0) && is_tick (field rest 1)),
          shift (eqb (length (fields rest)) 3) (same word (bytes "refused")) (is_tick (field rest 0) && (is_tick (field rest 1) && is_tick (field rest 2))),
        ))

    -- a task's number, by its place
    its-place : moment_rest boards tasks rest ≡ true → value_of (field rest 0) - 1 + 1 ≡ value_of (field rest 0)
    unfolding moment_rest
    its-place m =
        let n = value_of (field rest 0) in
        let others = ranged 1 boards (field rest 1) && (is_tick (field rest 2) && is_earliness (field rest 3)) in
        let r = and_l (ranged 1 tasks (field rest 0)) others (and_r (eqb (length (fields rest)) 4) (ranged 1 tasks (field rest 0) && others) m) in
        let b = and_l (leb 1 n) (leb n tasks) (and_r (is_number (field rest 0)) (leb 1 n && leb n tasks) r) in
        let l = leb-true 1 n b in
        omega arith

    pub said-start : {t : Bool} → t ≡ same word (bytes "start") → t ≡ true → {r : Option Moment} → r ≡ moment_in boards tasks rest → start_said r ≡ later_said boards tasks line
    unfolding later_said moment_in remark_rest same
    said-start f t p =
        let h : same word (bytes "start") ≡ true = sym f ∙ t in
        ap start_said p
        ∙ rw (
          moment-of (bytes "start"),
          moment-of (bytes "end"),
          remark-of,
          h,
          other_word word (bytes "start") (bytes "end") h refl,
          other_word word (bytes "start") (bytes "early") h refl,
          other_word word (bytes "start") (bytes "refused") h refl,
          fields-on,
        )
        (by_bool (moment_rest boards tasks rest) (λ m. let p = its-place m in rw (m, p)) (λ m. rw m))

    module _ {t : Bool} (f : t ≡ same word (bytes "start")) (other : t ≡ false) {u : Bool} (g : u ≡ same word (bytes "end")) where
      pub said-end : u ≡ true → {r : Option Moment} → r ≡ moment_in boards tasks rest → end_said r ≡ later_said boards tasks line
      unfolding later_said moment_in remark_rest same
      said-end v p =
          let h : same word (bytes "end") ≡ true = sym g ∙ v in
          ap end_said p
          ∙ rw (
            moment-of (bytes "start"),
            moment-of (bytes "end"),
            remark-of,
            h,
            ← f,
            other,
            other_word word (bytes "end") (bytes "early") h refl,
            other_word word (bytes "end") (bytes "refused") h refl,
            fields-on,
          )
          (by_bool (moment_rest boards tasks rest) (λ m. let p = its-place m in rw (m, p)) (λ m. rw m))

      pub said-remark : u ≡ false → {x : Bool} → x ≡ remark_rest word rest → said (then_some x read.Remark) ≡ later_said boards tasks line
      unfolding later_said
      said-remark v {x} p =
          remark_said x ∙ rw (moment-of (bytes "start"), moment-of (bytes "end"), remark-of, ← f, other, ← g, v, p)

-- ---- the first line

module _ (boards tasks : ℕ) (line : List ℕ) {count : ℕ} (n : count ≡ length (fields line)) {f0 f1 g1 f4 f2 f3 : List ℕ}
    (e0 : f0 ≡ field line 0) {run : Bool} (run_is : run ≡ same f0 (bytes "run")) (e1 : f1 ≡ field line 1) {one : Bool} (one-is : one ≡ same f1 (bytes "1"))
    (e2 : g1 ≡ field line 1) {two : Bool} (two_is : two ≡ same g1 (bytes "2")) (e4 : f4 ≡ field line 4) {clash : Bool} (clash-is : clash ≡ same f4 (bytes "clash"))
    (e5 : f2 ≡ field line 2) {b : Bool} (b-is : b ≡ ranged boards boards f2) (e6 : f3 ≡ field line 3) {t : Bool} (t-is : t ≡ ranged tasks tasks f3) where
  pub run-reads : ((((eqb count 4 && run) && one) || ((eqb count 5 && run) && (two && clash))) && (b && t)) ≡ is_run boards tasks line
  unfolding is_run
  run-reads = rw (run_is, one-is, two_is, clash-is, b-is, t-is, n, e0, e1, e2, e4, e5, e6)
