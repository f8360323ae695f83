-- The lines, one after the other.
use Prim.Native.Nat.{ℕ, ◌+◌, ◌-◌, ◌*◌, ◌≤◌, ◌<◌}
use native.Mathlib.Omega.{arith}
use native.Mathlib.Numerals.{add-one}
use mathlib.Core.Path.{◌≡◌, refl, sym, ap, ◌∙◌}
use mathlib.Core.Logic.{◌≢◌}
use mathlib.Core.Bool.{Bool, true, false, cond, ◌&&◌}
use mathlib.Core.List.{List, [], ◌∷◌, ◌++◌, append_assoc}
use lib.Dec.{leb, eqb}
use lib.ListN.{length}
use lib.Seq.{sets}
use borrow.Author.Tests.{eq-eqb, ne_eqb, le-leb, lt-leb, lt-ltb, le-ltb}
use Rattle.laws.proofs.Every.{every-turn}
use Rattle.laws.specs.Digits.{digits_of}
use Rattle.laws.specs.Every.{every}
use Rattle.laws.specs.Split.{join_on}
use Rattle.laws.proofs.Width.{ten-digits}
use Rattle.text.specs.Bytes.{bytes}
use Rattle.text.specs.Line.{line_text, lines_below}
use Rattle.text.specs.Put.{Put}
use Rattle.plan.specs.Value.{at}
use Rattle.plan.specs.declared.Answer.{Answer}
use Rattle.log_write.specs.Lines.{Lined, refused_line}
use Rattle.log_write.specs.Private.Wrote.{Wrote}
use Rattle.log_write.proofs.WriteLaws.{whole, looser, also, wrote-length, wrote-line, nothing}
use Rattle.school.specs.Text.{early_text, figure_lines, verdict_line, judged_text, judged_most}
use Rattle.school_write.specs.Lines.{finishing, ended, are_ticks, lines_in}
use Rattle.school_write.specs.Private.Figures.{figures_of}

-- ---- ticks early

module _ (planned tick : ℕ) {out : List ℕ} {p : ℕ} {m : List ℕ} {q : ℕ} (fits : p + 11 ≤ length out) where
  pub early-late :
      planned < tick → tick < 4294967296 → Put out p (45 ∷ []) m q → {m' : List ℕ} {q' : ℕ} → Put m q (digits_of (tick - planned)) m' q'
      → Wrote out p (early_text planned tick) 11 m' q'
  unfolding early_text
  early-late l small v w =
      let d = ten-digits (tick - planned) (omega arith) in
      let sign = whole (omega arith) v in
      rw (lt-ltb planned tick l) (looser (omega arith) (also sign (whole (omega (arith, sign.place, wrote-length sign)) w)))

  pub early-soon : tick ≤ planned → planned < 4294967296 → Put out p (digits_of (planned - tick)) m q → Wrote out p (early_text planned tick) 11 m q
  unfolding early_text
  early-soon l small w =
      let d = ten-digits (planned - tick) (omega arith) in rw (le-ltb planned tick l) (looser (omega arith) (whole (omega arith) w))

-- ---- the line of a task

line-text : (a b : List ℕ) → line_text (a ∷ b ∷ []) ≡ a ++ ((9 ∷ []) ++ (b ++ (10 ∷ [])))
unfolding join_on
line-text a b = append_assoc a (9 ∷ b) (10 ∷ [])

module _ {out : List ℕ} {from : ℕ} {task : ℕ} {m1 : List ℕ} {p1 : ℕ} {m2 : List ℕ} {p2 : ℕ} (few : task < 4294967296) (fits : from + 24 ≤ length out)
    (v : Put out from (digits_of task) m1 p1) (w : Put m1 p1 (9 ∷ []) m2 p2) where
  number : Wrote out from (digits_of task) (length (digits_of task)) m1 p1
  number = let d = ten-digits task few in whole (omega arith) v

  tab : Wrote m1 p1 (9 ∷ []) 1 m2 p2
  tab = let d = ten-digits task few in whole (omega (arith, number.place, wrote-length number)) w

  pub after-tab : (p2 ≤ from + 11) × (length m2 ≡ length out)
  after-tab =
      let d = ten-digits task few in
      (omega (arith, number.place, tab.place), wrote-length tab ∙ wrote-length number)

  pub figure-wrote :
      (planned tick : ℕ) {m3 : List ℕ} {p3 : ℕ} {m4 : List ℕ} {p4 : ℕ} → Wrote m2 p2 (early_text planned tick) 11 m3 p3
      → Put m3 p3 (10 ∷ []) m4 p4 → Wrote out from (line_text (digits_of task ∷ early_text planned tick ∷ [])) 24 m4 p4
  figure-wrote planned tick x y =
      let d = ten-digits task few in
      let a = after-tab in
      let end = whole (omega (arith, x.place, x.small, wrote-length x)) y in
      rw (line-text (digits_of task) (early_text planned tick)) (looser (omega arith) (also number (also tab (also x end))))

pub known-none : {known : ℕ} (out : List ℕ) (from : ℕ) (line : List ℕ) → known ≢ 1 → Wrote out from (cond (eqb known 1) line []) 24 out from
known-none {known} out from line n = rw (ne_eqb known 1 n) (nothing out from 24)

pub known-line :
    {known : ℕ} {out : List ℕ} {from : ℕ} {line m : List ℕ} {p : ℕ} → known ≡ 1 → Wrote out from line 24 m p
    → Wrote out from (cond (eqb known 1) line []) 24 m p
known-line {known} e w = rw (eq-eqb known 1 e) w

-- ---- the lines of the tasks below i

module _ (finish known end : List ℕ) where
  abbrev pub Below : ℕ → List ℕ → List ℕ → ℕ → Type 0
  Below i out m p = Wrote out 0 (figures_of finish known end i) (24 * i) m p

  pub figures-none : (out : List ℕ) → Below 0 out out 0
  unfolding lines_below
  figures-none out = nothing out 0 0

  abbrev pub line_of : ℕ → List ℕ
  line_of i = cond (eqb (at known i) 1) (line_text (digits_of (i + 1) ∷ early_text (at finish i) (at end i) ∷ [])) []

  step : (i : ℕ) → figures_of finish known end (i + 1) ≡ figures_of finish known end i ++ line_of i
  unfolding lines_below
  step i = ap (figures_of finish known end) (add-one i)

  pub figures-turn :
      (i : ℕ) {out m : List ℕ} {p : ℕ} {m' : List ℕ} {p' : ℕ} → Below i out m p → Wrote m p (line_of i) 24 m' p' → Below (i + 1) out m' p'
  figures-turn i v w = rw step (looser (omega arith) (also v w))

  pub figures-room : {tasks i : ℕ} {out m : List ℕ} {p : ℕ} → tasks ≤ 64 → i < tasks → 1588 ≤ length out → Below i out m p → p + 24 ≤ length m
  figures-room few h long v = omega (arith, v.place, v.small, wrote-length v)

  pub figures-end :
      {tasks i : ℕ} {out m : List ℕ} {p : ℕ} → tasks ≤ 64 → i ≤ tasks → tasks ≤ i → Below i out m p
      → Wrote out 0 (figures_of finish known end tasks) 1536 m p
  figures-end {tasks} {i} few h g v = let e : tasks ≡ i = omega arith in rw e (looser (omega arith) v)

pub ticks-none : (finish end : List ℕ) → true ≡ are_ticks 0 finish end
unfolding every
ticks-none finish end = refl

pub ticks-turn :
    (i : ℕ) (finish end : List ℕ) {all : Bool} → all ≡ are_ticks i finish end
    → ((leb (at finish i) 1000000 && leb (at end i) 1000000) && all) ≡ are_ticks (i + 1) finish end
ticks-turn i finish end e = rw (every-turn, e)

pub ticks-out : (n k : ℕ) (finish end : List ℕ) {all : Bool} → all ≡ are_ticks k finish end → k ≤ n → n ≤ k → all ≡ are_ticks n finish end
ticks-out n k finish end a l h = let e : k ≡ n = omega arith in rw e at a

-- ---- the verdict

module _ (answer : Answer) {out : List ℕ} {from : ℕ} {m : List ℕ} {p : ℕ} (fits : from + 52 ≤ length out) where
  pub verdict-accepted : answer.code ≡ 0 → Put out from (bytes "accepted" ++ (10 ∷ [])) m p → Wrote out from (verdict_line answer) 52 m p
  unfolding join_on
  verdict-accepted z w = rw (eq-eqb answer.code 0 z) (looser (omega arith) (whole (omega arith) w))

  pub verdict-refused :
      answer.code ≢ 0 → Lined out from (refused_line answer) 41 m p → Wrote out from (verdict_line answer) 52 m p
  verdict-refused n w = rw (ne_eqb answer.code 0 n) (looser (omega arith) (wrote-line fits w))

-- ---- the whole

module _ (finish known end : List ℕ) (answer : Answer) (out : List ℕ) (tasks : ℕ) where
  -- the contract of put_judged
  abbrev pub Said : List ℕ → ℕ → Type 0
  Said written r =
      let text = lines_in (length out) tasks finish known end answer in
      (r ≡ length text) × (written ≡ sets out 0 text) × (r ≤ judged_most)

  pub said-short : length out < 1588 → Said out 0
  said-short h = let t = lt-leb 1588 (length out) h in (rw t, rw t, omega arith)

  module _ (long : 1588 ≤ length out) {n : ℕ} (same : n ≡ tasks) {ticks : Bool} (e : ticks ≡ are_ticks n finish end) where
    are : ticks ≡ are_ticks tasks finish end
    are = e ∙ ap (λ (k : ℕ). are_ticks k finish end) same

    pub said-no-ticks : ticks ≡ false → Said out 0
    said-no-ticks f =
        let t = le-leb 1588 (length out) long in let q = sym are ∙ f in (rw (t, q), rw (t, q), omega arith)

    pub said_all :
        {m : List ℕ} {p : ℕ} {m' : List ℕ} {p' : ℕ} → ticks ≡ true → Wrote out 0 (figures_of finish known end n) 1536 m p
        → Wrote m p (verdict_line answer) 52 m' p' → Said m' p'
    unfolding judged_text
    said_all {m} {p} {m'} {p'} g v w =
        let t = le-leb 1588 (length out) long in
        let q = sym are ∙ g in
        let s : figures_of finish known end n ≡ figure_lines (finishing tasks finish) (ended answer known end) tasks =
        ap (figures_of finish known end) same in
        let x : Wrote out 0 (judged_text (finishing tasks finish) (ended answer known end)) (1536 + 52) m' p' = rw (← s) (also v w) in
        (rw (t, q) (omega (arith, x.place)), rw (t, q) x.bytes, omega (arith, x.place, x.small))
