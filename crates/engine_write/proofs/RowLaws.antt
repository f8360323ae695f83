-- The lines of the tasks, one after the other.
use Prim.Native.Nat.{ℕ, ◌+◌, ◌*◌, ◌≤◌, ◌<◌, min}
use mathlib.Core.Path.{◌≡◌, ap}
use mathlib.Core.List.{List, ◌++◌}
use native.Mathlib.Omega.{arith}
use native.Mathlib.Numerals.{add-one}
use lib.ListN.{length}
use borrow.Author.Tests.{le-leb, lt-leb}
use Rattle.text.specs.Line.{lines_below}
use Rattle.text.specs.Put.{Filled}
use Rattle.log_write.specs.Private.Wrote.{Wrote}
use Rattle.log_write.proofs.WriteLaws.{looser, also, wrote-length, nothing}
use Rattle.engine_write.specs.Rows.{row_line, row_lines, table_most, rows_in}

module _ (board start end : List ℕ) where
  abbrev pub Below : ℕ → List ℕ → List ℕ → ℕ → Type 0
  Below i out m p = Wrote out 0 (row_lines board start end i) (52 * i) m p

  pub rows_none : (out : List ℕ) → Below 0 out out 0
  unfolding lines_below
  rows_none out = nothing out 0 0

  rows_step : (i : ℕ) → row_lines board start end (i + 1) ≡ row_lines board start end i ++ row_line board start end i
  unfolding lines_below
  rows_step i = ap (row_lines board start end) (add-one i)

  pub rows-turn : (i : ℕ) {out m : List ℕ} {p : ℕ} {m' : List ℕ} {p' : ℕ} → Below i out m p → Wrote m p (row_line board start end i) 52 m' p' → Below (i + 1) out m' p'
  rows-turn i v w = rw rows_step (looser (omega arith) (also v w))

  pub rows-room : {tasks i : ℕ} {out m : List ℕ} {p : ℕ} → tasks ≤ 64 → i < tasks → 3328 ≤ length out → Below i out m p → p + 52 ≤ length m
  rows-room few h long v = omega (arith, v.place, v.small, wrote-length v)

  pub rows_end : {tasks i : ℕ} {out m : List ℕ} {p : ℕ} → tasks ≤ 64 → i ≤ tasks → tasks ≤ i → Below i out m p → Wrote out 0 (row_lines board start end tasks) 3328 m p
  rows_end {tasks} {i} few h g v = let e : tasks ≡ i = omega arith in rw e (looser (omega arith) v)

  pub rowed-none : (out : List ℕ) (tasks : ℕ) → length out < 3328 → Filled table_most out (rows_in (length out) board start end tasks) out 0
  rowed-none out tasks h =
      let t = lt-leb 3328 (length out) h in
      record { place = rw t; bytes = rw t; small = rw t (omega arith) }

  pub rowed-all :
      {out : List ℕ} (tasks : ℕ) {n : ℕ} {m : List ℕ} {p : ℕ} → 3328 ≤ length out → n ≡ min tasks 64
      → Wrote out 0 (row_lines board start end n) 3328 m p → Filled table_most out (rows_in (length out) board start end tasks) m p
  rowed-all {out} tasks {n} {m} {p} h e w =
      let t = le-leb 3328 (length out) h in
      let w' : Wrote out 0 (row_lines board start end (min tasks 64)) 3328 m p = rw e at w in
      record { place = rw t (omega (arith, w'.place)); bytes = rw t w'.bytes; small = rw t w'.small }
