-- The lines of a text, and a line that is well formed: it is the text of what it says.
use Prim.Native.Nat.{ℕ, ◌+◌}
use mathlib.Core.List.{List, [], ◌∷◌, ◌++◌}
use mathlib.Core.Bool.{Bool, true, false}
use mathlib.Core.Path.{◌≡◌, sym, ap, ◌∙◌}
use native.Mathlib.Omega.{arith}
use lib.ListN.{length}
use lib.Seq.{append_snoc}
use lib.Dec.{eqb}
use borrow.Author.Tests.{ltb-true, eqb-true}
use Rattle.laws.proofs.Cases.{by_bool}
use Rattle.laws.specs.Digits.{digits_of}
use Rattle.laws.proofs.Lists.{same-eq}
use Rattle.laws.proofs.Seams.{seam, places, places-own}
use Rattle.laws.specs.Split.{index_of}
use Rattle.laws.proofs.Split.{join-split}
use Rattle.text.proofs.Numerals.{number-spelt}
use Rattle.text_fields.proofs.Lists.{holds-spelt, after-spelt}
use Rattle.text.specs.Bytes.{bytes}
use Rattle.text.specs.Number.{value_of}
use Rattle.text.specs.Line.{TAB, LF, has_line, skip, line_at, fields, field, line_text}
use Rattle.plan.specs.Read.{sizes_ok, task_from, line_task}
use Rattle.plan.specs.Write.{sizes_text, fields_from, task_text}
use Rattle.plan.proofs.LineCodes.{TimesOk, LineFine}
use Rattle.plan.proofs.TextLines.{skip-turn, sizes-test, number-range}

-- ---- lines

-- the text from a line on is the line, its LF, and the text from the next line on
pub line-joined : (s : List ℕ) (n : ℕ) → has_line (skip n s) ≡ true → (line_at s n ++ (LF ∷ [])) ++ skip (n + 1) s ≡ skip n s
line-joined s n h =
    append_snoc (line_at s n) LF (skip (n + 1) s)
    ∙ ap (λ (r : List ℕ). line_at s n ++ (LF ∷ r)) (skip-turn n s)
    ∙ seam LF (skip n s) (ltb-true (index_of LF (skip n s)) (length (skip n s)) h)

-- ---- fields

-- a line is its fields joined by tabs
fields-joined :
    (line : List ℕ) (parts : List (List ℕ)) (n : ℕ) → length (fields line) ≡ n → parts ≡ places (field line) 0 n
    → line_text parts ≡ line ++ (LF ∷ [])
fields-joined line parts n count own =
    ap line_text (own ∙ places-own (fields line) [] n count) ∙ ap (λ (l : List ℕ). l ++ (LF ∷ [])) (join-split TAB line)

-- the first line is the text of its numbers
pub sizes-spelt :
    (line : List ℕ) → sizes_ok false line ≡ true
    → sizes_text (value_of (field line 1)) (value_of (field line 2)) (value_of (field line 3)) ≡ line ++ (LF ∷ [])
unfolding sizes_text
sizes-spelt line h =
    let p : field line 0 ≡ (bytes "plan") = same-eq (field line 0) (bytes "plan") (sizes-test false line h 1 (omega arith)) in
    let e = number-range 1 2 (field line 1) (sizes-test false line h 2 (omega arith)) in
    let b = number-range 1 8 (field line 2) (sizes-test false line h 3 (omega arith)) in
    let t = number-range 1 64 (field line 3) (sizes-test false line h 4 (omega arith)) in
    fields-joined line _ 4 (eqb-true (length (fields line)) 4 (sizes-test false line h 0 (omega arith))) (cc (p, e.0, b.0, t.0))

-- the fields from the planned start on, which is field n
times-spelt :
    {retired : Bool} (tasks : ℕ) (line : List ℕ) (ready n : ℕ) → TimesOk retired tasks line n
    → fields_from (task_from line ready n) ≡ field line n ∷ field line (n + 1) ∷ field line (n + 2) ∷ field line (n + 3) ∷ []
unfolding task_from
times-spelt tasks line ready n t =
    let b = number-spelt (field line n) t.begin in
    let f = number-spelt (field line (n + 1)) t.finish in
    let h = holds-spelt (field line (n + 2)) t.holds in
    let a = after-spelt (field line (n + 3)) t.after in
    cc

-- a task line is the text of its number and its task
pub task-spelt :
    (edition boards tasks : ℕ) (line : List ℕ) (k : ℕ) → LineFine false edition boards tasks line k
    → task_text edition k (line_task false edition line) ≡ line ++ (LF ∷ [])
unfolding task_text line_task task_from
task-spelt edition boards tasks line k f =
    let w : field line 0 ≡ (bytes "task") = same-eq (field line 0) (bytes "task") f.head.word in
    let n1 : digits_of k ≡ field line 1 = ap digits_of (sym f.head.number) ∙ number-spelt (field line 1) f.head.spelt in
    let n2 = number-spelt (field line 2) f.head.board.spelt in
    by_bool (eqb edition 2)
    (λ e.
    let t : TimesOk true tasks line 4 = rw e at f.times in
    let r = number-spelt (field line 3) (f.ready e).0 in
    let later = times-spelt tasks line (value_of (field line 3)) 4 t in
    rw e (fields-joined line _ 8 t.count (cc)))
    (λ e.
    let t : TimesOk false tasks line 3 = rw e at f.times in
    let later = times-spelt tasks line 0 3 t in
    rw e (fields-joined line _ 7 t.count (cc)))
