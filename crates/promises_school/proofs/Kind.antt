-- What a line says by its kind: a start, an end, a remark, or a line not of its form.
use Prim.Native.Nat.{ℕ, ◌<◌}
use native.Mathlib.Omega.{arith}
use mathlib.Core.Path.{◌≡◌, refl, sym, ap, ◌∙◌}
use mathlib.Core.Logic.{◌≢◌, ⊎_elim}
use mathlib.Core.Bool.{true, false}
use mathlib.Core.List.{List}
use lib.ListN.{length, get_or}
use borrow.Author.Tests.{eq-eqb, ne_eqb}
use Rattle.laws.proofs.Cases.{by_bool, by-eq, true-false}
use Rattle.laws.proofs.Lists.{same_refl}
use Rattle.laws.specs.Lists.{same}
use Rattle.text.specs.Bytes.{bytes}
use Rattle.text.specs.Line.{has_line, skip, line_at, field}
use Rattle.school.specs.Lines.{is_run, is_moment, is_remark, says_none, says_start, says_end, later_said, line_said, said_in}
use Rattle.school.specs.Said.{LogLine}
use Rattle.promises_school.specs.Lines.{RunLine, MomentLine, LaterLine, HasForm}
use Rattle.promises_school.proofs.Forms.{run_is, run_of, moment-is, moment-of, remark-is, remark-early, remark-refused}
use Rattle.promises_school.proofs.Places.{said_at, line-says}

-- one field has one word
pub two-words : {s t : List ℕ} (x : List ℕ) → same s t ≡ false → x ≡ s → x ≡ t → ⊥
two-words {s} {t} x h e f = true-false (ap (same s) (sym f ∙ e) ∙ same_refl s) h

module _ (boards tasks : ℕ) (line : List ℕ) where
  data Later : Type 0 where
    start : MomentLine (bytes "start") boards tasks line → later_said boards tasks line ≡ says_start line → Later
    end : MomentLine (bytes "end") boards tasks line → later_said boards tasks line ≡ says_end line → Later
    other :
        LaterLine boards tasks line → field line 0 ≢ bytes "start" → field line 0 ≢ bytes "end"
        → later_said boards tasks line ≡ says_none true → Later
    bad : (LaterLine boards tasks line → ⊥) → later_said boards tasks line ≡ says_none false → Later

  module _ (s : is_moment (bytes "start") boards tasks line ≡ false) (e : is_moment (bytes "end") boards tasks line ≡ false) where
    by-remark : is_remark line ≡ true → LaterLine boards tasks line → later_said boards tasks line ≡ says_none true → Later
    unfolding same
    by-remark r (LaterLine.start m) q = true-false (moment-of (bytes "start") boards tasks line m) s
    by-remark r (LaterLine.end m) q = true-false (moment-of (bytes "end") boards tasks line m) e
    by-remark r (LaterLine.early c w n) q =
        Later.other (LaterLine.early c w n) (two-words (field line 0) refl w) (two-words (field line 0) refl w) q
    by-remark r (LaterLine.refused c w n) q =
        Later.other (LaterLine.refused c w n) (two-words (field line 0) refl w) (two-words (field line 0) refl w) q

    unformed : is_remark line ≡ false → LaterLine boards tasks line → ⊥
    unformed r (LaterLine.start m) = true-false (moment-of (bytes "start") boards tasks line m) s
    unformed r (LaterLine.end m) = true-false (moment-of (bytes "end") boards tasks line m) e
    unformed r (LaterLine.early c w n) = true-false (remark-early boards tasks line c w n) r
    unformed r (LaterLine.refused c w n) = true-false (remark-refused boards tasks line c w n) r

  later : Later
  unfolding later_said
  later =
      by_bool (is_moment (bytes "start") boards tasks line)
      (λ s. Later.start (moment-is (bytes "start") boards tasks line s) (rw s))
      (λ s.
      by_bool (is_moment (bytes "end") boards tasks line)
      (λ e. Later.end (moment-is (bytes "end") boards tasks line e) (rw (s, e)))
      (λ e.
      by_bool (is_remark line)
      (λ r. by-remark s e r (remark-is boards tasks line r) (rw (s, e, r)))
      (λ r. Later.bad (unformed s e r) (rw (s, e, r)))))

-- line k of a log
module _ (boards tasks : ℕ) (log : List ℕ) (k : ℕ) where
  abbrev pub it : LogLine
  it = get_or (said_in boards tasks log) k (says_none true)

  pub data Kind : Type 0 where
    start :
        HasForm boards tasks log k → MomentLine (bytes "start") boards tasks (line_at log k) → it ≡ says_start (line_at log k) → Kind
    end : HasForm boards tasks log k → MomentLine (bytes "end") boards tasks (line_at log k) → it ≡ says_end (line_at log k) → Kind
    other :
        HasForm boards tasks log k → field (line_at log k) 0 ≢ bytes "start" → field (line_at log k) 0 ≢ bytes "end"
        → it ≡ says_none true → Kind
    bad : (HasForm boards tasks log k → ⊥) → it ≡ says_none false → Kind

  run-word : RunLine boards tasks (line_at log k) → field (line_at log k) 0 ≡ bytes "run"
  run-word = ⊎_elim (λ e. rw e) (λ e. rw e)

  module _ (is : it ≡ said_at boards tasks true log k) (ended : has_line (skip k log) ≡ true) where
    first_line : k ≡ 0 → Kind
    unfolding line_said same
    first_line z =
        let e : it ≡ says_none (is_run boards tasks (line_at log k)) = is ∙ rw (ended, eq-eqb k 0 z) in
        by_bool (is_run boards tasks (line_at log k))
        (λ r.
        let line = run_is boards tasks (line_at log k) r in
        let w = run-word line in
        Kind.other (record { ended = ended; first = λ q. line; later = λ l. absurd (omega arith) })
        (two-words (field (line_at log k) 0) refl w) (two-words (field (line_at log k) 0) refl w) (e ∙ rw r))
        (λ r. Kind.bad (λ f. true-false (run_of boards tasks (line_at log k) (f.first z)) r) (e ∙ rw r))

    later-line : k ≢ 0 → Kind
    unfolding line_said
    later-line n = go (later boards tasks (line_at log k))
      where
        e : it ≡ later_said boards tasks (line_at log k)
        e = is ∙ rw (ended, ne_eqb k 0 n)

        formed : LaterLine boards tasks (line_at log k) → HasForm boards tasks log k
        formed line = record { ended = ended; first = λ z. absurd (n z); later = λ l. line }

        go : Later boards tasks (line_at log k) → Kind
        go (Later.start m q) = Kind.start (formed (LaterLine.start m)) m (e ∙ q)
        go (Later.end m q) = Kind.end (formed (LaterLine.end m)) m (e ∙ q)
        go (Later.other l a b q) = Kind.other (formed l) a b (e ∙ q)
        go (Later.bad none q) = Kind.bad (λ f. none (f.later (omega arith))) (e ∙ q)

  pub kind : k < length (said_in boards tasks log) → Kind
  kind l =
      let is = line-says boards tasks log k l in
      by_bool (has_line (skip k log))
      (λ ended. by-eq k 0 (λ z. first_line is ended z) (λ n. later-line is ended n))
      (λ not-ended. Kind.bad (λ f. true-false f.ended not-ended) (is ∙ rw not-ended))
