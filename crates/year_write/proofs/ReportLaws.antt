-- The whole report, by the tests that lead to it.
use Prim.Native.Nat.{ℕ, ◌≤◌, ◌<◌}
use mathlib.Core.Path.{◌≡◌, sym, ap, ◌∙◌}
use mathlib.Core.Bool.{Bool, true, false}
use mathlib.Core.List.{List, ◌∷◌, append-nil}
use native.Mathlib.Omega.{arith}
use lib.ListN.{length}
use lib.Seq.{sets}
use borrow.Author.Tests.{lt-leb, le-leb}
use Rattle.text.specs.Bytes.{bytes}
use Rattle.text.specs.Line.{line_text}
use Rattle.plan.specs.Answer.{refuse}
use Rattle.log_write.specs.Lines.{Lined, refused_line}
use Rattle.log_write.specs.Private.Wrote.{Wrote}
use Rattle.log_write.proofs.WriteLaws.{also, wrote-length, wrote-line}
use Rattle.year_rules.specs.Totals.{totals_ok}
use Rattle.year_rules.specs.declared.Tally.{Tally}
use Rattle.year_rules.specs.declared.Totals.{Totals}
use Rattle.year_write.specs.Report.{all_tally, tally_fields, logs_line, board_lines, all_line, report_of, year_text, report_most, report_in}

pub report-wrote :
    (totals : Totals) {out m1 : List ℕ} {p1 : ℕ} {m2 : List ℕ} {p2 : ℕ} {m3 : List ℕ} {p3 : ℕ} {tally : Tally}
    → Wrote out 0 (logs_line totals) 27 m1 p1 → Wrote m1 p1 (board_lines totals 8) 568 m2 p2 → tally ≡ all_tally totals
    → Wrote m2 p2 (line_text (bytes "all" ∷ tally_fields tally)) 58 m3 p3 → Wrote out 0 (report_of totals) 653 m3 p3
unfolding report_of
report-wrote totals {m2 = m2} {p2} {m3} {p3} v w e u =
    let u' : Wrote m2 p2 (all_line totals) 58 m3 p3 = rw e at u in also v (also w u')

-- the contract of write_report
abbrev pub Ran : Totals → Bool → List ℕ → List ℕ → ℕ → Type 0
Ran totals past out written r =
    (r ≡ length (report_in (length out) past totals)) × (written ≡ sets out 0 (report_in (length out) past totals)) × (r ≤ report_most)

module _ (totals : Totals) (past : Bool) (out : List ℕ) where
  pub ran-short : length out < 1024 → Ran totals past out out 0
  ran-short h = let t = lt-leb 1024 (length out) h in (rw t, rw t, omega arith)

  module _ (long : 1024 ≤ length out) where
    ran-whole : {m : List ℕ} {p : ℕ} {text : List ℕ} {a : ℕ} → text ≡ year_text past totals → a ≤ 1024 → Wrote out 0 text a m p → Ran totals past out m p
    ran-whole {text = text} e h w =
        let t = le-leb 1024 (length out) long in
        let n : length text ≡ length (year_text past totals) = ap length e in
        (rw t (omega (arith, w.place)), rw (t, ← e) w.bytes, omega (arith, w.place, w.small))

    module _ {ok : Bool} (e : ok ≡ totals_ok totals) where
      pub ran-nine : {m : List ℕ} {p : ℕ} → ok ≡ false → Lined out 0 (refused_line (refuse 9 0 0)) 41 m p → Ran totals past out m p
      unfolding year_text
      ran-nine n w =
          let h : totals_ok totals ≡ false = sym e ∙ n in ran-whole (sym (rw h)) (omega arith) (wrote-line (omega arith) w)

      pub in_bounds : ok ≡ true → totals_ok totals ≡ true
      in_bounds n = sym e ∙ n

      module _ (n : ok ≡ true) {m : List ℕ} {p : ℕ} (w : Wrote out 0 (report_of totals) 653 m p) where
        pub ran-alone : past ≡ false → Ran totals past out m p
        unfolding year_text
        ran-alone f = ran-whole (sym (rw (in_bounds n, f) (append-nil (report_of totals)))) (omega arith) w

        pub ran-past : {m' : List ℕ} {p' : ℕ} → past ≡ true → Lined m p (refused_line (refuse 28 0 0)) 41 m' p' → Ran totals past out m' p'
        unfolding year_text
        ran-past t v =
            ran-whole (sym (rw (in_bounds n, t))) (omega arith) (also w (wrote-line (omega (arith, w.place, w.small, wrote-length w)) v))
