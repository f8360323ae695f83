-- The whole text, by the tests that lead to it.
use Prim.Native.Nat.{ℕ, ◌≤◌, ◌<◌, min}
use native.Mathlib.Omega.{arith}
use mathlib.Core.Path.{◌≡◌, sym, ap, ◌∙◌}
use mathlib.Core.Logic.{◌≢◌}
use mathlib.Core.Bool.{true, false, ◌&&◌}
use mathlib.Core.List.{List}
use lib.Dec.{leb}
use lib.ListN.{length}
use lib.Seq.{sets}
use borrow.Author.Tests.{eq-eqb, ne_eqb, lt-leb, le-leb}
use Rattle.laws.proofs.Cases.{and-of}
use Rattle.laws.proofs.Every.{every_of}
use Rattle.plan.specs.Read.{reading_of}
use Rattle.plan.specs.Value.{at, is_accepted}
use Rattle.plan.specs.declared.Answer.{Answer}
use Rattle.plan.specs.declared.Plan.{Plan}
use Rattle.plan.specs.declared.Reading.{Reading}
use Rattle.plan.proofs.ReadOk.{read_answer, read-accepted}
use Rattle.book_view.proofs.Accepted.{plan-facts}
use Rattle.log_write.specs.Lines.{Lined, refused_line}
use Rattle.log_write.proofs.WriteLaws.{wrote-line}
use Rattle.school.specs.Tests.{judged_of}
use Rattle.school.specs.Text.{judged_text, judged_log, judged_most, judged_in}
use Rattle.school.specs.declared.JudgedLog.{JudgedLog}
use Rattle.school_write.specs.Lines.{are_ticks, lines_in}
use Rattle.school_write.proofs.TickLaws.{end-small}

-- the contract of write_judged
abbrev pub Ran : List ℕ → List ℕ → List ℕ → List ℕ → ℕ → Type 0
Ran plan log out written r =
    (r ≡ length (judged_in (length out) plan log)) × (written ≡ sets out 0 (judged_in (length out) plan log)) × (r ≤ judged_most)

-- what is written of a judged plan
module _ (plan : Plan) (ok : is_accepted plan ≡ true) (log : List ℕ) where
  few : min plan.tasks 64 ≡ plan.tasks
  few = let f = (plan-facts plan ok).tasks-to in omega arith

  ticks : are_ticks plan.tasks plan.finish (judged_of plan log).end ≡ true
  ticks =
      every_of plan.tasks (λ i. leb (at plan.finish i) 1000000 && leb (at (judged_of plan log).end i) 1000000)
      (λ i l.
      and-of (le-leb (at plan.finish i) 1000000 ((plan-facts plan ok).task i l).by_most)
      (le-leb (at (judged_of plan log).end i) 1000000 (end-small plan log (plan-facts plan ok).tasks-to i)))

  pub lines_are :
      (room : ℕ) → 1588 ≤ room
      → lines_in room (min plan.tasks 64) plan.finish (judged_of plan log).known (judged_of plan log).end (judged_of plan log).answer ≡ judged_text plan (judged_of plan log)
  unfolding judged_text
  lines_are room long =
      rw (few, le-leb 1588 room long, ticks)

module _ (plan log out : List ℕ) where
  pub ran-short : length out < 1588 → Ran plan log out out 0
  ran-short h = let t = lt-leb 1588 (length out) h in (rw t, rw t, omega arith)

  module _ (long : 1588 ≤ length out) where
    whole : judged_in (length out) plan log ≡ judged_log plan log
    whole = rw (le-leb 1588 (length out) long)

    -- what is written is the whole text
    ran-text : {text written : List ℕ} {r : ℕ} → text ≡ judged_log plan log → (r ≡ length text) × (written ≡ sets out 0 text) × (r ≤ judged_most) → Ran plan log out written r
    ran-text e w =
        (w.0 ∙ ap length (e ∙ sym whole), w.1 ∙ ap (sets out 0) (e ∙ sym whole), w.2)

    module _ {reading : Reading} (r : reading ≡ reading_of plan) where
      pub ran-refused : {m : List ℕ} {p : ℕ} → reading.answer.code ≢ 0 → Lined out 0 (refused_line reading.answer) 41 m p → Ran plan log out m p
      unfolding judged_log
      ran-refused n w =
          let n' : (reading_of plan).answer.code ≢ 0 = rw r at n in
          let v = wrote-line (omega arith) w in
          ran-text (ap (λ (x : Reading). refused_line x.answer) r ∙ rw (ne_eqb (reading_of plan).answer.code 0 n'))
          (omega (arith, v.place), v.bytes, omega (arith, v.place, v.small))

      module _ (zero : reading.answer.code ≡ 0) where
        its-zero : (reading_of plan).answer.code ≡ 0
        its-zero = rw r at zero

        accepted : is_accepted reading.plan ≡ true
        accepted =
            ap (λ (x : Reading). is_accepted x.plan) r
            ∙ read-accepted false plan (ap (λ (a : Answer). a.code) (sym (read_answer false plan)) ∙ its-zero)

        pub ran-judged :
            {judged : JudgedLog} {m : List ℕ} {p : ℕ} → judged ≡ judged_of reading.plan log
            → (p ≡ length (lines_in (length out) (min reading.plan.tasks 64) reading.plan.finish judged.known judged.end judged.answer)) × (m ≡ sets out 0 (lines_in (length out) (min reading.plan.tasks 64) reading.plan.finish judged.known judged.end judged.answer)) × (p ≤ judged_most)
            → Ran plan log out m p
        unfolding judged_log
        ran-judged {judged} j w =
            ran-text
            (ap (λ (x : JudgedLog). lines_in (length out) (min reading.plan.tasks 64) reading.plan.finish x.known x.end x.answer) j
            ∙ lines_are reading.plan accepted log (length out) long
            ∙ ap (λ (x : Reading). judged_text x.plan (judged_of x.plan log)) r
            ∙ rw (eq-eqb (reading_of plan).answer.code 0 its-zero))
            w
