-- The whole text, by the tests that lead to it.
use Prim.Native.Nat.{ℕ, ◌≤◌, ◌<◌, min}
use mathlib.Core.Path.{◌≡◌, sym, ap, ◌∙◌}
use mathlib.Core.Logic.{◌≢◌}
use mathlib.Core.Bool.{false}
use mathlib.Core.List.{List}
use native.Mathlib.Omega.{arith}
use lib.ListN.{length}
use lib.Seq.{sets}
use borrow.Author.Tests.{eq-eqb, ne_eqb, lt-leb, le-leb}
use Rattle.text.specs.Put.{Filled}
use Rattle.plan.specs.Read.{reading_of}
use Rattle.plan.specs.declared.Answer.{Answer}
use Rattle.plan.specs.declared.Reading.{Reading}
use Rattle.plan.proofs.ReadOk.{read_answer, read-accepted}
use Rattle.book_view.proofs.Accepted.{plan-facts}
use Rattle.engine.specs.Timetable.{timetable_of}
use Rattle.engine.specs.declared.Timetable.{Timetable}
use Rattle.engine_read.specs.Whole.{asked_of}
use Rattle.engine_read.specs.declared.EngineInput.{EngineInput}
use Rattle.log_write.specs.Lines.{Lined, refused_line}
use Rattle.log_write.specs.Private.Wrote.{Wrote}
use Rattle.log_write.proofs.WriteLaws.{wrote-line}
use Rattle.engine_write.specs.Rows.{row_lines, table_most, rows_in}
use Rattle.engine_write.specs.Table.{times_text, asked_text, table_of, table_in}

-- the contract of write_timetable
abbrev pub Ran : List ℕ → List ℕ → List ℕ → List ℕ → ℕ → Type 0
Ran plan lengths out written r =
    (r ≡ length (table_in (length out) plan lengths)) × (written ≡ sets out 0 (table_in (length out) plan lengths)) × (r ≤ table_most)

module _ (plan lengths out : List ℕ) where
  pub ran-short : length out < 3328 → Ran plan lengths out out 0
  ran-short h = let t = lt-leb 3328 (length out) h in (rw t, rw t, omega arith)

  module _ (long : 3328 ≤ length out) where
    ran-whole : {m : List ℕ} {p : ℕ} {text : List ℕ} {a : ℕ} → text ≡ table_of plan lengths → a ≤ 3328 → Wrote out 0 text a m p → Ran plan lengths out m p
    ran-whole {text = text} e h w =
        let t = le-leb 3328 (length out) long in
        let n : length text ≡ length (table_of plan lengths) = ap length e in
        (rw t (omega (arith, w.place)), rw (t, ← e) w.bytes, omega (arith, w.place, w.small))

    ran_line : {m : List ℕ} {p : ℕ} (a : Answer) → refused_line a ≡ table_of plan lengths → Lined out 0 (refused_line a) 41 m p → Ran plan lengths out m p
    ran_line a e w = ran-whole e (omega arith) (wrote-line (omega arith) w)

    module _ {reading : Reading} (r : reading ≡ reading_of plan) where
      pub ran-refused : {m : List ℕ} {p : ℕ} → reading.answer.code ≢ 0 → Lined out 0 (refused_line reading.answer) 41 m p → Ran plan lengths out m p
      unfolding table_of
      ran-refused n w =
          let n' : (reading_of plan).answer.code ≢ 0 = rw r at n in
          ran_line reading.answer (ap (λ (x : Reading). refused_line x.answer) r ∙ rw (ne_eqb (reading_of plan).answer.code 0 n')) w

      -- the plan is read
      module _ (zero : reading.answer.code ≡ 0) where
        its-zero : (reading_of plan).answer.code ≡ 0
        its-zero = rw r at zero

        few : reading.plan.tasks ≤ 64
        few =
            let accepted = read-accepted false plan (ap (λ (a : Answer). a.code) (sym (read_answer false plan)) ∙ its-zero) in
            let t = ap (λ (x : Reading). x.plan.tasks) r in
            omega (arith, t, (plan-facts (reading_of plan).plan accepted).tasks-to)

        module _ {asked : EngineInput} (s : asked ≡ asked_of reading.plan.tasks reading.plan.begin reading.plan.finish lengths) where
          text-asked : asked_text reading.plan asked ≡ table_of plan lengths
          unfolding table_of
          text-asked =
              ap (asked_text reading.plan) s
              ∙ ap (λ (x : Reading). asked_text x.plan (asked_of x.plan.tasks x.plan.begin x.plan.finish lengths)) r
              ∙ rw (eq-eqb (reading_of plan).answer.code 0 its-zero)

          pub ran-unasked : {m : List ℕ} {p : ℕ} → asked.answer.code ≢ 0 → Lined out 0 (refused_line asked.answer) 41 m p → Ran plan lengths out m p
          unfolding asked_text
          ran-unasked n w = ran_line asked.answer (rw (ne_eqb asked.answer.code 0 n) at text-asked) w

          module _ (y : asked.answer.code ≡ 0) {table : Timetable} (t : table ≡ timetable_of reading.plan asked.rule asked.given) where
            text-times : times_text reading.plan table ≡ table_of plan lengths
            unfolding asked_text
            text-times = ap (times_text reading.plan) t ∙ (rw (eq-eqb asked.answer.code 0 y) at text-asked)

            pub ran-unworked : {m : List ℕ} {p : ℕ} → table.answer.code ≢ 0 → Lined out 0 (refused_line table.answer) 41 m p → Ran plan lengths out m p
            unfolding times_text
            ran-unworked n w = ran_line table.answer (rw (ne_eqb table.answer.code 0 n) at text-times) w

            pub ran-rows :
                {m : List ℕ} {p : ℕ} → table.answer.code ≡ 0
                → Filled table_most out (rows_in (length out) reading.plan.board table.start table.end reading.plan.tasks) m p → Ran plan lengths out m p
            unfolding times_text
            ran-rows {m} {p} z w =
                let rows = row_lines reading.plan.board table.start table.end in
                let e : min reading.plan.tasks 64 ≡ reading.plan.tasks = omega (arith, few) in
                let t : rows_in (length out) reading.plan.board table.start table.end reading.plan.tasks ≡ rows reading.plan.tasks =
                rw (le-leb 3328 (length out) long) (ap rows e) in
                let w' : Filled table_most out (rows reading.plan.tasks) m p = rw t at w in
                ran-whole (rw (eq-eqb table.answer.code 0 z) at text-times) (omega arith)
                (record { place = omega (arith, w'.place); bytes = w'.bytes; small = w'.small })
