-- The answers of the converter and of the text made edition 2, by the tests that lead to them.
use Prim.Native.Nat.{ℕ, ◌≤◌, ◌<◌}
use mathlib.Core.Path.{◌≡◌, sym, ap, ◌∙◌}
use mathlib.Core.Logic.{◌≢◌}
use mathlib.Core.Bool.{Bool, true, false, ◌&&◌}
use mathlib.Core.List.{List, map}
use native.Mathlib.Omega.{arith}
use lib.Dec.{eqb}
use lib.ListN.{length}
use lib.Seq.{sets}
use borrow.Author.Tests.{eq-eqb, ne_eqb, lt-leb, le-leb, le-ltb}
use Rattle.laws.proofs.Cases.{by_bool, by-eq}
use Rattle.laws.specs.Lists.{same}
use Rattle.laws.specs.Split.{before, skip_on}
use Rattle.text.specs.Bytes.{bytes}
use Rattle.text.specs.Line.{LF, line_at, field}
use Rattle.text_fields.specs.Items.{exclusive}
use Rattle.plan.specs.Answer.{refuse, granted}
use Rattle.plan.specs.Value.{plan_with, zero_plan, judged_answer, is_accepted}
use Rattle.plan.specs.Read.{reading_of, mended_of}
use Rattle.plan.specs.Convert.{exclusive_plan, converted_of, renewed_of}
use Rattle.plan.specs.Write.{text_of, write_answer, written_of, buffer_after}
use Rattle.plan.specs.declared.Answer.{Answer}
use Rattle.plan.specs.declared.Plan.{Plan}
use Rattle.plan.specs.declared.Reading.{Reading}
use Rattle.plan.specs.declared.WriteResult.{WriteResult}
use Rattle.plan.proofs.ReadOk.{read_answer, read-accepted}
use Rattle.plan.proofs.Converted.{may, converted-refused, converted-faulty, converted-made, converted-accepted}
use Rattle.plan.proofs.RoundPlan.{text-length}
use Rattle.log_write.specs.Lines.{Lined, refused_line}
use Rattle.log_write.proofs.WriteLaws.{wrote-line}
use Rattle.plan_convert.specs.Renewed.{renewed_text, text_most, renewed_in}

-- ---- the converter

module _ (plan : Plan) {accepted : Bool} (a : accepted ≡ is_accepted plan) where
  pub convert-not : (accepted && eqb plan.edition 1) ≡ false → {r : Reading} → r ≡ record { answer = refuse 9 0 0; plan = zero_plan } → r ≡ converted_of plan
  convert-not h e =
      let n : may plan ≡ false = rw a at h in e ∙ sym (converted-refused plan n)

  module _ (h : (accepted && eqb plan.edition 1) ≡ true) {holds : List ℕ} (m : holds ≡ map exclusive plan.holds) {said : Answer}
      (j : said ≡ judged_answer (plan_with 2 plan.boards plan.tasks plan.board plan.ready plan.begin plan.finish holds plan.after)) where
    yes : may plan ≡ true
    yes = rw a at h

    plan-made : ◌≡◌ {A = Plan} (plan_with 2 plan.boards plan.tasks plan.board plan.ready plan.begin plan.finish holds plan.after) (exclusive_plan plan)
    unfolding exclusive_plan
    plan-made = rw m

    judged : said ≡ judged_answer (exclusive_plan plan)
    judged = j ∙ ap judged_answer plan-made

    pub convert-faulty : said.code ≢ 0 → {r : Reading} → r ≡ record { answer = said; plan = zero_plan } → r ≡ converted_of plan
    convert-faulty n e =
        let same : ◌≡◌ {A = Reading} (record { answer = said; plan = zero_plan }) (record { answer = judged_answer (exclusive_plan plan); plan = zero_plan }) =
        λ i. record { answer = judged i; plan = zero_plan } in
        e ∙ same ∙ sym (converted-faulty plan yes (rw judged at n))

    pub convert-made :
        said.code ≡ 0
        → ◌≡◌ {A = Reading}
        (record { answer = said; plan = plan_with 2 plan.boards plan.tasks plan.board plan.ready plan.begin plan.finish holds plan.after })
        (converted_of plan)
    convert-made z = (λ i. record { answer = judged i; plan = plan-made i }) ∙ sym (converted-made plan yes (rw judged at z))

-- ---- a text made edition 2

module _ (s : List ℕ) {first : Bool} (f : first ≡ same (field (before LF s) 1) (bytes "1")) where
  its-first : first ≡ same (field (line_at s 0) 1) (bytes "1")
  unfolding skip_on
  its-first = f

  pub renew-mended : first ≡ false → {mended : Reading} → mended ≡ mended_of s → mended ≡ renewed_of s
  unfolding renewed_of
  renew-mended n m = m ∙ rw (sym its-first ∙ n)

  module _ (one : first ≡ true) {read : Reading} (r : read ≡ reading_of s) where
    pub renew-refused : read.answer.code ≢ 0 → read ≡ renewed_of s
    unfolding renewed_of
    renew-refused n =
        let n' : (reading_of s).answer.code ≢ 0 = rw r at n in
        r ∙ rw (sym its-first ∙ one, ne_eqb (reading_of s).answer.code 0 n')

    pub renew-converted : read.answer.code ≡ 0 → {made : Reading} → made ≡ converted_of read.plan → made ≡ renewed_of s
    unfolding renewed_of
    renew-converted z e =
        let z' : (reading_of s).answer.code ≡ 0 = rw r at z in
        e ∙ ap (λ (x : Reading). converted_of x.plan) r
        ∙ rw (sym its-first ∙ one, eq-eqb (reading_of s).answer.code 0 z')

-- what it gives is accepted
pub renewed-accepted : (s : List ℕ) → (renewed_of s).answer.code ≡ 0 → is_accepted (renewed_of s).plan ≡ true
unfolding renewed_of
renewed-accepted s z =
    by_bool (same (field (line_at s 0) 1) (bytes "1"))
    (λ one.
    by-eq (reading_of s).answer.code 0
    (λ y.
    let c : (converted_of (reading_of s).plan).answer.code ≡ 0 = rw (one, eq-eqb (reading_of s).answer.code 0 y) at z in
    rw (one, eq-eqb (reading_of s).answer.code 0 y) (converted-accepted (reading_of s).plan c))
    (λ n. absurd (n (rw (one, ne_eqb (reading_of s).answer.code 0 n) at z))))
    (λ other.
    let c : (mended_of s).answer.code ≡ 0 = rw other at z in
    rw other (read-accepted true s (ap (λ (x : Answer). x.code) (sym (read_answer true s)) ∙ c)))

-- ---- its bytes

-- the contract of convert_text
abbrev pub Renewed : List ℕ → List ℕ → List ℕ → ℕ → Type 0
Renewed s out written r =
    (r ≡ length (renewed_in (length out) s)) × (written ≡ sets out 0 (renewed_in (length out) s)) × (r ≤ text_most)

module _ (s out : List ℕ) where
  pub renewed-short : length out < 32768 → Renewed s out out 0
  renewed-short h = let t = lt-leb 32768 (length out) h in (rw t, rw t, omega arith)

  module _ (long : 32768 ≤ length out) {renewed : Reading} (e : renewed ≡ renewed_of s) where
    room : renewed_in (length out) s ≡ renewed_text s
    room = rw (le-leb 32768 (length out) long)

    pub renewed-refused : {m : List ℕ} {p : ℕ} → renewed.answer.code ≢ 0 → Lined out 0 (refused_line renewed.answer) 41 m p → Renewed s out m p
    unfolding renewed_text
    renewed-refused n l =
        let n' : (renewed_of s).answer.code ≢ 0 = rw e at n in
        let text : refused_line renewed.answer ≡ renewed_text s = rw e (rw (ne_eqb (renewed_of s).answer.code 0 n')) in
        let w = wrote-line (omega arith) l in
        let size = ap length text in
        (rw room (omega (arith, w.place, size)), rw (room, ← text) w.bytes, omega (arith, w.place, w.small))

    module _ (z : renewed.answer.code ≡ 0) where
      z' : (renewed_of s).answer.code ≡ 0
      z' = rw e at z

      accepted : is_accepted renewed.plan ≡ true
      accepted = rw e (renewed-accepted s z')

      text-is : renewed_text s ≡ text_of renewed.plan
      unfolding renewed_text
      text-is = rw (e, eq-eqb (renewed_of s).answer.code 0 z')

      fits : length (text_of renewed.plan) ≤ 32768
      fits = text-length renewed.plan accepted

      writes : write_answer renewed.plan (length out) ≡ granted
      unfolding write_answer
      writes = rw (accepted, le-ltb (length out) (length (text_of renewed.plan)) (omega (arith, fits)))

      pub renewed-written :
          {w : WriteResult} {m : List ℕ} → w ≡ written_of renewed.plan (length out) → m ≡ buffer_after renewed.plan out → Renewed s out m w.length
      unfolding written_of buffer_after
      renewed-written {w} {m} q b =
          let l : w.length ≡ length (text_of renewed.plan) = ap (λ (x : WriteResult). x.length) q ∙ rw writes in
          let whole : m ≡ sets out 0 (text_of renewed.plan) = b ∙ rw writes in
          (l ∙ ap length (sym text-is) ∙ ap length (sym room), whole ∙ ap (sets out 0) (sym text-is ∙ sym room), omega (arith, l, fits))
