-- The lines of lengths.txt, one after the other.
use Prim.Native.Nat.{ℕ, zero, suc, ◌+◌, ◌≤◌, ◌<◌}
use mathlib.Core.Path.{◌≡◌, refl, sym, ap, ◌∙◌}
use mathlib.Core.Logic.{◌≢◌}
use mathlib.Core.List.{List, [], ◌∷◌}
use native.Mathlib.Omega.{arith}
use lib.ListN.{length, length-drop}
use Rattle.std.specs.Prelude.{Result, Ok, Err}
use borrow.Author.Tests.{eq-eqb, ne_eqb}
use Rattle.laws.proofs.Cases.{by-eq}
use Rattle.laws.specs.Split.{index_of, after}
use Rattle.text.specs.Line.{LF}
use Rattle.plan.specs.Answer.{refuse, granted}
use Rattle.plan.specs.declared.Answer.{Answer}
use Rattle.book.specs.declared.Rule.{Rule}
use Rattle.engine_read.specs.Lines.{marked, line_said, next_said, said_answer}
use Rattle.engine_read.specs.Whole.{Told, told_from, told_in, given_of, asked_not, asked_by}
use Rattle.engine_read.specs.Private.Noted.{note_of, lengths_told, Names}
use Rattle.engine.specs.declared.Lengths.{Lengths}
use Rattle.engine_read.specs.declared.EngineInput.{EngineInput}
use Rattle.engine_read.specs.declared.LengthNotes.{LengthNotes}
use Rattle.engine_read.specs.Said.{LengthLine}
use Rattle.engine_read.proofs.SaidLaws.{Short, line-names, names-most, line-short}
use Rattle.engine_read.proofs.NoteLaws.{noted_of, noted-turn, line-is, given_is}

pub after_less : (s : List ℕ) → 0 < length s → length (after LF s) < length s
after_less s h = omega (arith, length-drop (suc (index_of LF s)) s)

-- ---- the fuel is enough

module _ (tasks : ℕ) where
  abbrev done : List LengthLine → Told
  done said = record { answer = granted; said = said }

  told-empty : (f n : ℕ) (said : List LengthLine) (s : List ℕ) → length s ≡ 0 → told_from f tasks n said s ≡ done said
  unfolding told_from
  told-empty zero n said s h = refl
  told-empty (suc f) n said s h = rw (eq-eqb (length s) 0 h)

  module _ (f n : ℕ) (said : List LengthLine) (s : List ℕ) (some : length s ≢ 0) where
    told-stop :
        (said_answer n (next_said tasks said s)).code ≢ 0
        → told_from (suc f) tasks n said s ≡ record { answer = said_answer n (next_said tasks said s); said = said }
    unfolding told_from
    told-stop h = rw (ne_eqb (length s) 0 some, ne_eqb (said_answer n (next_said tasks said s)).code 0 h)

    told-turn :
        (said_answer n (next_said tasks said s)).code ≡ 0
        → told_from (suc f) tasks n said s ≡ told_from f tasks (n + 1) (next_said tasks said s ∷ said) (after LF s)
    unfolding told_from
    told-turn z = rw (ne_eqb (length s) 0 some, eq-eqb (said_answer n (next_said tasks said s)).code 0 z)

  fuel : (f g n : ℕ) (said : List LengthLine) (s : List ℕ) → length s ≤ f → length s ≤ g → told_from f tasks n said s ≡ told_from g tasks n said s
  fuel zero g n said s p q = told-empty zero n said s (omega arith) ∙ sym (told-empty g n said s (omega arith))
  fuel (suc f) zero n said s p q = told-empty (suc f) n said s (omega arith) ∙ sym (told-empty zero n said s (omega arith))
  fuel (suc f) (suc g) n said s p q =
      by-eq (length s) 0
      (λ z. told-empty (suc f) n said s z ∙ sym (told-empty (suc g) n said s z))
      (λ some.
      let less = after_less s (omega arith) in
      by-eq (said_answer n (next_said tasks said s)).code 0
      (λ t.
      told-turn f n said s some t ∙ fuel f g (n + 1) (next_said tasks said s ∷ said) (after LF s) (omega arith) (omega arith)
      ∙ sym (told-turn g n said s some t))
      (λ h. told-stop f n said s some h ∙ sym (told-stop g n said s some h)))

  module _ (n : ℕ) (said : List LengthLine) (s : List ℕ) where
    pub in-none : length s ≡ 0 → told_in tasks n said s ≡ done said
    in-none h = told-empty (length s) n said s h

    module _ (some : 0 < length s) where
      more-fuel : told_in tasks n said s ≡ told_from (suc (length s)) tasks n said s
      more-fuel = fuel (length s) (suc (length s)) n said s (omega arith) (omega arith)

      pub in-stop :
          (said_answer n (next_said tasks said s)).code ≢ 0
          → told_in tasks n said s ≡ record { answer = said_answer n (next_said tasks said s); said = said }
      in-stop h = more-fuel ∙ told-stop (length s) n said s (λ z. omega arith) h

      pub in-turn :
          (said_answer n (next_said tasks said s)).code ≡ 0 → told_in tasks n said s ≡ told_in tasks (n + 1) (next_said tasks said s ∷ said) (after LF s)
      in-turn t =
          let less = after_less s some in
          more-fuel
          ∙ told-turn (length s) n said s (λ z. omega arith) t
          ∙ fuel (length s) (length (after LF s)) (n + 1) (next_said tasks said s ∷ said) (after LF s) (omega arith) (omega arith)

  -- where nothing is refused, nothing more is said
  told-fine :
      (f n : ℕ) (said : List LengthLine) (s : List ℕ) → (told_from f tasks n said s).answer.code ≡ 0 → (told_from f tasks n said s).answer ≡ granted
  unfolding told_from
  told-fine zero n said s h = refl
  told-fine (suc f) n said s h =
      by-eq (length s) 0
      (λ z. rw (eq-eqb (length s) 0 z))
      (λ some.
      by-eq (said_answer n (next_said tasks said s)).code 0
      (λ t.
      rw (ne_eqb (length s) 0 some, eq-eqb (said_answer n (next_said tasks said s)).code 0 t)
      (told-fine f (n + 1) (next_said tasks said s ∷ said) (after LF s) (rw (ne_eqb (length s) 0 some, eq-eqb (said_answer n (next_said tasks said s)).code 0 t) at h)))
      (λ b. absurd (b (rw (ne_eqb (length s) 0 some, ne_eqb (said_answer n (next_said tasks said s)).code 0 b) at h))))

-- ---- the lengths and drops, and what is asked by them

module _ (rule : Rule) (tasks : ℕ) (begin finish : List ℕ) (n : ℕ) (text : List ℕ) where
  abbrev told : Told
  told = told_in tasks n [] text

  pub asked-given :
      {given : Lengths} → Ok given ≡ lengths_told tasks begin finish told → {a : Answer} → a ≡ refuse 0 0 0
      → ◌≡◌ {A = EngineInput} (record { answer = a; rule = rule; given = given }) (asked_by rule tasks begin finish told)
  asked-given {given} h p =
      by-eq told.answer.code 0
      (λ z.
      let q : Ok given ≡ Ok (given_of tasks begin finish told.said) = rw (eq-eqb told.answer.code 0 z) at h in
      let g : given ≡ given_of tasks begin finish told.said = cc in
      let e = p ∙ sym (told-fine tasks (length text) n [] text z) in
      rw (eq-eqb told.answer.code 0 z) (λ i. record { answer = e i; rule = rule; given = g i }))
      (λ ne. let q : Ok given ≡ Err told.answer = rw (ne_eqb told.answer.code 0 ne) at h in cc)

  pub asked-refused :
      {a : Answer} → Err a ≡ lengths_told tasks begin finish told → {r : EngineInput} → r ≡ asked_not a → r ≡ asked_by rule tasks begin finish told
  asked-refused {a} h p =
      by-eq told.answer.code 0
      (λ z. let q : Err a ≡ Ok (given_of tasks begin finish told.said) = rw (eq-eqb told.answer.code 0 z) at h in cc)
      (λ ne.
      let q : Err a ≡ Err told.answer = rw (ne_eqb told.answer.code 0 ne) at h in
      let e : a ≡ told.answer = cc in
      rw (ne_eqb told.answer.code 0 ne) (p ∙ ap asked_not e))

-- ---- the walk over the lines

pub record Walk (tasks : ℕ) (begin finish : List ℕ) (first : ℕ) (text : List ℕ) (noted : LengthNotes) (line : ℕ) (rest : List ℕ) : Type 0 where
  pub said : List LengthLine
  pub kept : noted ≡ noted_of tasks begin finish said
  pub lines : line + length rest ≤ length text + 2
  pub tells : told_in tasks line said rest ≡ told_in tasks first [] text

module _ {tasks : ℕ} {begin finish : List ℕ} {first : ℕ} {text : List ℕ} where
  pub walk_start : {noted : LengthNotes} → first ≤ 2 → noted ≡ noted_of tasks begin finish [] → Walk tasks begin finish first text noted first text
  walk_start h e = record { said = []; kept = e; lines = omega arith; tells = refl }

  module _ {noted : LengthNotes} {line : ℕ} {rest : List ℕ} (w : Walk tasks begin finish first text noted line rest) where
    pub walk_end :
        length rest ≤ 0
        → ◌≡◌ {A = Result Lengths Answer} (Ok (record { length = noted.length; dropped = noted.dropped })) (lengths_told tasks begin finish (told_in tasks first [] text))
    walk_end h =
        let t = sym (in-none tasks line w.said rest (omega arith)) ∙ w.tells in
        let g = given_is tasks begin finish w.said w.kept in
        (λ i. Ok (g i)) ∙ ap (lengths_told tasks begin finish) t

    module _ (few : tasks ≤ 64) {s : LengthLine} (read : s ≡ line_said tasks (marked noted.known) (marked noted.dropped) rest) where
      read_next : s ≡ next_said tasks w.said rest
      read_next =
          read ∙ ap (λ (x : LengthNotes). line_said tasks (marked x.known) (marked x.dropped) rest) w.kept
          ∙ line-is tasks few begin finish w.said rest

      pub walk-short : length text ≤ 32768 → Short s
      walk-short h = rw read (line-short tasks (marked noted.known) (marked noted.dropped) rest (omega (arith, w.lines)))

      walk-names : Names tasks s
      walk-names = rw read (line-names tasks few (marked noted.known) (marked noted.dropped) rest)

      pub walk-notes : Names 64 s
      walk-notes = names-most s few walk-names

      module _ (some : 0 < length rest) where
        answer-next : said_answer line s ≡ said_answer line (next_said tasks w.said rest)
        answer-next = ap (said_answer line) read_next

        pub walk-stops :
            (said_answer line s).code ≢ 0 → {a : Answer} → a ≡ said_answer line s
            → ◌≡◌ {A = Result Lengths Answer} (Err a) (lengths_told tasks begin finish (told_in tasks first [] text))
        walk-stops n q =
            let n' : (said_answer line (next_said tasks w.said rest)).code ≢ 0 = rw answer-next at n in
            let t = sym (in-stop tasks line w.said rest some n') ∙ w.tells in
            rw (q, answer-next) (refused (said_answer line (next_said tasks w.said rest)) w.said n' ∙ ap (lengths_told tasks begin finish) t)
          where
            refused : (b : Answer) (l : List LengthLine) → b.code ≢ 0 → ◌≡◌ {A = Result Lengths Answer} (Err b) (lengths_told tasks begin finish (record { answer = b; said = l }))
            refused b l n = rw (ne_eqb b.code 0 n)

        pub walk-goes :
            (said_answer line s).code ≡ 0 → {noted' : LengthNotes} {next : List ℕ} → noted' ≡ note_of noted s → next ≡ after LF rest
            → Walk tasks begin finish first text noted' (line + 1) next
        walk-goes z {noted'} {next} e u =
            let z' : (said_answer line (next_said tasks w.said rest)).code ≡ 0 = rw answer-next at z in
            let less = after_less rest some in
            rw u
            (record {
              said = next_said tasks w.said rest ∷ w.said;
              kept =
                  e ∙ ap (λ (x : LengthNotes). note_of x s) w.kept ∙ ap (note_of (noted_of tasks begin finish w.said)) read_next
                  ∙ noted-turn tasks few begin finish w.said (next_said tasks w.said rest) (rw read_next at walk-names);
              lines = omega (arith, w.lines);
              tells = sym (in-turn tasks line w.said rest some z') ∙ w.tells;
            })
