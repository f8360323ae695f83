-- Lines of an answer, one for each task number.
use Prim.Native.Nat.{ℕ, ◌+◌, ◌-◌, ◌*◌, ◌≤◌}
use mathlib.Core.Path.{◌≡◌, refl, sym, ap, subst, ◌∙◌}
use mathlib.Core.Logic.{◌≢◌}
use mathlib.Core.List.{List, [], ◌∷◌, ◌++◌, append_assoc, append-nil}
use native.Mathlib.Omega.{arith}
use native.Mathlib.Numerals.{add-one}
use lib.ListN.{length, length-append}
use borrow.Author.Tests.{eq-eqb, ne_eqb}
use Rattle.theory.specs.Book.{running}
use Rattle.plan.specs.Value.{at}
use Rattle.ask_sheet.specs.Sheet.{numbers}
use Rattle.text.specs.Bytes.{bytes}
use Rattle.log_write.specs.Lines.{numbers_line, Lined}
use Rattle.log_write.specs.Private.Wrote.{Wrote}
use Rattle.log_write.proofs.WriteLaws.{also, looser, nothing, wrote-length, wrote-line}
use Rattle.book.specs.declared.Book.{Book}
use Rattle.desk_answers.specs.Answers.{lines_each, runs_line}
use Rattle.desk_answers.specs.Private.Arrays.{Running}

pub each_last : (line : ℕ → List ℕ) (l : List ℕ) (task : ℕ) → lines_each line (l ++ (task ∷ [])) ≡ lines_each line l ++ line task
unfolding lines_each
each_last line [] task = append-nil (line task)
each_last line (k ∷ l) task = ap (λ (s : List ℕ). line k ++ s) (each_last line l task) ∙ sym (append_assoc (line k) (lines_each line l) (line task))

-- lines that say the same of every task
pub each_same : (f g : ℕ → List ℕ) → ((task : ℕ) → f task ≡ g task) → (l : List ℕ) → lines_each f l ≡ lines_each g l
unfolding lines_each
each_same f g h [] = refl
each_same f g h (k ∷ l) = let e = h k in let r = each_same f g h l in λ i. e i ++ r i

-- ---- the tasks that run, one after the other

module _ (book : Book) where
  abbrev line : ℕ → List ℕ
  line = runs_line book

  abbrev these : ℕ → List ℕ
  these n = numbers n (running (at book.mark))

  abbrev pub Below : ℕ → List ℕ → List ℕ → ℕ → ℕ → Type 0
  Below n out m p c = Running book out n m p c

  pub run_none : (out : List ℕ) → Below 0 out out 0 0
  unfolding numbers lines_each
  run_none out = record { wrote = nothing out 0 0; many = refl; few = omega arith }

  module _ {out : List ℕ} {n : ℕ} {m : List ℕ} {p c : ℕ} (w : Below n out m p c) where
    pub run_length : length m ≡ length out
    run_length = wrote-length w.wrote

    passes : at book.mark n ≢ 1 → these (n + 1) ≡ these n
    unfolding numbers
    passes h = ap these (add-one n) ∙ rw (ne_eqb (at book.mark n) 1 h)

    goes : at book.mark n ≡ 1 → these (n + 1) ≡ these n ++ ((n + 1) ∷ [])
    unfolding numbers
    goes h = ap these (add-one n) ∙ rw (eq-eqb (at book.mark n) 1 h) (ap (λ (k : ℕ). these n ++ (k ∷ [])) (sym (add-one n)))

    pub run-passes : at book.mark n ≢ 1 → Below (n + 1) out m p c
    run-passes h =
        let e = passes h in
        record {
          wrote = subst (λ (l : List ℕ). Wrote out 0 (lines_each line l) (52 * (n + 1)) m p) (sym e) (looser (omega arith) w.wrote);
          many = w.many ∙ ap length (sym e);
          few = omega (arith, w.few);
        }

    line_of : {limit : ℕ} → limit ≡ at book.start n + (at book.finish n - at book.begin n) → numbers_line (bytes "runs") ((n + 1) ∷ at book.board n ∷ at book.start n ∷ limit ∷ []) ≡ line (n + 1)
    line_of q =
        let e : n + 1 - 1 ≡ n = omega arith in
        ap (λ (k : ℕ). numbers_line (bytes "runs") ((n + 1) ∷ at book.board n ∷ at book.start n ∷ k ∷ [])) q
        ∙ ap
        (λ (k : ℕ). numbers_line (bytes "runs") ((n + 1) ∷ at book.board k ∷ at book.start k ∷ (at book.start k + (at book.finish k - at book.begin k)) ∷ []))
        (sym e)

    pub run-goes :
        {limit : ℕ} {m' : List ℕ} {p' : ℕ} → at book.mark n ≡ 1 → p + 52 ≤ length m → limit ≡ at book.start n + (at book.finish n - at book.begin n)
        → Lined m p (numbers_line (bytes "runs") ((n + 1) ∷ at book.board n ∷ at book.start n ∷ limit ∷ [])) 52 m' p' → Below (n + 1) out m' p' (c + 1)
    run-goes {limit} {m'} {p'} h fits q u =
        let v : Lined m p (line (n + 1)) 52 m' p' = rw (line_of q) at u in
        let e : lines_each line (these (n + 1)) ≡ lines_each line (these n) ++ line (n + 1) =
        ap (lines_each line) (goes h) ∙ each_last line (these n) (n + 1) in
        let k : length (these (n + 1)) ≡ length (these n) + 1 = ap length (goes h) ∙ length-append (these n) ((n + 1) ∷ []) in
        record {
          wrote =
              subst (λ (l : List ℕ). Wrote out 0 l (52 * (n + 1)) m' p') (sym e)
              (looser {a = 52 * n + 52} (omega arith) (also w.wrote (wrote-line fits v)));
          many = omega (arith, k, w.many);
          few = omega (arith, w.few);
        }
