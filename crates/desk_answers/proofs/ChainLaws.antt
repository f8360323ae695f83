-- The links of a chain, one after the other.
use Prim.Native.Nat.{ℕ, ◌+◌, ◌-◌, ◌*◌, ◌≤◌, ◌<◌, min}
use mathlib.Core.Path.{◌≡◌, sym, ap, subst, ◌∙◌}
use mathlib.Core.Logic.{◌≢◌}
use mathlib.Core.List.{List, [], ◌∷◌, ◌++◌, map}
use native.Mathlib.Omega.{arith}
use native.Mathlib.Numerals.{add-one}
use lib.Dec.{eqb}
use Rattle.std.specs.Prelude.{Option, is_some, unwrap_or}
use Rattle.std.specs.Bool.{then_some}
use lib.ListN.{length, get_or, replicate, length-replicate, length-take, take}
use lib.Seq.{length-sets, take_all, take-suc}
use Rattle.laws.proofs.Cases.{by_bool, by_le}
use Rattle.text.specs.Bytes.{bytes}
use Rattle.theory.specs.Book.{ended}
use Rattle.theory.specs.Chain.{chain_of}
use Rattle.plan.specs.Answer.{refuse, granted}
use Rattle.plan.specs.Value.{at}
use Rattle.plan.specs.declared.Answer.{Answer}
use Rattle.book.specs.View.{plan_view, book_view}
use Rattle.book.specs.Sound.{is_sound}
use Rattle.book.specs.declared.Book.{Book}
use Rattle.ask_why.specs.Chained.{why_code, chained, chain_for}
use Rattle.ask_why.specs.declared.Chain.{Chain}
use Rattle.ask_why.specs.Why.{why_of}
use Rattle.log_write.specs.Lines.{numbers_line, refused_line, Lined}
use Rattle.log_write.specs.Answers.{Answered}
use Rattle.log_write.specs.Private.Wrote.{Wrote}
use Rattle.log_write.proofs.WriteLaws.{also, looser, nothing, wrote-line, wrote-length}
use Rattle.desk_answers.specs.Answers.{lines_each, known_line}
use Rattle.desk_answers.proofs.LineLaws.{each_last}
use Rattle.desk_answers.proofs.AnswerLaws.{answered, known-as, unless-no, unless-yes}
use Rattle.desk_answers.specs.Questions.{link_line, links_in, why_answer}

-- ---- one link, and the next

module _ (book : Book) where
  pub one_link :
      (task : ℕ) {out : List ℕ} {p : ℕ} {m : List ℕ} {q : ℕ} {i a b c : ℕ} {d : Option ℕ} → i ≡ task - 1 → a ≡ task → b ≡ at book.board i → c ≡ at book.start i
      → d ≡ then_some (ended (at book.mark) i) (at book.end i) → p + 52 ≤ length out
      → Lined out p (known_line (bytes "link") (a ∷ b ∷ c ∷ []) (is_some d) (unwrap_or d 0)) 52 m q → Wrote out p (link_line book task) 52 m q
  one_link task {out} {p} {m} {q} {i} {a} {b} {c} {d} e x y z u fits w =
      let s : known_line (bytes "link") (a ∷ b ∷ c ∷ []) (is_some d) (unwrap_or d 0) ≡ link_line book task =
      known-as (bytes "link") (a ∷ b ∷ c ∷ []) (ended (at book.mark) i) (at book.end i) u
      ∙ (λ j. known_line (bytes "link") (x j ∷ y j ∷ z j ∷ []) (ended (at book.mark) i) (at book.end i))
      ∙ ap (λ (k : ℕ). known_line (bytes "link") (task ∷ at book.board k ∷ at book.start k ∷ []) (ended (at book.mark) k) (at book.end k)) e in
      subst (λ (l : List ℕ). Wrote out p l 52 m q) s (wrote-line fits w)

  abbrev pub Below : List ℕ → ℕ → List ℕ → List ℕ → ℕ → Type 0
  Below links n out m p = Wrote out 0 (lines_each (link_line book) (take n links)) (52 * n) m p

  pub links-none : (links out : List ℕ) → Below links 0 out out 0
  unfolding lines_each
  links-none links out = nothing out 0 0

  pub links-turn :
      (links : List ℕ) (i : ℕ) {out m : List ℕ} {p : ℕ} {m' : List ℕ} {p' : ℕ} → i < length links → Below links i out m p
      → Wrote m p (link_line book (get_or links i 0)) 52 m' p' → Below links (i + 1) out m' p'
  links-turn links i {out} {m' = m'} {p' = p'} h v w =
      let e = ap (lines_each (link_line book)) (ap (λ (n : ℕ). take n links) (add-one i) ∙ take-suc links i 0 h) ∙ each_last (link_line book) (take i links) (get_or links i 0) in
      subst (λ (l : List ℕ). Wrote out 0 l (52 * (i + 1)) m' p') (sym e) (looser {a = 52 * i + 52} (omega arith) (also v w))

  pub links-all : (links : List ℕ) (n : ℕ) {out m : List ℕ} {p : ℕ} → n ≡ length links → Below links n out m p → Wrote out 0 (lines_each (link_line book) links) (52 * length links) m p
  links-all links n {out} {m} {p} e v =
      let v' : Below links (length links) out m p = rw e at v in
      subst (λ (l : List ℕ). Wrote out 0 (lines_each (link_line book) l) (52 * length links) m p) (take_all (length links) links (omega arith)) v'

-- ---- the whole answer

few-links : (links : List ℕ) (count : ℕ) → length links ≡ 64 → take (min count 64) links ≡ take count links
few-links links count s =
    by_le count 64
    (λ h. let e : min count 64 ≡ count = omega arith in ap (λ (n : ℕ). take n links) e)
    (λ h.
    let e : min count 64 ≡ 64 = omega arith in
    let a : length links ≤ 64 = omega arith in
    let b : length links ≤ count = omega arith in
    ap (λ (n : ℕ). take n links) e ∙ take_all 64 links a ∙ sym (take_all count links b))

chained-sized : (answer : Answer) (l : List ℕ) → length (chained answer l).links ≡ 64
chained-sized answer l = length-sets {A = ℕ} (replicate 64 0) 0 (map (λ (i : ℕ). i + 1) l) ∙ length-replicate {A = ℕ} 64 0

why-sized : (book : Book) (task : ℕ) → length (why_of book task).links ≡ 64
unfolding why_of chain_for
why-sized book task =
    by_bool (is_sound book)
    (λ s.
    rw s
    (by_bool (eqb (why_code (plan_view book) (book_view book) task) 0)
    (λ z. rw z (chained-sized granted (chain_of (plan_view book) (book_view book) (task - 1))))
    (λ z. rw z (chained-sized (refuse (why_code (plan_view book) (book_view book) task) task 0) []))))
    (λ s. rw s (chained-sized (refuse 9 0 0) []))

pub links-sized : (book : Book) (task : ℕ) {chain : Chain} → chain ≡ why_of book task → length chain.links ≡ 64
links-sized book task e = ap (λ (c : Chain). length c.links) e ∙ why-sized book task

module _ (book : Book) (task : ℕ) {chain : Chain} (e : chain ≡ why_of book task) where
  pub why-no :
      {out m : List ℕ} {p : ℕ} → chain.answer.code ≢ 0 → Answered out (refused_line chain.answer) m p → Answered out (why_answer book task) m p
  unfolding why_answer
  why-no n a = unless-no (why_of book task).answer _ (rw e at n) (rw e at a)

  pub why-yes :
      {n : ℕ} {out m : List ℕ} {p : ℕ} {m' : List ℕ} {p' : ℕ} → chain.answer.code ≡ 0 → length out ≡ 3432
      → n ≡ min chain.count 64 → {part : List ℕ} → part ≡ take n chain.links
      → Wrote out 0 (lines_each (link_line book) part) (52 * length part) m p
      → Lined m p (numbers_line (bytes "why") (task ∷ chain.count ∷ [])) 30 m' p' → Answered out (why_answer book task) m' p'
  unfolding why_answer
  why-yes {n} {out} {m} {p} {m'} {p'} z l q {part} s v w =
      let t : part ≡ links_in chain = s ∙ ap (λ (k : ℕ). take k chain.links) q ∙ few-links chain.links chain.count (links-sized book task e) in
      let few : length part ≤ 64 = omega (arith, q, ap length s ∙ length-take n chain.links) in
      let v' : Wrote out 0 (lines_each (link_line book) (links_in chain)) (52 * length part) m p =
      subst (λ (k : List ℕ). Wrote out 0 (lines_each (link_line book) k) (52 * length part) m p) t v in
      let x = wrote-line (omega (arith, few, v'.place, v'.small, wrote-length v')) w in
      let y : Answered out (lines_each (link_line book) (links_in chain) ++ numbers_line (bytes "why") (task ∷ chain.count ∷ [])) m' p' =
      answered {a = 52 * length part + 30} (omega (arith, few)) (also v' x) in
      unless-yes (why_of book task).answer _ (rw e at z) (rw e at y)
