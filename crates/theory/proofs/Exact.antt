-- Of a lawful plan and a sound book: each link ended when the task it let go started, no task repeats, and run times add up.
use mathlib.Core.Path.{◌≡◌, refl, sym, ap, ◌∙◌}
use mathlib.Core.Logic.{◌≢◌, ⊎_elim}
use mathlib.Core.Bool.{true, false, not, ◌&&◌}
use mathlib.Core.List.{List, [], ◌∷◌}
use Prim.Native.Nat.{ℕ, zero, suc, ◌+◌, ◌≤◌, ◌<◌}
use native.Mathlib.Omega.{arith}
use lib.Dec.{eqb, ltb}
use lib.ListN.{length, get_or}
use borrow.Author.Tests.{eqb-true, eqb-false, eq-eqb, ne_eqb, lt-ltb, ltb-true, not-true}
use Rattle.laws.specs.Every.{any}
use Rattle.laws.proofs.Cases.{by_bool, by-eq, by_le, or_at, or_l, or_r, and_l, and_r, and-of}
use Rattle.theory.specs.Plan.{Plan}
use Rattle.theory.specs.Book.{Book, is_dropped, due}
use Rattle.theory.proofs.Facts.{Lawful, Sound}
use Rattle.theory.proofs.Task.{ended-within}
use Rattle.theory.proofs.Order.{started-due, skipped-due, in_order}
use Rattle.theory.specs.Chain.{cause, stops_at, chain_of}
use Rattle.theory.specs.Words.Times.{ran_for}
use Rattle.theory.proofs.Cause.{Caused, cause-of, goes_on}
use Rattle.theory.proofs.Chain.{lawful-falls, cause-sooner, chain-last, chain-on}

-- where a chain stops, as facts
pub data Stops (plan : Plan) (book : Book) (i : ℕ) : Type 0 where
  at_zero : book.start i ≡ 0 → Stops plan book i
  ready_later : book.dropped i ≢ 1 → due plan book.end i < plan.ready i → Stops plan book i
  nobody : any plan.tasks (plan.waits i) ≡ false → Stops plan book i

module _ (plan : Plan) (book : Book) (i : ℕ) where
  pub stops_at_lem : stops_at plan book i ≡ true → Stops plan book i
  unfolding stops_at
  stops_at_lem h =
      ⊎_elim
      (λ z. Stops.at_zero (eqb-true (book.start i) 0 z))
      (λ r.
      ⊎_elim
      (λ q.
      Stops.ready_later (eqb-false (book.dropped i) 1 (not-true _ (and_l _ _ q)))
      (ltb-true _ _ (and_r (not (is_dropped book.dropped i)) _ q)))
      (λ n. Stops.nobody (not-true _ n))
      (or_at (not (is_dropped book.dropped i) && ltb (due plan book.end i) (plan.ready i)) _ r))
      (or_at (eqb (book.start i) 0) _ h)

  pub stops-of : Stops plan book i → stops_at plan book i ≡ true
  unfolding stops_at
  stops-of (Stops.at_zero z) = or_l _ (eq-eqb (book.start i) 0 z)
  stops-of (Stops.ready_later n l) =
      or_r (eqb (book.start i) 0) (or_l _ (and-of (ap not (ne_eqb (book.dropped i) 1 n)) (lt-ltb _ _ l)))
  stops-of (Stops.nobody n) =
      or_r (eqb (book.start i) 0) (or_r (not (is_dropped book.dropped i) && ltb (due plan book.end i) (plan.ready i)) (ap not n))

-- b's end let a start
pub record LetGo (plan : Plan) (book : Book) (a b : ℕ) : Type 0 where
  pub on : stops_at plan book a ≡ false
  pub cause : Caused plan book a b
  pub over : book.mark b ≡ 2
  pub lets : book.end b ≡ book.start a
  pub ran : book.start b ≤ book.end b
  pub sooner : plan.begin b < plan.begin a

-- a chain from task i, link by link
pub record Linked (plan : Plan) (book : Book) (i : ℕ) (l : List ℕ) : Type 0 where
  pub some : 0 < length l
  pub first : get_or l 0 0 ≡ i
  pub task : (k : ℕ) → k < length l → get_or l k 0 < plan.tasks
  pub started : (k : ℕ) → k < length l → book.mark (get_or l k 0) ≢ 0
  pub link : (k : ℕ) → suc k < length l → LetGo plan book (get_or l k 0) (get_or l (suc k) 0)
  pub last : (k : ℕ) → suc k ≡ length l → stops_at plan book (get_or l k 0) ≡ true

module _ (plan : Plan) (book : Book) where
  alone : (i : ℕ) → i < plan.tasks → book.mark i ≢ 0 → stops_at plan book i ≡ true → Linked plan book i (i ∷ [])
  alone i l n t = record { some = omega arith; first = refl; task = tasks; started = marks; link = λ k h. absurd (omega arith); last = lasts }
    where
      tasks : (k : ℕ) → k < 1 → get_or (i ∷ []) k 0 < plan.tasks
      tasks zero h = l
      tasks (suc k) h = absurd (omega arith)

      marks : (k : ℕ) → k < 1 → book.mark (get_or (i ∷ []) k 0) ≢ 0
      marks zero h = n
      marks (suc k) h = absurd (omega arith)

      lasts : (k : ℕ) → suc k ≡ 1 → stops_at plan book (get_or (i ∷ []) k 0) ≡ true
      lasts zero h = t
      lasts (suc k) h = absurd (omega arith)

  onto :
      (i c : ℕ) (rest : List ℕ) → i < plan.tasks → book.mark i ≢ 0 → LetGo plan book i c → Linked plan book c rest
      → Linked plan book i (i ∷ rest)
  onto i c rest l n go r = record { some = omega arith; first = refl; task = tasks; started = marks; link = links; last = lasts }
    where
      tasks : (k : ℕ) → k < suc (length rest) → get_or (i ∷ rest) k 0 < plan.tasks
      tasks zero h = l
      tasks (suc k) h = r.task k (omega arith)

      marks : (k : ℕ) → k < suc (length rest) → book.mark (get_or (i ∷ rest) k 0) ≢ 0
      marks zero h = n
      marks (suc k) h = r.started k (omega arith)

      links : (k : ℕ) → suc k < suc (length rest) → LetGo plan book (get_or (i ∷ rest) k 0) (get_or rest k 0)
      links zero h = rw r.first go
      links (suc k) h = r.link k (omega arith)

      lasts : (k : ℕ) → suc k ≡ suc (length rest) → stops_at plan book (get_or (i ∷ rest) k 0) ≡ true
      lasts zero h = let s = r.some in absurd (omega arith)
      lasts (suc k) h = r.last k (omega arith)

  module _ (law : Lawful plan) (sound : Sound plan book) where
    -- the latest of the ends it waited for is its start, unless the chain stops there
    start_is : (i : ℕ) → i < plan.tasks → book.mark i ≢ 0 → stops_at plan book i ≡ false → due plan book.end i ≡ book.start i
    start_is i l n f =
        by-eq (book.dropped i) 1
        (λ d. sym (skipped-due plan book sound i l n d))
        (λ o. let s = started-due plan book sound i l n o in let r = (goes_on plan book i f).ready o in omega arith)

    let_go : (i : ℕ) → i < plan.tasks → book.mark i ≢ 0 → stops_at plan book i ≡ false → LetGo plan book i (cause plan book i)
    let_go i l n f =
        let c = cause-of plan book i f in
        let over = (in_order plan book sound i (cause plan book i) l c.task c.held n).0 in
        record {
          on = f;
          cause = c;
          over = over;
          lets = c.latest ∙ start_is i l n f;
          ran = (ended-within (sound.task (cause plan book i) c.task) over).0;
          sooner = cause-sooner plan book (lawful-falls plan law) i l f;
        }

    go : (n i : ℕ) → plan.begin i < n → i < plan.tasks → book.mark i ≢ 0 → Linked plan book i (chain_of plan book i)
    go zero i b l m = absurd (omega arith)
    go (suc n) i b l m =
        by_bool (stops_at plan book i)
        (λ t. rw (chain-last plan book (lawful-falls plan law) i l t) (alone i l m t))
        (λ f.
        let g = let_go i l m f in
        let over = g.over in
        let sooner = g.sooner in
        rw (chain-on plan book (lawful-falls plan law) i l f)
        (onto i (cause plan book i) (chain_of plan book (cause plan book i)) l m g
        (go n (cause plan book i) (omega arith) g.cause.task (omega arith))))

    -- a chain is linked from the asked task to one where it stops
    pub linked : (i : ℕ) → i < plan.tasks → book.mark i ≢ 0 → Linked plan book i (chain_of plan book i)
    linked i l m = go (suc (plan.begin i)) i (omega arith) l m

  module _ {i : ℕ} {l : List ℕ} (r : Linked plan book i l) where
    -- planned starts fall along it
    pub falls-along : (j k : ℕ) → j < k → k < length l → plan.begin (get_or l k 0) < plan.begin (get_or l j 0)
    falls-along j zero h b = absurd (omega arith)
    falls-along j (suc k) h b =
        let s = (r.link k b).sooner in
        by-eq j k (λ e. rw e s) (λ ne. let q = falls-along j k (omega arith) (omega arith) in omega arith)

    -- so no task repeats
    pub once : (j k : ℕ) → j < k → k < length l → get_or l j 0 ≢ get_or l k 0
    once j k h b e = let f = falls-along j k h b in let q = ap plan.begin e in omega arith

    -- it goes on at each link but the last
    pub stops-last : (k : ℕ) → k < length l → stops_at plan book (get_or l k 0) ≡ true → suc k ≡ length l
    stops-last k b t = by_le (length l) (suc k) (λ h. omega arith) (λ h. let f = (r.link k h).on in let z : ◌≡◌ {A = ℕ} 0 1 = cc in absurd (omega arith))

    -- run times add up
    pub adds-up : (n : ℕ) → n < length l → ran_for book (λ k. get_or l k 0) n + book.start (get_or l n 0) ≡ book.start i
    unfolding ran_for
    adds-up zero b = let q = ap book.start r.first in omega arith
    adds-up (suc n) b =
        let q = adds-up n (omega arith) in
        let g = r.link n b in
        let lets = g.lets in
        let ran = g.ran in
        omega arith
