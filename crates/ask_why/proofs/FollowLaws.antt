-- One step from a task to its cause, by lent arrays, whatever they hold.
use Prim.Native.Nat.{ℕ, suc, ◌+◌, ◌<◌, ◌≤◌}
use native.Mathlib.Numerals.{add-one}
use native.Mathlib.Omega.{arith}
use mathlib.Core.Bool.{Bool, true, false, not, ◌&&◌, ◌||◌}
use mathlib.Core.List.{List, ◌∷◌, map}
use mathlib.Core.Path.{◌≡◌, sym, ap, ◌∙◌}
use mathlib.Core.Logic.{⊎_elim}
use lib.Dec.{eqb, ltb}
use lib.ListN.{length, set}
use lib.Seq.{sets}
use borrow.Author.Tests.{ltb-true, lt-ltb, le-ltb}
use Rattle.std.specs.Prelude.{Option, Some, None}
use Rattle.std.proofs.lemmas.Option.{none-some}
use Rattle.laws.specs.Bits.{has}
use Rattle.laws.specs.Scan.{scan_to}
use Rattle.laws.proofs.Cases.{by_bool, by_le, and_r, or_at, or_no, or_l, or_r}
use Rattle.theory.specs.Plan.{Plan}
use Rattle.theory.specs.Book.{due}
use Rattle.theory.specs.Book as theory-book
use Rattle.theory.specs.Chain.{cause, stops_at, chain_of}
use Rattle.theory.proofs.Cause.{cause-none, cause-some, cause-of}
use Rattle.theory.proofs.Chain.{Falls, cause-sooner, chain-last, chain-on}
use Rattle.plan.specs.Value.{at}
use Rattle.book.specs.declared.Book.{Book}
use Rattle.ask_why.specs.Lent.{plan_before}
use Rattle.ask_why.specs.Asked.{plan_by, seen_in}
use Rattle.ask_why.specs.Private.Asked.{below, cause_in}

-- whoever is waited for is planned to start sooner, whatever the arrays hold
pub before_falls : (tasks : ℕ) (ready begin waits : List ℕ) → Falls (plan_before tasks ready begin waits)
before_falls tasks ready begin waits = record { sooner = λ i j li lj w. ltb-true (at begin j) (at begin i) (and_r (has (at waits i) j) _ w) }

module _ (book : Book) (waits : List ℕ) (tasks i : ℕ) (l : i < tasks) where
  abbrev plan : Plan
  plan = plan_by tasks book waits

  abbrev seen : theory-book.Book
  seen = seen_in book

  abbrev links : ℕ → List ℕ
  links k = chain_of plan seen k

  abbrev falls : Falls plan
  falls = before_falls tasks book.ready book.begin waits

  pub link-some : 0 < length (links i)
  link-some =
      by_bool (stops_at plan seen i)
      (λ t. rw (chain-last plan seen falls i l t) (omega arith))
      (λ f. rw (chain-on plan seen falls i l f) (omega arith))

  module _ {since : ℕ} (d : since ≡ due plan (at book.end) i) where
    abbrev soon : Bool
    soon = eqb (at book.start i) 0 || (not (eqb (at book.dropped i) 1) && ltb since (at book.ready i))

    stops-soon : soon ≡ true → stops_at plan seen i ≡ true
    unfolding stops_at
    stops-soon h =
        ⊎_elim
        (λ a. or_l _ a)
        (λ b. or_r (eqb (at book.start i) 0) (or_l _ (rw d at b)))
        (or_at (eqb (at book.start i) 0) _ h)

    pub cause-soon : soon ≡ true → None ≡ cause_in plan seen i
    cause-soon h = rw (stops-soon h)

    module _ (later : soon ≡ false) where
      abbrev c : ℕ
      c = scan_to (λ j. plan.waits i j && eqb (at book.end j) since) tasks (λ j. j) 0 tasks

      is-cause : c ≡ cause plan seen i
      unfolding cause
      is-cause = rw d

      stops-alone : tasks ≤ c → stops_at plan seen i ≡ true
      unfolding stops_at
      stops-alone h =
          let e = is-cause in
          let none = cause-none plan seen i (omega arith) in
          or_r (eqb (at book.start i) 0) (or_r (not (eqb (at book.dropped i) 1) && ltb (due plan (at book.end) i) (at book.ready i)) (ap not none))

      goes_on : c < tasks → stops_at plan seen i ≡ false
      unfolding stops_at
      goes_on h =
          let e = is-cause in
          let some = cause-some plan seen i (omega arith) in
          let a = or_no (eqb (at book.start i) 0) _ later in
          let b : (not (eqb (at book.dropped i) 1) && ltb (due plan (at book.end) i) (at book.ready i)) ≡ false = rw d at a.1 in
          rw (a.0, b, some)

      pub cause-later : {r : Option ℕ} → r ≡ below tasks c → r ≡ cause_in plan seen i
      cause-later q =
          q
          ∙ by_le tasks c
          (λ le. rw (le-ltb c tasks le, stops-alone le))
          (λ lt. rw (lt-ltb c tasks lt, goes_on lt) (ap (λ (k : ℕ). Some k) is-cause))

  module _ (none : None ≡ cause_in plan seen i) where
    stops : stops_at plan seen i ≡ true
    stops = by_bool (stops_at plan seen i) (λ t. t) (λ f. let z : None ≡ Some (cause plan seen i) = none ∙ rw f in absurd (none-some _ z))

    pub stopped :
        (count : ℕ) (old : List ℕ)
        → (count + 1 ≡ count + length (links i)) × (set old count (i + 1) ≡ sets old count (map (λ k. k + 1) (links i)))
    stopped count old = let one = chain-last plan seen falls i l stops in (rw one, rw one)

  module _ {c : ℕ} (some : Some c ≡ cause_in plan seen i) where
    on : (stops_at plan seen i ≡ false) × (c ≡ cause plan seen i)
    on =
        by_bool (stops_at plan seen i)
        (λ t. let z : None ≡ Some c = sym (some ∙ rw t) in absurd (none-some _ z))
        (λ f. let z : Some c ≡ Some (cause plan seen i) = some ∙ rw f in (f, cc))

    pub cause-low : c < tasks
    cause-low = let o = on in let k = cause-of plan seen i o.0 in omega (arith, o.1, k.task)

    pub falls-on : at book.begin c < at book.begin i
    falls-on = let o = on in rw o.1 (cause-sooner plan seen falls i l o.0)

    chain-is : links i ≡ i ∷ links c
    chain-is = let o = on in chain-on plan seen falls i l o.0 ∙ rw o.1

    pub fits_on : (count : ℕ) → count + length (links i) ≤ 64 → count + 1 + length (links c) ≤ 64
    fits_on count fits = let n : length (links i) ≡ suc (length (links c)) = ap length chain-is in omega arith

    pub followed :
        (count : ℕ) (old : List ℕ) {r : ℕ} {new : List ℕ}
        → (r ≡ count + 1 + length (links c)) × (new ≡ sets (set old count (i + 1)) (count + 1) (map (λ k. k + 1) (links c)))
        → (r ≡ count + length (links i)) × (new ≡ sets old count (map (λ k. k + 1) (links i)))
    followed count old w =
        let n : length (links i) ≡ suc (length (links c)) = ap length chain-is in
        (omega (arith, w.0), w.1 ∙ rw (chain-is, add-one count))
