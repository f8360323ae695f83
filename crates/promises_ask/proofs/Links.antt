-- What the theory says of a chain, in the words of the promises.
use Prim.Native.Nat.{ℕ, zero, suc, ◌+◌, ◌-◌, ◌≤◌, ◌<◌}
use native.Mathlib.Omega.{arith}
use mathlib.Core.Path.{◌≡◌, refl, ap, ◌∙◌}
use mathlib.Core.Logic.{◌≢◌, ◌↔◌}
use mathlib.Core.Bool.{true}
use mathlib.Core.List.{List}
use lib.ListN.{length}
use Rattle.laws.specs.Every.{any}
use Rattle.laws.proofs.Cases.{by_bool, by-eq, by_le, true-false}
use Rattle.laws.proofs.Every.{any_at, any-not}
use Rattle.laws.proofs.Latest.{latest-over, latest-under, latest-none}
use Rattle.theory.proofs.Facts.{Lawful}
use Rattle.theory.proofs.Task.{skipped-now}
use Rattle.theory.proofs.Order.{started-due, skipped-due, ready-ahead}
use Rattle.theory.proofs.Task.{end-by-clock}
use Rattle.theory.specs.Chain.{chain_of}
use Rattle.theory.specs.Words.Times.{ran_for}
use Rattle.theory.proofs.Cause.{Caused}
use Rattle.theory.proofs.Exact.{Stops, stops_at_lem, stops-of, LetGo, Linked, linked, once, stops-last, adds-up}
use Rattle.theory.proofs.Chain.{lawful-falls, chain-last}
use Rattle.plan.specs.Value.{at}
use Rattle.book_view.proofs.Accepted.{plan-lawful}
use Rattle.book.specs.View.{plan_in, plan_view, book_view}
use Rattle.book.specs.Sound.{is_sound}
use Rattle.book.specs.declared.Book.{Book}
use Rattle.book.proofs.Soundness.{SoundFacts, is-sound-facts}
use Rattle.ask_why.specs.declared.Chain.{Chain}
use Rattle.ask_why.specs.Why.{why_of}
use Rattle.promises.specs.Runs.{Ended, Started, Dropped, start_of, end_of, WaitsFor}
use Rattle.promises.proofs.Edition1.{book-unready}
use Rattle.promises_ask.specs.Chains.{link_of, Cause, StopsAt, last_of, ran_along}
use Rattle.promises_ask.proofs.Given.{Handed, handed, granted-of, place_of, place-past}

-- the sum looks only at its links
ran-same :
    (book : Book) (f g : ℕ → ℕ) (n : ℕ) → ((k : ℕ) → k ≤ n → f k ≡ g k) → ran_for (book_view book) f n ≡ ran_for (book_view book) g n
unfolding ran_for
ran-same book f g zero e = refl
ran-same book f g (suc n) e = rw (e (suc n) (omega arith), ran-same book f g n (λ k h. e k (omega arith)))

module _ (book : Book) (i : ℕ) where
  cause-words : {c : ℕ} → Caused (plan_view book) (book_view book) i c → Cause book i c
  cause-words {c} r = record {
    task = r.task;
    awaited = r.held;
    latest = λ j l w. let o = latest-over book.tasks ((plan_view book).waits i) (at book.end) j l w in let e = r.latest in omega arith;
    lowest = λ j l w e. by_le c j (λ h. h) (λ h. absurd (r.lowest j h w (e ∙ r.latest)));
  }

  stops-words : Stops (plan_view book) (book_view book) i → StopsAt book i
  stops-words (Stops.at_zero z) = StopsAt.started_at_0 z
  stops-words (Stops.ready_later n l) =
      StopsAt.ready_later n
      (λ j lj w. let o = latest-over book.tasks ((plan_view book).waits i) (at book.end) j lj w in omega arith)
  stops-words (Stops.nobody n) = StopsAt.for_nobody (λ j l w. true-false w (any-not book.tasks ((plan_view book).waits i) n j l))

  nobody-words : ((j : ℕ) → j < book.tasks → WaitsFor book i j → ⊥) → Stops (plan_view book) (book_view book) i
  nobody-words none =
      Stops.nobody
      (by_bool (any book.tasks ((plan_view book).waits i))
      (λ t. let a = any_at book.tasks ((plan_view book).waits i) t in absurd (none a.0 a.1 a.2))
      (λ f. f))

  words-stop : StopsAt book i → Stops (plan_view book) (book_view book) i
  words-stop (StopsAt.started_at_0 z) = Stops.at_zero z
  words-stop (StopsAt.for_nobody none) = nobody-words none
  words-stop (StopsAt.ready_later n all) =
      by_bool (any book.tasks ((plan_view book).waits i))
      (λ t.
      let a = any_at book.tasks ((plan_view book).waits i) t in
      let first = all a.0 a.1 a.2 in
      let u = latest-under book.tasks ((plan_view book).waits i) (at book.end) (at book.ready i - 1)
      (λ j l w. let h = all j l w in omega arith) in
      Stops.ready_later n (omega arith))
      (λ f. Stops.nobody f)

module _ (book : Book) (task : ℕ) (taken : (why_of book task).answer.code ≡ 0) where
  abbrev chain : Chain
  chain = why_of book task

  abbrev links : List ℕ
  links = chain_of (plan_view book) (book_view book) (task - 1)

  given : Handed book task
  given = handed book task taken

  facts : SoundFacts book
  facts = (is-sound-facts book).0 given.sound

  lawful : Lawful (plan_view book)
  lawful = plan-lawful (plan_in book) facts.accepted book.rule

  line : Linked (plan_view book) (book_view book) (task - 1) links
  line = linked (plan_view book) (book_view book) lawful facts.sound (task - 1) given.known given.started

  counted : chain.count ≡ length links
  counted = ap (λ (c : Chain). c.count) given.is

  number : (k : ℕ) → k < chain.count → at chain.links k ≡ at links k + 1
  number k h =
      ap (λ (c : Chain). at c.links k) given.is ∙ place_of links given.short k (omega (arith, counted))

  link-is : (k : ℕ) → k < chain.count → link_of chain k ≡ at links k
  link-is k h = let n = number k h in omega arith

  pub past : (k : ℕ) → chain.count ≤ k → at chain.links k ≡ 0
  past k h = ap (λ (c : Chain). at c.links k) given.is ∙ place-past links given.short k (omega (arith, counted))

  pub asked-first : (0 < chain.count) × (at chain.links 0 ≡ task)
  asked-first =
      let some = line.some in
      let c = counted in
      let n = number 0 (omega arith) in
      let f = line.first in
      let from = given.from in
      (omega arith, omega arith)

  pub in-book : (k : ℕ) → k < chain.count → (1 ≤ at chain.links k) × (at chain.links k ≤ book.tasks) × Started book (link_of chain k)
  in-book k h =
      let n = number k h in
      let c = counted in
      let t = line.task k (omega arith) in
      (omega arith, omega arith, rw (link-is k h) (line.started k (omega arith)))

  -- link k + 1 let link k go
  step : (k : ℕ) → k + 1 < chain.count → LetGo (plan_view book) (book_view book) (link_of chain k) (link_of chain (k + 1))
  step k h =
      let c = counted in
      let e : k + 1 ≡ suc k = omega arith in
      rw (link-is k (omega arith), link-is (k + 1) h, e) (line.link k (omega arith))

  pub is-cause : (k : ℕ) → k + 1 < chain.count → Cause book (link_of chain k) (link_of chain (k + 1))
  is-cause k h = cause-words book (link_of chain k) (step k h).cause

  pub lets_go :
      (k : ℕ) → k + 1 < chain.count
      → Ended book (link_of chain (k + 1)) × (end_of book (link_of chain (k + 1)) ≡ start_of book (link_of chain k))
  lets_go k h = ((step k h).over, (step k h).lets)

  pub sooner : (k : ℕ) → k + 1 < chain.count → at book.begin (link_of chain (k + 1)) < at book.begin (link_of chain k)
  sooner k h = (step k h).sooner

  pub never-twice : (j k : ℕ) → j < k → k < chain.count → at chain.links j ≢ at chain.links k
  never-twice j k h b e =
      let c = counted in
      let one = number j (omega arith) in
      let two = number k b in
      once (plan_view book) (book_view book) line j k h (omega arith) (omega arith)

  pub stops-exactly : (k : ℕ) → k < chain.count → (k + 1 ≡ chain.count) ↔ StopsAt book (link_of chain k)
  stops-exactly k h =
      let c = counted in
      let e = link-is k h in (
        λ q. stops-words book (link_of chain k) (stops_at_lem (plan_view book) (book_view book) (link_of chain k) (rw e (line.last k (omega arith)))),
        λ s.
            let t = rw e at (stops-of (plan_view book) (book_view book) (link_of chain k) (words-stop book (link_of chain k) s)) in
            let q = stops-last (plan_view book) (book_view book) line k (omega arith) t in
            omega arith,
      )

  abbrev final : ℕ
  final = chain.count - 1

  pub sums-up : ran_along book chain + start_of book (last_of chain) ≡ start_of book (task - 1)
  sums-up =
      let c = counted in
      let some = line.some in
      let all = adds-up (plan_view book) (book_view book) line final (omega arith) in
      let same = ran-same book (link_of chain) (λ k. at links k) final (λ k h. link-is k (omega arith)) in
      let last = ap (at book.start) (link-is final (omega arith)) in
      omega arith

  -- nobody awaits a class in edition 1
  pub first-edition : book.edition ≡ 1 → start_of book (last_of chain) ≡ 0
  first-edition one =
      let c = counted in
      let some = line.some in
      let low : final < chain.count = omega arith in
      go (stops_at_lem (plan_view book) (book_view book) (last_of chain) (rw (link-is final low) (line.last final (omega arith)))) (in-book final low)
    where
      go :
          Stops (plan_view book) (book_view book) (last_of chain)
          → (1 ≤ at chain.links final) × (at chain.links final ≤ book.tasks) × Started book (last_of chain)
          → start_of book (last_of chain) ≡ 0
      go (Stops.at_zero z) n = z
      go (Stops.ready_later d l) n =
          let a = n.0 in let b = n.1 in
          let r = book-unready book given.sound one (last_of chain) (omega arith) in absurd (omega arith)
      go (Stops.nobody none) n =
          let a = n.0 in let b = n.1 in
          let low : last_of chain < book.tasks = omega arith in
          let r = book-unready book given.sound one (last_of chain) low in
          let d = latest-none book.tasks ((plan_view book).waits (last_of chain)) (at book.end)
          (λ j l w. true-false w (any-not book.tasks ((plan_view book).waits (last_of chain)) none j l)) in
          by-eq (at book.dropped (last_of chain)) 1
          (λ o. let s = skipped-due (plan_view book) (book_view book) facts.sound (last_of chain) low n.2 o in omega arith)
          (λ o. let s = started-due (plan_view book) (book_view book) facts.sound (last_of chain) low n.2 o in omega arith)

  pub dropped-takes-none : (k : ℕ) → k < chain.count → Dropped book (link_of chain k) → end_of book (link_of chain k) ≡ start_of book (link_of chain k)
  dropped-takes-none k h d =
      let n = in-book k h in
      let a = n.0 in let b = n.1 in
      (skipped-now (facts.sound.task (link_of chain k) (omega arith)) n.2 d).1

-- a start past the clock: its ready tick is later than all ends
module _ (book : Book) (task : ℕ) (sound : is_sound book ≡ true) (from : 1 ≤ task) (to : task ≤ book.tasks) (started : Started book (task - 1)) where
  pub answered-started : (why_of book task).answer.code ≡ 0
  answered-started = granted-of book task sound (omega arith) (omega arith) started

  pub ahead-alone : book.clock < start_of book (task - 1) → (why_of book task).count ≡ 1
  ahead-alone ahead =
      let seen = (is-sound-facts book).0 sound in
      let low : task - 1 < book.tasks = omega arith in
      let u = latest-under book.tasks ((plan_view book).waits (task - 1)) (at book.end) book.clock (λ j l w. end-by-clock (seen.sound.task j l)) in
      let r = ready-ahead (plan_view book) (book_view book) seen.sound (task - 1) low started ahead in
      let alive : at book.dropped (task - 1) ≢ 1 =
      λ d. let s = skipped-due (plan_view book) (book_view book) seen.sound (task - 1) low started d in omega arith in
      let law = plan-lawful (plan_in book) seen.accepted book.rule in
      let t = stops-of (plan_view book) (book_view book) (task - 1) (Stops.ready_later alive (omega arith)) in
      counted book task answered-started ∙ ap length (chain-last (plan_view book) (book_view book) (lawful-falls (plan_view book) law) (task - 1) low t)
