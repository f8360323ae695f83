-- The sound books are exactly those that opening and accepted reports and drops give: drops first, then ends in order of time.
use mathlib.Core.Path.{◌≡◌, refl, sym, ◌∙◌}
use mathlib.Core.Logic.{◌≢◌, ◌↔◌}
use mathlib.Core.Bool.{Bool, true, false, not, ◌&&◌}
use mathlib.Core.List.{List, []}
use Prim.Native.Nat.{ℕ, zero, suc, ◌≤◌, ◌<◌}
use native.Mathlib.Omega.{arith}
use borrow.Author.Tests.{eqb-true, eqb-false, eq-eqb, ne_eqb, not-true}
use Rattle.laws.proofs.Cases.{by_bool, by-eq, true-false, and_l, and_r, and-of}
use Rattle.laws.specs.Every.{any}
use Rattle.laws.proofs.Every.{any_of, any_at}
use Rattle.laws.proofs.Least.{has-least}
use Rattle.laws.specs.Private.Count.{count}
use Rattle.laws.proofs.Count.{count-lt}
use Rattle.theory.specs.Plan.{Plan}
use Rattle.theory.specs.Book.{Book, is_dropped}
use Rattle.theory.proofs.Facts.{Waiter, Blocker, TaskOk, Sound, Lawful}
use Rattle.theory.specs.Report.{next, drop_it, blank, let_go, opened}
use Rattle.theory.specs.Words.Events.{AcceptsDrop, Event}
use Rattle.theory.proofs.Facts.{run}
use Rattle.theory.proofs.Reflect.{all-ended-at, accepts-code, accepts-drop-code}
use Rattle.theory.proofs.Task.{drop-range}
use Rattle.theory.proofs.LetGo.{LetGoAt, let-go-at}
use Rattle.theory.proofs.Step.{sound-next, sound-drop, sound-opened, sound-run}
use Rattle.theory.proofs.Run.{Way, run_none, accepted-none, way-more}
use Rattle.theory.proofs.Later.{Later}
use Rattle.theory.proofs.Past.{SamePast, past-trans, past-sym, past_next, past-drop, past-run}
use Rattle.theory.proofs.Same.{KeptIn, SameDrops, ends-in, starts-in, determined, same-path}
use Rattle.theory.proofs.Feed.{lacking, lacking-at, lacking-of, NoneBefore, first-accepted, first-before, first-drops, first-fewer}

module _ (plan : Plan) (law : Lawful plan) (target : Book) (sound : Sound plan target) where
  -- none is lacking: it is the same book
  fed :
      (book : Book) → Sound plan book → Later plan book target → SameDrops plan book target → SamePast plan book target
      → any plan.tasks (lacking target book) ≡ false → Way plan book target
  fed book sound' before drops past none = record {
    events = [];
    each_accepted = accepted-none plan book;
    leads =
        run_none plan book
        ∙ same-path plan book target
        (determined plan book target sound' sound drops before.ended-stay
        (ends-in plan law target book sound sound' (λ j l. sym (drops j l)) back))
        past;
  }
    where
      back : KeptIn plan target book
      back j l d m =
          by-eq (book.mark j) 2 (λ e. (e, sym (before.ended-stay j l e).1))
          (λ n. true-false (any_of plan.tasks (lacking target book) j l (lacking-of target book j d m n)) none)

  feed :
      (n : ℕ) (book : Book) → Sound plan book → Later plan book target → SameDrops plan book target
      → SamePast plan book target → count plan.tasks (lacking target book) < n → Way plan book target
  feed zero book sound' before drops past f = absurd (omega arith)
  feed (suc n) book sound' before drops past f =
      by_bool (any plan.tasks (lacking target book))
      (λ a.
      let r = any_at plan.tasks (lacking target book) a in
      let m = has-least plan.tasks (lacking target book) target.end r.0 r.1 r.2 in
      let k = m.who in
      let tick = target.end k in
      let w = lacking-at target book k m.picked in
      let first : NoneBefore plan target book tick =
      λ j l d h n'. m.least-of j l (lacking-of target book j d h n') in
      let ok = first-accepted plan law target sound book sound' before drops k m.below w.0 w.1 w.2 first in
      let fewer = first-fewer plan law target sound book sound' before drops k m.below w.0 w.1 w.2 first in
      way-more plan book target (Event.ends k tick) (accepts-code plan book k tick ok)
      (feed n (next plan book k tick) (sound-next plan book k tick ok sound')
      (first-before plan law target sound book sound' before drops k m.below w.0 w.1 w.2 first)
      (first-drops plan law target sound book sound' before drops k m.below w.0 w.1 w.2 first)
      (past-trans plan _ book target (past_next plan book k tick m.below) past) (omega arith)))
      (λ a. fed book sound' before drops past a)

  -- accepted reports lead from a sound book to every later one with the same drops
  way-between :
      (book : Book) → Sound plan book → Later plan book target → SameDrops plan book target → SamePast plan book target
      → Way plan book target
  way-between book sound' before drops past =
      feed (suc (count plan.tasks (lacking target book))) book sound' before drops past (omega arith)

  -- the drops still to feed
  abbrev undropped : Book → ℕ → Bool
  undropped book j = is_dropped target.dropped j && not (is_dropped book.dropped j)

  undropped-at : (book : Book) (j : ℕ) → undropped book j ≡ true → (target.dropped j ≡ 1) × (book.dropped j ≢ 1)
  undropped-at book j h =
      (eqb-true _ 1 (and_l _ _ h), eqb-false (book.dropped j) 1 (not-true _ (and_r (is_dropped target.dropped j) _ h)))

  undropped-of : (book : Book) (j : ℕ) → target.dropped j ≡ 1 → book.dropped j ≢ 1 → undropped book j ≡ true
  undropped-of book j d n = and-of (eq-eqb (target.dropped j) 1 d) (rw (ne_eqb (book.dropped j) 1 n))

  -- a task that is dropped in the target waits in the book
  abbrev Droppable : Book → Type 0
  Droppable book = (j : ℕ) → j < plan.tasks → target.dropped j ≡ 1 → book.mark j ≡ 0

  drop-before : (book : Book) (k : ℕ) → target.dropped k ≡ 1 → Later plan book target → Later plan (drop_it book k) target
  drop-before book k d before = record {
    clocks = before.clocks;
    ended-stay = before.ended-stay;
    started-stay = before.started-stay;
    drops-stay = λ j l h. by-eq j k (λ e. rw e d) (λ n. before.drops-stay j l (rw (ne_eqb j k n) at h));
    new-ends = before.new-ends;
  }

  drop-fewer :
      (book : Book) (k : ℕ) → k < plan.tasks → undropped book k ≡ true
      → count plan.tasks (undropped (drop_it book k)) < count plan.tasks (undropped book)
  drop-fewer book k l u =
      count-lt plan.tasks (undropped book) (undropped (drop_it book k))
      (λ j lj h.
      let r = undropped-at (drop_it book k) j h in
      undropped-of book j r.0 (λ e. r.1 (by-eq j k (λ q. rw (eq-eqb j k q)) (λ n. rw (ne_eqb j k n) e))))
      k l u
      (by_bool (undropped (drop_it book k) k)
      (λ h. absurd ((undropped-at (drop_it book k) k h).1 (rw (eq-eqb k k refl))))
      (λ h. h))

  all-dropped : (book : Book) → Sound plan book → Later plan book target → any plan.tasks (undropped book) ≡ false → SameDrops plan book target
  all-dropped book sound' before none j l =
      let r = drop-range (sound.task j l) in
      let r' = drop-range (sound'.task j l) in
      by-eq (book.dropped j) 1
      (λ d. d ∙ sym (before.drops-stay j l d))
      (λ n.
      by-eq (target.dropped j) 1
      (λ d. true-false (any_of plan.tasks (undropped book) j l (undropped-of book j d n)) none)
      (λ n'. omega arith))

  feed-drops :
      (n : ℕ) (book : Book) → Sound plan book → Later plan book target → SamePast plan book target → Droppable book
      → count plan.tasks (undropped book) < n → Way plan book target
  feed-drops zero book sound' before past idle f = absurd (omega arith)
  feed-drops (suc n) book sound' before past idle f =
      by_bool (any plan.tasks (undropped book))
      (λ a.
      let r = any_at plan.tasks (undropped book) a in
      let k = r.0 in
      let u = undropped-at book k r.2 in
      let ok : AcceptsDrop plan book k = record { task = r.1; waits = idle k r.1 u.0; new = u.1 } in
      let fewer = drop-fewer book k r.1 r.2 in
      way-more plan book target (Event.drops k) (accepts-drop-code plan book k ok)
      (feed-drops n (drop_it book k) (sound-drop plan book k ok sound') (drop-before book k u.0 before)
      (past-trans plan _ book target (past-drop plan book k r.1) past) idle (omega arith)))
      (λ a. way-between book sound' before (all-dropped book sound' before a) past)

opened-mark : (plan : Plan) (j : ℕ) → j < plan.tasks → (opened plan).mark j ≤ 1
unfolding opened
opened-mark plan j l = go (let-go-at plan blank j l)
  where
    go : LetGoAt plan blank (let_go plan blank) j → (let_go plan blank).mark j ≤ 1
    go (LetGoAt.starts z all m s) = omega arith
    go (LetGoAt.stays z m s) = omega arith

pub opened-none : (plan : Plan) (j : ℕ) → j < plan.tasks → (opened plan).mark j ≡ 2 → ⊥
opened-none plan j l h = let q = opened-mark plan j l in omega arith

-- whoever waits for somebody waits when the book is opened
opened-waits : (plan : Plan) (j : ℕ) → j < plan.tasks → Waiter plan j → (opened plan).mark j ≡ 0
unfolding opened
opened-waits plan j l w = go (let-go-at plan blank j l)
  where
    go : LetGoAt plan blank (let_go plan blank) j → (let_go plan blank).mark j ≡ 0
    go (LetGoAt.starts z all m s) =
        let q = all-ended-at plan blank.mark j all w.who w.task w.held in absurd (omega arith)
    go (LetGoAt.stays z m s) = m

pub drop-waits :
    {plan : Plan} {book : Book} {i : ℕ} → TaskOk (Blocker plan book.mark) plan book i → book.dropped i ≡ 1 → Waiter plan i
drop-waits (TaskOk.is-waiting m d w s e) o = record { who = w.who; task = w.task; held = w.held }
drop-waits (TaskOk.is-running m d all s e c) o = absurd (omega arith)
drop-waits (TaskOk.has_ended m d all s a f c) o = absurd (omega arith)
drop-waits (TaskOk.was-skipped m d w all s e c) o = w

-- so whoever starts when the book is opened is never dropped
opened-kept :
    (plan : Plan) (book : Book) → Sound plan book → (j : ℕ) → j < plan.tasks → (opened plan).mark j ≢ 0 → book.dropped j ≡ 0
opened-kept plan book sound j l n =
    let r = drop-range (sound.task j l) in
    by-eq (book.dropped j) 1
    (λ d. absurd (n (opened-waits plan j l (drop-waits (sound.task j l) d))))
    (λ o. omega arith)

-- every sound book is later than the opened one
pub opened-first : (plan : Plan) (book : Book) → Sound plan book → Later plan (opened plan) book
unfolding opened
opened-first plan book sound = record {
  clocks = omega arith;
  ended-stay = λ j l h. absurd (opened-none plan j l h);
  started-stay = λ j l n.
      starts-in plan (opened plan) book (sound-opened plan) sound (λ i li h. absurd (opened-none plan i li h)) j l
      (sym (opened-kept plan book sound j l n)) n;
  drops-stay = λ j l h. absurd (omega arith);
  new-ends = λ j l n h. omega arith;
}

-- These are exactly the books that an accepted plan and accepted reports and drops give
pub reachable :
    (plan : Plan) → Lawful plan → (book : Book)
    → (Sound plan book × SamePast plan (opened plan) book) ↔ Way plan (opened plan) book
reachable plan law book = (
  λ s.
      feed-drops plan law book s.0 _ (opened plan) (sound-opened plan) (opened-first plan book s.0) s.1
      (λ j l d. opened-waits plan j l (drop-waits (s.0.task j l) d)) (le-suc _),
  λ way. given way.events way.leads,
)
  where
    le-suc : (n : ℕ) → n < suc n
    le-suc n = omega arith

    given : (events : List Event) → run plan (opened plan) events ≡ book → Sound plan book × SamePast plan (opened plan) book
    given events e =
        rw (← e)
        (sound-run plan (opened plan) events (sound-opened plan), past-sym plan _ _ (past-run plan (opened plan) events))
