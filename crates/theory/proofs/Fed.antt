-- The dispatcher, told the drops and then the ends of a timetable in any order of time, takes every one and comes to that timetable.
use mathlib.Core.Path.{◌≡◌, refl, sym, ap, ◌∙◌}
use mathlib.Core.Logic.{◌≢◌, ⊎_elim}
use mathlib.Core.List.Memᴰ
use mathlib.Core.List.{List, [], ◌∷◌, ◌++◌, Memᴰ}
use Prim.Native.Nat.{ℕ, suc, ◌<◌}
use native.Mathlib.Omega.{arith}
use borrow.Author.Tests.{eq-eqb, ne_eqb}
use Rattle.laws.proofs.Cases.{by-eq}
use Rattle.theory.specs.Plan.{Plan}
use Rattle.theory.specs.Book.{Book}
use Rattle.theory.specs.Report.{next, drop_it, opened}
use Rattle.theory.specs.Words.Events.{Event, Once, AcceptsDrop}
use Rattle.theory.proofs.Facts.{Sound, Lawful, run, accepted, step_to, event_code}
use Rattle.theory.proofs.Reflect.{all-ended-at, accepts-code, accepts-drop-code}
use Rattle.theory.proofs.Task.{drop-range, started-all}
use Rattle.theory.proofs.Step.{sound-next, sound-drop, sound-opened}
use Rattle.theory.proofs.Run.{run_none, accepted-none, run-taken, accepted-taken}
use Rattle.theory.proofs.Later.{Later, later-next, next-ends, next-new}
use Rattle.theory.proofs.Same.{SameDrops}
use Rattle.theory.proofs.Feed.{NoneBefore, ended-before, first-accepted, first-before, first-drops}
use Rattle.theory.proofs.Reach.{opened-none, opened-first}
use Rattle.theory.specs.Times.{end_time}
use Rattle.theory.proofs.Fits.{Fits}
use Rattle.theory.specs.Words.Orders.{InTime, Order}
use Rattle.theory.proofs.Target.{target, target_sound, drop-is, is-dropped}

-- every task has ended, and started and ended as the target says
pub record Done (plan : Plan) (goal book : Book) : Type 0 where
  pub over : (i : ℕ) → i < plan.tasks → book.mark i ≡ 2
  pub starts : (i : ℕ) → i < plan.tasks → book.start i ≡ goal.start i
  pub ends : (i : ℕ) → i < plan.tasks → book.end i ≡ goal.end i

-- each of the events is taken, and leads there
pub record Taken (plan : Plan) (goal book : Book) (events : List Event) : Type 0 where
  pub each : accepted plan book events ≡ events
  pub done : Done plan goal (run plan book events)

-- one more is taken
taken_more :
    (plan : Plan) (goal book : Book) (event : Event) (rest : List Event) → event_code plan book event ≡ 0
    → Taken plan goal (step_to plan book event) rest → Taken plan goal book (event ∷ rest)
taken_more plan goal book event rest z t = record {
  each = accepted-taken plan book event rest z ∙ ap (λ (es : List Event). event ∷ es) t.each;
  done = rw (run-taken plan book event rest z) t.done;
}

tick-same : (k j tick tock : ℕ) → ◌≡◌ {A = Event} (Event.ends k tick) (Event.ends j tock) → (k ≡ j) × (tick ≡ tock)
tick-same k j tick tock e = (cc, cc)

drop-same : (k j : ℕ) → ◌≡◌ {A = Event} (Event.drops k) (Event.drops j) → k ≡ j
drop-same k j e = cc

module _ (plan : Plan) (law : Lawful plan) (goal : Book) (goal-sound : Sound plan goal)
    (goal-over : (i : ℕ) → i < plan.tasks → goal.mark i ≡ 2) where
  -- the ends that are left to tell: those of the tasks, not dropped, that have not ended
  record Left (book : Book) (events : List Event) : Type 0 where
    sound : Sound plan book
    before : Later plan book goal
    drops : SameDrops plan book goal
    each-is :
        (event : Event) → Memᴰ event events
        → (i : ℕ) × (i < plan.tasks) × (goal.dropped i ≢ 1) × (book.mark i ≢ 2) × (event ≡ Event.ends i (goal.end i))
    each-there :
        (i : ℕ) → i < plan.tasks → goal.dropped i ≢ 1 → book.mark i ≢ 2 → Memᴰ (Event.ends i (goal.end i)) events
    once : Once events
    in_time : InTime events

  -- nothing is left: every task has ended
  none_left : (book : Book) → Left book [] → Done plan goal book
  none_left book left = record {
    over = over;
    starts = λ i l. let o = over i l in sym (left.before.started-stay i l (omega arith)).1;
    ends = λ i l. sym (left.before.ended-stay i l (over i l)).1;
  }
    where
      none : (tick : ℕ) → NoneBefore plan goal book tick
      none tick j l d m n = absurd (Memᴰ.not-nil (left.each-there j l d n))

      over : (i : ℕ) → i < plan.tasks → book.mark i ≡ 2
      over i l =
          ended-before plan law goal goal-sound book left.sound left.drops (suc (goal.end i)) (none _) i l (goal-over i l) (omega arith)

  module _ (book : Book) (k : ℕ) (rest : List Event) (left : Left book (Event.ends k (goal.end k) ∷ rest))
      (task : k < plan.tasks) (kept : goal.dropped k ≢ 1) (lacks : book.mark k ≢ 2) where
    first : NoneBefore plan goal book (goal.end k)
    first j l d m n =
        ⊎_elim
        (λ q. let s = (tick-same j k _ _ q).1 in omega arith)
        (λ t. left.in_time.0 (Event.ends j (goal.end j)) t)
        (Memᴰ.cases_cons (left.each-there j l d n))

    abbrev after : Book
    after = next plan book k (goal.end k)

    first_code : event_code plan book (Event.ends k (goal.end k)) ≡ 0
    first_code =
        accepts-code plan book k (goal.end k)
        (first-accepted plan law goal goal-sound book left.sound left.before left.drops k task kept (goal-over k task) lacks first)

    stay : Later plan book after
    stay =
        later-next plan book k (goal.end k)
        (first-accepted plan law goal goal-sound book left.sound left.before left.drops k task kept (goal-over k task) lacks first)

    -- whoever else is told of has not ended
    not-ended : (i : ℕ) → i < plan.tasks → goal.dropped i ≢ 1 → book.mark i ≢ 2 → i ≢ k → after.mark i ≢ 2
    not-ended i l d n ne h =
        let u = next-new plan book k (goal.end k) i l n h in
        ⊎_elim (λ q. ne q) (λ o. d (sym (left.drops i l) ∙ o)) u.0

    first-left : Left after rest
    first-left = record {
      sound =
          sound-next plan book k (goal.end k)
          (first-accepted plan law goal goal-sound book left.sound left.before left.drops k task kept (goal-over k task) lacks first)
          left.sound;
      before = first-before plan law goal goal-sound book left.sound left.before left.drops k task kept (goal-over k task) lacks first;
      drops = first-drops plan law goal goal-sound book left.sound left.before left.drops k task kept (goal-over k task) lacks first;
      each-is = λ event m.
          let r = left.each-is event (Memᴰ.tail m) in
          let ne : r.0 ≢ k =
          λ q. left.once.0 (rw (r.4 ∙ ap (λ (x : ℕ). Event.ends x (goal.end x)) q) at m) in
          (r.0, r.1, r.2, not-ended r.0 r.1 r.2 r.3 ne, r.4);
      each-there = λ i l d n.
          let b : book.mark i ≢ 2 = λ e. n (stay.ended-stay i l e).0 in
          ⊎_elim
          (λ q.
          let e : i ≡ k = (tick-same i k (goal.end i) (goal.end k) q).0 in
          absurd (n (rw e (next-ends plan book k (goal.end k) task).0)))
          (λ t. t)
          (Memᴰ.cases_cons (left.each-there i l d b));
      once = left.once.1;
      in_time = left.in_time.1;
    }

  ends-taken : (book : Book) (events : List Event) → Left book events → Taken plan goal book events
  ends-taken book [] left = record { each = accepted-none plan book; done = rw (run_none plan book) (none_left book left) }
  ends-taken book (event ∷ rest) left =
      let r = left.each-is event (Memᴰ.head refl) in
      let here : Left book (Event.ends r.0 (goal.end r.0) ∷ rest) = rw r.4 at left in
      rw r.4
      (taken_more plan goal book (Event.ends r.0 (goal.end r.0)) rest (first_code book r.0 rest here r.1 r.2 r.3)
      (ends-taken (next plan book r.0 (goal.end r.0)) rest (first-left book r.0 rest here r.1 r.2 r.3)))

  -- the drops that are left to tell, on a book in which nobody has ended and who is dropped in the end waits
  record LeftDrops (book : Book) (events : List Event) : Type 0 where
    sound : Sound plan book
    before : Later plan book goal
    none_over : (i : ℕ) → i < plan.tasks → book.mark i ≢ 2
    waits : (i : ℕ) → i < plan.tasks → goal.dropped i ≡ 1 → book.mark i ≡ 0
    each-is :
        (event : Event) → Memᴰ event events
        → (i : ℕ) × (i < plan.tasks) × (goal.dropped i ≡ 1) × (book.dropped i ≢ 1) × (event ≡ Event.drops i)
    each-there : (i : ℕ) → i < plan.tasks → goal.dropped i ≡ 1 → book.dropped i ≢ 1 → Memᴰ (Event.drops i) events
    once : Once events

  all-dropped : (book : Book) → LeftDrops book [] → SameDrops plan book goal
  all-dropped book left j l =
      let r = drop-range (goal-sound.task j l) in
      let q = drop-range (left.sound.task j l) in
      by-eq (book.dropped j) 1
      (λ d. d ∙ sym (left.before.drops-stay j l d))
      (λ n.
      by-eq (goal.dropped j) 1
      (λ d. absurd (Memᴰ.not-nil (left.each-there j l d n)))
      (λ n'. omega arith))

  module _ (book : Book) (k : ℕ) (rest : List Event) (left : LeftDrops book (Event.drops k ∷ rest))
      (task : k < plan.tasks) (gone : goal.dropped k ≡ 1) (new : book.dropped k ≢ 1) where
    takes : AcceptsDrop plan book k
    takes = record { task = task; waits = left.waits k task gone; new = new }

    drop_code_lem : event_code plan book (Event.drops k) ≡ 0
    drop_code_lem = accepts-drop-code plan book k takes

    drop-before : Later plan (drop_it book k) goal
    drop-before = record {
      clocks = left.before.clocks;
      ended-stay = left.before.ended-stay;
      started-stay = left.before.started-stay;
      drops-stay = λ j l h. by-eq j k (λ e. rw e gone) (λ n. left.before.drops-stay j l (rw (ne_eqb j k n) at h));
      new-ends = left.before.new-ends;
    }

    drop-left : LeftDrops (drop_it book k) rest
    drop-left = record {
      sound = sound-drop plan book k takes left.sound;
      before = drop-before;
      none_over = left.none_over;
      waits = left.waits;
      each-is = λ event m.
          let r = left.each-is event (Memᴰ.tail m) in
          let ne : r.0 ≢ k = λ q. left.once.0 (rw (r.4 ∙ ap (λ (x : ℕ). Event.drops x) q) at m) in
          (r.0, r.1, r.2, rw (ne_eqb r.0 k ne) r.3, r.4);
      each-there = λ i l d n.
          by-eq i k
          (λ q. absurd (n (rw (eq-eqb i k q))))
          (λ ne.
          ⊎_elim
          (λ q. absurd (ne (drop-same i k q)))
          (λ t. t)
          (Memᴰ.cases_cons (left.each-there i l d (rw (ne_eqb i k ne) at n))));
      once = left.once.1;
    }

  drops-taken :
      (book : Book) (drops ends : List Event) → LeftDrops book drops
      → ((other : Book) → Sound plan other → Later plan other goal → SameDrops plan other goal
      → ((i : ℕ) → i < plan.tasks → other.mark i ≢ 2) → Left other ends)
      → Taken plan goal book (drops ++ ends)
  drops-taken book [] ends left go =
      ends-taken book ends (go book left.sound left.before (all-dropped book left) left.none_over)
  drops-taken book (event ∷ rest) ends left go =
      let r = left.each-is event (Memᴰ.head refl) in
      let here : LeftDrops book (Event.drops r.0 ∷ rest) = rw r.4 at left in
      rw r.4
      (taken_more plan goal book (Event.drops r.0) (rest ++ ends) (drop_code_lem book r.0 rest here r.1 r.2 r.3)
      (drops-taken (drop_it book r.0) rest ends (drop-left book r.0 rest here r.1 r.2 r.3) go))

module _ (plan : Plan) (law : Lawful plan) (length dropped : ℕ → ℕ) (fits : Fits plan length dropped) (drops ends : List Event)
    (order : Order plan.tasks (λ i. i) dropped (end_time plan length dropped) drops ends) where
  abbrev goal : Book
  goal = target plan length dropped

  sound : Sound plan goal
  sound = target_sound plan length dropped law fits

  unmarked : (i : ℕ) → (opened plan).dropped i ≢ 1
  unfolding opened
  unmarked i h = omega arith

  -- whoever is dropped waits when the book is opened
  waits-first : (i : ℕ) → i < plan.tasks → goal.dropped i ≡ 1 → (opened plan).mark i ≡ 0
  waits-first i l d =
      by-eq ((opened plan).mark i) 0 (λ z. z)
      (λ n.
      let w = fits.waits i l (is-dropped plan length dropped i d) in
      let all = started-all ((sound-opened plan).task i l) n in
      absurd (opened-none plan w.0 w.1 (all-ended-at plan _ i all w.0 w.1 w.2)))

  first-drops-left : LeftDrops plan law goal sound (λ i l. refl) (opened plan) drops
  first-drops-left = record {
    sound = sound-opened plan;
    before = opened-first plan goal sound;
    none_over = λ i l m. opened-none plan i l m;
    waits = waits-first;
    each-is = λ event m.
        let r = (order.the_drops event).0 m in
        (r.0, r.1, drop-is plan length dropped r.0 r.2, unmarked r.0, r.3);
    each-there = λ i l d n. (order.the_drops (Event.drops i)).1 (i, l, is-dropped plan length dropped i d, refl);
    once = order.drops_once;
  }

  kept-not : (i : ℕ) → dropped i ≢ 1 → goal.dropped i ≢ 1
  kept-not i n h = n (is-dropped plan length dropped i h)

  then-ends :
      (other : Book) → Sound plan other → Later plan other goal → SameDrops plan other goal
      → ((i : ℕ) → i < plan.tasks → other.mark i ≢ 2) → Left plan law goal sound (λ i l. refl) other ends
  then-ends other sound' before same none = record {
    sound = sound';
    before = before;
    drops = same;
    each-is = λ event m.
        let r = (order.the_ends event).0 m in (r.0, r.1, kept-not r.0 r.2, none r.0 r.1, r.3);
    each-there = λ i l d n.
        (order.the_ends (Event.ends i (end_time plan length dropped i))).1 (i, l, (λ q. d (drop-is plan length dropped i q)), refl);
    once = order.ends_once;
    in_time = order.in_time;
  }

  -- every report and drop is accepted, and the starts and ends are the timetable's
  pub fed : Taken plan goal (opened plan) (drops ++ ends)
  fed = drops-taken plan law goal sound (λ i l. refl) (opened plan) drops ends first-drops-left then-ends
