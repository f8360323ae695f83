-- The same accepted reports and the same accepted drops, in whatever order they come, leave the same book.
use mathlib.Core.Path.{◌≡◌, refl, sym, ap, ◌∙◌, fun_ext}
use mathlib.Core.Logic.{◌≢◌, ◌↔◌, ⊎_elim}
use mathlib.Core.Bool.{true}
use mathlib.Core.List.Memᴰ
use mathlib.Core.List.{List, [], ◌∷◌, Memᴰ}
use Prim.Native.Nat.{ℕ, zero, suc, ◌<◌, max}
use native.Mathlib.Omega.{arith}
use borrow.Author.Tests.{eq-eqb, ne_eqb}
use Rattle.laws.proofs.Cases.{by-eq, by_le}
use Rattle.laws.proofs.Latest.{latest-same}
use Rattle.theory.specs.Plan.{Plan}
use Rattle.theory.specs.Book.{Book, due}
use Rattle.theory.proofs.Facts.{Sound, Lawful}
use Rattle.theory.specs.Report.{drop_it}
use Rattle.theory.specs.Words.Events.{Event}
use Rattle.theory.proofs.Facts.{event_code, step_to, run, accepted}
use Rattle.theory.proofs.Reflect.{Taken, code-taken, all-ended-at, all-ended-of}
use Rattle.theory.proofs.Task.{mark-range, drop-range, started-all, started-at, skipped-now, no_end, no_start, free-started, all-ended-more, ended_same}
use Rattle.theory.proofs.Step.{sound-run, next-dropped}
use Rattle.theory.proofs.Run.{run_none, run-taken, run-refused, none-accepted, accepted-taken, accepted-refused}
use Rattle.theory.proofs.Past.{SamePast, past-trans, past-sym, past-run}
use Rattle.theory.proofs.Later.{later-run, next-ends, next-new}

pub record Same (plan : Plan) (book other : Book) : Type 0 where
  pub marks : (i : ℕ) → i < plan.tasks → book.mark i ≡ other.mark i
  pub starts : (i : ℕ) → i < plan.tasks → book.start i ≡ other.start i
  pub ends : (i : ℕ) → i < plan.tasks → book.end i ≡ other.end i
  pub drops : (i : ℕ) → i < plan.tasks → book.dropped i ≡ other.dropped i
  pub clocks : book.clock ≡ other.clock

-- whoever has ended in the one has ended in the other, at the same tick
abbrev pub EndsIn : Plan → Book → Book → Type 0
EndsIn plan book other =
    (j : ℕ) → j < plan.tasks → book.mark j ≡ 2 → (other.mark j ≡ 2) × (other.end j ≡ book.end j)

-- of those that were not dropped
abbrev pub KeptIn : Plan → Book → Book → Type 0
KeptIn plan book other =
    (j : ℕ) → j < plan.tasks → book.dropped j ≢ 1 → book.mark j ≡ 2 → (other.mark j ≡ 2) × (other.end j ≡ book.end j)

abbrev pub SameDrops : Plan → Book → Book → Type 0
SameDrops plan book other = (j : ℕ) → j < plan.tasks → book.dropped j ≡ other.dropped j

-- the ends of dropped tasks follow from the others, by induction on the planned start
module _ (plan : Plan) (law : Lawful plan) (book other : Book) (sound : Sound plan book) (sound' : Sound plan other)
    (drops : SameDrops plan book other) (kept : KeptIn plan book other) where
  skipped-in :
      (j : ℕ) → j < plan.tasks → book.mark j ≡ 2 → book.dropped j ≡ 1
      → ((i : ℕ) → i < plan.tasks → plan.waits j i ≡ true → (other.mark i ≡ 2) × (other.end i ≡ book.end i))
      → (other.mark j ≡ 2) × (other.end j ≡ book.end j)
  skipped-in j l m d there =
      let n : book.mark j ≢ 0 = omega arith in
      let n' = free-started (sound'.task j l) (all-ended-of plan other.mark j (λ i li w. (there i li w).0)) in
      let now = skipped-now (sound.task j l) n d in
      let now' = skipped-now (sound'.task j l) n' (sym (drops j l) ∙ d) in
      let e : due plan other.end j ≡ due plan book.end j =
      latest-same plan.tasks _ _ _ _ (λ i li. refl) (λ i li w. (there i li w).1) in
      (now'.0, now'.1 ∙ now'.2 ∙ e ∙ sym now.2 ∙ sym now.1)

  ends_by :
      (n j : ℕ) → plan.begin j < n → j < plan.tasks → book.mark j ≡ 2 → (other.mark j ≡ 2) × (other.end j ≡ book.end j)
  ends_by zero j f l m = absurd (omega arith)
  ends_by (suc n) j f l m =
      by-eq (book.dropped j) 1
      (λ d.
      skipped-in j l m d (λ i li w.
      let b = law.before j i l li w in
      let p = law.lasts i li in
      ends_by n i (omega arith) li (all-ended-at plan book.mark j (started-all (sound.task j l) (omega arith)) i li w)))
      (λ n'. kept j l n' m)

  pub ends-in : EndsIn plan book other
  ends-in j l m = ends_by (suc (plan.begin j)) j (omega arith) l m

-- then whoever has started in the one has started in the other, at the same tick, dropped in both or in neither
pub starts-in :
    (plan : Plan) (book other : Book) → Sound plan book → Sound plan other → EndsIn plan book other → (j : ℕ)
    → j < plan.tasks → book.dropped j ≡ other.dropped j → book.mark j ≢ 0
    → (other.mark j ≢ 0) × (other.start j ≡ book.start j)
starts-in plan book other sound sound' f j l drop n =
    let all = started-all (sound.task j l) n in
    let all' = all-ended-more plan book.mark other.mark j (λ i li h. (f i li h).0) all in
    let n' = free-started (sound'.task j l) all' in
    let d : due plan other.end j ≡ due plan book.end j =
    latest-same plan.tasks _ _ _ _ (λ i li. refl) (λ i li w. (f i li (all-ended-at plan book.mark j all i li w)).1) in (
      n',
      by-eq (book.dropped j) 1
          (λ o. (skipped-now (sound'.task j l) n' (sym drop ∙ o)).2 ∙ d ∙ sym (skipped-now (sound.task j l) n o).2)
          (λ o.
          started-at (sound'.task j l) n' (λ e. o (drop ∙ e)) ∙ ap (max (plan.ready j)) d
          ∙ sym (started-at (sound.task j l) n o)),
    )

-- a sound book is determined by its ends and drops
module _ (plan : Plan) (book other : Book) (sound : Sound plan book) (sound' : Sound plan other)
    (drops : SameDrops plan book other) (there : EndsIn plan book other) (back : EndsIn plan other book) where
  same_ends : (i : ℕ) → i < plan.tasks → book.end i ≡ other.end i
  same_ends i l =
      by-eq (book.mark i) 2 (λ e. sym (there i l e).1)
      (λ n.
      by-eq (other.mark i) 2 (λ e. absurd (n (back i l e).0))
      (λ n'. no_end (sound.task i l) n ∙ sym (no_end (sound'.task i l) n')))

  same-task : (i : ℕ) → i < plan.tasks → (book.mark i ≡ other.mark i) × (book.start i ≡ other.start i)
  same-task i l =
      let r = mark-range (sound.task i l) in
      let r' = mark-range (sound'.task i l) in
      by-eq (book.mark i) 0
      (λ z.
      by-eq (other.mark i) 0
      (λ z'. (z ∙ sym z', no_start (sound.task i l) z ∙ sym (no_start (sound'.task i l) z')))
      (λ n'. absurd ((starts-in plan other book sound' sound back i l (sym (drops i l)) n').0 z)))
      (λ n.
      let s = starts-in plan book other sound sound' there i l (drops i l) n in
      by-eq (book.mark i) 2 (λ e. (e ∙ sym (there i l e).0, sym s.1))
      (λ n2.
      by-eq (other.mark i) 2 (λ e. absurd (n2 (back i l e).0))
      (λ n2'. let m = s.0 in (omega arith, sym s.1))))

  pub determined : Same plan book other
  determined = record {
    marks = λ i l. (same-task i l).0;
    starts = λ i l. (same-task i l).1;
    ends = same_ends;
    drops = drops;
    clocks =
        sound.clock-is
        ∙ latest-same plan.tasks _ _ _ _
        (λ j l. ended_same book.mark other.mark j (λ h. (there j l h).0) (λ h. (back j l h).0))
        (λ j l h. same_ends j l)
        ∙ sym sound'.clock-is;
  }

pub same-path : (plan : Plan) (book other : Book) → Same plan book other → SamePast plan book other → book ≡ other
same-path plan book other same past =
    λ d. record {
      mark = fun_ext marks d;
      start = fun_ext starts d;
      end = fun_ext ends d;
      dropped = fun_ext drops d;
      clock = same.clocks d;
    }
  where
    marks : (i : ℕ) → book.mark i ≡ other.mark i
    marks i = by_le plan.tasks i (past.marks i) (same.marks i)

    starts : (i : ℕ) → book.start i ≡ other.start i
    starts i = by_le plan.tasks i (past.starts i) (same.starts i)

    ends : (i : ℕ) → book.end i ≡ other.end i
    ends i = by_le plan.tasks i (past.ends i) (same.ends i)

    drops : (i : ℕ) → book.dropped i ≡ other.dropped i
    drops i = by_le plan.tasks i (past.drops i) (same.drops i)

-- what a book keeps of an accepted event
abbrev Kept : Plan → Event → Book → Type 0
Kept plan (Event.ends k tick) book = (k < plan.tasks) × (book.mark k ≡ 2) × (book.end k ≡ tick)
Kept plan (Event.drops k) book = (k < plan.tasks) × (book.dropped k ≡ 1)

kept-first :
    (plan : Plan) (book : Book) (event : Event) (rest : List Event) → Taken plan book event
    → Kept plan event (run plan (step_to plan book event) rest)
kept-first plan book (Event.ends k tick) rest ok =
    let a = next-ends plan book k tick ok.task in
    let b = (later-run plan (step_to plan book (Event.ends k tick)) rest).ended-stay k ok.task a.0 in
    (ok.task, b.0, b.1 ∙ a.1)
kept-first plan book (Event.drops k) rest ok =
    (ok.task, (later-run plan (drop_it book k) rest).drops-stay k ok.task (rw (eq-eqb k k refl)))

-- an accepted report is an end of the book that is left, an accepted drop one of its drops
pub event-kept :
    (plan : Plan) (book : Book) (events : List Event) (event : Event) → Memᴰ event (accepted plan book events)
    → Kept plan event (run plan book events)
event-kept plan book [] event m = absurd (none-accepted plan book event m)
event-kept plan book (x ∷ xs) event m =
    by-eq (event_code plan book x) 0
    (λ z.
    rw (run-taken plan book x xs z)
    (⊎_elim
    (λ e. rw e (kept-first plan book x xs (code-taken plan book x z)))
    (λ t. event-kept plan (step_to plan book x) xs event t)
    (Memᴰ.cases_cons (rw (accepted-taken plan book x xs z) at m))))
    (λ n. rw (run-refused plan book x xs n) (event-kept plan book xs event (rw (accepted-refused plan book x xs n) at m)))

-- what is new after an accepted event, of a task that is not dropped in the end
module _ (plan : Plan) (book : Book) (rest : List Event) (j : ℕ) (l : j < plan.tasks) where
  new-end :
      (event : Event) → (run plan (step_to plan book event) rest).dropped j ≢ 1 → book.mark j ≢ 2
      → (step_to plan book event).mark j ≡ 2 → Event.ends j ((run plan (step_to plan book event) rest).end j) ≡ event
  new-end (Event.ends k tick) o n e =
      let a = next-new plan book k tick j l n e in
      let b = (later-run plan (step_to plan book (Event.ends k tick)) rest).ended-stay j l e in
      let same : j ≡ k =
      ⊎_elim (λ q. q)
      (λ d.
      absurd
      (o
      ((later-run plan (step_to plan book (Event.ends k tick)) rest).drops-stay j l
      (ap (λ (f : ℕ → ℕ). f j) (next-dropped plan book k tick) ∙ d))))
      a.0 in
      λ i. Event.ends (same i) ((b.1 ∙ a.1) i)
  new-end (Event.drops k) o n e = absurd (n e)

  new-drop : (event : Event) → book.dropped j ≢ 1 → (step_to plan book event).dropped j ≡ 1 → Event.drops j ≡ event
  new-drop (Event.ends k tick) n d = absurd (n (sym (ap (λ (f : ℕ → ℕ). f j) (next-dropped plan book k tick)) ∙ d))
  new-drop (Event.drops k) n d =
      by-eq j k (λ e. ap (λ (x : ℕ). Event.drops x) e) (λ ne. absurd (n (rw (ne_eqb j k ne) at d)))

-- an end of the book that is left, of a task not dropped, was one before or is an accepted report
pub end-reported :
    (plan : Plan) (book : Book) (events : List Event) (j : ℕ) → j < plan.tasks → (run plan book events).dropped j ≢ 1
    → book.mark j ≢ 2 → (run plan book events).mark j ≡ 2
    → Memᴰ (Event.ends j ((run plan book events).end j)) (accepted plan book events)
end-reported plan book [] j l o n h = absurd (n (rw (run_none plan book) at h))
end-reported plan book (x ∷ xs) j l o n h =
    by-eq (event_code plan book x) 0
    (λ z.
    let o' : (run plan (step_to plan book x) xs).dropped j ≢ 1 = rw (run-taken plan book x xs z) at o in
    rw (run-taken plan book x xs z, accepted-taken plan book x xs z)
    (by-eq ((step_to plan book x).mark j) 2
    (λ e. Memᴰ.head (new-end plan book xs j l x o' n e))
    (λ n'. Memᴰ.tail (end-reported plan (step_to plan book x) xs j l o' n' (rw (run-taken plan book x xs z) at h)))))
    (λ n'.
    rw (run-refused plan book x xs n', accepted-refused plan book x xs n')
    (end-reported plan book xs j l (rw (run-refused plan book x xs n') at o) n (rw (run-refused plan book x xs n') at h)))

-- and a drop of it was one before or is an accepted drop
pub drop-told :
    (plan : Plan) (book : Book) (events : List Event) (j : ℕ) → j < plan.tasks → book.dropped j ≢ 1
    → (run plan book events).dropped j ≡ 1 → Memᴰ (Event.drops j) (accepted plan book events)
drop-told plan book [] j l n h = absurd (n (rw (run_none plan book) at h))
drop-told plan book (x ∷ xs) j l n h =
    by-eq (event_code plan book x) 0
    (λ z.
    rw (accepted-taken plan book x xs z)
    (by-eq ((step_to plan book x).dropped j) 1
    (λ e. Memᴰ.head (new-drop plan book xs j l x n e))
    (λ n'. Memᴰ.tail (drop-told plan (step_to plan book x) xs j l n' (rw (run-taken plan book x xs z) at h)))))
    (λ n'.
    rw (accepted-refused plan book x xs n')
    (drop-told plan book xs j l n (rw (run-refused plan book x xs n') at h)))

module _ (plan : Plan) (book : Book) where
  kept_half :
      (events others : List Event)
      → ((event : Event) → Memᴰ event (accepted plan book events) → Memᴰ event (accepted plan book others))
      → KeptIn plan (run plan book events) (run plan book others)
  kept_half events others f j l o m =
      by-eq (book.mark j) 2
      (λ e.
      let u = (later-run plan book events).ended-stay j l e in
      let v = (later-run plan book others).ended-stay j l e in
      (v.0, v.1 ∙ sym u.1))
      (λ n. let r = event-kept plan book others _ (f _ (end-reported plan book events j l o n m)) in (r.1, r.2))

  drops-half :
      (events others : List Event)
      → ((event : Event) → Memᴰ event (accepted plan book events) → Memᴰ event (accepted plan book others))
      → (j : ℕ) → j < plan.tasks → (run plan book events).dropped j ≡ 1 → (run plan book others).dropped j ≡ 1
  drops-half events others f j l d =
      by-eq (book.dropped j) 1
      (λ e. (later-run plan book others).drops-stay j l e)
      (λ n. (event-kept plan book others _ (f _ (drop-told plan book events j l n d))).1)

  module _ (law : Lawful plan) (sound : Sound plan book) (events others : List Event)
      (same : (event : Event) → Memᴰ event (accepted plan book events) ↔ Memᴰ event (accepted plan book others)) where
    sound-these : Sound plan (run plan book events)
    sound-these = sound-run plan book events sound

    sound-those : Sound plan (run plan book others)
    sound-those = sound-run plan book others sound

    same-drops : SameDrops plan (run plan book events) (run plan book others)
    same-drops j l =
        let r = drop-range (sound-these.task j l) in
        let r' = drop-range (sound-those.task j l) in
        by-eq ((run plan book events).dropped j) 1
        (λ d. d ∙ sym (drops-half events others (λ e. (same e).0) j l d))
        (λ n.
        by-eq ((run plan book others).dropped j) 1
        (λ d. absurd (n (drops-half others events (λ e. (same e).1) j l d)))
        (λ n'. omega arith))

    pub same_runs : Same plan (run plan book events) (run plan book others)
    same_runs =
        determined plan (run plan book events) (run plan book others) sound-these sound-those same-drops
        (ends-in plan law (run plan book events) (run plan book others) sound-these sound-those same-drops
        (kept_half events others (λ e. (same e).0)))
        (ends-in plan law (run plan book others) (run plan book events) sound-those sound-these
        (λ j l. sym (same-drops j l)) (kept_half others events (λ e. (same e).1)))

    -- the same accepted reports and drops in whatever order leave the same book
    pub same-book : run plan book events ≡ run plan book others
    same-book =
        same-path plan (run plan book events) (run plan book others) same_runs
        (past-trans plan _ book _ (past-run plan book events) (past-sym plan _ _ (past-run plan book others)))
