-- A report ends a task, skips the dropped ones that may go, then lets go whoever may go; a drop only marks a task. Soundness is
-- kept, and what a report does at each task.
use mathlib.Core.Path.{◌≡◌, refl, sym, ap, ◌∙◌}
use mathlib.Core.Logic.{◌≢◌}
use mathlib.Core.Bool.{true, false}
use mathlib.Core.List.{List, [], ◌∷◌}
use Prim.Native.Nat.{ℕ, ◌≤◌, ◌<◌, max}
use native.Mathlib.Omega.{arith}
use borrow.Author.Tests.{eq-eqb, ne_eqb}
use Rattle.laws.proofs.Cases.{by-eq, and_no}
use Rattle.laws.specs.Picked.{latest}
use Rattle.laws.proofs.Latest.{latest-is, latest-none}
use Rattle.theory.specs.Plan.{Plan}
use Rattle.theory.specs.Book.{Book, ended, limit, all_ended}
use Rattle.theory.proofs.Facts.{Blocker, Waiter, TaskOk, Sound}
use Rattle.theory.specs.Report.{goes, end_it, skip_times, let_go, next, drop_it, blank, opened}
use Rattle.theory.specs.Words.Events.{Accepts, AcceptsDrop, Event}
use Rattle.theory.proofs.Facts.{step_to, book_after, run}
use Rattle.theory.proofs.Reflect.{Taken, code-taken, Said, said}
use Rattle.theory.proofs.Task.{end-by-clock, waiting-why, no_start, no_end}
use Rattle.theory.proofs.Onward.{FreeNow, Onward, onward-all, onward-due, onward-start, onward-since}
use Rattle.theory.proofs.Skip.{Halfway, halfway-skips, settled, SkippedAt, skips-at, skips-clock, skips-dropped}
use Rattle.theory.proofs.LetGo.{LetGoAt, let-go-at, let-go-all, sound-let-go}

-- what ending task k does at a task
pub data EndAt (book : Book) (k tick : ℕ) (after : Book) (i : ℕ) : Type 0 where
  ends : i ≡ k → after.mark i ≡ 2 → after.end i ≡ tick → EndAt book k tick after i
  stays : i ≢ k → after.mark i ≡ book.mark i → after.end i ≡ book.end i → EndAt book k tick after i

pub end-it-at : (book : Book) (k tick i : ℕ) → EndAt book k tick (end_it book k tick) i
end-it-at book k tick i =
    by-eq i k
    (λ e. EndAt.ends e (rw (eq-eqb i k e)) (rw (eq-eqb i k e)))
    (λ n. EndAt.stays n (rw (ne_eqb i k n)) (rw (ne_eqb i k n)))

module _ (plan : Plan) (book : Book) (k tick : ℕ) (ok : Accepts plan book k tick) (sound : Sound plan book) where
  end-it-onward : Onward plan book (end_it book k tick)
  end-it-onward = record {
    stay = λ j l h. stay j h (end-it-at book k tick j);
    new = λ j l n h. new j n h (end-it-at book k tick j);
    by = λ j l. by j l (end-it-at book k tick j);
  }
    where
      stay :
          (j : ℕ) → book.mark j ≡ 2 → EndAt book k tick (end_it book k tick) j
          → ((end_it book k tick).mark j ≡ 2) × ((end_it book k tick).end j ≡ book.end j)
      stay j h (EndAt.ends e m v) = let q : book.mark j ≡ 1 = rw e ok.runs in absurd (omega arith)
      stay j h (EndAt.stays n m v) = (m ∙ h, v)

      new :
          (j : ℕ) → book.mark j ≢ 2 → (end_it book k tick).mark j ≡ 2 → EndAt book k tick (end_it book k tick) j
          → (end_it book k tick).end j ≡ tick
      new j n h (EndAt.ends e m v) = v
      new j n h (EndAt.stays ne m v) = absurd (n (sym m ∙ h))

      by : (j : ℕ) → j < plan.tasks → EndAt book k tick (end_it book k tick) j → (end_it book k tick).end j ≤ tick
      by j l (EndAt.ends e m v) = omega arith
      by j l (EndAt.stays n m v) = omega (arith, end-by-clock (sound.task j l), ok.now)

  pub halfway-end-it : Halfway plan (end_it book k tick)
  halfway-end-it = record { task = λ i l. task i l (end-it-at book k tick i) (sound.task i l); clock-is = clock }
    where
      on : Onward plan book (end_it book k tick)
      on = end-it-onward

      task :
          (i : ℕ) → i < plan.tasks → EndAt book k tick (end_it book k tick) i
          → TaskOk (Blocker plan book.mark) plan book i
          → TaskOk (FreeNow plan (end_it book k tick)) plan (end_it book k tick) i
      task i l (EndAt.ends e m v) (TaskOk.is-waiting m' d w s e') =
          let q : book.mark i ≡ 1 = rw e ok.runs in absurd (omega arith)
      task i l (EndAt.ends e m v) (TaskOk.is-running m' d all s e' c) =
          let p : book.start i < tick = rw e ok.after in
          let q : tick ≤ limit plan book i = rw e ok.in_time in
          TaskOk.has_ended m d (onward-all on i all) (s ∙ onward-start on i all) (omega arith) (omega arith) (omega arith)
      task i l (EndAt.ends e m v) (TaskOk.has_ended m' d all s a f c) =
          let q : book.mark i ≡ 1 = rw e ok.runs in absurd (omega arith)
      task i l (EndAt.ends e m v) (TaskOk.was-skipped m' d w all s e' c) =
          let q : book.mark i ≡ 1 = rw e ok.runs in absurd (omega arith)
      task i l (EndAt.stays n m v) (TaskOk.is-waiting m' d w s e') =
          let some : Waiter plan i = record { who = w.who; task = w.task; held = w.held } in
          TaskOk.is-waiting (m ∙ m') d (record { since = onward-since on i w; some = λ o. some }) s (v ∙ e')
      task i l (EndAt.stays n m v) (TaskOk.is-running m' d all s e' c) =
          TaskOk.is-running (m ∙ m') d (onward-all on i all) (s ∙ onward-start on i all) (v ∙ e') (ok.others i l m')
      task i l (EndAt.stays n m v) (TaskOk.has_ended m' d all s a f c) =
          TaskOk.has_ended (m ∙ m') d (onward-all on i all) (s ∙ onward-start on i all) (omega arith) (omega arith)
          (omega (arith, ok.now))
      task i l (EndAt.stays n m v) (TaskOk.was-skipped m' d w all s e' c) =
          TaskOk.was-skipped (m ∙ m') d w (onward-all on i all) (s ∙ onward-due on i all) (v ∙ e') (omega (arith, ok.now))

      clock : tick ≡ latest plan.tasks (ended (end_it book k tick).mark) (end_it book k tick).end
      clock = sym (last (end-it-at book k tick k))
        where
          last :
              EndAt book k tick (end_it book k tick) k
              → latest plan.tasks (ended (end_it book k tick).mark) (end_it book k tick).end ≡ tick
          last (EndAt.ends e m v) =
              latest-is plan.tasks _ _ tick (λ j l w. end-it-onward.by j l) k ok.task (eq-eqb _ 2 m) v
          last (EndAt.stays n m v) = absurd (n refl)

  pub sound-next : Sound plan (next plan book k tick)
  unfolding next
  sound-next =
      sound-let-go plan (skip_times plan.tasks plan (end_it book k tick))
      (halfway-skips plan plan.tasks (end_it book k tick) halfway-end-it) (settled plan (end_it book k tick))

-- nothing known yet is halfway too, and nobody is dropped, so opening gives a sound book
halfway-blank : (plan : Plan) → Halfway plan blank
halfway-blank plan = record {
  task = λ i l.
      TaskOk.is-waiting refl (omega arith)
      (record { since = λ all. latest-none plan.tasks _ _ (λ j l' h. refl); some = λ o. absurd (omega arith) }) refl refl;
  clock-is = sym (latest-none plan.tasks _ _ (λ j l h. refl));
}

pub sound-opened : (plan : Plan) → Sound plan (opened plan)
unfolding opened
sound-opened plan = sound-let-go plan blank (halfway-blank plan) (λ i. and_no (goes plan blank i))

-- a drop changes nothing but the mark of a waiting task
pub sound-drop : (plan : Plan) (book : Book) (k : ℕ) → AcceptsDrop plan book k → Sound plan book → Sound plan (drop_it book k)
sound-drop plan book k ok sound =
    record { task = λ i l. by-eq i k (λ e. there i l e (sound.task i l)) (λ n. other i n (sound.task i l)); clock-is = sound.clock-is }
  where
    there :
        (i : ℕ) → i < plan.tasks → i ≡ k → TaskOk (Blocker plan book.mark) plan book i
        → TaskOk (Blocker plan book.mark) plan (drop_it book k) i
    there i l e task =
        let z : book.mark i ≡ 0 = rw e ok.waits in
        TaskOk.is-waiting z (rw (eq-eqb i k e) (omega arith)) (waiting-why task z) (no_start task z) (no_end task (omega arith))

    other :
        (i : ℕ) → i ≢ k → TaskOk (Blocker plan book.mark) plan book i
        → TaskOk (Blocker plan book.mark) plan (drop_it book k) i
    other i n (TaskOk.is-waiting m d w s e) = TaskOk.is-waiting m (rw (ne_eqb i k n) d) w s e
    other i n (TaskOk.is-running m d all s e c) = TaskOk.is-running m (rw (ne_eqb i k n) d) all s e c
    other i n (TaskOk.has_ended m d all s a f c) = TaskOk.has_ended m (rw (ne_eqb i k n) d) all s a f c
    other i n (TaskOk.was-skipped m d w all s e c) = TaskOk.was-skipped m (rw (ne_eqb i k n) d) w all s e c

pub sound-step : (plan : Plan) (book : Book) (event : Event) → Taken plan book event → Sound plan book → Sound plan (step_to plan book event)
sound-step plan book (Event.ends k tick) ok sound = sound-next plan book k tick ok sound
sound-step plan book (Event.drops k) ok sound = sound-drop plan book k ok sound

-- accepted or refused, a report or drop leaves a sound book
pub sound-after : (plan : Plan) (book : Book) (event : Event) → Sound plan book → Sound plan (book_after plan book event)
sound-after plan book event sound = go (book_after plan book event) (said plan book event)
  where
    go : (after : Book) → Said plan book event after → Sound plan after
    go after (Said.taken z e) = rw e (sound-step plan book event (code-taken plan book event z) sound)
    go after (Said.refused n e) = rw e sound

pub sound-run : (plan : Plan) (book : Book) (events : List Event) → Sound plan book → Sound plan (run plan book events)
unfolding run
sound-run plan book [] sound = sound
sound-run plan book (event ∷ later) sound = sound-run plan (book_after plan book event) later (sound-after plan book event sound)

-- what a report does at a task: it ends, starts, is skipped, stands as it was started, or lingers, waiting still
pub data AtTask (plan : Plan) (book : Book) (k tick : ℕ) (after : Book) (i : ℕ) : Type 0 where
  ends : i ≡ k → after.mark i ≡ 2 → after.start i ≡ book.start i → after.end i ≡ tick → AtTask plan book k tick after i
  starts :
      i ≢ k → book.mark i ≡ 0 → all_ended plan after.mark i ≡ true → after.mark i ≡ 1
      → after.start i ≡ max (plan.ready i) tick → after.end i ≡ book.end i → AtTask plan book k tick after i
  skipped :
      i ≢ k → book.mark i ≡ 0 → book.dropped i ≡ 1 → all_ended plan after.mark i ≡ true → after.mark i ≡ 2
      → after.start i ≡ tick → after.end i ≡ tick → AtTask plan book k tick after i
  stands :
      i ≢ k → book.mark i ≢ 0 → after.mark i ≡ book.mark i → after.start i ≡ book.start i
      → after.end i ≡ book.end i → AtTask plan book k tick after i
  lingers :
      i ≢ k → book.mark i ≡ 0 → all_ended plan after.mark i ≡ false → after.mark i ≡ book.mark i
      → after.start i ≡ book.start i → after.end i ≡ book.end i → AtTask plan book k tick after i

module _ (plan : Plan) (book : Book) (k tick : ℕ) where
  abbrev half : Book
  half = skip_times plan.tasks plan (end_it book k tick)

  half-clock : half.clock ≡ tick
  half-clock = skips-clock plan plan.tasks (end_it book k tick)

  pub next-at : (i : ℕ) → i < plan.tasks → AtTask plan book k tick (next plan book k tick) i
  unfolding next
  next-at i l = go (end-it-at book k tick i) (skips-at plan plan.tasks (end_it book k tick) i) (let-go-at plan half i l)
    where
      go :
          EndAt book k tick (end_it book k tick) i → SkippedAt plan (end_it book k tick) half i → LetGoAt plan half (let_go plan half) i
          → AtTask plan book k tick (let_go plan half) i
      go (EndAt.ends e m v) (SkippedAt.skipped z d all m' s v') last = absurd (omega arith)
      go (EndAt.ends e m v) (SkippedAt.stays m' s v') (LetGoAt.starts z all m'' s'') = absurd (omega arith)
      go (EndAt.ends e m v) (SkippedAt.stays m' s v') (LetGoAt.stays z m'' s'') =
          AtTask.ends e (m'' ∙ m' ∙ m) (s'' ∙ s) (v' ∙ v)
      go (EndAt.stays n m v) (SkippedAt.skipped z d all m' s v') (LetGoAt.starts z'' all'' m'' s'') = absurd (omega arith)
      go (EndAt.stays n m v) (SkippedAt.skipped z d all m' s v') (LetGoAt.stays z'' m'' s'') =
          AtTask.skipped n (sym m ∙ z) d (sym (let-go-all plan half i) ∙ all) (m'' ∙ m') (s'' ∙ s) v'
      go (EndAt.stays n m v) (SkippedAt.stays m' s v') (LetGoAt.starts z all m'' s'') =
          AtTask.starts n (sym m ∙ sym m' ∙ z) (sym (let-go-all plan half i) ∙ all) m''
          (s'' ∙ ap (max (plan.ready i)) half-clock) (v' ∙ v)
      go (EndAt.stays n m v) (SkippedAt.stays m' s v') (LetGoAt.stays z m'' s'') =
          by-eq (book.mark i) 0
          (λ w.
          AtTask.lingers n w (sym (let-go-all plan half i) ∙ z (m' ∙ m ∙ w)) (m'' ∙ m' ∙ m) (s'' ∙ s) (v' ∙ v))
          (λ w. AtTask.stands n w (m'' ∙ m' ∙ m) (s'' ∙ s) (v' ∙ v))

  pub next-clock : (next plan book k tick).clock ≡ tick
  unfolding next
  next-clock = half-clock

  pub next-dropped : (next plan book k tick).dropped ≡ book.dropped
  unfolding next
  next-dropped = skips-dropped plan plan.tasks (end_it book k tick)
