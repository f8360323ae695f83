-- Tasks start in order, when and only when they are due, never unready and never late.
use mathlib.Core.Path.{◌≡◌, sym, ap, ◌∙◌}
use mathlib.Core.Logic.{◌≢◌, ◌↔◌}
use mathlib.Core.Bool.{true}
use Prim.Native.Nat.{ℕ, zero, suc, ◌≤◌, ◌<◌, max}
use native.Mathlib.Omega.{arith}
use Rattle.laws.proofs.Cases.{by-eq, true-false}
use Rattle.laws.proofs.Latest.{latest-over, latest-under, latest-is}
use Rattle.theory.specs.Plan.{Plan}
use Rattle.theory.specs.Book.{Book, all_ended, due, ready_due}
use Rattle.theory.proofs.Facts.{Blocker, TaskOk, Sound, Lawful}
use Rattle.theory.specs.Report.{next}
use Rattle.theory.specs.Words.Events.{Accepts}
use Rattle.theory.proofs.Reflect.{all-ended-at}
use Rattle.theory.proofs.Task.{started-all, started-at, started-between, skipped-now, waiting-why, ended-within, end-by-clock, runs-kept}
use Rattle.theory.proofs.Step.{sound-next, AtTask, next-at, next-clock, next-dropped}
use Rattle.theory.proofs.Later.{later-next, next-new}

module _ (plan : Plan) (book : Book) (sound : Sound plan book) where
  -- it starts at the later of its ready tick and the latest of the ends of those it waits for
  pub started-due :
      (i : ℕ) → i < plan.tasks → book.mark i ≢ 0 → book.dropped i ≢ 1 → book.start i ≡ ready_due plan book.end i
  started-due i l n o = started-at (sound.task i l) n o

  -- a dropped task's ready tick is ignored
  pub skipped-due :
      (i : ℕ) → i < plan.tasks → book.mark i ≢ 0 → book.dropped i ≡ 1 → book.start i ≡ due plan book.end i
  skipped-due i l n d = (skipped-now (sound.task i l) n d).2

  -- nobody starts before its ready tick unless dropped
  pub never-unready : (i : ℕ) → i < plan.tasks → book.mark i ≢ 0 → book.dropped i ≢ 1 → plan.ready i ≤ book.start i
  never-unready i l n o = let d = started-due i l n o in omega arith

  -- a start that lies past the clock is the ready tick
  pub ready-ahead : (i : ℕ) → i < plan.tasks → book.mark i ≢ 0 → book.clock < book.start i → book.start i ≡ plan.ready i
  ready-ahead i l n ahead =
      let u = latest-under plan.tasks (plan.waits i) book.end book.clock (λ j lj w. end-by-clock (sound.task j lj)) in
      by-eq (book.dropped i) 1
      (λ d. let s = skipped-due i l n d in absurd (omega arith))
      (λ o. let s = started-due i l n o in omega arith)

  -- no task starts before one it waits for has ended
  pub in_order :
      (i j : ℕ) → i < plan.tasks → j < plan.tasks → plan.waits i j ≡ true → book.mark i ≢ 0
      → (book.mark j ≡ 2) × (book.end j ≤ book.start i)
  in_order i j li lj w n =
      let d = (started-between (sound.task i li) n).0 in
      let u = latest-over plan.tasks (plan.waits i) book.end j lj w in
      (all-ended-at plan book.mark i (started-all (sound.task i li) n) j lj w, omega arith)

  module _ (law : Lawful plan) where
    -- by induction on the planned start
    not_late : (n i : ℕ) → plan.begin i < n → i < plan.tasks → book.mark i ≢ 0 → book.start i ≤ plan.begin i
    not_late zero i f l m = absurd (omega arith)
    not_late (suc n) i f l m =
        let d = (started-between (sound.task i l) m).1 in
        let r = law.ready i l in
        let u = latest-under plan.tasks (plan.waits i) book.end (plan.begin i) (λ j lj w.
        let b = law.before i j l lj w in
        let p = law.lasts j lj in
        let z = (in_order i j l lj w m).0 in
        let e = ended-within (sound.task j lj) z in
        let q = not_late n j (omega arith) lj (omega arith) in
        omega arith) in
        omega arith

    -- no task starts later than planned
    pub never-late : (i : ℕ) → i < plan.tasks → book.mark i ≢ 0 → book.start i ≤ plan.begin i
    never-late i l m = not_late (suc (plan.begin i)) i (omega arith) l m

-- what an accepted report does to the start of a waiting task; a dropped one starts and ends at once, ready or not
pub record StartsExactly (plan : Plan) (tick : ℕ) (after : Book) (i : ℕ) : Type 0 where
  pub when_free : (after.mark i ≢ 0) ↔ (all_ended plan after.mark i ≡ true)
  pub then_runs : after.mark i ≢ 0 → after.dropped i ≢ 1 → after.mark i ≡ 1
  pub then-skips : after.mark i ≢ 0 → after.dropped i ≡ 1 → (after.mark i ≡ 2) × (after.end i ≡ tick) × (after.start i ≡ tick)
  pub at_tick : after.mark i ≢ 0 → after.dropped i ≢ 1 → after.start i ≡ max (plan.ready i) tick
  pub is-due : after.mark i ≢ 0 → tick ≡ due plan after.end i

module _ (plan : Plan) (book : Book) (k tick : ℕ) (ok : Accepts plan book k tick) (sound : Sound plan book) where
  -- the start of a waiting task is known from the report after which all it waits for have ended, and from no other: it is the
  -- tick of the report, or its ready tick where that is later
  pub start-exact : (i : ℕ) → i < plan.tasks → book.mark i ≡ 0 → StartsExactly plan tick (next plan book k tick) i
  start-exact i l z = go (next-at plan book k tick i l)
    where
      after : Book
      after = next plan book k tick

      task : TaskOk (Blocker plan after.mark) plan after i
      task = (sound-next plan book k tick ok sound).task i l

      dropped : after.dropped i ≡ book.dropped i
      dropped = ap (λ (f : ℕ → ℕ). f i) (next-dropped plan book k tick)

      due-now : all_ended plan after.mark i ≡ true → tick ≡ due plan after.end i
      due-now all =
          let b = waiting-why (sound.task i l) z in
          let m = all-ended-at plan after.mark i all b.who b.task b.held in
          let e = (next-new plan book k tick b.who b.task b.still m).1 in
          let by : (j : ℕ) → j < plan.tasks → after.end j ≤ tick =
          λ j lj.
          omega (arith, end-by-clock ((sound-next plan book k tick ok sound).task j lj), next-clock plan book k tick) in
          sym (latest-is plan.tasks _ _ tick (λ j lj w. by j lj) b.who b.task b.held e)

      go : AtTask plan book k tick after i → StartsExactly plan tick after i
      go (AtTask.ends e m s v) = let q : book.mark i ≡ 1 = rw e ok.runs in absurd (omega arith)
      go (AtTask.starts n z' all m s v) = record {
        when_free = (λ h. all, λ h. omega arith);
        then_runs = λ h d. m;
        then-skips = λ h d. let r = runs-kept task m in absurd (omega arith);
        at_tick = λ h d. s;
        is-due = λ h. due-now all;
      }
      go (AtTask.skipped n z' d all m s v) = record {
        when_free = (λ h. all, λ h. omega arith);
        then_runs = λ h o. absurd (o (dropped ∙ d));
        then-skips = λ h o. (m, v, s);
        at_tick = λ h o. absurd (o (dropped ∙ d));
        is-due = λ h. due-now all;
      }
      go (AtTask.stands n z' m s v) = absurd (z' z)
      go (AtTask.lingers n z' all m s v) =
          let never : after.mark i ≢ 0 → ⊥ = λ h. h (m ∙ z) in
          record {
            when_free = (λ h. absurd (never h), λ h. true-false h all);
            then_runs = λ h d. absurd (never h);
            then-skips = λ h d. absurd (never h);
            at_tick = λ h d. absurd (never h);
            is-due = λ h. absurd (never h);
          }

  -- a task already started keeps its start
  pub start-kept :
      (i : ℕ) → i < plan.tasks → book.mark i ≢ 0
      → ((next plan book k tick).mark i ≢ 0) × ((next plan book k tick).start i ≡ book.start i)
  start-kept = (later-next plan book k tick ok).started-stay
