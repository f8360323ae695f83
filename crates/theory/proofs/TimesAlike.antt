-- A timetable looks at ready ticks, wait sets, drops and lengths of the tasks alone.
use mathlib.Core.Path.{◌≡◌, refl, sym, ◌∙◌}
use mathlib.Core.Bool.{Bool, cond}
use mathlib.Core.Logic.{◌≢◌}
use Prim.Native.Nat.{ℕ, zero, suc, ◌+◌, ◌<◌}
use borrow.Author.Tests.{eq-eqb, ne_eqb}
use Rattle.laws.proofs.Cases.{by-eq}
use Rattle.laws.proofs.Latest.{latest-same}
use Rattle.theory.specs.Plan.{Plan}
use Rattle.theory.specs.Book.{is_dropped, due}
use Rattle.theory.specs.Times.{start_from, ends_by, start_time, end_time}

module _ (tasks : ℕ) (ready begin finish from to : ℕ → ℕ) (these those : ℕ → ℕ → Bool)
    (agree : (i j : ℕ) → i < tasks → j < tasks → these i j ≡ those i j) (length dropped : ℕ → ℕ) where
  abbrev one : Plan
  one = record { tasks = tasks; ready = ready; begin = begin; finish = finish; waits = these }

  abbrev other : Plan
  other = record { tasks = tasks; ready = ready; begin = from; finish = to; waits = those }

  start-alike :
      (end ending : ℕ → ℕ) → ((j : ℕ) → j < tasks → end j ≡ ending j) → (i : ℕ) → i < tasks
      → start_from one dropped end i ≡ start_from other dropped ending i
  start-alike end ending same i l =
      let e : due one end i ≡ due other ending i = latest-same tasks _ _ _ _ (λ j lj. agree i j l lj) (λ j lj w. same j lj) in
      rw e

  ends-alike : (n i : ℕ) → i < tasks → ends_by n one length dropped i ≡ ends_by n other length dropped i
  unfolding ends_by
  ends-alike zero i l = refl
  ends-alike (suc n) i l =
      let s = start-alike (ends_by n one length dropped) (ends_by n other length dropped) (λ j lj. ends-alike n j lj) i l in rw s

  pub end-time-alike : (i : ℕ) → i < tasks → end_time one length dropped i ≡ end_time other length dropped i
  end-time-alike i l = ends-alike tasks i l

  pub start-time-alike : (i : ℕ) → i < tasks → start_time one length dropped i ≡ start_time other length dropped i
  start-time-alike i l = start-alike _ _ (λ j lj. end-time-alike j lj) i l

-- nor at the length of a dropped task
module _ (plan : Plan) (length other dropped gone : ℕ → ℕ) (drops : (i : ℕ) → i < plan.tasks → is_dropped dropped i ≡ is_dropped gone i)
    (lengths : (i : ℕ) → i < plan.tasks → dropped i ≢ 1 → length i ≡ other i) where
  lasting-alike : (i : ℕ) → i < plan.tasks → cond (is_dropped dropped i) 0 (length i) ≡ cond (is_dropped gone i) 0 (other i)
  lasting-alike i l =
      by-eq (dropped i) 1
      (λ d. let e = eq-eqb (dropped i) 1 d in rw (e, sym (drops i l) ∙ e))
      (λ n. let e = ne_eqb (dropped i) 1 n in rw (e, sym (drops i l) ∙ e) (lengths i l n))

  start-given :
      (end ending : ℕ → ℕ) → ((j : ℕ) → j < plan.tasks → end j ≡ ending j) → (i : ℕ) → i < plan.tasks
      → start_from plan dropped end i ≡ start_from plan gone ending i
  start-given end ending same i l =
      let e : due plan end i ≡ due plan ending i = latest-same plan.tasks _ _ _ _ (λ j lj. refl) (λ j lj w. same j lj) in
      rw (e, drops i l)

  ends-given : (n i : ℕ) → i < plan.tasks → ends_by n plan length dropped i ≡ ends_by n plan other gone i
  unfolding ends_by
  ends-given zero i l = refl
  ends-given (suc n) i l = λ k. start-given _ _ (λ j lj. ends-given n j lj) i l k + lasting-alike i l k

  pub end-time-given : (i : ℕ) → i < plan.tasks → end_time plan length dropped i ≡ end_time plan other gone i
  end-time-given i l = ends-given plan.tasks i l

  pub start-time-given : (i : ℕ) → i < plan.tasks → start_time plan length dropped i ≡ start_time plan other gone i
  start-time-given i l = start-given _ _ (λ j lj. end-time-given j lj) i l
