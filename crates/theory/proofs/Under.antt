-- No later book, of further reports and drops, has a task start later than with full lengths.
use mathlib.Core.Path.{◌≡◌}
use mathlib.Core.Logic.{◌≢◌}
use Prim.Native.Nat.{ℕ, zero, suc, ◌≤◌, ◌<◌}
use native.Mathlib.Omega.{arith}
use Rattle.laws.proofs.Cases.{by-eq}
use Rattle.laws.proofs.Latest.{latest-under, latest-over}
use Rattle.theory.specs.Plan.{Plan}
use Rattle.theory.specs.Book.{Book, due}
use Rattle.theory.proofs.Facts.{Sound, Lawful}
use Rattle.theory.proofs.Reflect.{all-ended-at}
use Rattle.theory.proofs.Task.{started-all, started-between, skipped-now, ended-within}
use Rattle.theory.proofs.Later.{Later}
use Rattle.theory.proofs.Solved.{sooner}
use Rattle.theory.proofs.Bounds.{start-dropped, start-kept, end-dropped, end_kept}
use Rattle.theory.specs.Exact.{full_start}
use Rattle.theory.proofs.Full.{full_end, full-other, full-lines, keeps-ends}

module _ (plan : Plan) (law : Lawful plan) (book : Book) (sound : Sound plan book) (later : Book) (sound' : Sound plan later)
    (after : Later plan book later) where
  -- whoever starts by then ends by then
  end-under :
      (j : ℕ) → j < plan.tasks → later.mark j ≡ 2 → later.start j ≤ full_start plan book j → later.end j ≤ full_end plan book j
  end-under j l m s =
      by-eq (book.mark j) 2
      (λ e. let k = keeps-ends plan law book sound j l e in let v = (after.ended-stay j l e).1 in omega arith)
      (λ n.
      by-eq (book.dropped j) 1
      (λ d.
      let o = (skipped-now (sound'.task j l) (omega arith) (after.drops-stay j l d)).1 in
      let e = end-dropped plan _ _ _ _ (full-lines plan law book sound) j l d in
      omega arith)
      (λ d.
      let w = (ended-within (sound'.task j l) m).1 in
      let e = end_kept plan _ _ _ _ (full-lines plan law book sound) j l d in
      let f = full-other plan book j n in
      omega arith))

  start_under :
      (i : ℕ) → i < plan.tasks → later.mark i ≢ 0 → due plan later.end i ≤ due plan (full_end plan book) i
      → later.start i ≤ full_start plan book i
  start_under i l n under =
      by-eq (book.dropped i) 1
      (λ d.
      let o = (skipped-now (sound'.task i l) n (after.drops-stay i l d)).2 in
      let s = start-dropped plan _ _ _ _ (full-lines plan law book sound) i l d in
      omega arith)
      (λ d.
      let b = (started-between (sound'.task i l) n).1 in
      let s = start-kept plan _ _ _ _ (full-lines plan law book sound) i l d in
      omega arith)

  -- by induction on the planned start
  starts-under : (n i : ℕ) → plan.begin i < n → i < plan.tasks → later.mark i ≢ 0 → later.start i ≤ full_start plan book i
  starts-under zero i f l h = absurd (omega arith)
  starts-under (suc n) i f l h =
      let all = started-all (sound'.task i l) h in
      start_under i l h
      (latest-under plan.tasks (plan.waits i) later.end _ (λ j lj w.
      let q = sooner plan law i j l lj w in
      let m = all-ended-at plan later.mark i all j lj w in
      let e = end-under j lj m (starts-under n j (omega arith) lj (omega arith)) in
      let o = latest-over plan.tasks (plan.waits i) (full_end plan book) j lj w in
      omega arith))

  pub no-later : (i : ℕ) → i < plan.tasks → later.mark i ≢ 0 → later.start i ≤ full_start plan book i
  no-later i l h = starts-under (suc (plan.begin i)) i (omega arith) l h
