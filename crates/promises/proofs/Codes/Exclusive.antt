-- A task with each shared hold made exclusive.
use Prim.Native.Nat.{ℕ}
use mathlib.Core.Bool.{false}
use mathlib.Core.List.{List, [], ◌∷◌, map}
use mathlib.Core.Path.{◌≡◌, refl}
use Rattle.text_fields.specs.Items.{drive_of, has_shared, exclusive}
use Rattle.text_fields.proofs.Shared.{exclusive-drive, none-shared, unshared-own}
use Rattle.plan.specs.Task.{Task, exclusive_task}
use Rattle.promises.specs.Conversion.{SameExclusive}

drives-same : (l : List ℕ) → map drive_of (map exclusive l) ≡ map drive_of l
drives-same [] = refl
drives-same (h ∷ l) = let e = exclusive-drive h in let r = drives-same l in λ i. e i ∷ r i

pub same-exclusive : (old new : Task) → new ≡ exclusive_task old → SameExclusive old new
same-exclusive old new e =
    rw e
    (record {
      board = refl;
      ready = refl;
      begin = refl;
      finish = refl;
      drives = drives-same old.holds;
      exclusive = none-shared old.holds;
      after = refl;
    })

pub unshared-task : (task : Task) → has_shared task.holds ≡ false → exclusive_task task ≡ task
unshared-task task e =
    let h = unshared-own task.holds e in
    λ i. record { board = task.board; ready = task.ready; begin = task.begin; finish = task.finish; holds = h i; after = task.after }
