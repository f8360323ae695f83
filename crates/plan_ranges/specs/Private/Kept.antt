-- Short names for what single functions say of one task's places in lent arrays.
use Rattle.std.specs.Prelude.{ℕ, Bool, not, ◌&&◌, ◌||◌, List, ltb, leb, eqb}
use Rattle.laws.specs.Private.Rise.{rises_from}
use Rattle.text.specs.Number.{most}
use Rattle.text_fields.specs.Items.{between, drive_of, has_shared}
use Rattle.plan.specs.Value.{at, items, is_trimmed}
use Rattle.plan.specs.declared.Plan.{Plan}
use Rattle.text_fields.specs.declared.Listed.{Listed}
use Rattle.text_fields.specs.declared.Listed.TheVariants.{Holds, Tasks}

-- what is kept of a task: of its numbers, and of its lists
abbrev pub numbers_in : Plan → ℕ → Bool
numbers_in plan k =
    (between 1 plan.boards (at plan.board k)
    && (leb (at plan.ready k) (at plan.begin k)
    && (ltb (at plan.begin k) (at plan.finish k) && leb (at plan.finish k) most)))
    && (eqb plan.edition 2 || eqb (at plan.ready k) 0)

-- the number by which an item has its place: its drive, or the task's
abbrev pub key_of : Listed → ℕ → ℕ
key_of Holds = drive_of
key_of Tasks = λ n. n

abbrev pub list_in : Listed → ℕ → List ℕ → Bool
list_in listed high l = rises_from (key_of listed) high 0 (items l) && is_trimmed l

abbrev pub shared_in : ℕ → List ℕ → Bool
shared_in edition l = not (eqb edition 2) || not (has_shared l)

abbrev pub holds_in : ℕ → List ℕ → Bool
holds_in edition l = list_in Holds 32 l && shared_in edition l
