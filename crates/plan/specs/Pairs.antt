-- When two tasks clash, and the first faulty pair. Tasks are counted from 0 here, and from 1 in what is said.
use Rattle.std.specs.Prelude.{ℕ, ◌+◌, Bool, not, cond, ◌&&◌, ◌||◌, List, ltb, eqb}
use Rattle.laws.specs.Lists.{any_of}
use Rattle.laws.specs.Scan.{scan_to}
use Rattle.text_fields.specs.Items.{drive_of, is_shared}
use Rattle.plan.specs.Answer.{refuse, granted, is_refused}
use Rattle.plan.specs.Task.{Task}
use Rattle.plan.specs.declared.Answer.{Answer}

-- Planned times are half open: a and b overlap when start a < finish b and start b < finish a
abbrev pub overlap : Task → Task → Bool
overlap a b = ltb a.begin b.finish && ltb b.begin a.finish

abbrev pub same_board : Task → Task → Bool
same_board a b = eqb a.board b.board

-- one drive, at least one of the two holds exclusive
abbrev pub holds_clash : ℕ → ℕ → Bool
holds_clash g h = eqb (drive_of g) (drive_of h) && not (is_shared g && is_shared h)

-- they hold a common drive at least one of them exclusively
unfoldable pub clash_by_drive : List ℕ → List ℕ → Bool
clash_by_drive these those = any_of (λ g. any_of (holds_clash g) those) these

-- the task number stands under after
unfoldable pub is_listed : List ℕ → ℕ → Bool
is_listed after number = any_of (eqb number) after

-- Two tasks clash when they have the same board, or clash by drive, or one lists the other under after
abbrev pub clash : (ℕ → Task) → ℕ → ℕ → Bool
clash task a b =
    same_board (task a) (task b)
    || (clash_by_drive (task a).holds (task b).holds
    || (is_listed (task a).after (b + 1) || is_listed (task b).after (a + 1)))

-- a lists b under after, and b's planned finish is not at or before a's planned start
abbrev pub breaks_after : (ℕ → Task) → ℕ → ℕ → Bool
breaks_after task a b = ltb (task a).begin (task b).finish && is_listed (task a).after (b + 1)

-- 6, 7, 8 in this order, (a, a) only for code 8; 0 where the pair is not faulty
unfoldable pub pair_code : (ℕ → Task) → ℕ → ℕ → ℕ
pair_code task a b =
    let meet = not (eqb a b) && overlap (task a) (task b) in
    cond (meet && same_board (task a) (task b)) 6
    (cond (meet && clash_by_drive (task a).holds (task b).holds) 7
    (cond (breaks_after task a b || breaks_after task b a) 8 0))

abbrev pub pair_answer : (ℕ → Task) → ℕ → ℕ → Answer
pair_answer task a b = refuse (pair_code task a b) (a + 1) (b + 1)

-- Pairs (a, b), b from `from a`, are examined by a, then by b; the search stops at the first faulty pair
unfoldable pub pairs_fault : ℕ → (ℕ → ℕ) → (ℕ → ℕ → Answer) → Answer
pairs_fault tasks from pair = scan_to is_refused granted (λ a. scan_to is_refused granted (pair a) (from a) tasks) 0 tasks

-- with a ≤ b
unfoldable pub first_fault : ℕ → (ℕ → Task) → Answer
first_fault tasks task = pairs_fault tasks (λ a. a) (pair_answer task)
