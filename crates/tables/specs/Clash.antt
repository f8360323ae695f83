-- The clash rule on a plan of three boards: items, the program's listing, and impostors of the rule.
use Rattle.std.specs.Prelude.{ℕ, ◌+◌, Bool, not, ◌&&◌, ◌||◌, List, [], ◌∷◌, eqb, leb}
use Rattle.laws.specs.Lists.{any_of}
use Rattle.text.specs.Bytes.{bytes}
use Rattle.text_fields.specs.Items.{drive_of, is_shared}
use Rattle.plan.specs.Task.{Task}
use Rattle.plan.specs.Pairs.{same_board, clash_by_drive, is_listed, clash}
use Rattle.plan.specs.Read.{reading_of}
use Rattle.plan.specs.Value.{task_at}
use Rattle.plan.specs.declared.Plan.{Plan}
use Rattle.book.specs.Words.Event.{answer_to}
use Rattle.book.specs.declared.Book.{Book}
use Rattle.tables.specs.Walk.{end, absent, Step, told, gives, shows, starts, ends, makes}

-- tasks 1 and 4 hold drive 1, tasks 2 and 5 share drive 2, which task 6 holds exclusively; 6 comes after 3 and 8 after 1
abbrev pub text_c : List ℕ
text_c =
    bytes
    "plan\t1\t3\t8\ntask\t1\t1\t0\t10\te1\t-\ntask\t2\t2\t0\t6\ts2\t-\ntask\t3\t3\t0\t5\t-\t-\ntask\t4\t2\t10\t14\te1\t-\ntask\t5\t3\t7\t11\ts2\t-\ntask\t6\t1\t12\t15\te2\t3\ntask\t7\t3\t15\t18\t-\t-\ntask\t8\t2\t16\t20\t-\t1\n"

unfoldable pub plan_c : Plan
plan_c = (reading_of text_c).plan

-- task 5 awaits task 3 alone, task 7 tasks 3 and 5; 4 awaits 1 for its drive, 6 awaits 5, an exclusive hold against a shared one,
-- and 8 awaits 4; where 4 is dropped 8 follows at once
abbrev pub clash_items : List (List Step)
clash_items =
    (gives (end 5 1) 11
    ∷ told (end 3 2)
    ∷ starts 5 2
    ∷ told (end 2 4)
    ∷ gives (end 4 5) 11
    ∷ told (end 5 5)
    ∷ starts 7 5
    ∷ shows 0
    ∷ told (end 7 8)
    ∷ told (end 1 9)
    ∷ starts 4 9
    ∷ starts 6 9
    ∷ shows 1
    ∷ gives (end 8 10) 11
    ∷ told (end 6 11)
    ∷ told (end 4 12)
    ∷ starts 8 12
    ∷ shows 4
    ∷ gives (end 8 16) 0
    ∷ gives (end 8 17) 14
    ∷ [])
    ∷ (told (end 3 2) ∷ told (end 1 3) ∷ told (end 2 4) ∷ gives (end 6 5) 11 ∷ [])
    ∷ (told (absent 4)
    ∷ told (end 3 2)
    ∷ told (end 2 4)
    ∷ told (end 5 5)
    ∷ told (end 7 8)
    ∷ told (end 1 9)
    ∷ ends 4 9
    ∷ starts 8 9
    ∷ [])
    ∷ []

-- by Early Start nobody goes before the boards' earlier tasks have all ended
abbrev pub early_items : List (List Step)
early_items = (told (end 3 2) ∷ gives (end 5 3) 11 ∷ told (end 2 4) ∷ starts 5 4 ∷ told (end 5 5) ∷ gives (end 7 6) 11 ∷ []) ∷ []

abbrev pub ends_c : List ℕ
ends_c = bytes "rule\tclash\nend\t3\t2\nend\t2\t4\nend\t5\t5\nend\t7\t8\nend\t1\t9\nend\t6\t11\nend\t4\t12\nend\t8\t15\n"

abbrev pub log_c : List ℕ
log_c =
    bytes
    "run\t2\t3\t8\tclash\nstart\t1\t1\t0\t0\nstart\t2\t2\t0\t0\nstart\t3\t3\t0\t0\nearly\t0\t0\nend\t3\t3\t2\t3\nstart\t5\t3\t2\t5\nearly\t2\t0\nend\t2\t2\t4\t2\nearly\t4\t0\nend\t5\t3\t5\t6\nstart\t7\t3\t5\t10\nearly\t5\t0\nend\t7\t3\t8\t10\nearly\t8\t0\nend\t1\t1\t9\t1\nstart\t4\t2\t9\t1\nstart\t6\t1\t9\t3\nearly\t9\t1\nend\t6\t1\t11\t4\nearly\t11\t1\nend\t4\t2\t12\t2\nstart\t8\t2\t12\t4\nearly\t12\t4\nend\t8\t2\t15\t5\nearly\t15\t0\n"

-- a rule that there is not: Early Start's opening, and the line is refused; `rule` in line 2 is a wrong word
abbrev pub ends_clasp : List ℕ
ends_clasp = bytes "rule\tclasp\nend\t3\t2\n"

abbrev pub log_clasp : List ℕ
log_clasp = bytes "run\t1\t3\t8\nstart\t1\t1\t0\t0\nstart\t2\t2\t0\t0\nstart\t3\t3\t0\t0\nearly\t0\t0\nrefused\t3\t1\t6\n"

abbrev pub ends_twice : List ℕ
ends_twice = bytes "rule\tclash\nrule\tclash\n"

abbrev pub log_twice : List ℕ
log_twice = bytes "run\t2\t3\t8\tclash\nstart\t1\t1\t0\t0\nstart\t2\t2\t0\t0\nstart\t3\t3\t0\t0\nearly\t0\t0\nrefused\t3\t2\t1\n"

-- ---- impostors: whom task i of plan C would wait for

abbrev task_c : ℕ → Task
task_c = task_at plan_c

abbrev in_time : ℕ → ℕ → Bool
in_time i j = leb (task_c j).finish (task_c i).begin

-- clash by board alone
abbrev pub board_alone : ℕ → ℕ → Bool
board_alone i j = same_board (task_c i) (task_c j) && in_time i j

-- drives clash only where both hold them exclusively
abbrev pub both_exclusive : ℕ → ℕ → Bool
both_exclusive i j =
    (same_board (task_c i) (task_c j)
    || (any_of (λ g. any_of (λ h. eqb (drive_of g) (drive_of h) && not (is_shared g || is_shared h)) (task_c j).holds) (task_c i).holds
    || (is_listed (task_c i).after (j + 1) || is_listed (task_c j).after (i + 1))))
    && in_time i j

-- and wherever both hold them
abbrev pub any_hold : ℕ → ℕ → Bool
any_hold i j =
    (same_board (task_c i) (task_c j)
    || (any_of (λ g. any_of (λ h. eqb (drive_of g) (drive_of h)) (task_c j).holds) (task_c i).holds
    || (is_listed (task_c i).after (j + 1) || is_listed (task_c j).after (i + 1))))
    && in_time i j

-- after in one direction only
abbrev pub listed_only : ℕ → ℕ → Bool
listed_only i j =
    (same_board (task_c i) (task_c j) || (clash_by_drive (task_c i).holds (task_c j).holds || is_listed (task_c j).after (i + 1))) && in_time i j

-- all that clash, whatever their planned times
abbrev pub any_time : ℕ → ℕ → Bool
any_time i j = clash task_c i j

-- a book that changes its rule
abbrev pub turned_early : Book → Book
turned_early book = record {
  edition = book.edition;
  boards = book.boards;
  tasks = book.tasks;
  rule = 0;
  clock = book.clock;
  board = book.board;
  ready = book.ready;
  begin = book.begin;
  finish = book.finish;
  start = book.start;
  end = book.end;
  mark = book.mark;
  dropped = book.dropped;
  holds = book.holds;
  after = book.after;
}

-- it takes no further report: task 5 runs there beside task 2
abbrev pub turned_impostor : List (List Step)
turned_impostor = (told (end 3 2) ∷ gives (end 2 4) 0 ∷ makes (λ book. (answer_to (turned_early book) (end 2 4)).code) 9 ∷ []) ∷ []
