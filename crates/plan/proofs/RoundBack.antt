-- A line that is written reads back as what it was written from.
use Prim.Native.Nat.{ℕ, zero, suc, ◌+◌, ◌<◌, ◌≤◌}
use mathlib.Core.List.{List, [], ◌∷◌, ◌++◌, append_assoc, append-nil}
use mathlib.Core.Bool.{Bool, true, false, cond}
use mathlib.Core.Path.{◌≡◌, refl, sym, ap, ◌∙◌}
use native.Mathlib.Omega.{arith}
use lib.ListN.{length, get_or, length-append}
use native.Mathlib.Nat.{add-zero}
use lib.Dec.{eqb}
use lib.Seq.{append_snoc, get_or-append-add}
use borrow.Author.Tests.{lt-ltb, eqb-true, not-true}
use Rattle.laws.proofs.Cases.{by_bool, by-eq, and-of, true-false}
use Rattle.laws.proofs.Conj.{conj-at}
use Rattle.laws.specs.Digits.{digits_of}
use Rattle.laws.proofs.Digits.{value-digits}
use Rattle.laws.specs.Lists.{all_of}
use Rattle.laws.proofs.Lists.{same_refl}
use Rattle.laws.specs.Split.{index_of, before, after, join_on, skip_on}
use Rattle.laws.proofs.Split.{free, split-join, index-seam, before-seam, after-seam, skip-suc}
use Rattle.text.proofs.Numerals.{digits_number, digits-free}
use Rattle.text_fields.proofs.Lists.{free-join, holds-back, holds-free, after-back, after_free}
use Rattle.text.specs.Bytes.{bytes}
use Rattle.text.specs.Number.{value_of}
use Rattle.text.specs.Line.{TAB, LF, has_line, skip, fields, field, line_text, lines_below}
use Rattle.text_fields.specs.Items.{has_shared, holds_ok, after_ok}
use Rattle.text_fields.proofs.ListFields.{holds_of, after_of}
use Rattle.plan.specs.Task.{Task, numbers_ok, task_ok, edition_ok}
use Rattle.plan.specs.Read.{ranged, sizes_ok, task_from, line_task}
use Rattle.plan.specs.Write.{fields_from, task_text, task_texts}
use Rattle.plan.proofs.LineCodes.{TimesOk, HeadOk, LineFine}
use Rattle.plan.proofs.PlanTasks.{between-of, task-fits}

-- ---- a line made of fields that have no tab and no LF, and what follows it

module _ (f : List ℕ) (fs : List (List ℕ)) (whole : all_of (free LF) (f ∷ fs) ≡ true) (rest : List ℕ) where
  clear : free LF (join_on TAB (f ∷ fs)) ≡ true
  clear = free-join LF TAB (f ∷ fs) (λ e. omega arith) whole

  apart : line_text (f ∷ fs) ++ rest ≡ join_on TAB (f ∷ fs) ++ (LF ∷ rest)
  apart = append_snoc (join_on TAB (f ∷ fs)) LF rest

  pub made-line : before LF (line_text (f ∷ fs) ++ rest) ≡ join_on TAB (f ∷ fs)
  made-line = ap (before LF) apart ∙ before-seam LF (join_on TAB (f ∷ fs)) rest clear

  pub made-rest : after LF (line_text (f ∷ fs) ++ rest) ≡ rest
  made-rest = ap (after LF) apart ∙ after-seam LF (join_on TAB (f ∷ fs)) rest clear

  pub made-has : has_line (line_text (f ∷ fs) ++ rest) ≡ true
  made-has =
      ap has_line apart
      ∙ lt-ltb (index_of LF (join_on TAB (f ∷ fs) ++ (LF ∷ rest))) (length (join_on TAB (f ∷ fs) ++ (LF ∷ rest)))
      (rw (index-seam LF (join_on TAB (f ∷ fs)) rest clear, length-append) (omega arith))

-- ---- the first line

abbrev pub sizes_fields : ℕ → ℕ → ℕ → List (List ℕ)
sizes_fields edition boards tasks = (bytes "plan") ∷ digits_of edition ∷ digits_of boards ∷ digits_of tasks ∷ []

module _ (edition boards tasks : ℕ) where
  sizes-free : (c : ℕ) → c < 44 → free c (bytes "plan") ≡ true → all_of (free c) (sizes_fields edition boards tasks) ≡ true
  unfolding all_of
  sizes-free c h p =
      and-of p
      (and-of (digits-free c edition (omega arith))
      (and-of (digits-free c boards (omega arith)) (and-of (digits-free c tasks (omega arith)) refl)))

  pub sizes-whole : all_of (free LF) (sizes_fields edition boards tasks) ≡ true
  unfolding all_of
  sizes-whole = sizes-free LF (omega arith) refl

  pub sizes-fields : fields (join_on TAB (sizes_fields edition boards tasks)) ≡ sizes_fields edition boards tasks
  unfolding all_of
  sizes-fields =
      split-join TAB (bytes "plan") (digits_of edition ∷ digits_of boards ∷ digits_of tasks ∷ []) (sizes-free TAB (omega arith) refl)

  ranged-digits : (low high n : ℕ) → low ≤ n → n ≤ high → ranged low high (digits_of n) ≡ true
  ranged-digits low high n p q = and-of (digits_number n) (rw value-digits (between-of low high n p q))

  pub sizes-read :
      (1 ≤ edition) × (edition ≤ 2) → (1 ≤ boards) × (boards ≤ 8) → (1 ≤ tasks) × (tasks ≤ 64)
      → sizes_ok false (join_on TAB (sizes_fields edition boards tasks)) ≡ true
  unfolding sizes_ok
  sizes-read e b t =
      rw sizes-fields
      (and-of (same_refl (bytes "plan"))
      (and-of (ranged-digits 1 2 edition e.0 e.1)
      (and-of (ranged-digits 1 8 boards b.0 b.1) (ranged-digits 1 64 tasks t.0 t.1))))

-- ---- a task line

abbrev later_fields : ℕ → Task → List (List ℕ)
later_fields edition task = cond (eqb edition 2) (digits_of task.ready ∷ fields_from task) (fields_from task)

abbrev pub task_fields : ℕ → ℕ → Task → List (List ℕ)
task_fields edition number task = (bytes "task") ∷ digits_of number ∷ digits_of task.board ∷ later_fields edition task

module _ (edition number : ℕ) (task : Task) where
  task-free : (c : ℕ) → c < 44 → free c (bytes "task") ≡ true → all_of (free c) (task_fields edition number task) ≡ true
  unfolding all_of
  task-free c h w =
      let times : all_of (free c) (fields_from task) ≡ true =
      and-of (digits-free c task.begin (omega arith))
      (and-of (digits-free c task.finish (omega arith))
      (and-of (holds-free c task.holds h) (and-of (after_free c task.after h) refl))) in
      and-of w
      (and-of (digits-free c number (omega arith))
      (and-of (digits-free c task.board (omega arith))
      (by_bool (eqb edition 2) (λ e. rw e (and-of (digits-free c task.ready (omega arith)) times)) (λ e. rw e times))))

  pub task-whole : all_of (free LF) (task_fields edition number task) ≡ true
  unfolding all_of
  task-whole = task-free LF (omega arith) refl

  pub task-fields : fields (join_on TAB (task_fields edition number task)) ≡ task_fields edition number task
  unfolding all_of
  task-fields =
      split-join TAB (bytes "task") (digits_of number ∷ digits_of task.board ∷ later_fields edition task)
      (task-free TAB (omega arith) refl)

-- a line that has the fields of a task from the planned start on after those in front
module _ (line : List ℕ) (front : List (List ℕ)) (task : Task) (split : fields line ≡ front ++ fields_from task) where
  abbrev place : ℕ
  place = length front

  from_front : (i : ℕ) → field line (place + i) ≡ get_or (fields_from task) i []
  from_front i = rw split (get_or-append-add front (fields_from task) i [])

  begins : field line place ≡ digits_of task.begin
  begins = rw add-zero at (from_front 0)

  times-back :
      (retired : Bool) (boards tasks : ℕ) → task_ok boards tasks task ≡ true → (retired ≡ true → has_shared task.holds ≡ false)
      → TimesOk retired tasks line place
  times-back retired boards tasks ok none =
      let fits = task-fits boards tasks task ok in
      let rules = conj-at (numbers_ok boards task ∷ holds_ok task.holds ∷ after_ok tasks task.after ∷ []) ok in
      record {
        begin = rw begins (digits_number task.begin);
        finish = rw (from_front 1) (digits_number task.finish);
        lasts = rw (begins, from_front 1, value-digits, value-digits) fits.runs;
        to = rw (from_front 1, value-digits) fits.ends;
        holds = rw (from_front 2) (holds-back task.holds).0;
        drives = rw (from_front 2, (holds-back task.holds).1) (rules 1 (omega arith));
        exclusive = λ r. rw (from_front 2, (holds-back task.holds).1) (none r);
        after = rw (from_front 3) (after-back task.after).0;
        order = rw (from_front 3, (after-back task.after).1) (rules 2 (omega arith));
        count = rw (split, length-append);
      }

  from_back : (ready : ℕ) → ready ≡ task.ready → value_of (field line 2) ≡ task.board → task_from line ready place ≡ task
  unfolding task_from
  from_back ready r b =
      λ i. record {
        board = b i;
        ready = r i;
        begin = (ap value_of begins ∙ value-digits task.begin) i;
        finish = (ap value_of (from_front 1) ∙ value-digits task.finish) i;
        holds = (ap holds_of (from_front 2) ∙ (holds-back task.holds).1) i;
        after = (ap after_of (from_front 3) ∙ (after-back task.after).1) i;
      }

-- a line with the fields of a task reads back as the task
module _
    (edition number : ℕ) (task : Task) (line : List ℕ) (whole : fields line ≡ task_fields edition number task)
    (boards tasks : ℕ) (ok : task_ok boards tasks task ≡ true) (allowed : edition_ok edition task ≡ true)
  where
    abbrev front : List (List ℕ)
    front = (bytes "task") ∷ digits_of number ∷ digits_of task.board ∷ []

    ready_field : eqb edition 2 ≡ true → field line 3 ≡ digits_of task.ready
    ready_field e = rw (whole, e)

    board-back : value_of (field line 2) ≡ task.board
    board-back = rw (whole, value-digits)

    head-back : HeadOk boards line number
    head-back =
        let board = (task-fits boards tasks task ok).board in
        record {
          word = rw whole (same_refl (bytes "task"));
          spelt = rw whole (digits_number number);
          number = rw (whole, value-digits);
          board = record {
            spelt = rw whole (digits_number task.board);
            from = omega (arith, board-back, board.0);
            to = omega (arith, board-back, board.1);
          };
        }

    pub task-fine : LineFine false edition boards tasks line number
    task-fine =
        record {
          head = head-back;
          times = by_bool (eqb edition 2)
              (λ e. rw e (times-back line (front ++ (digits_of task.ready ∷ [])) task (rw e at whole) true boards tasks ok (λ r. not-true (has_shared task.holds) (rw e at allowed))))
              (λ e. rw e (times-back line front task (rw e at whole) false boards tasks ok (λ r. true-false r refl)));
          ready = λ e.
              let starts : field line 4 ≡ digits_of task.begin = rw (whole, e) in (
                rw (ready_field e) (digits_number task.ready),
                rw (ready_field e, starts, value-digits, value-digits) (task-fits boards tasks task ok).ready,
              );
        }

    pub task-back : line_task false edition line ≡ task
    unfolding line_task
    task-back =
        by_bool (eqb edition 2)
        (λ e.
        rw e
        (from_back line (front ++ (digits_of task.ready ∷ [])) task (rw e at whole) (value_of (field line 3))
        (ap value_of (ready_field e) ∙ value-digits task.ready) board-back))
        (λ e.
        let none : task.ready ≡ 0 = eqb-true task.ready 0 (rw e at allowed) in
        rw e (from_back line front task (rw e at whole) 0 (sym none) board-back))

-- ---- the task lines

module _ (edition : ℕ) (task : ℕ → Task) where
  -- past the lines of the first n tasks stands what follows them
  pub skip-texts : (n : ℕ) (rest : List ℕ) → skip n (task_texts edition task n ++ rest) ≡ rest
  unfolding skip_on lines_below task_text
  skip-texts zero rest = refl
  skip-texts (suc n) rest =
      skip-suc LF n (task_texts edition task (suc n) ++ rest)
      ∙ ap (λ (s : List ℕ). after LF (skip n s)) (append_assoc (task_texts edition task n) (task_text edition (n + 1) (task n)) rest)
      ∙ ap (after LF) (skip-texts n (task_text edition (n + 1) (task n) ++ rest))
      ∙ made-rest (bytes "task") _ (task-whole edition (n + 1) (task n)) rest

  texts-split :
      (n k : ℕ) → k < n
      → (later : List ℕ) × (task_texts edition task n ≡ task_texts edition task k ++ (task_text edition (k + 1) (task k) ++ later))
  unfolding lines_below
  texts-split zero k h = absurd (omega arith)
  texts-split (suc n) k h =
      by-eq k n
      (λ e. rw e ([], rw append-nil))
      (λ ne.
      let r = texts-split n k (omega arith) in
      (r.0 ++ task_text edition (n + 1) (task n), rw r.1 (simp append_assoc)))

  -- from task k on: its line, and the lines after it
  pub texts-from : (n k : ℕ) → k < n → (later : List ℕ) × (skip k (task_texts edition task n) ≡ task_text edition (k + 1) (task k) ++ later)
  texts-from n k h =
      let r = texts-split n k h in
      (r.0, ap (skip k) r.1 ∙ skip-texts k (task_text edition (k + 1) (task k) ++ r.0))
