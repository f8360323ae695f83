-- The parts of a plan text, measured and written.
use Prim.Native.Nat.{ℕ, zero, suc, ◌+◌, ◌*◌, ◌/◌, ◌≤◌, ◌<◌}
use mathlib.Core.Path.{◌≡◌, refl, sym, ap, ◌∙◌}
use mathlib.Core.Bool.{Bool, true, false, cond}
use mathlib.Core.List.{List, [], ◌∷◌, ◌++◌, map, append_assoc, append-nil}
use native.Mathlib.Omega.{arith}
use native.Mathlib.Numerals.{add-one}
use lib.ListN.{length, get_or, drop, drop_of_length-le, length-append, length-take}
use lib.Seq.{length-sets, drop-cons}
use lib.Dec.{eqb}
use borrow.Author.Tests.{eq-eqb, ne_eqb, le-ltb, lt-ltb}
use Rattle.laws.proofs.Cases.{by-eq}
use Rattle.laws.specs.Digits.{digits_of}
use Rattle.laws.specs.Split.{index_of, join_on}
use Rattle.text_fields.specs.Items.{COMMA, NONE, is_shared, list_text}
use Rattle.text_fields.proofs.ListFields.{holds_text, after_text}
use Rattle.text.specs.Bytes.{bytes}
use Rattle.text.specs.Line.{TAB, LF, line_text, lines_below}
use Rattle.plan.specs.Task.{Task}
use Rattle.plan.specs.Value.{row, items, task_at, is_accepted}
use Rattle.plan.proofs.Judged.{accepted-ranges}
use Rattle.plan.proofs.PlanTasks.{ranges-kept}
use Rattle.plan.specs.Write.{sizes_text, fields_from, task_text, task_texts, text_of, write_answer, written_of, buffer_after}
use Rattle.plan.specs.Answer.{refuse}
use Rattle.plan_write.specs.Private.WriteParts.{item_text, number_field, list_field, ready_field, numbers_text, Measured, Room, Wrote, Answered}
use Rattle.plan.specs.declared.Plan.{Plan}
use Rattle.plan.specs.declared.WriteResult.{WriteResult}
use Rattle.text_fields.specs.declared.Listed.{Listed}
use Rattle.text_fields.specs.declared.Listed.TheVariants.{Holds, Tasks}
use Rattle.plan_write.proofs.RunLaws.{nothing, Left, joined, two, all_left, next-room, turn, parted, done}

-- the writer's answer, and the length of what it wrote
abbrev answered : ℕ → ℕ → ℕ → WriteResult
answered code first size = record { answer = refuse code first 0; length = size }

-- ---- the items of a list

module _ (listed : Listed) (x : ℕ) where
  pub letter-item :
      {b d : ℕ} → listed ≡ Holds → b ≡ cond (is_shared x) 115 101 → d ≡ x / 2
      → item_text listed x ≡ joined ((b ∷ []) ∷ digits_of d ∷ [])
  unfolding joined
  letter-item {b} {d} e p q = rw (e, p, q) (simp append-nil)

  pub letter-length : {d : ℕ} → listed ≡ Holds → d ≡ x / 2 → length (item_text listed x) ≡ 1 + length (digits_of d)
  letter-length e q = rw (e, q) (omega arith)

  pub plain-length : {n : ℕ} → listed ≡ Tasks → n ≡ x → length (item_text listed x) ≡ length (digits_of n)
  plain-length e p = rw (e, p)

  pub plain-item : {n : ℕ} → listed ≡ Tasks → n ≡ x → item_text listed x ≡ joined (digits_of n ∷ [])
  unfolding joined
  plain-item e p = rw (e, p) (simp append-nil)

-- the items after the first, each after its comma
unfoldable pub later_text : (ℕ → List ℕ) → List ℕ → List ℕ
later_text text [] = []
later_text text (x ∷ l) = (COMMA ∷ text x) ++ later_text text l

module _ (text : ℕ → List ℕ) where
  join-later : (x : ℕ) (l : List ℕ) → join_on COMMA (map text (x ∷ l)) ≡ text x ++ later_text text l
  unfolding join_on later_text
  join-later x [] = sym (append-nil (text x))
  join-later x (y ∷ l) = ap (λ (s : List ℕ). text x ++ (COMMA ∷ s)) (join-later y l)

  pub list-none : (l : List ℕ) → length l ≡ 0 → list_text text l ≡ NONE
  unfolding list_text
  list-none [] h = refl
  list-none (x ∷ l) h = absurd (omega arith)

  pub list-some : {l : List ℕ} (x : ℕ) (others : List ℕ) → l ≡ x ∷ others → list_text text l ≡ text x ++ later_text text others
  unfolding list_text
  list-some x others e = rw e (join-later x others)

  pub later-turn :
      (l : List ℕ) (i : ℕ) → i < length l
      → later_text text (drop i l) ≡ (COMMA ∷ text (get_or l i 0)) ++ later_text text (drop (i + 1) l)
  unfolding later_text
  later-turn l i h = rw (add-one, drop-cons l i 0)

  pub later-end : (l : List ℕ) (i : ℕ) → length l ≤ i → later_text text (drop i l) ≡ []
  unfolding later_text
  later-end l i h = rw (drop_of_length-le l h)

  module _ {out : List ℕ} {at : ℕ} {whole m : List ℕ} {p : ℕ} (l : List ℕ) (i : ℕ) where
    -- the next item written
    pub next-item :
        i < length l → Left out at whole m p (later_text text (drop i l) ∷ [])
        → Left out at whole m p ((COMMA ∷ text (get_or l i 0)) ∷ later_text text (drop (i + 1) l) ∷ [])
    next-item h s = parted s (COMMA ∷ text (get_or l i 0)) (later_text text (drop (i + 1) l)) (later-turn l i h)

  -- its length, item by item
  pub len-start :
      {l : List ℕ} {n : ℕ} (x : ℕ) (others : List ℕ) → l ≡ x ∷ others → n ≡ length (text x)
      → n + length (later_text text others) ≡ length (list_text text l)
  len-start x others h e = rw (list-some x others h, length-append, ← e)

  module _ (l : List ℕ) (n i : ℕ) where
    module _ {x : ℕ} (rest : n + length (later_text text (drop i l)) ≡ x) where
      pub len-turn :
          {k : ℕ} → i < length l → k ≡ length (text (get_or l i 0)) → n + (1 + k) + length (later_text text (drop (i + 1) l)) ≡ x
      len-turn h e =
          omega
          (arith, e, ap length (later-turn l i h), length-append (text (get_or l i 0)) (later_text text (drop (i + 1) l)))

      pub len-end : length l ≤ i → n ≡ x
      len-end h = omega (arith, rest, ap length (later-end l i h))

pub few-items : (width k : ℕ) (l : List ℕ) → width ≤ 64 → length (items (row width l k)) ≤ 64
few-items width k l h =
    omega
    (arith, length-take (index_of 0 (row width l k)) (row width l k), length-take width (drop (width * k) l))

-- ---- lines

pub numbers-text :
    (edition number : ℕ) (task : Task)
    → numbers_text edition number task
    ≡ joined
    (number_field number TAB
    ∷ number_field task.board TAB
    ∷ ready_field edition task.ready
    ∷ number_field task.begin TAB
    ∷ number_field task.finish TAB
    ∷ [])
unfolding numbers_text joined
numbers-text edition number task = simp append-nil

abbrev task_parts : ℕ → ℕ → Task → List (List ℕ)
task_parts edition number task =
    (116 ∷ 97 ∷ 115 ∷ 107 ∷ 9 ∷ [])
    ∷ numbers_text edition number task
    ∷ list_field Holds task.holds TAB
    ∷ list_field Tasks task.after LF
    ∷ []

pub task-text : (edition number : ℕ) (task : Task) → task_text edition number task ≡ joined (task_parts edition number task)
unfolding task_text join_on ready_field numbers_text joined
task-text edition number task = go (eqb edition 2)
  where
    go :
        (stands : Bool)
        → line_text
        (bytes "task" ∷ digits_of number ∷ digits_of task.board
        ∷ cond stands (digits_of task.ready ∷ fields_from task) (fields_from task))
        ≡ joined
        ((116 ∷ 97 ∷ 115 ∷ 107 ∷ 9 ∷ [])
        ∷ (number_field number TAB
        ++ (number_field task.board TAB
        ++ (cond stands (number_field task.ready TAB) [] ++ (number_field task.begin TAB ++ number_field task.finish TAB))))
        ∷ list_field Holds task.holds TAB
        ∷ list_field Tasks task.after LF
        ∷ [])
    go true = simp (append_assoc, append-nil)
    go false = simp (append_assoc, append-nil)

abbrev sizes_parts : ℕ → ℕ → ℕ → List (List ℕ)
sizes_parts edition boards tasks =
    (112 ∷ 108 ∷ 97 ∷ 110 ∷ 9 ∷ []) ∷ number_field edition TAB ∷ number_field boards TAB ∷ number_field tasks LF ∷ []

pub sizes-text : (edition boards tasks : ℕ) → sizes_text edition boards tasks ≡ joined (sizes_parts edition boards tasks)
unfolding sizes_text join_on joined
sizes-text edition boards tasks = simp (append_assoc, append-nil)

-- ---- and their lengths

module _ (edition ready : ℕ) where
  pub ready-stands : edition ≡ 2 → ready_field edition ready ≡ number_field ready TAB
  unfolding ready_field
  ready-stands e = rw (eq-eqb edition 2 e)

  pub ready-none : (edition ≡ 2 → ⊥) → ready_field edition ready ≡ []
  unfolding ready_field
  ready-none n = rw (ne_eqb edition 2 n)

pub numbers-length :
    (edition number : ℕ) (task : Task)
    → length (numbers_text edition number task)
    ≡ length (digits_of number)
    + length (digits_of task.board)
    + length (ready_field edition task.ready)
    + length (digits_of task.begin)
    + length (digits_of task.finish)
    + 4
unfolding numbers_text
numbers-length edition number task = simp length-append (omega arith)

pub sizes-length :
    (edition boards tasks : ℕ) {e b t : ℕ} → e ≡ edition → b ≡ boards → t ≡ tasks
    → length (sizes_text edition boards tasks) ≡ 8 + length (digits_of e) + length (digits_of b) + length (digits_of t)
unfolding joined
sizes-length edition boards tasks d p q = rw (d, p, q, sizes-text) (simp length-append (omega arith))

pub task-length :
    (edition number : ℕ) (task : Task)
    → length (task_text edition number task)
    ≡ 7
    + length (numbers_text edition number task)
    + length (holds_text task.holds)
    + length (after_text task.after)
unfolding joined
task-length edition number task = rw task-text (simp length-append (omega arith))

-- ---- the lines of all tasks

module _ (edition : ℕ) (task : ℕ → Task) where
  pub texts-turn : (k : ℕ) → task_texts edition task (k + 1) ≡ task_texts edition task k ++ task_text edition (k + 1) (task k)
  unfolding lines_below
  texts-turn k = ap (task_texts edition task) (add-one k)

  pub texts-length :
      (k : ℕ) → length (task_texts edition task (k + 1)) ≡ length (task_texts edition task k) + length (task_text edition (k + 1) (task k))
  texts-length k = rw texts-turn (length-append (task_texts edition task k) (task_text edition (k + 1) (task k)))

  -- the walk has come to the last
  pub all-length : {n k x : ℕ} → k ≤ n → n ≤ k → x ≡ length (task_texts edition task k) → x ≡ length (task_texts edition task n)
  all-length {n} {k} h g e = let q : n ≡ k = omega arith in rw q e

  texts-le : (n k : ℕ) → k ≤ n → length (task_texts edition task k) ≤ length (task_texts edition task n)
  unfolding lines_below
  texts-le zero k h = let e : k ≡ 0 = omega arith in rw e (omega arith)
  texts-le (suc n) k h =
      by-eq k (suc n)
      (λ e. rw e (omega arith))
      (λ ne.
      omega (arith, texts-le n k (omega arith), length-append (task_texts edition task n) (task_text edition (n + 1) (task n))))

  module _ {out : List ℕ} {at : ℕ} (n k : ℕ) {m : List ℕ} {p : ℕ} where
    pub task-room :
        k < n → Room out at (task_texts edition task n) → Wrote out at (task_texts edition task k) m p → Room m p (task_text edition (k + 1) (task k))
    task-room h r w =
        record {
          fits = rw (w.bytes, w.place, length-sets)
              (omega (arith, r.fits, texts-length k, texts-le n (k + 1) (omega arith)));
        }

    pub all-written : k ≤ n → n ≤ k → Wrote out at (task_texts edition task k) m p → Wrote out at (task_texts edition task n) m p
    all-written h g w = let q : n ≡ k = omega arith in rw q w

  pub none_written : (out : List ℕ) (at : ℕ) → Wrote out at (task_texts edition task 0) out at
  unfolding lines_below
  none_written out at = nothing out at

-- ---- the three answers

module _ (plan : Plan) where
  abbrev head : List ℕ
  head = sizes_text plan.edition plan.boards plan.tasks

  abbrev body : List ℕ
  body = task_texts plan.edition (task_at plan) plan.tasks

  text-is : text_of plan ≡ joined (head ∷ body ∷ [])
  unfolding text_of
  text-is = two head body

  text-length : length (text_of plan) ≡ length head + length body
  unfolding text_of
  text-length = length-append head body

  pub yes-accepted : {accepted : Bool} → accepted ≡ is_accepted plan → accepted ≡ true → is_accepted plan ≡ true
  yes-accepted e h = sym e ∙ h

  pub few_tasks : is_accepted plan ≡ true → plan.tasks ≤ 64
  few_tasks ok = (ranges-kept plan (accepted-ranges plan ok)).tasks.1

  module _ (out : List ℕ) where
    pub nine :
        {accepted : Bool} {r : WriteResult} → accepted ≡ is_accepted plan → accepted ≡ false → r ≡ answered 9 0 0
        → Answered plan out r out
    unfolding written_of buffer_after write_answer
    nine {accepted} e h q = let f : is_accepted plan ≡ false = sym e ∙ h in (q ∙ rw f, rw f)

    module _ (ok : is_accepted plan ≡ true) {x y m n : ℕ} (p : Measured head x m) (q : Measured body y n) where
      pub sixteen : {r : WriteResult} → length out < m + n → r ≡ answered 16 (m + n) 0 → Answered plan out r out
      unfolding written_of buffer_after write_answer
      sixteen l s =
          let f : m + n ≡ length (text_of plan) = omega (arith, p.is, q.is, text-length) in
          let short = lt-ltb (length out) (length (text_of plan)) (omega arith) in
          (s ∙ rw (f, ok, short), rw (ok, short))

      module _ (l : m + n ≤ length out) where
        begun : Left out 0 (text_of plan) out 0 (head ∷ body ∷ [])
        begun = all_left _ text-is (record { fits = omega (arith, p.is, q.is, text-length) })

        pub head-room : Room out 0 head
        head-room = next-room begun

        module _ {written : List ℕ} {at : ℕ} (v : Wrote out 0 head written at) where
          pub body-room : Room written at body
          body-room = next-room (turn begun v)

          pub granted-text :
              {written' : List ℕ} {at' : ℕ} {r : WriteResult} → Wrote written at body written' at' → r ≡ answered 0 0 (m + n)
              → Answered plan out r written'
          unfolding written_of buffer_after write_answer
          granted-text w s =
              let f : m + n ≡ length (text_of plan) = omega (arith, p.is, q.is, text-length) in
              let long = le-ltb (length out) (length (text_of plan)) (omega arith) in
              (s ∙ rw (f, ok, long), rw (ok, long) (done (turn (turn begun v) w)).bytes)
