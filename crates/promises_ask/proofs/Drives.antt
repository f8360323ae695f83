-- What the sheet of a sound book says of a drive.
use Prim.Native.Nat.{ℕ, ◌+◌, ◌≤◌, ◌<◌}
use native.Mathlib.Omega.{arith}
use mathlib.Core.Path.{◌≡◌, refl, sym, ap, subst, ◌∙◌}
use mathlib.Core.Bool.{Bool, true, not, ◌&&◌, ◌||◌}
use mathlib.Core.List.Memᴰ
use mathlib.Core.List.{List, [], ◌∷◌, Memᴰ}
use mathlib.Core.Logic.{◌≢◌, inl, inr, ⊎_elim}
use lib.Dec.{eqb, leb, ltb}
use lib.ListN.{length, replicate, length-replicate}
use borrow.Author.Tests.{eq-eqb, ne_eqb, eqb-true, eqb-false, le-leb, leb-true, lt-ltb, ltb-true, not-true}
use Rattle.laws.specs.Lists.{any_of}
use Rattle.laws.proofs.Cases.{by-eq, and_l, and_r, and-of, or_at, or_l, or_r, true-false}
use Rattle.laws.proofs.Each.{each_below}
use Rattle.theory.specs.Book.{waiting, running, is_dropped}
use Rattle.theory.specs.Figure.{has_begun}
use Rattle.text_fields.specs.Items.{drive_of}
use Rattle.plan.specs.Answer.{granted}
use Rattle.plan.specs.Value.{at, row, items, task_at}
use Rattle.book_view.proofs.Accepted.{plan-facts, clash-waits}
use Rattle.book_holders.specs.Holders.{holds_drive}
use Rattle.ask_sheet.specs.Sheet.{is_waiting, soonest, eight, sheet_with, holders_who, sheet_of}
use Rattle.ask_sheet.proofs.Lines.{eight-length}
use Rattle.ask_sheet.proofs.Rows.{row_is}
use Rattle.book.specs.View.{plan_in, book_view}
use Rattle.book.specs.declared.Book.{Book}
use Rattle.ask_drives.specs.Sheets.{sheet_in}
use Rattle.promises.specs.Clashes.{Clashes}
use Rattle.promises.specs.Runs.{Running}
use Rattle.promises.proofs.Demand3.{clash-is}
use Rattle.promises.proofs.RunView.{Good}
use Rattle.promises.proofs.SoundBook.{facts, started-free}
use Rattle.promises_ask.specs.Words.{Holds, Keeps, IsOn, Awaits, Next, DriveSays}
use Rattle.promises_ask.proofs.Lists.{among, listed, rise, items-eight, Soon, soon-is}
use Rattle.promises_ask.proofs.Few.{few}

-- a test of some item, as a fact
some_at : (p : ℕ → Bool) (l : List ℕ) → any_of p l ≡ true → (x : ℕ) × Memᴰ x l × (p x ≡ true)
unfolding any_of
some_at p [] h = true-false h refl
some_at p (x ∷ l) h =
    ⊎_elim (λ e. (x, Memᴰ.head refl, e)) (λ e. let r = some_at p l e in (r.0, Memᴰ.tail r.1, r.2)) (or_at (p x) (any_of p l) h)

some_of : (p : ℕ → Bool) {x : ℕ} (l : List ℕ) → Memᴰ x l → p x ≡ true → any_of p l ≡ true
unfolding any_of
some_of p [] m h = absurd (Memᴰ.not-nil m)
some_of p (y ∷ l) m h =
    ⊎_elim (λ e. or_l (any_of p l) (ap p (sym e) ∙ h)) (λ t. or_r (p y) (some_of p l t h)) (Memᴰ.cases_cons m)

module _ (book : Book) (drive k : ℕ) where
  holds-said : holds_drive book.holds drive k ≡ true → Holds book drive k
  holds-said h =
      let r = some_at (λ h. eqb drive (drive_of h)) (items (row 32 book.holds k)) h in
      (r.0, r.1, sym (eqb-true drive (drive_of r.0) r.2))

  holds_of : Holds book drive k → holds_drive book.holds drive k ≡ true
  holds_of r = some_of (λ h. eqb drive (drive_of h)) (items (row 32 book.holds k)) r.1 (eq-eqb drive (drive_of r.0) (sym r.2))

  abbrev on : Bool
  on = holds_drive book.holds drive k && has_begun (book_view book) k

  abbrev next : Bool
  next = holds_drive book.holds drive k && is_waiting (book_view book) k

  on-said : k < book.tasks → on ≡ true → IsOn book drive k
  on-said l h =
      let b = and_r (holds_drive book.holds drive k) (has_begun (book_view book) k) h in
      record {
        task = l;
        holds = holds-said (and_l (holds_drive book.holds drive k) (has_begun (book_view book) k) h);
        runs = eqb-true (at book.mark k) 1 (and_l (eqb (at book.mark k) 1) (leb (at book.start k) book.clock) b);
        begun = leb-true (at book.start k) book.clock (and_r (eqb (at book.mark k) 1) (leb (at book.start k) book.clock) b);
      }

  on_of : IsOn book drive k → on ≡ true
  on_of o = and-of (holds_of o.holds) (and-of (eq-eqb (at book.mark k) 1 o.runs) (le-leb (at book.start k) book.clock o.begun))

  next-said : k < book.tasks → next ≡ true → Awaits book drive k
  next-said l h =
      let dropped = is_dropped (at book.dropped) k in
      let waits = waiting (at book.mark) k in
      let ahead = running (at book.mark) k && ltb book.clock (at book.start k) in
      let b = and_r (holds_drive book.holds drive k) (is_waiting (book_view book) k) h in
      record {
        task = l;
        holds = holds-said (and_l (holds_drive book.holds drive k) (is_waiting (book_view book) k) h);
        there = eqb-false (at book.dropped k) 1 (not-true dropped (and_l (not dropped) (waits || ahead) b));
        waits =
            ⊎_elim (λ w. inl (eqb-true (at book.mark k) 0 w))
            (λ w.
            inr (
              eqb-true (at book.mark k) 1 (and_l (running (at book.mark) k) (ltb book.clock (at book.start k)) w),
              ltb-true book.clock (at book.start k) (and_r (running (at book.mark) k) (ltb book.clock (at book.start k)) w),
            ))
            (or_at waits ahead (and_r (not dropped) (waits || ahead) b));
      }

  next_of : Awaits book drive k → next ≡ true
  next_of o =
      let waits = waiting (at book.mark) k in
      let ahead = running (at book.mark) k && ltb book.clock (at book.start k) in
      let gone : not (is_dropped (at book.dropped) k) ≡ true = ap not (ne_eqb (at book.dropped k) 1 o.there) in
      let state : (waits || ahead) ≡ true =
      ⊎_elim (λ z. or_l ahead (eq-eqb (at book.mark k) 0 z))
      (λ r. or_r waits (and-of (eq-eqb (at book.mark k) 1 r.0) (lt-ltb book.clock (at book.start k) r.1)))
      o.waits in
      and-of (holds_of o.holds) (and-of gone state)

module _ (book : Book) (g : Good book) where
  -- tasks that clash do not run at once
  never : (a b : ℕ) → a < book.tasks → b < book.tasks → a ≢ b → Clashes (task_at (plan_in book)) a b → Running book a → Running book b → ⊥
  never a b la lb n c ra rb =
      ⊎_elim (λ w. let e = (started-free book g a la).0 (λ z. omega arith) b lb w in omega arith)
      (λ w. let e = (started-free book g b lb).0 (λ z. omega arith) a la w in omega arith)
      (clash-waits (plan_in book) (facts book g).accepted book.rule a b la lb n ((clash-is (task_at (plan_in book)) a b).1 c))

  pub one-a-board :
      (drive a b : ℕ) → IsOn book drive a → IsOn book drive b → at book.board a ≡ at book.board b → a ≡ b
  one-a-board drive a b x y same =
      by-eq a b (λ e. e) (λ n. absurd (never a b x.task y.task n (inl same) x.runs y.runs))

  pub alone : (drive a b : ℕ) → IsOn book drive a → Keeps book drive a → IsOn book drive b → a ≡ b
  alone drive a b x mine y =
      by-eq a b (λ e. e)
      (λ n.
      absurd
      (never a b x.task y.task n
      (inr (inl (record {
        one = mine.0;
        other = y.holds.0;
        here = mine.1;
        there = y.holds.1;
        drive = mine.2 ∙ sym y.holds.2;
        exclusively = λ s t. true-false s mine.3;
      })))
      x.runs y.runs))

  pub at-most-eight : (d : ℕ) → length (holders_who book.tasks book.holds (has_begun (book_view book)) d) ≤ 8
  at-most-eight d =
      let plan = plan-facts (plan_in book) (facts book g).accepted in
      few 8 book.tasks (on book (d + 1)) (at book.board)
      (λ k l h. ((plan.task k l).board-from, omega (arith, (plan.task k l).board-to, plan.boards-to)))
      (λ j k l q u v same. one-a-board (d + 1) j k (on-said book (d + 1) j l u) (on-said book (d + 1) k q v) same)

  module _ (d : ℕ) (low : d < 32) where
    abbrev who : List ℕ
    who = holders_who book.tasks book.holds (has_begun (book_view book)) d

    pub running-is : items (row 8 (sheet_in book).running d) ≡ who
    unfolding sheet_of sheet_with
    running-is =
        ap items (row_is (λ d. eight (holders_who book.tasks book.holds (has_begun (book_view book)) d)) (replicate 256 0) (length-replicate {A = ℕ} 256 0) (λ j q. eight-length (holders_who book.tasks book.holds (has_begun (book_view book)) j)) d low)
        ∙ items-eight book.tasks (on book (d + 1)) (at-most-eight d)

    next-is : at (sheet_in book).next d ≡ soonest (at book.begin) 0 (holders_who book.tasks book.holds (is_waiting (book_view book)) d)
    unfolding sheet_of sheet_with
    next-is =
        each_below 32 (λ d. soonest (at book.begin) 0 (holders_who book.tasks book.holds (is_waiting (book_view book)) d)) (replicate 32 0) d 0 low
        (omega (arith, length-replicate {A = ℕ} 32 0))

    said-next : {n : ℕ} → Soon book.tasks (next book (d + 1)) (at book.begin) n → Next book (d + 1) n
    said-next (Soon.nobody z none) = Next.nobody z (λ k a. true-false (next_of book (d + 1) k a) (none k a.task))
    said-next (Soon.this k e l v top) =
        Next.this k e (next-said book (d + 1) k l v) (λ j a. top j a.task (next_of book (d + 1) j a))

    pub drive-says :
        {running : List ℕ} {first : ℕ} → running ≡ row 8 (sheet_in book).running d → first ≡ at (sheet_in book).next d
        → DriveSays book (d + 1) (record { answer = granted; running = running; next = first })
    drive-says {running} {first} e f =
        let l : items running ≡ who = ap items e ∙ running-is in
        let n : first ≡ soonest (at book.begin) 0 (holders_who book.tasks book.holds (is_waiting (book_view book)) d) = f ∙ next-is in
        record {
          answer = refl;
          listed = λ k m. let r = among book.tasks (on book (d + 1)) k (subst (Memᴰ (k + 1)) l m) in on-said book (d + 1) k r.0 r.1;
          all = λ k o. subst (Memᴰ (k + 1)) (sym l) (listed book.tasks (on book (d + 1)) k o.task (on_of book (d + 1) k o));
          rises = λ i j h q. subst (λ (x : List ℕ). at x i < at x j) (sym l) (rise book.tasks (on book (d + 1)) i j h (subst (λ (x : List ℕ). j < length x) l q));
          next = subst (Next book (d + 1)) (sym n) (said-next (soon-is book.tasks (next book (d + 1)) (at book.begin)));
        }
