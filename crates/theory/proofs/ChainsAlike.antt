-- A chain looks only at the wait sets of the plan's tasks, their ready ticks, starts, ends and drops: where these agree it is the same.
use mathlib.Core.Path.{◌≡◌, refl, sym, ap, ◌∙◌}
use mathlib.Core.Bool.{Bool, true, false, ◌&&◌}
use mathlib.Core.List.{List, ◌∷◌}
use Prim.Native.Nat.{ℕ, zero, suc, ◌+◌, ◌-◌, ◌<◌, ◌≤◌}
use native.Mathlib.Omega.{arith}
use lib.Dec.{eqb}
use Rattle.laws.specs.Scan.{scan}
use Rattle.laws.proofs.Cases.{by_bool}
use Rattle.laws.proofs.Every.{any_same}
use Rattle.laws.proofs.Latest.{latest-same}
use Rattle.theory.specs.Plan.{Plan}
use Rattle.theory.specs.Book.{Book, book_of, due}
use Rattle.theory.specs.Chain.{cause, stops_at, chain_to}
use Rattle.theory.proofs.Cause.{cause-of}

-- two tests that agree stop a search at the same place
stop-same :
    (p q : ℕ → Bool) (d m k : ℕ) → ((j : ℕ) → k ≤ j → j < k + m → p j ≡ q j) → scan p d (λ j. j) k m ≡ scan q d (λ j. j) k m
unfolding scan
stop-same p q d zero k e = refl
stop-same p q d (suc m) k e = rw (e k (omega arith) (omega arith), stop-same p q d m (suc k) (λ j h l. e j (omega arith) (omega arith)))

module _ (tasks : ℕ) (ready begin finish from to : ℕ → ℕ) (these those : ℕ → ℕ → Bool)
    (agree : (i j : ℕ) → i < tasks → j < tasks → these i j ≡ those i j) (marks marked start end dropped : ℕ → ℕ) (clock now : ℕ) where
  abbrev one : Plan
  one = record { tasks = tasks; ready = ready; begin = begin; finish = finish; waits = these }

  abbrev other : Plan
  other = record { tasks = tasks; ready = ready; begin = from; finish = to; waits = those }

  abbrev book : Book
  book = book_of marks start end dropped clock

  abbrev same : Book
  same = book_of marked start end dropped now

  due-alike : (i : ℕ) → i < tasks → due one end i ≡ due other end i
  due-alike i l = latest-same tasks (these i) (those i) end end (λ j k. agree i j l k) (λ j k h. refl)

  stops-alike : (i : ℕ) → i < tasks → stops_at one book i ≡ stops_at other same i
  unfolding stops_at
  stops-alike i l = rw (due-alike i l, any_same tasks (these i) (those i) (λ j k. agree i j l k))

  cause-alike : (i : ℕ) → i < tasks → cause one book i ≡ cause other same i
  unfolding cause
  cause-alike i l =
      stop-same (λ j. these i j && eqb (end j) (due one end i)) (λ j. those i j && eqb (end j) (due other end i)) tasks (tasks - 0) 0
      (λ j h k. rw (agree i j l (omega arith), due-alike i l))

  pub chain-alike : (n i : ℕ) → i < tasks → chain_to n one book i ≡ chain_to n other same i
  unfolding chain_to
  chain-alike zero i l = refl
  chain-alike (suc n) i l =
      by_bool (stops_at one book i)
      (λ t. let t' : stops_at other same i ≡ true = sym (stops-alike i l) ∙ t in rw (t, t'))
      (λ f.
      let f' : stops_at other same i ≡ false = sym (stops-alike i l) ∙ f in
      let r = chain-alike n (cause one book i) (cause-of one book i f).task in
      rw (f, f') (ap (λ (rest : List ℕ). i ∷ rest) (r ∙ ap (λ (c : ℕ). chain_to n other same c) (cause-alike i l))))
