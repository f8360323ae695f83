-- The first item of `split_inclusive` at c: up to the first c and with it, or all.
use Prim.Native.Nat.{ℕ, suc, ◌+◌, ◌<◌, min}
use mathlib.Core.Path.{◌≡◌, sym, ap, ◌∙◌}
use mathlib.Core.List.{List, [], ◌∷◌, ◌++◌}
use native.Mathlib.Omega.{arith}
use lib.Dec.{eqb, ltb}
use lib.ListN.{length, take, drop, get_or, drop_of_length-le}
use lib.Seq.{take-append-le, drop-append_seam}
use borrow.Author.Tests.{eqb-true, eq-eqb, lt-ltb, le-ltb}
use Rattle.std.specs.List.{IsFirstMatchOrLen}
use Rattle.log_read.specs.Entries.{next_entry, entry_of}
use Rattle.laws.specs.Split.{index_of, before, after}
use Rattle.laws.proofs.Cases.{by_bool, by_le, true-false}
use Rattle.laws.proofs.Split.{index-le, index-found, index-first}

index-part : (c : ℕ) (line later : List ℕ) → index_of c line ≡ min (index_of c (line ++ later)) (length line)
unfolding index_of
index-part c [] later = omega arith
index-part c (b ∷ line) later =
    let r = index-part c line later in by_bool (eqb b c) (λ e. rw e (omega arith)) (λ e. rw e (omega (arith, r)))

module _ (c : ℕ) (s line later : List ℕ) (i : ℕ) (joined : s ≡ line ++ later) (size : length line ≡ min (i + 1) (length s))
    (first : IsFirstMatchOrLen (λ b. eqb b c) s i) where
  low : index_of c s < i → index_of c s < length s → index_of c s ≡ min i (length s)
  low p q = true-false (eq-eqb (get_or s (index_of c s) 0) c (index-found c s 0 q)) (first.0 (index_of c s) 0 (omega arith) p)

  high : i < index_of c s → index_of c s ≡ min i (length s)
  high p = absurd (index-first c s 0 i p (eqb-true (get_or s i 0) c (first.1 (omega (arith, p, index-le c s)) 0)))

  place : index_of c s ≡ min i (length s)
  place =
      let m = index-le c s in
      by_le i (index_of c s)
      (λ p. by_le (index_of c s) i (λ q. omega (arith, m, p, q)) high)
      (λ p. by_le (length s) (index_of c s) (λ q. omega (arith, m, p, q)) (low p))

  pub line_place : index_of c line ≡ index_of c s
  line_place =
      index-part c line later ∙ ap (λ (l : List ℕ). min (index_of c l) (length line)) (sym joined)
      ∙ omega (arith, place, size)

  pub line-before : before c line ≡ before c s
  line-before =
      ap (λ (k : ℕ). take k line) line_place ∙ sym (take-append-le (index_of c s) line later (omega (arith, place, size)))
      ∙ ap (take (index_of c s)) (sym joined)

  pub line-whole : ltb (index_of c line) (length line) ≡ ltb (index_of c s) (length s)
  line-whole =
      by_le (length s) i
      (λ h. le-ltb (index_of c line) (length line) (omega (arith, h, place, size, line_place)) ∙ sym (le-ltb (index_of c s) (length s) (omega (arith, h, place))))
      (λ h. lt-ltb (index_of c line) (length line) (omega (arith, h, place, size, line_place)) ∙ sym (lt-ltb (index_of c s) (length s) (omega (arith, h, place))))

  pub line-after : later ≡ after c s
  line-after =
      let start : later ≡ drop (length line) s = sym (drop-append_seam line later) ∙ ap (drop (length line)) (sym joined) in
      start
      ∙ by_le (length s) i
      (λ h.
      drop_of_length-le s {i = length line} (omega (arith, h, size))
      ∙ sym (drop_of_length-le s {i = suc (index_of c s)} (omega (arith, h, place))))
      (λ h. let e : length line ≡ suc (index_of c s) = omega (arith, h, place, size) in ap (λ (k : ℕ). drop k s) e)

module _ (s line later : List ℕ) (i : ℕ) (joined : s ≡ line ++ later) (size : length line ≡ min (i + 1) (length s))
    (first : IsFirstMatchOrLen (λ b. eqb b 10) s i) where
  pub next-same : next_entry line ≡ next_entry s
  unfolding next_entry
  next-same = λ j. entry_of (line-whole 10 s line later i joined size first j) (line-before 10 s line later i joined size first j)
