-- A list walked up to its first 0, each item's bit put into a set.
use Prim.Native.Nat.{ℕ, ◌+◌, ◌^◌, ◌≤◌, ◌<◌}
use mathlib.Core.Path.{◌≡◌, sym, ◌∙◌}
use mathlib.Core.Bool.{Bool, ◌||◌, or-false, or_assoc}
use mathlib.Core.List.{List, []}
use lib.Bits.{bit_or, or_lt}
use lib.Pow.{pow_pos}
use lib.ListN.{length, get_or, drop}
use Rattle.laws.specs.Bits.{has, set_of}
use Rattle.laws.specs.Lists.{any_of}
use Rattle.laws.specs.Split.{before}
use Rattle.laws.proofs.Bits.{has-or, has-none, set_is}
use Rattle.laws.proofs.Split.{before_here, before-next, before-end}

-- q d x: the item x stands for bit d, one of the first n; its bit is one of these
pub record ItsBit (n : ℕ) (q : ℕ → ℕ → Bool) (x bit : ℕ) : Type 0 where
  pub small : bit < 2 ^ n
  pub bits : (d : ℕ) → d < n → has bit d ≡ q d x

module _ (n : ℕ) (q : ℕ → ℕ → Bool) (l : List ℕ) where
  -- what the set has and what the rest of the list holds make the whole
  pub record SetFrom (i set : ℕ) : Type 0 where
    pub small : set < 2 ^ n
    pub bits : (d : ℕ) → d < n → (has set d || any_of (q d) (before 0 (drop i l))) ≡ any_of (q d) (before 0 l)

  pub gather-start : SetFrom 0 0
  gather-start = record { small = pow_pos n; bits = λ d h. rw (has-none d) }

  module _ (i set : ℕ) (inv : SetFrom i set) where
    done : before 0 (drop i l) ≡ [] → set ≡ set_of n (λ d. any_of (q d) (before 0 l))
    unfolding any_of
    done e = set_is n set (λ d. any_of (q d) (before 0 l)) inv.small (λ d h. sym (or-false (has set d)) ∙ rw e at (inv.bits d h))

    pub gather-stop : i < length l → get_or l i 0 ≡ 0 → set ≡ set_of n (λ d. any_of (q d) (before 0 l))
    gather-stop h e = done (before_here 0 l i h e)

    pub gather-out : length l ≤ i → set ≡ set_of n (λ d. any_of (q d) (before 0 l))
    gather-out h = done (before-end 0 l i h)

    pub gather-turn : i < length l → (get_or l i 0 ≡ 0 → ⊥) → {bit : ℕ} → ItsBit n q (get_or l i 0) bit → SetFrom (i + 1) (bit_or set bit)
    unfolding any_of
    gather-turn h z {bit} b = record {
      small = or_lt n set bit inv.small b.small;
      bits = λ d k.
          rw (has-or set bit d, b.bits d k)
          (or_assoc (has set d) (q d (get_or l i 0)) _ ∙ rw (before-next 0 l i h z) at (inv.bits d k));
    }
