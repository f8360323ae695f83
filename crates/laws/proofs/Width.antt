-- How many digits a number has.
use Prim.Native.Nat.{ℕ, ◌+◌, ◌*◌, ◌/◌, ◌≤◌, ◌<◌}
use native.Mathlib.Omega.{arith}
use lib.ListN.{length, length-append}
use Rattle.laws.specs.Digits.{digits_of}
use Rattle.laws.proofs.Cases.{by_le}
use Rattle.laws.proofs.Digits.{digits-small, digits-big}

-- ten times as large, one digit more
one_more : (b w : ℕ) → ((m : ℕ) → m < b → length (digits_of m) ≤ w) → (n : ℕ) → n < b * 10 → length (digits_of n) ≤ w + 1
one_more b w f n h =
    by_le 10 n
    (λ g. let r = f (n / 10) (omega arith) in rw (digits-big n g, length-append) (omega arith))
    (λ g. rw (digits-small n g) (omega arith))

one-digit : (n : ℕ) → n < 10 → length (digits_of n) ≤ 1
one-digit n h = rw (digits-small n h) (omega arith)

five-digits : (n : ℕ) → n < 100000 → length (digits_of n) ≤ 5
five-digits n h = one_more 10000 4 (one_more 1000 3 (one_more 100 2 (one_more 10 1 one-digit))) n h

pub ten-digits : (n : ℕ) → n < 4294967296 → length (digits_of n) ≤ 10
ten-digits n h =
    one_more 1000000000 9
    (one_more 100000000 8 (one_more 10000000 7 (one_more 1000000 6 (one_more 100000 5 five-digits))))
    n
    (omega arith)
