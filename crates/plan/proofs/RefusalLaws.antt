-- The number of an answer tells the whole answer, if nothing stands beside its `Ok`.
use Prim.Native.Nat.{ℕ}
use native.Mathlib.Omega.{arith}
use mathlib.Core.Path.{◌≡◌, refl, sym, ap, ◌∙◌}
use mathlib.Core.Logic.{◌≢◌}
use lib.Dec.{eqb}
use Rattle.std.specs.Prelude.{Result, Ok, Err, cond}
use Rattle.plan.specs.Refusal.{refusal_number, number_in}
use Rattle.plan.specs.declared.Refusal.{Refusal}
use Rattle.plan.specs.declared.Refusal.TheVariants.{TextTooLong, FirstLine, BytesLeft, BoardShared, DriveClash, AfterBroken, Unsound, NoTask, NotRunning, BeforeClock, NotPastStart, PastLimit, OtherPastLimit, BufferTooShort, NoneAtZero, KnownOrDropped, NoDrive, NotItsLength, LogLine, StartOrEndAmiss, LoggedLength, LoggedClash, LoggedStart, TooManyLogs}

-- the refusal of that number, or the answer given for every other one
abbrev refused-by : Refusal → ℕ → Result (Unit {0}) Refusal → Result (Unit {0}) Refusal
refused-by refusal number other = cond (eqb number (refusal_number refusal)) (Err refusal) other

abbrev answer_of : ℕ → Result (Unit {0}) Refusal
answer_of n =
    refused-by TextTooLong n
    (refused-by FirstLine n
    (refused-by BytesLeft n
    (refused-by BoardShared n
    (refused-by DriveClash n
    (refused-by AfterBroken n
    (refused-by Unsound n
    (refused-by NoTask n
    (refused-by NotRunning n
    (refused-by BeforeClock n
    (refused-by NotPastStart n
    (refused-by PastLimit n
    (refused-by OtherPastLimit n
    (refused-by BufferTooShort n
    (refused-by NoneAtZero n
    (refused-by KnownOrDropped n
    (refused-by NoDrive n
    (refused-by NotItsLength n
    (refused-by LogLine n
    (refused-by StartOrEndAmiss n
    (refused-by LoggedLength n
    (refused-by LoggedClash n
    (refused-by LoggedStart n
    (refused-by TooManyLogs n (Ok tt))))))))))))))))))))))))

of-number : (r : Result (Unit {0}) Refusal) → answer_of (number_in r) ≡ r
of-number (Ok tt) = refl
of-number (Err TextTooLong) = refl
of-number (Err FirstLine) = refl
of-number (Err BytesLeft) = refl
of-number (Err BoardShared) = refl
of-number (Err DriveClash) = refl
of-number (Err AfterBroken) = refl
of-number (Err Unsound) = refl
of-number (Err NoTask) = refl
of-number (Err NotRunning) = refl
of-number (Err BeforeClock) = refl
of-number (Err NotPastStart) = refl
of-number (Err PastLimit) = refl
of-number (Err OtherPastLimit) = refl
of-number (Err BufferTooShort) = refl
of-number (Err NoneAtZero) = refl
of-number (Err KnownOrDropped) = refl
of-number (Err NoDrive) = refl
of-number (Err NotItsLength) = refl
of-number (Err LogLine) = refl
of-number (Err StartOrEndAmiss) = refl
of-number (Err LoggedLength) = refl
of-number (Err LoggedClash) = refl
of-number (Err LoggedStart) = refl
of-number (Err TooManyLogs) = refl

pub number-whole : (a b : Result (Unit {0}) Refusal) → number_in a ≡ number_in b → a ≡ b
number-whole a b e = sym (of-number a) ∙ ap answer_of e ∙ of-number b

-- a refusal has a number
pub has-number : (refusal : Refusal) {code : ℕ} → code ≡ refusal_number refusal → code ≢ 0
has-number TextTooLong e z = omega arith
has-number FirstLine e z = omega arith
has-number BytesLeft e z = omega arith
has-number BoardShared e z = omega arith
has-number DriveClash e z = omega arith
has-number AfterBroken e z = omega arith
has-number Unsound e z = omega arith
has-number NoTask e z = omega arith
has-number NotRunning e z = omega arith
has-number BeforeClock e z = omega arith
has-number NotPastStart e z = omega arith
has-number PastLimit e z = omega arith
has-number OtherPastLimit e z = omega arith
has-number BufferTooShort e z = omega arith
has-number NoneAtZero e z = omega arith
has-number KnownOrDropped e z = omega arith
has-number NoDrive e z = omega arith
has-number NotItsLength e z = omega arith
has-number LogLine e z = omega arith
has-number StartOrEndAmiss e z = omega arith
has-number LoggedLength e z = omega arith
has-number LoggedClash e z = omega arith
has-number LoggedStart e z = omega arith
has-number TooManyLogs e z = omega arith
