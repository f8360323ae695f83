-- Why something is refused, and its number in the table.
use Rattle.std.specs.Prelude.{ℕ, Ok, Err}
use Rattle.std.specs.declared.result.Result.{Result}
use Rattle.plan.specs.declared.Refusal.{Refusal}
use Rattle.plan.specs.declared.Refusal.TheVariants.{TextTooLong, FirstLine, BytesLeft, BoardShared, DriveClash, AfterBroken, Unsound, NoTask, NotRunning, BeforeClock, NotPastStart, PastLimit, OtherPastLimit, BufferTooShort, NoneAtZero, KnownOrDropped, NoDrive, NotItsLength, LogLine, StartOrEndAmiss, LoggedLength, LoggedClash, LoggedStart, TooManyLogs}

abbrev pub refusal_number : Refusal → ℕ
refusal_number TextTooLong = 1
refusal_number FirstLine = 2
refusal_number BytesLeft = 5
refusal_number BoardShared = 6
refusal_number DriveClash = 7
refusal_number AfterBroken = 8
refusal_number Unsound = 9
refusal_number NoTask = 10
refusal_number NotRunning = 11
refusal_number BeforeClock = 12
refusal_number NotPastStart = 13
refusal_number PastLimit = 14
refusal_number OtherPastLimit = 15
refusal_number BufferTooShort = 16
refusal_number NoneAtZero = 17
refusal_number KnownOrDropped = 19
refusal_number NoDrive = 21
refusal_number NotItsLength = 22
refusal_number LogLine = 23
refusal_number StartOrEndAmiss = 24
refusal_number LoggedLength = 25
refusal_number LoggedClash = 26
refusal_number LoggedStart = 27
refusal_number TooManyLogs = 28

-- 0 if nothing is refused
abbrev pub number_in : {A : Type 0} → Result A Refusal → ℕ
number_in (Ok x) = 0
number_in (Err refusal) = refusal_number refusal
