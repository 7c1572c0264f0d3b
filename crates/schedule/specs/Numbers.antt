-- What is expected, by its number.
use Rattle.std.specs.Prelude.{◌≡◌, ℕ, Result, MatchResult}
use Rattle.schedule.specs.declared.expected.Expected.{Expected}
use Rattle.schedule.specs.declared.expected.Expected.TheVariants.{Floor, WorkerCount, Workers, BucketCount, Buckets, Version, VersionNumber, LineEnd, WorkerOrTurns, WorkerNumber, Verb, For, Lot, LotNumber, Ticket, TicketNumber, Turn, Times, Room}
use Rattle.schedule.specs.declared.expected.UnknownNumber.{UnknownNumber}

-- the number of what is expected
abbrev pub expected_number : Expected → ℕ
expected_number Floor = 1
expected_number WorkerCount = 2
expected_number Workers = 3
expected_number BucketCount = 4
expected_number Buckets = 5
expected_number Version = 6
expected_number VersionNumber = 7
expected_number LineEnd = 8
expected_number WorkerOrTurns = 9
expected_number WorkerNumber = 10
expected_number Verb = 11
expected_number For = 12
expected_number Lot = 13
expected_number LotNumber = 14
expected_number Ticket = 15
expected_number TicketNumber = 16
expected_number Turn = 17
expected_number Times = 18
expected_number Room = 19

-- the number is that of what is expected; or it is none of them
abbrev pub Numbered : ℕ → Result Expected UnknownNumber → Type 0
Numbered n r = MatchResult r (λ e. expected_number e ≡ n) (λ u. (u.0 ≡ n) × ((e : Expected) → expected_number e ≡ n → ⊥))
