-- §6: the numbers of refusal.
use Rattle.std.specs.Prelude.{ℕ, Result, Ok, Err}
use Rattle.turn.specs.declared.refusal.Refusal.{Refusal}
use Rattle.turn.specs.declared.refusal.Refusal.TheVariants.{WrongSizes, NoWorker, BrokenRecord, BusyWorker, SpentTicket, IdleWorker, BrokenBucket, Malformed, TooLong, NoSmallClass, UntrueIndex, NotAtRest, CrowdedBucket}

-- each refusal has its own
abbrev pub number : Refusal → ℕ
number WrongSizes = 1
number NoWorker = 2
number BrokenRecord = 3
number BusyWorker = 4
number SpentTicket = 5
number IdleWorker = 6
number BrokenBucket = 7
number Malformed = 8
number TooLong = 9
number NoSmallClass = 10
number UntrueIndex = 11
number NotAtRest = 12
number CrowdedBucket = 13

-- §7.2: that of an answer, 0 where nothing is refused
abbrev pub result_number : {A : Type 0} → Result A Refusal → ℕ
result_number (Ok x) = 0
result_number (Err why) = number why
