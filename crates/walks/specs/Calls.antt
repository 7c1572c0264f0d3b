-- All orders as a call: its number of refusal, and its whole outcome as a function of what it is given.
use Rattle.std.specs.Prelude.{ℕ, Bool, cond, ◌&&◌, not, List, [], ◌∷◌, length, take, eqb, leb, Result, Ok, Err}
use Rattle.turn.specs.declared.Worker.{Worker}
use Rattle.turn.specs.Worker.{broken, within}
use Rattle.turn.specs.Turn.{bucket_refusal}
use Rattle.engine.specs.declared.Floor.{Floor}
use Rattle.engine.specs.Board.{bucket_at}
use Rattle.engine.specs.Calls.{record_in}
use Rattle.engine.specs.Refusals.{wrong_sizes, any_record}
use Rattle.walks.specs.declared.Class.{Class}
use Rattle.walks.specs.declared.Walks.{Walks}
use Rattle.turn.specs.declared.refusal.Refusal.{Refusal as Why}
use Rattle.turn.specs.Number.{number}
use Rattle.walks.specs.Orders.{orders, counted}

-- §6.10: more than one bucket, more than three workers, or a depth that is not from 1 to 24
abbrev pub not_small : Floor → ℕ → Bool
not_small f depth = not (leb f.buckets 1 && (leb f.workers 3 && within 1 24 depth))

-- §7.2: the number by which sizes and depth refuse, or 0
abbrev pub size_number : List ℕ → Floor → ℕ → ℕ → ℕ
size_number board f listed depth = cond (wrong_sizes f board listed) 1 (cond (not_small f depth) 10 0)

-- §7.2: the number of refusal
unfoldable pub orders_number : List ℕ → Floor → List Worker → ℕ → ℕ → ℕ
orders_number board f records listed depth =
    cond (wrong_sizes f board listed) 1
    (cond (not_small f depth) 10 (cond (any_record broken records) 3 (bucket_refusal (bucket_at board 0))))

-- §18.4, §14.9: what all orders answers: the number of refusal, or the counts
pub data Walked : Type 0 where
  Refusal : ℕ → Walked
  Orders : Walks → Walked

-- so of the code's answer
abbrev pub walked_as : Result Walks Why → Walked
walked_as (Ok walks) = Orders walks
walked_as (Err why) = Refusal (number why)

-- §18.4: the counts over all orders, or the number alone
unfoldable pub orders_call : List ℕ → Floor → List Worker → ℕ → ℕ → Walked
orders_call board f records listed depth =
    cond (eqb (orders_number board f records listed depth) 0)
    (Orders (counted f board records (orders f depth board records)))
    (Refusal (orders_number board f records listed depth))

-- §14.9: the number of each case of the answer: a refusal's own, and 0 for counts
abbrev pub walked_number : Walked → ℕ
walked_number (Refusal number) = number
walked_number (Orders walks) = 0

-- the records of a class: as many of the three as are listed
abbrev pub records_of : Class → List Worker
records_of c = take c.listed (c.first ∷ c.second ∷ c.third ∷ [])

-- the class of a list
abbrev pub class_of : List Worker → Class
class_of records =
    record { first = record_in records 0; second = record_in records 1; third = record_in records 2; listed = length records }
