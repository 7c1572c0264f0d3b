-- What demand 3 goes by, of a state. Assumes nothing.
use Prim.Native.Nat.{ℕ}
use mathlib.Core.List.{List, [], map}
use mathlib.Core.Path.{◌≡◌, subst}
use lib.ListN.{set}
use lib.Seq.{set-get_or}
use Rattle.turn.specs.Bucket.{cell, mark_cell}
use Rattle.turn.specs.Asleep.{awake}
use Rattle.engine.specs.Board.{bucket_at}
use Rattle.engine.specs.Calls.{blank}
use Rattle.history.specs.Trace.{Entry}
use Rattle.history.specs.History.{State, listed_of}
use Rattle.history.proofs.View.{View, Walk, stays}

-- its mark words, and its records without anybody's sleep
abbrev pub view : State → View
view s = record { marks = λ b. cell (bucket_at s.board b) mark_cell; records = map awake s.records }

-- a worker's record put back as it was is no change
pub same_walk :
    (n : ℕ) (s : State) (i : ℕ) (index : List ℕ)
    → Walk n (view s) [] 0 (view (record { board = s.board; floor = s.floor; records = set s.records i (listed_of s i); index = index }))
same_walk n s i index = rw (set-get_or s.records i blank) stays

-- a walk with its changes counted in another way
pub recount : {n : ℕ} {s t : View} {es : List Entry} (j k : ℕ) → j ≡ k → Walk n s es j t → Walk n s es k t
recount {n} {s} {t} {es} j k is = subst (λ (k : ℕ). Walk n s es k t) is
