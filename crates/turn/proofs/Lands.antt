-- The outcomes that an accepted turn can have, each with the facts of its places: the mark word that it finds and the one that it leaves,
-- and the worker with its report. Assumes nothing.
use Prim.Native.Nat.{ℕ, ◌≤◌, ◌<◌}
use mathlib.Core.Bool.{Bool, true, false, cond}
use mathlib.Core.Path.{◌≡◌}
use native.Mathlib.Omega.{arith}
use lib.Dec.{eqb}
use Rattle.mark.specs.Word.{mark_of, set_mark}
use Rattle.turn.specs.declared.Worker.{Worker}
use Rattle.turn.specs.declared.Action.{Action}
use Rattle.turn.specs.declared.Action.TheVariants.{Read, Store, Won, Lost}
use Rattle.turn.specs.declared.Stepped.{Stepped}
use Rattle.turn.specs.Worker.{ticket_place, go_to, read_word, claimed}
use Rattle.turn.specs.Effects.{none, effect_of}
use Rattle.turn.specs.Places.{goes_on, ends, claim, filled, commit, close}
use Rattle.turn.proofs.Works.{Works}

-- what a worker at a swap found: its slot empty in the word that it read, or valid there
pub record Aimed (w : Worker) : Type 0 where
  pub at_claim : w.place ≡ 6 → mark_of w.word w.slot ≡ 0
  pub at_close : 12 ≤ w.place → w.place ≤ 13 → mark_of w.word w.slot ≡ 1

-- at any other place there is nothing to aim at
pub elsewhere : (w : Worker) → (w.place ≡ 6 → ⊥) × (w.place < 12) → Aimed w
elsewhere w other = record { at_claim = λ is. absurd (other.0 is); at_close = λ from to. absurd (omega arith) }

-- the record at another place and slot, with another value seen: all that a turn changes which leaves the mark word alone
abbrev pub moved : ℕ → ℕ → ℕ → Worker → Worker
moved p s v w = record { kind = w.kind; place = p; key = w.key; ticket = w.ticket; slot = s; word = w.word; held = w.held; seen = v; asleep = w.asleep }

-- a swap comes out as won or as lost
abbrev pub is_swap : Action → Bool
is_swap Read = false
is_swap Store = false
is_swap Won = true
is_swap Lost = true

-- a worker whose turn is a swap: of an insert or a remove that has read the mark word, and at place 9 of an insert that holds a slot
pub record Swapper (w : Worker) : Type 0 where
  pub other : w.kind ≡ 1 → ⊥
  pub from : 2 ≤ w.place
  pub fills : w.place ≡ 9 → (w.kind ≡ 2) × (w.held ≤ 2)

-- at place 9
pub filler : (w : Worker) → w.kind ≡ 2 → w.place ≡ 9 → w.held ≤ 2 → Swapper w
filler w kind place held = record { other = omega arith; from = omega arith; fills = λ nine. (kind, held) }

-- at another place past 1
pub claimer : (w : Worker) → (w.kind ≡ 1 → ⊥) × (2 ≤ w.place) × (w.place ≡ 9 → ⊥) → Swapper w
claimer w known = record { other = known.0; from = known.1; fills = λ nine. absurd (known.2 nine) }

-- the mark word that its swap expects
abbrev pub expects : Worker → ℕ
expects w = cond (eqb w.place 9) (filled w) w.word

-- what a turn of worker w comes to that finds the mark word m and leaves n
pub data Lands (m n : ℕ) (w : Worker) : Stepped → Type 0 where
  -- the mark word is read, and an insert or a remove begins its round
  reads :
      (p : ℕ)
      → n ≡ m
      → w.place ≡ 1
      → (w.kind ≡ 1 → ⊥)
      → Works w.kind p w.held
      → (p ≡ ticket_place → ⊥)
      → Aimed (read_word p m w)
      → Lands m n w (goes_on Read false (read_word p m w))
  -- a read or a store beside the mark word, and the call goes on
  goes :
      (a : Action) (full : Bool) (p s v : ℕ)
      → n ≡ m
      → is_swap a ≡ false
      → effect_of w a ≡ none
      → 2 ≤ w.place
      → Works w.kind p w.held
      → (p ≡ ticket_place → ⊥)
      → s ≤ 2
      → (Aimed w → Aimed (moved p s v w))
      → Lands m n w (goes_on a full (moved p s v w))
  -- §4.4: a swap that is lost
  loses : n ≡ m → Swapper w → (expects w ≡ m → ⊥) → Works w.kind 1 w.held → Lands m n w (goes_on Lost false (go_to 1 w))
  -- a read ends the call
  answers : (answer : ℕ) → n ≡ m → Lands m n w (ends Read answer)
  -- the won swaps of places 6, 9 and 13, and the store of place 10
  claims :
      n ≡ claim w → w.kind ≡ 2 → w.place ≡ 6 → w.held ≡ 3 → m ≡ w.word → Lands m n w (goes_on Won false (claimed (claim w) w))
  commits : n ≡ commit w → w.kind ≡ 2 → w.place ≡ 9 → w.held ≤ 2 → m ≡ filled w → Lands m n w (ends Won 1)
  frees : n ≡ set_mark m w.held 0 → w.kind ≡ 2 → w.place ≡ 10 → w.held ≤ 2 → Lands m n w (ends Store 0)
  closes : n ≡ close w → w.kind ≡ 3 → w.place ≡ 13 → w.held ≡ 3 → m ≡ w.word → Lands m n w (ends Won w.seen)
