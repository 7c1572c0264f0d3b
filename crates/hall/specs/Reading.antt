-- What a full reading of the board tells, with which the index is compared (§21.1).
use Rattle.std.specs.Prelude.{ℕ, ◌≤◌, ◌<◌, Bool, true, false, List, ◌≡◌, length}
use Rattle.turn.specs.Bucket.{cell, mark_cell}
use Rattle.engine.specs.Board.{bucket_at, lots_on}
use Rattle.hall.specs.Next.{Next}
use Rattle.hall.specs.Index.{index_words, total_in, bit_in, occupied}
use Rattle.hall.specs.Calls.{first_of}

-- whether bucket b of a board has a valid slot
abbrev pub occupied_at : List ℕ → ℕ → Bool
occupied_at board b = occupied (cell (bucket_at board b) mark_cell)

-- §21.1: an index that is the full reading of a board of n buckets
pub record Reads (board : List ℕ) (n : ℕ) (index : List ℕ) : Type 0 where
  pub five : length index ≡ index_words
  -- the number of valid slots, as a count has it
  pub total : total_in index ≡ lots_on board n
  -- each bit says whether its bucket has one
  pub bits : (b : ℕ) → b < n → bit_in index b ≡ occupied_at board b
  -- unused bits are 0
  pub unused : (b : ℕ) → n ≤ b → b < 256 → bit_in index b ≡ false

-- §21.4: of n buckets the first that has a valid slot, at or after one, by going over the board
abbrev pub next_on : List ℕ → ℕ → ℕ → Next
next_on board n from = first_of (occupied_at board) n from

-- §21.4: what it means that a next bucket is this one, or that there is none
abbrev pub IsNext : (ℕ → Bool) → ℕ → ℕ → Next → Type 0
IsNext passes n from (Next.Refusal number) = ⊥
IsNext passes n from Next.Nowhere = (c : ℕ) → from ≤ c → c < n → passes c ≡ false
IsNext passes n from (Next.Bucket b) = (from ≤ b) × ((b < n) × ((passes b ≡ true) × ((c : ℕ) → from ≤ c → c < b → passes c ≡ false)))
