-- The sleeper's sheet, byte by byte, and its listing.
use Rattle.std.specs.Prelude.{ℕ, List, [], ◌∷◌, ◌++◌, replicate}

-- a lot below 256, in eight bytes
abbrev lot : ℕ → List ℕ
lot n = 0 ∷ 0 ∷ 0 ∷ 0 ∷ 0 ∷ 0 ∷ 0 ∷ n ∷ []

-- a ticket below 256, in four bytes
abbrev ticket : ℕ → List ℕ
ticket n = 0 ∷ 0 ∷ 0 ∷ n ∷ []

-- the floor: so many workers, one bucket, version 0
abbrev floor : ℕ → List ℕ
floor w = 1 ∷ 0 ∷ 7 ∷ w ∷ 0 ∷ 1 ∷ ticket 0

-- a worker's insert
abbrev insert : ℕ → ℕ → ℕ → List ℕ
insert w l t = 2 ∷ 0 ∷ 14 ∷ w ∷ 2 ∷ (lot l ++ ticket t)

-- a worker's remove
abbrev remove : ℕ → ℕ → List ℕ
remove w l = 2 ∷ 0 ∷ 10 ∷ w ∷ 3 ∷ lot l

-- so many turns of a worker
abbrev turns : ℕ → ℕ → List ℕ
turns n w = 3 ∷ 0 ∷ n ∷ replicate n w

-- §10.6: worker 1 reads its word and falls asleep; worker 0 closes lot 7 and opens it again; worker 1 wakes
abbrev pub sleeper_sheet : List ℕ
sleeper_sheet =
    floor 2
    ++ insert 0 7 1
    ++ turns 11 0
    ++ remove 1 7
    ++ turns 3 1
    ++ remove 0 7
    ++ turns 4 0
    ++ insert 0 7 2
    ++ turns 11 0
    ++ turns 5 1

-- §9.5: its listing, byte by byte: four ends, and 34 turns with 6 changes, 1 lost swap and no full round
abbrev pub sleeper_listing : List ℕ
sleeper_listing =
    (69 ∷ 32 ∷ 49 ∷ 49 ∷ 32 ∷ 48 ∷ 32 ∷ 50 ∷ 32 ∷ 49 ∷ 10 ∷ [])  -- E 11 0 2 1
    ++ (69 ∷ 32 ∷ 49 ∷ 56 ∷ 32 ∷ 48 ∷ 32 ∷ 51 ∷ 32 ∷ 49 ∷ 10 ∷ [])  -- E 18 0 3 1
    ++ (69 ∷ 32 ∷ 50 ∷ 57 ∷ 32 ∷ 48 ∷ 32 ∷ 50 ∷ 32 ∷ 49 ∷ 10 ∷ [])  -- E 29 0 2 1
    ++ (69 ∷ 32 ∷ 51 ∷ 52 ∷ 32 ∷ 49 ∷ 32 ∷ 51 ∷ 32 ∷ 50 ∷ 10 ∷ [])  -- E 34 1 3 2
    ++ (84 ∷ 32 ∷ 51 ∷ 52 ∷ 32 ∷ 54 ∷ 32 ∷ 49 ∷ 32 ∷ 48 ∷ 10 ∷ [])  -- T 34 6 1 0
