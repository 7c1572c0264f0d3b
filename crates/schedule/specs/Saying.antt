-- What is said of a text that is wrong: where, and what was expected there.
use Rattle.std.specs.Prelude.{ℕ, ◌+◌, cond, List, [], ◌∷◌, ◌++◌, take, eqb}
use Rattle.pen.specs.Words.{bytes}
use Rattle.pen.specs.Decimal.{decimal}
use Rattle.schedule.specs.declared.Spot.{Spot}

-- the line and the column behind some bytes, both counted from 1
unfoldable pub spot_after : Spot → List ℕ → Spot
spot_after s [] = s
spot_after s (b ∷ bs) =
    spot_after (cond (eqb b 10) (record { line = s.line + 1; column = 1 }) (record { line = s.line; column = s.column + 1 })) bs

-- the line and the column of a place
unfoldable pub spot_of : List ℕ → ℕ → Spot
spot_of text at = spot_after (record { line = 1; column = 1 }) (take at text)

-- what was expected, by its number
unfoldable pub expected : ℕ → List ℕ
expected what =
    cond (eqb what 1) (bytes "expected floor, which comes first")
    (cond (eqb what 2) (bytes "expected the number of workers, 0 to 255")
    (cond (eqb what 3) (bytes "expected workers")
    (cond (eqb what 4) (bytes "expected the number of buckets, 0 to 65535")
    (cond (eqb what 5) (bytes "expected buckets")
    (cond (eqb what 6) (bytes "expected version")
    (cond (eqb what 7) (bytes "expected a version, 0 to 4294967295")
    (cond (eqb what 8) (bytes "expected the end of the line")
    (cond (eqb what 9) (bytes "expected worker or turns")
    (cond (eqb what 10) (bytes "expected the number of a worker, 0 to 255")
    (cond (eqb what 11) (bytes "expected looks, inserts or removes")
    (cond (eqb what 12) (bytes "expected for")
    (cond (eqb what 13) (bytes "expected lot")
    (cond (eqb what 14) (bytes "expected the number of a lot, 0 to 18446744073709551615")
    (cond (eqb what 15) (bytes "expected ticket")
    (cond (eqb what 16) (bytes "expected the number of a ticket, 0 to 18446744073709551615")
    (cond (eqb what 17) (bytes "expected whose turn it is, 0 to 255")
    (cond (eqb what 18) (bytes "expected how many turns, x1 to x16384")
    (bytes "with this the sheet would be longer than 16384 bytes"))))))))))))))))))

-- §24.5: THE COMPLAINT: line 3, column 14: expected lot
unfoldable pub complaint : List ℕ → ℕ → ℕ → List ℕ
complaint text at what =
    (bytes "line " ++ decimal (spot_of text at).line) ++
    ((bytes ", column " ++ decimal (spot_of text at).column) ++ (bytes ": " ++ (expected what ++ bytes "\n")))
