-- The sleeper's sheet is one of which the theorems speak, and its listing is computed. Assumes nothing.
use Prim.Native.Nat.{ℕ, zero, suc}
use mathlib.Core.Bool.{Bool, true, ◌&&◌, and-eq-true_iff}
use mathlib.Core.List.{List, [], ◌∷◌}
use mathlib.Core.Path.{◌≡◌, refl}
use native.Mathlib.Omega.{arith}
use lib.Dec.{ltb}
use lib.ListN.{replicate}
use borrow.Author.Tests.{ltb-true}
use Rattle.sheet.specs.Fields as Fields
use Rattle.sheet.specs.Line as Line
use Rattle.sheet.specs.Play as Play
use Rattle.sheet.specs.Listing as Listing
use Rattle.sheet.specs.Listing.{listing}
use Rattle.engine.specs.Calls as Calls
use Rattle.history.proofs.Reached.{computed}
use Rattle.plays.specs.Points.{Bytes, FloorAccepted}
use Rattle.plays.specs.Sleeper.{sleeper_sheet, sleeper_listing}

-- whether each number is a byte
abbrev are_bytes : List ℕ → Bool
are_bytes [] = true
are_bytes (b ∷ bs) = ltb b 256 && are_bytes bs

-- where each is, it is a sheet of bytes
are_bytes_lem : (sheet : List ℕ) → are_bytes sheet ≡ true → Bytes sheet
are_bytes_lem [] all at = omega arith
are_bytes_lem (b ∷ bs) all zero = ltb-true b 256 ((and-eq-true_iff _ (are_bytes bs)).0 all).0
are_bytes_lem (b ∷ bs) all (suc at) = are_bytes_lem bs ((and-eq-true_iff (ltb b 256) _).0 all).1 at

-- so it is with the sleeper's
pub sleeper_bytes : Bytes sleeper_sheet
sleeper_bytes = are_bytes_lem sleeper_sheet refl

-- its floor is accepted
pub sleeper_accepted : FloorAccepted sleeper_sheet (replicate 8 0)
unfolding
    computed Calls.open_call Calls.turn_call Fields.read_field Fields.is_whole Fields.number_at Fields.field_of Fields.opening_at Play.open_field
sleeper_accepted =
    record {
      short = omega arith;
      plan = record { workers = 2; buckets = 1; version = 0 };
      next = 10;
      read = refl;
      accepted = refl;
    }

-- and it is listed so
pub sleeper_listed : listing sleeper_sheet ≡ sleeper_listing
unfolding
    computed Calls.open_call Calls.turn_call Fields.read_field Fields.is_whole Fields.number_at Fields.field_of Fields.opening_at Fields.calling_at Fields.turning_at
    Fields.call_fits Fields.ticket_at Line.decimal_in Play.open_field Play.asked Play.call_field Play.turn_at_desk Play.turns_done
    Listing.fields_from Listing.played Listing.words_asked Listing.own_play Listing.listing
sleeper_listed = refl
