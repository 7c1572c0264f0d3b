-- What the program plays on its own board: a floor is accepted there if its numbers are in range, and the listing is told from the history
-- that is played. Assumes nothing.
use Prim.Native.Nat.{ℕ, ◌*◌, ◌≤◌}
use mathlib.Core.Path.{◌≡◌, refl, ap, ◌∙◌}
use mathlib.Core.List.{List, ◌++◌}
use lib.ListN.{length, replicate, length-replicate}
use borrow.Author.Tests.{le-leb}
use Rattle.turn.specs.Turn.{After}
use Rattle.engine.specs.declared.Plan.{Plan}
use Rattle.engine.specs.Calls.{planned}
use Rattle.engine.proofs.Sizes.{opens_right}
use Rattle.sheet.specs.declared.Field.TheVariants.{Opening}
use Rattle.sheet.specs.Fields.{Whole, read_field}
use Rattle.sheet.specs.Listing.{words_asked, own_play, listing}
use Rattle.history.specs.History as History
use Rattle.history.specs.History.{Call, opened, trace}
use Rattle.plays.specs.Points.{Bytes, FloorAccepted}
use Rattle.plays.specs.Plays.{end_lines, PlaysHistory}
use Rattle.plays.proofs.Plays.{open_stop, plays_history}

-- as much of the program's board as the sheet asks for
abbrev pub own_board : List ℕ → List ℕ
own_board sheet = replicate (words_asked sheet) 0

module _ (sheet : List ℕ) where
  -- a sheet of which a floor is read first
  module _ (plan : Plan) (next : ℕ) (read : read_field sheet 0 ≡ Whole (Opening plan) next) where
    asked_words : plan.buckets ≤ 256 → length (own_board sheet) ≡ 8 * plan.buckets
    unfolding words_asked
    asked_words buckets = length-replicate (words_asked sheet) 0 ∙ rw (read, le-leb _ 256 buckets)

    -- is accepted if it has 1 to 64 workers and 1 to 256 buckets
    pub floor_accepted :
        length sheet ≤ 16384
        → 1 ≤ plan.workers
        → plan.workers ≤ 64
        → 1 ≤ plan.buckets
        → plan.buckets ≤ 256
        → FloorAccepted sheet (own_board sheet)
    floor_accepted short some_worker workers some_bucket buckets =
        record {
          short = short;
          plan = plan;
          next = next;
          read = read;
          accepted =
              open_stop plan (own_board sheet)
              ∙ opens_right (planned plan) (own_board sheet) plan.workers
              (record {
                some_worker = some_worker;
                workers = workers;
                some_bucket = some_bucket;
                buckets = buckets;
                words = asked_words buckets;
              })
              refl;
        }

  -- the listing of a sheet is the E lines of its history, and the last line
  pub listing_plays :
      (f : FloorAccepted sheet (own_board sheet))
      → Bytes sheet
      → (o : History.Opening) × ((calls : List Call) × ((h : PlaysHistory f o calls) × (listing sheet ≡ end_lines 1 (trace (opened o) calls) ++ h.line)))
  unfolding listing own_play
  listing_plays f bytes =
      let play = plays_history f bytes in
      let h = play.1.1 in
      (play.0, (play.1.0, (h, ap (λ (x : After (List ℕ)). x.handed) h.listed)))
