-- No listing has R 3 or R 7, whatever bytes the sheet is of and whatever stands on the board. Assumes nothing.
use Prim.Native.Nat.{ℕ, ◌≤◌}
use mathlib.Core.Bool.{Bool, true, false}
use mathlib.Core.Path.{◌≡◌, refl, sym, ap, subst}
use mathlib.Core.List.{List, [], ◌∷◌}
use mathlib.Core.Logic.{inl, inr}
use native.Mathlib.Omega.{arith}
use lib.Dec.{eqb, ltb}
use lib.ListN.{length, replicate}
use borrow.Author.Tests.{eqb-true, eqb-false, le-ltb, ltb-false}
use Rattle.mark.proofs.Choices.{by_cases}
use Rattle.turn.specs.Turn.{After, after}
use Rattle.engine.specs.declared.Plan.{Plan}
use Rattle.engine.specs.Refusals.{wrong_sizes, open_number}
use Rattle.engine.specs.Calls.{planned}
use Rattle.sheet.specs.declared.Field.TheVariants.{Opening, Calling, Turning}
use Rattle.sheet.specs.Fields.{Read, Whole, Refused, read_field}
use Rattle.sheet.specs.declared.Desk.{Desk}
use Rattle.sheet.specs.Play.{shut_desk, open_field}
use Rattle.sheet.specs.Listing.{fields_from, played, words_asked, own_play, listing}
use Rattle.sheet.proofs.Fielding.{first_field}
use Rattle.history.specs.Numbers.{OneOf}
use Rattle.history.proofs.Later.{one_each}
use Rattle.history.specs.History as History
use Rattle.plays.specs.Points.{Point, Bytes, FloorAccepted}
use Rattle.plays.specs.Points as Points
use Rattle.plays.specs.Plays as Last
use Rattle.plays.specs.Plays.{end_lines, refusals, every_refusal, LastOf, EndsIn, in_totals, in_refusal, NeverBroken}
use Rattle.plays.proofs.NoRefusal.{never_refused}
use Rattle.plays.proofs.Plays.{open_stop, open_lists, plays_history}

-- a listing of one line
alone : {line : List ℕ} → EndsIn line → NeverBroken line
unfolding end_lines
alone {line} ends = never_refused line [] line ends refl

-- an opening is refused by 1 alone
open_numbers : (plan : Plan) (board : List ℕ) (listed : ℕ) → OneOf (1 ∷ 0 ∷ []) (open_number (planned plan) board listed)
unfolding open_number
open_numbers plan board listed = by_cases (OneOf (1 ∷ 0 ∷ [])) (wrong_sizes (planned plan) board listed) 1 0 (λ is. inl refl) (λ isnot. inr (inl refl))

module _ (sheet board : List ℕ) (bytes : Bytes sheet) (short : length sheet ≤ 16384) where
  abbrev start : After Desk
  start = after board shut_desk

  -- a sheet whose floor is accepted
  accepted_listing : FloorAccepted sheet board → NeverBroken (played sheet board).handed.lines
  accepted_listing f =
      let play = plays_history f bytes in
      let h = play.1.1 in
      never_refused _ (History.trace (History.opened play.0) play.1.0) h.line
      (by h.last (λ number offset. h.refused_by_lem play.1.0 h.end number offset h.reached)) (ap (λ (x : After (List ℕ)). x.handed) h.listed)
    where
      by : {o : History.Opening} {calls : List History.Call} {p : Point} {line : List ℕ}
          → LastOf sheet o calls p line
          → ((number offset : ℕ) → Points.next_of sheet p ≡ Points.refused number offset → OneOf refusals number)
          → EndsIn line
      by (Last.totals end) known = in_totals _
      by (Last.refusal number offset stop) known = in_refusal number offset (inr (inr (known number offset stop)))

  opened_listing :
      (plan : Plan) (next : ℕ)
      → read_field sheet 0 ≡ Whole (Opening plan) next
      → (t : Bool)
      → eqb (open_field plan start).stop 0 ≡ t
      → NeverBroken (played sheet board).handed.lines
  unfolding played fields_from
  opened_listing plan next read true is =
      accepted_listing (record { short = short; plan = plan; next = next; read = read; accepted = eqb-true _ 0 is })
  opened_listing plan next read false isnot =
      let number =
      one_each (λ n. (n ≡ 0 → ⊥) → OneOf every_refusal n) (1 ∷ 0 ∷ []) ((λ some. inl refl), ((λ some. absurd (some refl)), tt)) _
      (subst (OneOf (1 ∷ 0 ∷ [])) (sym (open_stop plan board)) (open_numbers plan board plan.workers)) (eqb-false _ 0 isnot) in
      rw (le-ltb 16384 (length sheet) short, read, isnot, open_lists plan board) (alone (in_refusal _ 0 number))

  first_listing : (r : Read) → read_field sheet 0 ≡ r → NeverBroken (played sheet board).handed.lines
  unfolding played fields_from
  first_listing (Refused place) read =
      rw (le-ltb 16384 (length sheet) short, read) (alone (in_refusal 8 place (inr (inr (inr (inr (inr (inr (inl refl)))))))))
  first_listing (Whole (Opening plan) next) read = opened_listing plan next read _ refl
  first_listing (Whole (Calling c) next) read = let e = first_field sheet _ next read in absurd (let z : ◌≡◌ {A = ℕ} 0 1 = cc in omega arith)
  first_listing (Whole (Turning span) next) read = let e = first_field sheet _ next read in absurd (let z : ◌≡◌ {A = ℕ} 0 1 = cc in omega arith)

-- whatever bytes the sheet is of and whatever stands on the board, no listing has R 3 or R 7
pub never_broken : (sheet board : List ℕ) → Bytes sheet → NeverBroken (played sheet board).handed.lines
unfolding played
never_broken sheet board bytes = by (ltb 16384 (length sheet)) refl
  where
    by : (t : Bool) → ltb 16384 (length sheet) ≡ t → NeverBroken (played sheet board).handed.lines
    by true long = rw long (alone (in_refusal 9 0 (inr (inl refl))))
    by false isnot = first_listing sheet board bytes (ltb-false _ _ isnot) (read_field sheet 0) refl

-- so it is with the listing that the program prints
pub listing_never_broken : (sheet : List ℕ) → Bytes sheet → NeverBroken (listing sheet)
unfolding listing own_play
listing_never_broken sheet bytes = never_broken sheet (replicate (words_asked sheet) 0) bytes
