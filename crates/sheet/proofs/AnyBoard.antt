-- What a sheet tells depends on the board's length alone. Assumes nothing.
use Prim.Native.Nat.{ℕ}
use mathlib.Core.Bool.{Bool, true, false, cond}
use mathlib.Core.Path.{◌≡◌, refl, sym, ap, ◌∙◌}
use mathlib.Core.List.{List}
use native.Mathlib.Omega.{arith}
use lib.Dec.{eqb, ltb}
use lib.ListN.{length, replicate, length-replicate}
use Rattle.turn.specs.Turn.{After, after}
use Rattle.engine.specs.declared.Floor.{Floor}
use Rattle.engine.specs.declared.Plan.{Plan}
use Rattle.engine.specs.Refusals.{wrong_sizes, open_number}
use Rattle.engine.specs.Calls.{Opened, planned, no_turns, open_call}
use Rattle.sheet.specs.declared.Field.TheVariants.{Opening}
use Rattle.sheet.specs.Fields.{Read, Whole}
use Rattle.sheet.specs.Play.{Desk, shut_desk, open_field, opened}
use Rattle.sheet.specs.Listing.{Told, Ending, after_field, one_field, fields_from, played, words_asked, own_play, listing}
use Rattle.sheet.proofs.Fielding.{Reading, opening_read, calling_read, turning_read, not_read, reading}

-- two choices by one test, seen in one way, are the same where their cases are
same_choice :
    {A B : Type 0} (g : A → B) (t : Bool) (a b x y : A) → g a ≡ g b → (t ≡ false → g x ≡ g y) → g (cond t a x) ≡ g (cond t b y)
same_choice g true a b x y one two = one
same_choice g false a b x y one two = two refl

-- the number of an opening goes by the board's length
same_number : (f : Floor) (board other : List ℕ) (listed : ℕ) → length board ≡ length other → open_number f board listed ≡ open_number f other listed
unfolding open_number wrong_sizes
same_number f board other listed long = rw long

module _ (rest : ℕ → After Desk → Ending) (sheet : List ℕ) where
  -- what the first field tells, with all that comes after it
  abbrev from_first : List ℕ → Read → Told
  from_first board r = (one_field rest sheet 0 (after board shut_desk) r).handed

  module _ (board other : List ℕ) (long : length board ≡ length other) where
    -- a floor is refused on both boards, or leaves the same
    opened_same : (p : Plan) (next : ℕ) → from_first board (Whole (Opening p) next) ≡ from_first other (Whole (Opening p) next)
    unfolding open_field open_call
    opened_same p next =
        rw (same_number (planned p) board other p.workers long)
        (same_choice (λ (x : After Opened). (after_field rest (length sheet) 0 next (opened x.words x.handed no_turns)).handed)
        (eqb (open_number (planned p) other p.workers) 0) _ _ _ _ refl (λ isnot. rw isnot))

    -- whatever is read first tells the same on both
    first_same : {r : Read} → Reading sheet 0 r → from_first board r ≡ from_first other r
    first_same (opening_read l first seven fits) = opened_same _ _
    first_same (calling_read l later right fits) = absurd (omega arith)
    first_same (turning_read l later some fits) = absurd (omega arith)
    first_same not_read = refl

-- what is told goes by the board's length, not by what stands on it
pub any_board : (sheet board other : List ℕ) → length board ≡ length other → (played sheet board).handed ≡ (played sheet other).handed
unfolding played fields_from
any_board sheet board other long =
    same_choice (λ (e : Ending). e.handed) (ltb 16384 (length sheet)) _ _ _ _ refl
    (λ isnot. first_same (fields_from (length sheet) sheet) sheet board other long (reading sheet 0))

-- a sheet played on as many words as its floor asks for comes to its listing
pub listing_on : (sheet board : List ℕ) → length board ≡ words_asked sheet → (played sheet board).handed.lines ≡ listing sheet
unfolding listing own_play
listing_on sheet board long =
    ap (λ (t : Told). t.lines)
    (any_board sheet board (replicate (words_asked sheet) 0) (long ∙ sym (length-replicate (words_asked sheet) 0)))
