-- While inserts are few the whole board is one clerk, after every opening and every list of calls and moves. Assumes nothing.
use Prim.Native.Nat.{ℕ, ◌+◌, ◌≤◌}
use mathlib.Core.List.{List, [], ◌∷◌, ◌++◌, append_assoc}
use mathlib.Core.Logic.{◌↔◌}
use mathlib.Core.Path.{◌≡◌, sym, ap, subst, ◌∙◌}
use native.Mathlib.Decide.{ℕ_discrete}
use native.Mathlib.Omega.{arith}
use lib.ListN.{length, take, length-append}
use lib.Seq.{take-append-le}
use Rattle.engine.specs.Board.{bucket_of}
use Rattle.engine.specs.Move.{Line}
use Rattle.history.specs.Trace.{Entry, acted}
use Rattle.history.specs.History.{State, Opening, opened, buckets_of, trace}
use Rattle.history.specs.Moves.{Step, trace_through, FewThrough}
use Rattle.history.specs.Openings.{ledger_of}
use Rattle.history.specs.Openings as Openings
use Rattle.history.proofs.Ledger.{ledger_noted}
use Rattle.history.proofs.Through.{Stretch}
use Rattle.history.specs.Values.{value_at, tickets}
use Rattle.history.specs.Cells.{cells_at, key_at}
use Rattle.history.proofs.Cells.{marked_few}
use Rattle.clerk.specs.Does.{Asked, does}
use Rattle.clerk.specs.Calls.{EndedCall, IsCallOf, IsMomentOf, HasMoments, Settles, list_after}
use Rattle.walks.specs.Lists.{In}
use Rattle.clerk.specs.Sequence.{OneByOne}
use Rattle.clerk.specs.Clerk.{Stands, Clerk}
use Rattle.clerk.proofs.Since.{call_first}
use Rattle.clerk.proofs.Knows.{HasLot}
use Rattle.clerk.proofs.Listing.{Shows}
use Rattle.clerk.proofs.Standing.{Standing, Right}
use Rattle.clerk.proofs.Stood.{Stood, FewIn, standing, unbroken, home_under, count_listed, total_listed, steps_stood}
use Rattle.clerk.proofs.Shown.{stands_home, shown_slots}
use Rattle.clerk.proofs.Enumerated.{cut_at_end}
use Rattle.clerk.proofs.Arranged.{sequence_of}
use Rattle.clerk.proofs.OneByOne.{one_by_one}

-- on a floor of so many workers, where all of it holds of this state and these turns, and inserts are few in its stretch
module _ {workers : ℕ} {s : State} {turns : List Entry} (stood : Stood workers s turns) (few : FewIn stood) where
  abbrev at : Stretch s
  at = stood.stretch

  abbrev n : ℕ
  n = buckets_of at.first

  stands_so : Standing at.first s turns (trace at.first at.since) (tickets at.first at.since)
  stands_so = standing stood few

  -- ---- the valid slots, and the list

  -- a line stands in the bucket of its lot
  home_of : (b p : ℕ) (l : Line) → Stands s b p l → b ≡ bucket_of l.lot n
  home_of b p l stands = stands_home stands_so.known.cells b p l stands ∙ ap (bucket_of l.lot) stands_so.sized

  no_lot_twice : (b p c q : ℕ) (l k : Line) → Stands s b p l → Stands s c q k → l.lot ≡ k.lot → (b ≡ c) × (p ≡ q)
  no_lot_twice b p c q l k one two same = (here, by (ℕ_discrete p q))
    where
      here : b ≡ c
      here = home_of b p l one ∙ ap (λ (lot : ℕ). bucket_of lot n) same ∙ sym (home_of c q k two)

      by : Dec (p ≡ q) → p ≡ q
      by (yes is) = is
      by (no other) =
          absurd (stands_so.distinct b p q other one.slot.valid (rw here two.slot.valid)
          (one.slot.lot ∙ same ∙ sym two.slot.lot ∙ ap (λ (bucket : ℕ). key_at s bucket q) (sym here)))

  shows_stands : (l : Line) → Shows n s l → (b : ℕ) × (p : ℕ) × Stands s b p l
  shows_stands l shows =
      let has = shows.has in (
        bucket_of l.lot n,
        shows.slot,
        record {
          under = home_under stood few l.lot;
          slot = record { few = marked_few _ shows.slot has.0; valid = has.0; lot = has.1; ticket = shows.value };
        },
      )

  stands_shows : (l : Line) → (b : ℕ) × (p : ℕ) × Stands s b p l → Shows n s l
  stands_shows l found =
      let here = home_of found.0 found.1 l found.2 in
      let slot = found.2.slot in
      record {
        slot = found.1;
        has = subst (λ (b : ℕ). HasLot (cells_at s b) l.lot found.1) here (slot.valid, slot.lot);
        value = subst (λ (b : ℕ). value_at s b found.1 ≡ l.ticket) here slot.ticket;
      }

  the_list : (l : Line) → In l (list_after turns) ↔ ((b : ℕ) × (p : ℕ) × Stands s b p l)
  the_list l = (λ inside. shows_stands l (stands_so.lists.there l inside), λ found. stands_so.lists.all l (stands_shows l found))

  -- ---- the calls

  -- the last turn of a call was right
  last_right : (c : EndedCall) (is : IsCallOf turns c) → Right (is.at.before ++ is.at.between) is.at.turn
  last_right c is = stands_so.right (is.at.before ++ is.at.between) is.at.turn is.at.after (cut_at_end turns is.at)

  moment : (c : EndedCall) (is : IsCallOf turns c) → (Settles is.at.turn → ⊥) → (m : ℕ) × IsMomentOf turns c m
  moment c is unsettled =
      let past = is.at.before ++ is.at.between in
      let e = is.at.turn in
      let now = past ++ (acted e ∷ []) in
      let some = (last_right c is).ended unsettled c.answer is.answer in
      let m : ℕ = some.turn in
      let high : m ≤ length now = some.to in
      let long : length now ≡ length past + 1 = length-append past (acted e ∷ []) in
      let same : take m turns ≡ take m now =
      ap (take m) (cut_at_end turns is.at ∙ sym (append_assoc past (acted e ∷ []) is.at.after)) ∙ take-append-le m now is.at.after high in (
        m,
        record {
          within = record { from = omega (arith, call_first turns c is, some.from); to = omega (arith, is.last) };
          fits = ap (λ (a : Asked). does a (list_after (take m turns))) is.asked ∙ rw same some.holds;
        },
      )

  moments : HasMoments turns
  moments =
      record {
        won = λ there settles. (stands_so.right there.before there.turn there.after there.cut).settled settles;
        others = moment;
      }

  -- the calls that ended, sorted by their moments, are one by one what the clerk did
  pub in_sequence : OneByOne turns (sequence_of turns)
  in_sequence = one_by_one turns moments

-- ---- a history

-- while inserts are few the whole board is one clerk
pub the_clerk : (o : Opening) (steps : List Step) → FewThrough (opened o) steps → Clerk (opened o) steps
the_clerk o steps few =
    let all = steps_stood o steps few in
    let stood = all.0 in
    let fewer = all.1 in
    let slots = stands_so stood fewer in
    record {
      no_lot_twice = no_lot_twice stood fewer;
      the_list = the_list stood fewer;
      counted = count_listed stood fewer;
      totalled = total_listed stood fewer;
      shown = λ l.
          let shown = shown_slots (unbroken stood) slots.known.cells l in
          (λ inside. shown.0 ((the_list stood fewer l).0 inside), λ found. (the_list stood fewer l).1 (shown.1 found));
      moments = moments stood fewer;
      one_by_one = (sequence_of (trace_through (opened o) steps), in_sequence stood fewer);
    }

-- so whatever is asked, openings among it: of the last opening that was accepted, and the calls and moves since (`ledger_noted`)
pub the_clerk_since :
    (o : Opening) (asked : List Openings.Asked)
    → FewThrough (ledger_of o asked).first (ledger_of o asked).steps
    → Clerk (ledger_of o asked).first (ledger_of o asked).steps
the_clerk_since o asked =
    let noted = ledger_noted o asked in
    subst (λ (first : State). FewThrough first (ledger_of o asked).steps → Clerk first (ledger_of o asked).steps) (sym noted.begun)
    (the_clerk noted.opening (ledger_of o asked).steps)
