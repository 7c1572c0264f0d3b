-- A turn, done or refused, on what demand 3 goes by. Assumes nothing.
use Prim.Native.Nat.{ℕ}
use mathlib.Core.Bool.{cond}
use mathlib.Core.List.{List}
use mathlib.Core.Path.{◌≡◌, refl, sym, ap, subst, ◌∙◌}
use native.Mathlib.Omega.{arith}
use lib.Dec.{eqb}
use lib.ListN.{length, length-map}
use borrow.Author.Tests.{eqb-true}
use Rattle.mark.proofs.Choices.{by_cases, passes}
use Rattle.turn.specs.declared.Worker.{Worker}
use Rattle.turn.specs.Bucket.{cell, mark_cell}
use Rattle.turn.specs.Asleep.{awake}
use Rattle.turn.specs.Effects.{effect_of}
use Rattle.turn.specs.Places.{Step, turn}
use Rattle.turn.specs.Turn.{Turned, After, after, refusing}
use Rattle.turn.proofs.Sound.{Accepted}
use Rattle.turn.proofs.Asleep.{awake_accepted, turn_awake}
use Rattle.turn.proofs.Cells.{turn_long}
use Rattle.turn.proofs.Effects.{turn_moves, turn_went, turn_won_at, turn_aims}
use Rattle.turn.proofs.Kept.{turn_idles}
use Rattle.engine.specs.Board.{bucket_of, bucket_at, with_bucket}
use Rattle.engine.specs.Refusals.{wrong_sizes, turn_number}
use Rattle.engine.specs.Calls.{report_on, turn_done, turned}
use Rattle.hall.specs.Refusals.{hall_turn_number}
use Rattle.hall.specs.Calls.{hall_turn}
use Rattle.engine.proofs.Sizes.{right_listed}
use Rattle.engine.proofs.Keeps.{turn_accepted}
use Rattle.engine.proofs.Sleeping.{record_awake, awake_after}
use Rattle.engine.proofs.Reports.{done_tells}
use Rattle.engine.proofs.Cut.{bucket_within, other_bucket}
use Rattle.hall.proofs.Plain.{turn_none}
use Rattle.history.specs.Trace.{Turn, acted}
use Rattle.history.specs.Counts.{is_change, is_commit, is_close}
use Rattle.history.specs.History.{State, listed_of, record_of, turn_by, turned_as, entry_of, turn_entry}
use Rattle.history.proofs.Counts.{commit_is, close_is, change_is, turn_bumps}
use Rattle.history.proofs.View.{Acts, Walk, stays, acts}
use Rattle.history.proofs.States.{view}

-- a turn leaves the mark word of every other bucket
mark_there :
    (board : List ℕ) (b : ℕ) (w : Worker)
    → Accepted (bucket_at board b) w
    → (c : ℕ)
    → (c ≡ b → ⊥)
    → cell (bucket_at (with_bucket board b (turn (bucket_at board b) w).bucket) c) mark_cell ≡ cell (bucket_at board c) mark_cell
mark_there board b w ok c other =
    let bucket = bucket_at board b in
    let eight = ok.whole.eight in
    ap (λ (l : List ℕ). cell l mark_cell)
    (other_bucket board b (turn bucket w).bucket (bucket_within board b eight) (turn_long bucket w ∙ eight) c other)

-- ---- a turn of worker i

module _ (s : State) (i : ℕ) where
  abbrev w : Worker
  w = record_of s i

  abbrev b : ℕ
  b = bucket_of w.key s.floor.buckets

  -- its number of refusal
  abbrev pub number : ℕ
  number = hall_turn_number s.floor s.board s.index (length s.records) i (listed_of s i)

  -- what it does on the bucket, and on the board
  abbrev does : Step
  does = turn (bucket_at s.board b) w

  abbrev pub done : After Turned
  done = turn_done s.floor s.board w does

  abbrev pub entry : Turn
  entry = record { worker = i; was = w; report = report_on s.floor s.board w does }

  -- the record without its sleep is the one that has the turn
  is_up : w ≡ awake (listed_of s i)
  is_up = record_awake s.records i

  -- done or refused, it is this
  pub turned_is : turn_by s i ≡ cond (eqb number 0) done (after s.board (refusing number (listed_of s i)))
  unfolding hall_turn turned
  turned_is = rw is_up

  pub done_is : number ≡ 0 → turn_by s i ≡ done
  done_is none = turned_is ∙ rw none

  -- where it is not refused, the engine does not refuse it
  pub plain : number ≡ 0 → turn_number s.floor s.board (length s.records) i (listed_of s i) ≡ 0
  plain = turn_none s.floor s.board s.index i (listed_of s i) (length s.records)

  -- so there is a record for each worker
  listed : number ≡ 0 → length s.records ≡ s.floor.workers
  unfolding turn_number
  listed none = right_listed s.floor s.board _ (passes (wrong_sizes s.floor s.board _) 0 _ (plain none)).0

  -- and it is accepted on its bucket
  pub done_accepted : number ≡ 0 → Accepted (bucket_at s.board b) w
  done_accepted none = rw is_up (awake_accepted _ _ (turn_accepted s.floor s.board (length s.records) i (listed_of s i) (plain none)).1)

  -- and it is done: it acts on what demand 3 goes by
  pub done_acts : number ≡ 0 → Acts s.floor.buckets (view s) (acted entry) does.stepped.worker (view (turned_as s i done))
  done_acts none =
      let known = turn_accepted s.floor s.board (length s.records) i (listed_of s i) (plain none) in
      let ok = done_accepted none in
      let bucket = bucket_at s.board b in
      let action = does.stepped.action in
      let tells = done_tells s.floor s.board w ok in
      record {
        effect = effect_of w action;
        commits = commit_is w action (is_commit (acted entry));
        closes = close_is w action (turn_won_at bucket w ok) (is_close (acted entry));
        changes = change_is w action (is_change (acted entry));
        bumps = commit_is w action (is_commit (acted entry)) ∙ sym (turn_bumps w action);
        within = rw (length-map s.records awake) (omega (arith, listed none, known.2));
        records = awake_after s.records i does.stepped.worker (turn_awake bucket w ok (ap (λ (x : Worker). x.asleep) is_up));
        bucket = refl;
        was = refl;
        here = sym tells.after ∙ tells.effect;
        there = mark_there s.board b w ok;
        moves = turn_moves bucket w ok;
        aims = turn_aims bucket w ok;
        tells = record { before = tells.before; after = tells.after; went = turn_went bucket w ok; idles = turn_idles bucket w ok };
      }

  -- done or refused, a turn is a walk of its entries
  pub turn_walk : Walk s.floor.buckets (view s) (turn_entry s i) 0 (view (turned_as s i (turn_by s i)))
  turn_walk =
      let Goes : After Turned → Type 0 = λ x. Walk s.floor.buckets (view s) (entry_of s i x.handed.answer) 0 (view (turned_as s i x)) in
      subst Goes (sym turned_is)
      (by_cases Goes (eqb number 0) done (after s.board (refusing number (listed_of s i)))
      (λ is. acts (done_acts (eqb-true number 0 is)) stays) (λ isnot. stays))
