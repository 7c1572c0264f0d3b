-- The promise of a turn, from what its tests and calls came to. Assumes nothing.
use Prim.Native.Nat.{ℕ, ◌≤◌, ◌<◌}
use mathlib.Core.Bool.{true, false}
use mathlib.Core.List.{List}
use mathlib.Core.Path.{◌≡◌, refl, sym, ◌∙◌}
use native.Mathlib.Nat.{mod-lt}
use native.Mathlib.Omega.{arith}
use lib.ListN.{length}
use Rattle.std.proofs.Common.{Result, Ok, Err}
use borrow.Author.Tests.{ne_eqb}
use Rattle.turn.specs.declared.Worker.{Worker}
use Rattle.turn.specs.declared.TurnDone.{TurnDone}
use Rattle.turn.specs.declared.refusal.Refusal.{Refusal}
use Rattle.turn.specs.Number.{number}
use Rattle.turn.specs.Turn.{after, refused, tried_as}
use Rattle.turn.proofs.Refusing.{number_some}
use Rattle.engine.specs.declared.Seat.{Seat}
use Rattle.engine.specs.Room.{Right}
use Rattle.engine.specs.Refusals.{turn_number}
use Rattle.engine.specs.Calls.{try_call}
use Rattle.engine.proofs.Turns.{refused_tried}
use Rattle.hall.specs.Index.{total_in, valid_in, followed}
use Rattle.hall.specs.Refusals.{untrue_after, untrue_for, hall_turn_number}
use Rattle.hall.specs.Calls.{hall_try}
use Rattle.hall.specs.Promises.{TurnKept}
use Rattle.hall.proofs.Agrees.{agrees}
use Rattle.hall.proofs.Numbers.{sizes_number, sized_one, turn_first, turn_after, right_both, untrue_none, refused_index, tried_reports}

-- what following a bucket asks for
abbrev pub Followable : List ℕ → ℕ → ℕ → ℕ → Type 0
Followable index b before after =
    (b < 256) × ((before ≡ after → ⊥) → (valid_in before ≤ total_in index) × (total_in index ≤ 768))

module _ (board index : List ℕ) (s : Seat) (w : Worker) where
  abbrev pub sizes : ℕ
  sizes = sizes_number s.floor board index s.listed

  abbrev told : ℕ
  told = turn_number s.floor board s.listed s.worker w

  -- a turn that is refused with the number that it has
  refuses : (why : Refusal) → number why ≡ hall_turn_number s.floor board index s.listed s.worker w → TurnKept board index s w board index (Err why)
  unfolding hall_try
  refuses why is =
      let some = ne_eqb (number why) 0 (number_some why) in
      record { whole = rw (← is) (refused_tried (number why) s.floor board w _ some refl); kept = refused_index index (refused (number why) w).said some }

  -- the sizes are wrong
  pub wrong_turn : (why : Refusal) → number why ≡ sizes → TurnKept board index s w board index (Err why)
  wrong_turn why is =
      refuses why (sized_one s.floor board index s.listed why is ∙ sym (turn_first s.floor board index s.listed s.worker w (λ none. number_some why (is ∙ none))))

  module _ (sized : sizes ≡ 0) where
    pub both : (length index ≡ 5) × Right s.floor board
    both = right_both s.floor board index s.listed sized

    abbrev fits : Right s.floor board
    fits = both.1

    -- the index is untrue
    pub untrue_turn : (why : Refusal) → untrue_for s.floor board index w ≡ true → number why ≡ untrue_after told true → TurnKept board index s w board index (Err why)
    untrue_turn why is number_is = refuses why (rw (turn_after s.floor board index s.listed s.worker w sized, is) number_is)

    -- the index is true, and the turn was tried
    module _ (later : List ℕ) (r : Result TurnDone Refusal) (is : untrue_for s.floor board index w ≡ false)
        (whole : after later (tried_as w r) ≡ try_call board s w) where
      pub same_whole : after later (tried_as w r) ≡ hall_try board index s w
      unfolding hall_try try_call
      same_whole = rw (turn_after s.floor board index s.listed s.worker w sized, is, untrue_none told) whole

    pub refused_turn :
        (later : List ℕ) (why : Refusal)
        → untrue_for s.floor board index w ≡ false
        → after later (tried_as w (Err why)) ≡ try_call board s w
        → TurnKept board index s w later index (Err why)
    refused_turn later why is whole =
        record {
          whole = same_whole later (Err why) is whole;
          kept = refused_index index (refused (number why) w).said (ne_eqb (number why) 0 (number_some why));
        }

    module _ (later : List ℕ) (t : TurnDone) (is : untrue_for s.floor board index w ≡ false)
        (whole : after later (tried_as w (Ok t)) ≡ try_call board s w) where
      pub done_turn :
          (index' : List ℕ) → index' ≡ followed index t.report.bucket t.report.before t.report.after → TurnKept board index s w later index' (Ok t)
      done_turn index' follows = record { whole = same_whole later (Ok t) is whole; kept = follows }

      pub done_follows : Followable index t.report.bucket t.report.before t.report.after
      unfolding try_call
      done_follows =
          let met = tried_reports told s.floor board w later (tried_as w (Ok t)) whole refl in
          let ok = agrees _ _ _ _ is in
          (omega (arith, met.0, mod-lt w.key fits.some_bucket, fits.buckets), λ changed. (rw met.1 ok.enough, omega (arith, ok.few, fits.buckets)))
