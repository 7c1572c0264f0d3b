-- The starts of the engine at a desk's seats: what holds of each, and who they are given to. Assumes nothing.
use Prim.Native.Nat.{ℕ, ◌≤◌, ◌<◌}
use mathlib.Core.Bool.{Bool, true, false, cond}
use mathlib.Core.Path.{◌≡◌, refl, sym, ap, ◌∙◌}
use native.Mathlib.Omega.{arith}
use mathlib.Core.List.{List}
use lib.Dec.{eqb}
use lib.ListN.{set}
use lib.Seq.{set-get_or}
use Rattle.turn.specs.Turn.{after}
use borrow.Author.Tests.{leb-false, eqb-true}
use Rattle.mark.proofs.Choices.{by_cases, passes}
use Rattle.turn.specs.declared.Worker.{Worker}
use Rattle.std.specs.Prelude.{Result, Ok, Err}
use Rattle.turn.specs.declared.refusal.Refusal.{Refusal}
use Rattle.turn.specs.Number.{number}
use Rattle.engine.specs.declared.Floor.{Floor}
use Rattle.engine.specs.declared.Begun.{Begun}
use Rattle.engine.specs.declared.Asked.TheVariants.{Look, Insert, Remove}
use Rattle.engine.specs.Calls.{blank, started_as, asked_call, look_call, insert_call, remove_call}
use Rattle.engine.specs.declared.Seat.{Seat}
use Rattle.engine.specs.Calls.{Started}
use Rattle.engine.specs.Refusals.{start_number, wrong_sizes, no_worker}
use Rattle.engine.specs.Calls.{spending, start_call}
use Rattle.engine.proofs.Sizes.{right_sizes}
use Rattle.sheet.specs.declared.Call.{Call}
use Rattle.sheet.specs.Play.{Desk, desk_of, seat_of, record_of, asked_of, asked, call_field}
use Rattle.sheet.specs.Promises.{Comes}

module _ (board : List ℕ) (s : Seat) (w : Worker) where
  -- what holds of every start, whatever ticket it spends, holds of the one that a call asks for; a look and a remove leave the last
  pub asked_is :
      (P : Started → Type 0)
      → ((late : Bool) (new : Worker) (ticket : ℕ) → P (start_call board s w late new (spending s.floor ticket)))
      → (c : Call)
      → P (asked board s w c)
  unfolding asked
  asked_is P every c =
      by_cases P (eqb c.kind 1) _ _ (λ is. every _ _ s.floor.last)
      (λ other. by_cases P (eqb c.kind 2) _ _ (λ is. every _ _ c.ticket) (λ third. every _ _ s.floor.last))

  -- a start that is not refused is for a worker that there is, and there are 64 at most
  abbrev Known : Started → Type 0
  Known x = x.refusal ≡ 0 → (s.worker < s.floor.workers) × (s.floor.workers ≤ 64)

  number_known :
      (late : Bool)
      → start_number s.floor board s.listed s.worker w late ≡ 0
      → (s.worker < s.floor.workers) × (s.floor.workers ≤ 64)
  unfolding start_number wrong_sizes
  number_known late none =
      let sizes = passes (wrong_sizes s.floor board s.listed) 0 _ none in
      let one = passes (no_worker s.floor s.worker) 1 _ sizes.1 in
      (leb-false s.floor.workers s.worker one.0, (right_sizes s.floor board s.listed sizes.0).workers)

  start_known : (late : Bool) (new : Worker) (f : Floor) → Known (start_call board s w late new f)
  unfolding start_call
  start_known late new f =
      by_cases Known (eqb (start_number s.floor board s.listed s.worker w late) 0) _ _
      (λ is none. number_known late (eqb-true _ 0 is))
      (λ isnot. number_known late)

  -- so is one that a call asks for
  pub asked_known : (c : Call) → (asked board s w c).refusal ≡ 0 → (s.worker < s.floor.workers) × (s.floor.workers ≤ 64)
  asked_known = asked_is Known (λ late new ticket. start_known late new _)

  -- a start, accepted or refused, leaves as many workers
  start_workers :
      (late : Bool) (new : Worker) (ticket : ℕ)
      → (start_call board s w late new (spending s.floor ticket)).floor.workers ≡ s.floor.workers
  unfolding start_call
  start_workers late new ticket =
      by_cases (λ (x : Started). x.floor.workers ≡ s.floor.workers)
      (eqb (start_number s.floor board s.listed s.worker w late) 0) _ _ (λ is. refl) (λ isnot. refl)

  -- so does one that a call asks for
  pub asked_workers : (c : Call) → (asked board s w c).floor.workers ≡ s.floor.workers
  asked_workers = asked_is (λ (x : Started). x.floor.workers ≡ s.floor.workers) start_workers

-- a start of what a call asks for is the start of its kind
pub asked_made : (board : List ℕ) (s : Seat) (w : Worker) (c : Call) → asked_call board s w (asked_of c) ≡ asked board s w c
unfolding asked
asked_made board s w c = by (eqb c.kind 1) (eqb c.kind 2)
  where
    by :
        (t u : Bool)
        → asked_call board s w (cond t (Look c.lot) (cond u (Insert (record { lot = c.lot; ticket = c.ticket })) (Remove c.lot)))
        ≡ cond t (look_call board s w c.lot) (cond u (insert_call board s w (record { lot = c.lot; ticket = c.ticket })) (remove_call board s w c.lot))
    by true u = refl
    by false true = refl
    by false false = refl

-- ---- at a desk

module _
    (c : Call) (board : List ℕ) (d : Desk) (r : Result Begun Refusal)
    (was : started_as d.floor (record_of d c.worker) r ≡ asked board (seat_of d c.worker) (record_of d c.worker) c)
  where
    -- a call that is refused
    pub call_refused : (why : Refusal) → r ≡ Err why → Comes (call_field c (after board d)) board d (number why)
    unfolding call_field
    call_refused why is = rw (← was, is) (record { words = refl; stop = refl; desk = rw (set-get_or d.records c.worker blank) refl })

    module _ (b : Begun) (is : r ≡ Ok b) where
      -- a call that is started is for a worker that has a record
      pub call_known : c.worker < 64
      call_known =
          let none = sym (ap (λ (x : Started). x.refusal) was) ∙ ap (λ (y : Result Begun Refusal). (started_as d.floor (record_of d c.worker) y).refusal) is in
          let known = asked_known board (seat_of d c.worker) (record_of d c.worker) c none in
          omega (arith, known.0, known.1)

      -- and is put there
      pub call_done : Comes (call_field c (after board d)) board (desk_of b.floor (set d.records c.worker b.worker) d.totals) 0
      unfolding call_field
      call_done = rw (← was, is) (record { words = refl; stop = refl; desk = refl })
