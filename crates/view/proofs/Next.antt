-- What the next scene of a sheet comes to: the last one, or a stage that stands as the sheet's own play does, with the lines that are still to
-- be listed. Assumes nothing.
use Prim.Native.Nat.{ℕ, zero, suc, ◌+◌, ◌≤◌, ◌<◌}
use mathlib.Core.Bool.{Bool, true, false, cond, ◌&&◌}
use mathlib.Core.Path.{◌≡◌, refl, sym, ap, subst, ◌∙◌}
use mathlib.Core.List.{List, [], ◌++◌, append_assoc}
use native.Mathlib.Nat.{mod-lt}
use native.Mathlib.Omega.{arith}
use lib.Dec.{eqb, ltb}
use lib.ListN.{length, get_or, set, replicate, length-set, length-map}
use borrow.Author.Tests.{eqb-true, eqb-false, ltb-true, ltb-false, ne_eqb, le-ltb}
use Rattle.mark.proofs.Choices.{by_cases, not_both}
use Rattle.turn.specs.declared.Worker.{Worker}
use Rattle.turn.specs.Turn.{Tried}
use Rattle.turn.specs.Worker.{idle}
use Rattle.turn.specs.Turn.{Turned, After, after, answer_of, answered}
use Rattle.engine.specs.declared.Floor.{Floor}
use Rattle.engine.specs.declared.Plan.{Plan}
use Rattle.engine.specs.Calls.{Laid}
use Rattle.engine.specs.declared.Seat.{Seat}
use Rattle.engine.specs.Calls.{Started}
use Rattle.engine.specs.declared.Totals.{Totals}
use Rattle.engine.specs.Refusals.{turn_number}
use Rattle.engine.specs.Calls.{lay_call, tried, try_call, turn_call, tallied, capped_totals, record_in, after_turn}
use Rattle.engine.specs.Room.{Few}
use Rattle.engine.proofs.Few.{few_le, few_more, few_exact}
use Rattle.engine.proofs.Keeps.{turn_accepted}
use Rattle.engine.proofs.Turns.{tried_is_turned}
use Rattle.sheet.specs.declared.Call.{Call}
use Rattle.sheet.specs.declared.Span.{Span}
use Rattle.sheet.specs.declared.Field.{Field}
use Rattle.sheet.specs.declared.Field.TheVariants.{Opening, Calling, Turning}
use Rattle.sheet.specs.Fields.{Read, Whole, Refused, read_field}
use Rattle.sheet.specs.declared.Desk.{Desk}
use Rattle.sheet.specs.Play.{desk_of, Outcome, outcome, shut_desk, seat_at, ended_line, open_field, call_field, asked, turn_listed, turn_at_desk, and_then, turns_done}
use Rattle.sheet.specs.Listing.{Ending, over, after_field, one_field, fields_from, words_asked}
use Rattle.sheet.proofs.Fielding.{whole_next, whole_turns}
use Rattle.sheet.proofs.Laying.{laid_refused, laid_done}
use Rattle.sheet.proofs.Turns.{turns_from, turns_here, turns_over}
use Rattle.view.specs.declared.Change.{Change}
use Rattle.view.specs.declared.Scene.{Scene}
use Rattle.view.specs.declared.Scene.TheVariants.{Opened, Began}
use Rattle.view.specs.declared.Stage.{Stage}
use Rattle.view.specs.Stage.{turn_tried, turn_scene, in_field, reading, opened_by, begun_by, open_scene, call_scene, field_scene, next_scene}
use Rattle.view.specs.Scenes.{before_all}
use Rattle.view.proofs.Coming.{desk_in, place, apart, line_of, Placed, Stands, due, Does, opens, begins, turns, Leads, ends, goes, Next}

-- a stage further on than a place is further on than one before it
leads_from :
    {sheet : List ℕ} {from earlier at : ℕ} {d : After Desk} {all : List Change} {lines : List ℕ} {x : After Stage}
    → earlier ≤ from
    → Leads sheet from at d all lines x
    → Leads sheet earlier at d all lines x
leads_from less (ends over none is) = ends over none is
leads_from less (goes more stands later is does) = goes more stands (omega arith) is does

-- ---- a turn

-- the turn at the desk is the engine's
turn_at_desk_lem :
    (i : ℕ) (s : After Desk) (y : After Tried)
    → let w = record_in s.handed.records i in
    after y.words (answered y.handed) ≡ turn_call s.words (seat_at s.handed.floor i) w
    → turn_listed i w y.words y.handed.worker (answer_of y.handed.said) s.handed ≡ turn_at_desk i s
unfolding turn_at_desk
turn_at_desk_lem i s y is =
    let w = record_in s.handed.records i in
    ap (λ (x : After Turned). turn_listed i w x.words x.handed.worker x.handed.answer s.handed) is

-- what is tried is the engine's turn
tried_turn :
    (board : List ℕ) (seat : Seat) (w : Worker)
    → let y = try_call board seat w in
    after y.words (answered y.handed) ≡ turn_call board seat w
unfolding try_call turn_call
tried_turn board seat w = tried_is_turned _ _ _ _

-- a turn that is done is in one of the floor's buckets
tried_bucket :
    (board : List ℕ) (seat : Seat) (w : Worker)
    → eqb (try_call board seat w).handed.said.refusal 0 ≡ true
    → (try_call board seat w).handed.said.report.bucket < 256
unfolding try_call tried
tried_bucket board seat w =
    let f = seat.floor in
    let number = turn_number f board seat.listed seat.worker w in
    by_cases (λ (y : After Tried). eqb y.handed.said.refusal 0 ≡ true → y.handed.said.report.bucket < 256) (eqb number 0) _ _
    (λ is done.
    let right = (turn_accepted f board seat.listed seat.worker w (eqb-true number 0 is)).0 in
    let under = mod-lt w.key right.some_bucket in
    omega (arith, under, right.buckets))
    (λ isnot done. not_both (eqb number 0) isnot done)

module _ (sheet : List ℕ) (short : length sheet ≤ 16384) where
  module _ (at more : ℕ) (s : After Stage) (stands : Stands sheet more s) (left : (place s).turn < (place s).end) where
    abbrev i : ℕ
    i = get_or sheet (place s).turn 0

    abbrev w : Worker
    w = record_in s.handed.records i

    abbrev ending : Outcome → Ending
    ending = after_field (fields_from more sheet) (length sheet) (place s).at (place s).end

    abbrev others : After Desk → Outcome
    others = turns_done (turns_from sheet (place s).end ((place s).turn + 1))

    -- after it the others of its field are due
    turn_due : (o : Outcome) → o ≡ turn_at_desk i (desk_in s) → (ending (and_then o others)).handed.lines ≡ due sheet more s
    turn_due o is =
        let inside = stands.placed.inside in
        rw is (ap (λ (y : Outcome). (ending y).handed.lines) (sym (turns_here sheet (place s).end (place s).turn (desk_in s) left inside)))

    tried_leads :
        (y : After Tried)
        → after y.words (answered y.handed) ≡ turn_call s.words (seat_at s.handed.floor i) w
        → (eqb y.handed.said.refusal 0 ≡ true → y.handed.said.report.bucket < 256)
        → (t : Bool)
        → eqb y.handed.said.refusal 0 ≡ t
        → Leads sheet (place s).turn at (desk_in s) s.handed.changes (due sheet more s) (turn_tried s.handed i w y)
    tried_leads y turn known true done =
        let is = turn_at_desk_lem i (desk_in s) y turn in
        let report = y.handed.said.report in
        let t = tallied w.place report s.handed.totals in
        let inside = stands.placed.inside in
        let few : Few ((place s).turn + 1) t = few_more (place s).turn w.place report s.handed.totals stands.placed.few in
        let exact : capped_totals t ≡ t = few_exact ((place s).turn + 1) t (omega arith) few in
        let desk : Totals → After Desk =
        λ u. after y.words (desk_of s.handed.floor (after_turn s.handed.records i y.handed.worker) u) in
        let line : Totals → List ℕ = λ u. ended_line u.turns i w.kind report.progress in
        let u = capped_totals t in
        let own : turn_at_desk i (desk_in s) ≡ outcome (line u) (desk u) 0 =
        sym (rw done at is) ∙ ap (λ (v : Totals). outcome (line v) (desk v) 0) (sym exact) in
        rw done
        (goes more
        (record {
          placed =
              record {
                few = subst (Few ((place s).turn + 1)) (sym exact) few;
                all = simp (length-set, length-map) stands.placed.all;
                left = omega arith;
                inside = inside;
              };
          begun = stands.begun;
          some = stands.some;
          enough = stands.enough;
          goes_on = stands.goes_on;
        })
        (omega arith)
        (sym (append_assoc (line u) (others (desk u)).lines _) ∙ turn_due (outcome (line u) (desk u) 0) (sym own))
        (turns i
        (record {
          later = y.handed.worker;
          report = report;
          scene = refl;
          notes = refl;
          bucket = known done;
          counted = exact;
          answer = sym (ap (λ (z : After Turned). z.handed.answer) turn) ∙ rw done;
          is = own;
        })))
    tried_leads y turn known false refused =
        let is = turn_at_desk_lem i (desk_in s) y turn in
        let number = y.handed.said.refusal in
        let e = turn_due (outcome [] (after y.words (desk_in s).handed) number) (rw refused at is) in
        rw refused (ends refl (λ turn. apart (cc)) (rw (refused, refused) at e))

    -- so it is with the next turn of a field
    turn_leads : Leads sheet (place s).turn at (desk_in s) s.handed.changes (due sheet more s) (turn_scene i s)
    unfolding turn_scene
    turn_leads = tried_leads (try_call s.words (seat_at s.handed.floor i) w) (tried_turn s.words (seat_at s.handed.floor i) w)
        (tried_bucket s.words (seat_at s.handed.floor i) w) _ refl

  -- ---- a field

  module _ (more : ℕ) (s : After Stage) (placed : Placed sheet s) (enough : length sheet ≤ (place s).end + more) where
    abbrev rest : ℕ → After Desk → Ending
    rest = fields_from more sheet

    -- the lines from the next field on, as it is read
    abbrev from_field : Read → List ℕ
    from_field r = (one_field rest sheet (place s).end (desk_in s) r).handed.lines

    -- a field without turns that was done, and left this
    module _ (words : List ℕ) (records : List Worker) (floor : Floor) (scene : Scene) (next : ℕ) where
      abbrev left_by : After Stage
      left_by =
          after words
          (record {
            records = records;
            changes = s.handed.changes;
            floor = floor;
            totals = s.handed.totals;
            cursor = in_field (place s) next next;
            scene = scene;
          })

      field_done_lem :
          (f : Field) (o : Outcome)
          → read_field sheet (place s).end ≡ Whole f next
          → length records ≡ 64
          → line_of left_by ≡ []
          → outcome [] (desk_in left_by) 0 ≡ o
          → Does sheet (place s).end (desk_in s) s.handed.changes left_by
          → Next sheet s (after_field rest (length sheet) (place s).end next o).handed.lines left_by
      field_done_lem f o read all none is does =
          let ends = whole_next sheet (place s).end f next read in
          let before = placed.left in
          goes more
          (record {
            placed =
                record { few = few_le (place s).turn next _ (omega (arith, ends.0)) placed.few; all = all; left = omega arith; inside = ends.1 };
            begun = omega arith;
            some = omega (arith, ends.0);
            enough = omega (arith, ends.0);
            goes_on = refl;
          })
          (omega (arith, ends.0))
          (ap (λ (l : List ℕ). l ++ due sheet more left_by) none
          ∙ ap (λ (y : Outcome). (after_field rest (length sheet) (place s).end next y).handed.lines) (turns_over sheet next (desk_in left_by) ∙ is))
          does

    opened_leads :
        (p : Plan) (next : ℕ) (x : After Laid)
        → read_field sheet (place s).end ≡ Whole (Opening p) next
        → x ≡ lay_call s.words s.handed.floor p.workers p
        → (t : Bool)
        → eqb x.handed.refusal 0 ≡ t
        → Next sheet s (from_field (Whole (Opening p) next)) (opened_by p (reading (place s) next next s.handed) x)
    opened_leads p next x read was true is =
        let laid = laid_done p (desk_in s) x.words x.handed was (eqb-true _ 0 is) placed.all in
        rw is
        (field_done_lem x.words (replicate 64 idle) x.handed.floor (Opened p) next (Opening p) (open_field p (desk_in s)) read refl refl laid
        (opens next p read refl refl (sym laid)))
    opened_leads p next x read was false isnot =
        rw (isnot, ← laid_refused p (desk_in s) x.words x.handed was (eqb-false _ 0 isnot), isnot) (ends refl (λ turn. apart (cc)) refl)

    module _ (c : Call) (next : ℕ) where
      -- the start that it asks for
      abbrev started : Started
      started = asked s.words (seat_at s.handed.floor c.worker) (record_in s.handed.records c.worker) c

      called_leads :
          read_field sheet (place s).end ≡ Whole (Calling c) next
          → (t : Bool)
          → eqb started.refusal 0 ≡ t
          → Next sheet s (from_field (Whole (Calling c) next))
          (after s.words (begun_by c (reading (place s) next next s.handed) started))
      unfolding call_field
      called_leads read true is =
          rw is
          (field_done_lem s.words (set s.handed.records c.worker started.worker) started.floor (Began c) next (Calling c) _ read
          (simp length-set placed.all) refl refl
          (begins next c read refl refl (ap (outcome [] (call_field c (desk_in s)).left) (eqb-true _ 0 is))))
      called_leads read false isnot = rw isnot (ends refl (λ turn. apart (cc)) refl)

    turns_lead :
        (span : Span) (next : ℕ)
        → read_field sheet (place s).end ≡ Whole (Turning span) next
        → Next sheet s (from_field (Whole (Turning span) next)) (field_scene sheet s (Whole (Turning span) next))
    turns_lead span next read =
        let ends = whole_next sheet (place s).end (Turning span) next read in
        let turns = whole_turns sheet (place s).end span next read in
        let before = placed.left in
        let at : After Stage = after s.words (reading (place s) span.start next s.handed) in
        let stands : Stands sheet more at =
        record {
          placed =
              record {
                few = few_le (place s).turn span.start _ (omega (arith, turns.0)) placed.few;
                all = placed.all;
                left = omega (arith, turns.1, turns.2);
                inside = ends.1;
              };
          begun = omega arith;
          some = omega (arith, ends.0);
          enough = omega (arith, ends.0);
          goes_on = refl;
        } in
        rw turns.1
        (leads_from (omega (arith, turns.0)) (turn_leads (place s).end more at stands (omega (arith, turns.0, ends.0))))

    -- so it is with the next field
    field_leads :
        (r : Read) → read_field sheet (place s).end ≡ r → Next sheet s (from_field r) (field_scene sheet s r)
    unfolding open_scene call_scene
    field_leads (Refused at) read = ends refl (λ turn. apart (cc)) refl
    field_leads (Whole (Opening p) next) read = opened_leads p next _ read refl _ refl
    field_leads (Whole (Calling c) next) read = called_leads c next read _ refl
    field_leads (Whole (Turning span) next) read = turns_lead span next read

  -- ---- the next scene

  -- the lines after the turns of a field
  ended_due :
      (more : ℕ) (s : After Stage)
      → Stands sheet more s
      → (place s).end ≤ (place s).turn
      → (cond (eqb (place s).end (length sheet)) (over (desk_in s)) (fields_from more sheet (place s).end (desk_in s))).handed.lines ≡ due sheet more s
  ended_due more s stands none =
      let before = stands.placed.left in
      let last : (place s).turn ≡ (place s).end = omega arith in
      rw (last, turns_over sheet (place s).end (desk_in s))

  -- no turn of a field is left
  ended_leads :
      (more : ℕ) (s : After Stage)
      → Stands sheet more s
      → (place s).end ≤ (place s).turn
      → (t : Bool)
      → eqb (place s).end (length sheet) ≡ t
      → Next sheet s (due sheet more s) (next_scene sheet s)
  unfolding next_scene fields_from
  ended_leads more s stands none true is =
      let begun = stands.begun in
      rw (← ended_due more s stands none, le-ltb 16384 (length sheet) short, le-ltb (place s).turn (place s).end none, is)
      (rw (ne_eqb (place s).field 0 (omega arith)) (ends refl (λ turn. apart (cc)) refl))
  ended_leads zero s stands none false isnot = let inside = stands.placed.inside in absurd (omega (arith, stands.enough))
  ended_leads (suc more) s stands none false isnot =
      let enough = stands.enough in
      rw (← ended_due (suc more) s stands none, le-ltb 16384 (length sheet) short, le-ltb (place s).turn (place s).end none, isnot)
      (field_leads more s stands.placed (omega arith) (read_field sheet (place s).end) refl)

  -- from where a sheet stands
  pub next_leads : (more : ℕ) (s : After Stage) → Stands sheet more s → Next sheet s (due sheet more s) (next_scene sheet s)
  unfolding next_scene
  next_leads more s stands = by (ltb (place s).turn (place s).end) refl
    where
      by : (t : Bool) → ltb (place s).turn (place s).end ≡ t → Next sheet s (due sheet more s) (next_scene sheet s)
      by true left = rw (le-ltb 16384 (length sheet) short, left) (turn_leads (place s).end more s stands (ltb-true _ _ left))
      by false none = ended_leads more s stands (ltb-false _ _ none) _ refl

  -- before the first field no sheet is over
  never_yet : (t : Bool) → (t && false) ≡ false
  never_yet true = refl
  never_yet false = refl

  -- from where it begins
  pub first_leads :
      Next sheet (before_all sheet) (fields_from (suc (length sheet)) sheet 0 (after (replicate (words_asked sheet) 0) shut_desk)).handed.lines
      (next_scene sheet (before_all sheet))
  unfolding fields_from next_scene
  first_leads =
      let placed : Placed sheet (before_all sheet) =
      record {
        few = record { turns = omega arith; changes = omega arith; lost = omega arith; full = omega arith };
        all = refl;
        left = omega arith;
        inside = omega arith;
      } in
      rw (le-ltb 16384 (length sheet) short, never_yet (eqb 0 (length sheet)))
      (field_leads (length sheet) (before_all sheet) placed (omega arith) (read_field sheet 0) refl)
