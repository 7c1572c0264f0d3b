-- So much room is enough for a page of scenes: only the last scene of a sheet tells of every record. Assumes nothing.
use Prim.Native.Nat.{ℕ, zero, suc, ◌+◌, ◌*◌, ◌≤◌}
use mathlib.Core.Bool.{Bool, true, false, cond, ◌&&◌, not}
use mathlib.Core.Path.{◌≡◌, ◌∙◌}
use mathlib.Core.List.{List, []}
use native.Mathlib.Omega.{arith}
use lib.Dec.{eqb, ltb}
use lib.ListN.{length, take, drop, get_or, length-append, length-set, length-replicate}
use lib.Seq.{take-nil, drop-nil}
use Rattle.mark.proofs.Choices.{by_cases}
use Rattle.turn.specs.declared.Worker.{Worker}
use Rattle.turn.specs.Turn.{Tried}
use Rattle.turn.specs.Worker.{idle}
use Rattle.turn.specs.Turn.{After, after}
use Rattle.engine.specs.declared.Plan.{Plan}
use Rattle.engine.specs.Calls.{Laid}
use Rattle.engine.specs.Calls.{Started}
use Rattle.engine.specs.Calls.{record_in, lay_call, try_call, count_call}
use Rattle.engine.proofs.Sleeping.{after_long}
use Rattle.sheet.specs.declared.Call.{Call}
use Rattle.sheet.specs.declared.Field.TheVariants.{Opening, Calling, Turning}
use Rattle.sheet.specs.Fields.{Read, Whole, Refused, read_field}
use Rattle.sheet.specs.Play.{asked}
use Rattle.view.specs.declared.Acted.{Acted}
use Rattle.view.specs.declared.Stop.{Stop}
use Rattle.view.specs.declared.Cursor.{Cursor}
use Rattle.view.specs.declared.Stage.{Stage}
use Rattle.view.specs.Stage.{reading, stopped, ended, lots_in, seat_of, turned, acted, turn_tried, turn_scene, opened_by, begun_by, open_scene, call_scene, field_scene, next_scene}
use Rattle.view.specs.Telling.{turn_told, open_told, begin_told, stage_told}
use Rattle.view.specs.Scenes.{scenes_from, before_all, scenes, all_told, per_page, on_page, refusal_in, all_refused, refusal_text}
use Rattle.view.proofs.Length.{turn_fits, open_fits, begin_fits, stop_fits, over_fits}

-- the room that a scene may take: more of it only where all is over
abbrev room : After Stage → ℕ
room x = 1024 + cond x.handed.cursor.over 5184 0

-- a stage that a scene leaves has a record for each of 64 workers, the scene has room, and only the last may be a refusal
pub record Roomy (x : After Stage) : Type 0 where
  pub sized : length x.handed.records ≡ 64
  pub fits : length (stage_told x) ≤ room x
  pub said : length (refusal_in x.handed.scene) ≤ cond x.handed.cursor.over 1024 0

-- within 1024 bytes there is room, over or not
plain : (b : Bool) (l : List ℕ) → length l ≤ 1024 → length l ≤ 1024 + cond b 5184 0
plain true l h = omega arith
plain false l h = omega arith

module _ (board : List ℕ) (s : Stage) (sized : length s.records ≡ 64) where
  stop_roomy : (number offset turn worker : ℕ) → Roomy (after board (stopped number offset turn worker s))
  stop_roomy number offset turn worker =
      let stop : Stop = record { offset = offset; field = s.cursor.field; turn = turn; number = number; worker = worker } in
      record { sized = sized; fits = omega (arith, stop_fits stop); said = stop_fits stop }

  end_roomy : Roomy (after board (ended board s))
  end_roomy =
      let long = over_fits (lots_in (count_call board s.floor)) s.totals s.records in
      record { sized = sized; fits = omega (arith, sized, long); said = omega arith }

-- ---- the scenes

module _ (s : Stage) (sized : length s.records ≡ 64) where
  -- a turn that was tried
  tried_roomy : (i : ℕ) (w : Worker) (x : After Tried) → Roomy (turn_tried s i w x)
  tried_roomy i w x =
      let t : Tried = x.handed in
      let v : Stage = turned s i w t.worker t.said.report in
      let a : Acted = acted s i w t.worker t.said.report in
      by_cases (λ (v : Stage). Roomy (after x.words v)) (eqb t.said.refusal 0) v _
      (λ done.
      record {
        sized = after_long s.records i t.worker ∙ sized;
        fits = plain s.cursor.over (turn_told x.words v.totals.turns a) (turn_fits x.words v.totals.turns a);
        said = omega arith;
      })
      (λ refused. stop_roomy x.words s sized t.said.refusal _ _ i)

  -- an opening that was laid
  open_roomy : (p : Plan) (x : After Laid) → Roomy (opened_by p s x)
  open_roomy p x =
      by_cases (λ (v : Stage). Roomy (after x.words v)) (eqb x.handed.refusal 0) _ _
      (λ done. record { sized = length-replicate 64 idle; fits = plain s.cursor.over (open_told p) (open_fits p); said = omega arith })
      (λ refused. stop_roomy x.words s sized x.handed.refusal _ 0 0)

  -- a call that was started
  begun_roomy : (board : List ℕ) (c : Call) (x : Started) → Roomy (after board (begun_by c s x))
  begun_roomy board c x =
      by_cases (λ (v : Stage). Roomy (after board v)) (eqb x.refusal 0) _ _
      (λ done.
      record {
        sized = length-set s.records c.worker x.worker ∙ sized;
        fits = plain s.cursor.over (begin_told c) (begin_fits c);
        said = omega arith;
      })
      (λ refused. stop_roomy board s sized x.refusal _ 0 c.worker)

-- a turn
turn_roomy : (i : ℕ) (s : After Stage) → length s.handed.records ≡ 64 → Roomy (turn_scene i s)
unfolding turn_scene
turn_roomy i s sized =
    let w : Worker = record_in s.handed.records i in
    tried_roomy s.handed sized i w (try_call s.words (seat_of s.handed i) w)

-- an opening
opening_roomy : (p : Plan) (s : After Stage) → length s.handed.records ≡ 64 → Roomy (open_scene p s)
unfolding open_scene
opening_roomy p s sized = open_roomy s.handed sized p (lay_call s.words s.handed.floor p.workers p)

-- a call
calling_roomy : (c : Call) (s : After Stage) → length s.handed.records ≡ 64 → Roomy (call_scene c s)
unfolding call_scene
calling_roomy c s sized =
    begun_roomy s.handed sized s.words c
    (asked s.words (seat_of s.handed c.worker) (record_in s.handed.records c.worker) c)

-- a field
field_roomy : (sheet : List ℕ) (s : After Stage) (r : Read) → length s.handed.records ≡ 64 → Roomy (field_scene sheet s r)
field_roomy sheet s (Refused place) sized = stop_roomy s.words (reading s.handed.cursor place place s.handed) sized 8 place 0 0
field_roomy sheet s (Whole (Opening p) next) sized =
    opening_roomy p (after s.words (reading s.handed.cursor next next s.handed)) sized
field_roomy sheet s (Whole (Calling c) next) sized =
    calling_roomy c (after s.words (reading s.handed.cursor next next s.handed)) sized
field_roomy sheet s (Whole (Turning span) next) sized =
    turn_roomy (get_or sheet span.start 0) (after s.words (reading s.handed.cursor span.start next s.handed)) sized

-- one of two
either_roomy : (t : Bool) {x y : After Stage} → Roomy x → Roomy y → Roomy (cond t x y)
either_roomy true h g = h
either_roomy false h g = g

-- whichever comes next
pub next_roomy : (sheet : List ℕ) (s : After Stage) → length s.handed.records ≡ 64 → Roomy (next_scene sheet s)
unfolding next_scene
next_roomy sheet s sized =
    let c : Cursor = s.handed.cursor in
    either_roomy (ltb 16384 (length sheet)) (stop_roomy s.words s.handed sized 9 0 0 0)
    (either_roomy (ltb c.turn c.end) (turn_roomy (get_or sheet c.turn 0) s sized)
    (either_roomy (eqb c.end (length sheet) && not (eqb c.field 0)) (end_roomy s.words s.handed sized)
    (field_roomy sheet s (read_field sheet c.end) sized)))

-- ---- a page

-- no scenes
none_fits : (from n : ℕ) → length (all_told (take n (drop from []))) ≤ 0
unfolding all_told
none_fits from n = rw (drop-nil from, take-nil n) (omega arith)

-- scenes that come after one: none where all is over
rest_fits :
    (over : Bool) (xs : List (After Stage)) (from n : ℕ)
    → length (all_told (take n (drop from xs))) ≤ 1024 * n + 5184
    → length (all_told (take n (drop from (cond over [] xs)))) ≤ 1024 * n + cond over 0 5184
rest_fits true xs from n h = omega (arith, none_fits from n)
rest_fits false xs from n h = h

-- a scene and those after it: one of them may be the last
then_fits : (over : Bool) (n j k : ℕ) → j ≤ 1024 + cond over 5184 0 → k ≤ 1024 * n + cond over 0 5184 → j + k ≤ 1024 * suc n + 5184
then_fits true n j k h g = omega arith
then_fits false n j k h g = omega arith

under : (over : Bool) (n k : ℕ) → k ≤ 1024 * n + cond over 0 5184 → k ≤ 1024 * n + 5184
under true n k h = omega arith
under false n k h = h

-- scenes of a sheet from any of them on: so much for each, and more for the one that may be the last
part_fits :
    (more : ℕ) (sheet : List ℕ) (s : After Stage) → length s.handed.records ≡ 64
    → (from n : ℕ) → length (all_told (take n (drop from (scenes_from more sheet s)))) ≤ 1024 * n + 5184
unfolding scenes_from all_told
part_fits zero sheet s sized from n = omega (arith, none_fits from n)
part_fits (suc more) sheet s sized zero zero = omega arith
part_fits (suc more) sheet s sized zero (suc n) =
    let x : After Stage = next_scene sheet s in
    let roomy : Roomy x = next_roomy sheet s sized in
    let rest : List (After Stage) = scenes_from more sheet x in
    let over : Bool = x.handed.cursor.over in
    rw (length-append (stage_told x) (all_told (take n (cond over [] rest))))
    (then_fits over n _ _ roomy.fits (rest_fits over rest 0 n (part_fits more sheet x roomy.sized 0 n)))
part_fits (suc more) sheet s sized (suc from) n =
    let x : After Stage = next_scene sheet s in
    let roomy : Roomy x = next_roomy sheet s sized in
    let over : Bool = x.handed.cursor.over in
    under over n _ (rest_fits over (scenes_from more sheet x) from n (part_fits more sheet x roomy.sized from n))

-- THE ROOM FOR A PAGE
pub page_fits : (sheet : List ℕ) (page : ℕ) → length (all_told (on_page sheet page)) ≤ 1024 * per_page + 64 * 81
unfolding scenes
page_fits sheet page =
    part_fits (length sheet + 2) sheet (before_all sheet) (length-replicate 64 idle) (per_page * page) per_page

-- ---- the refusal alone

-- the sentence of a scene, and what is said of those after it
last_fits :
    (over : Bool) (xs : List (After Stage)) (j : ℕ)
    → j ≤ cond over 1024 0
    → length (all_refused xs) ≤ 1024
    → j + length (all_refused (cond over [] xs)) ≤ 1024
unfolding all_refused
last_fits true xs j h g = omega arith
last_fits false xs j h g = omega arith

-- of all scenes from where a sheet stands
refused_fits :
    (more : ℕ) (sheet : List ℕ) (s : After Stage)
    → length s.handed.records ≡ 64
    → length (all_refused (scenes_from more sheet s)) ≤ 1024
unfolding scenes_from all_refused
refused_fits zero sheet s sized = omega arith
refused_fits (suc more) sheet s sized =
    let x : After Stage = next_scene sheet s in
    let roomy : Roomy x = next_roomy sheet s sized in
    let rest : List (After Stage) = scenes_from more sheet x in
    let over : Bool = x.handed.cursor.over in
    rw (length-append (refusal_in x.handed.scene) (all_refused (cond over [] rest)))
    (last_fits over rest _ roomy.said (refused_fits more sheet x roomy.sized))

-- THE ROOM FOR A REFUSAL
pub refusal_fits : (sheet : List ℕ) → length (refusal_text sheet) ≤ 1024
unfolding scenes refusal_text
refusal_fits sheet = refused_fits (length sheet + 2) sheet (before_all sheet) (length-replicate 64 idle)
