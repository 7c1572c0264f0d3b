-- The scenes of a sheet are those of a history: the turns among them are the trace. Assumes nothing.
use Prim.Native.Nat.{ℕ, ◌≤◌}
use mathlib.Core.Bool.{false}
use mathlib.Core.Path.{◌≡◌, sym, ap, subst, ◌∙◌}
use mathlib.Core.List.{List, [], ◌∷◌, ◌++◌, append-nil, append_assoc}
use native.Mathlib.Omega.{arith}
use lib.ListN.{length}
use Rattle.mark.proofs.Choices.{not_both}
use Rattle.turn.specs.Asleep.{awake}
use Rattle.turn.specs.Turn.{After}
use Rattle.engine.specs.Calls.{record_in}
use Rattle.engine.proofs.Keeps.{turn_accepted}
use Rattle.sheet.specs.Fields.{Bytes}
use Rattle.sheet.specs.declared.Desk.{Desk}
use Rattle.sheet.specs.Play.{Outcome, seat_at, shut_floor, call_field, turn_at_desk}
use Rattle.sheet.proofs.Fielding.{later_field}
use Rattle.sheet.proofs.Seats.{asked_known}
use Rattle.history.specs.Trace.{Turn, Entry, acted}
use Rattle.history.specs.History.{Call, turn, opened, trace, trace_from}
use Rattle.history.specs.History as History
use Rattle.view.specs.declared.Acted.{Acted}
use Rattle.view.specs.declared.Scene.{Scene}
use Rattle.view.specs.declared.Scene.TheVariants.{Nothing, Opened, Began, Turned, Stopped, Over}
use Rattle.view.specs.declared.Stage.{Stage}
use Rattle.view.specs.Stage.{next_scene}
use Rattle.view.specs.Scenes.{before_all}
use Rattle.view.proofs.Coming as Coming
use Rattle.view.proofs.Coming.{desk_in, place, Does, opens, begins, turns}
use Rattle.view.proofs.Walking.{Reached, at_start_lem, in_field, Onward, no_more, onward, next_onward, Carries}
use Rattle.plays.specs.Points.{Point, call_of, stays, FloorAccepted, first_point}
use Rattle.plays.proofs.Calling.{call_stands, trace_is as trace_call}
use Rattle.plays.proofs.Plays.{plays_history}
use Rattle.plays.proofs.Readings.{call_ticket}
use Rattle.plays.proofs.Standing.{Stands, elsewhere}
use Rattle.plays.proofs.Turning.{turn_stop, turn_stands, trace_turn}

-- the history's turn that a turn of the scenes is
abbrev pub turn_of : Acted → Turn
turn_of a = record { worker = a.worker; was = awake a.before; report = a.report }

-- the entries of a scene
abbrev pub entries_in : Scene → List Entry
entries_in Nothing = []
entries_in (Opened p) = []
entries_in (Began c) = []
entries_in (Turned a) = acted (turn_of a) ∷ []
entries_in (Stopped s) = []
entries_in (Over lots) = []

-- the entries of scenes
unfoldable pub entries_of : List (After Stage) → List Entry
entries_of [] = []
entries_of (x ∷ xs) = entries_in x.handed.scene ++ entries_of xs

-- those of scenes and one more
pub entries_then : (xs : List (After Stage)) (x : After Stage) → entries_of (xs ++ (x ∷ [])) ≡ entries_of xs ++ entries_in x.handed.scene
unfolding entries_of
entries_then [] x = append-nil (entries_in x.handed.scene)
entries_then (y ∷ ys) x =
    ap (λ (l : List Entry). entries_in y.handed.scene ++ l) (entries_then ys x)
    ∙ sym (append_assoc (entries_in y.handed.scene) (entries_of ys) (entries_in x.handed.scene))

-- the point of a play at a desk, with these lines; where it stands in the sheet is left out
abbrev pub point_at : After Desk → List ℕ → Point
point_at d lines = record { field = 0; next = 0; turns = []; left = d; lines = lines }

-- a stage stands as calls leave an opened board, of which the scenes so far have the turns
pub record Played (sheet : List ℕ) (done : List (After Stage)) (s : After Stage) : Type 0 where
  pub short : length sheet ≤ 16384
  pub more : ℕ
  pub stands : Coming.Stands sheet more s
  pub opening : History.Opening
  pub calls : List Call
  pub lines : List ℕ
  pub so : Stands opening calls (point_at (desk_in s) lines)
  pub same : trace (opened opening) calls ≡ entries_of done

-- before the floor is open nothing is played
pub data Plays (sheet : List ℕ) : List (After Stage) → After Stage → Type 0 where
  not_yet : Plays sheet [] (before_all sheet)
  plays : {done : List (After Stage)} {s : After Stage} → Played sheet done s → Plays sheet done s

-- it is a stage that the sheet comes to
pub plays_reached : {sheet : List ℕ} {done : List (After Stage)} {s : After Stage} → Plays sheet done s → Reached sheet s
plays_reached not_yet = at_start_lem
plays_reached (plays p) = in_field p.short p.more p.stands

-- it stands so at a desk that is the same
stands_at :
    (o : History.Opening) (calls : List Call) {d e : After Desk} {lines : List ℕ}
    → d ≡ e
    → Stands o calls (point_at d lines)
    → Stands o calls (point_at e lines)
stands_at o calls {d} {e} {lines} same = subst (λ (y : After Desk). Stands o calls (point_at y lines)) same

module _ (sheet : List ℕ) (bytes : Bytes sheet) where
  -- ---- the floor

  module _ (x : After Stage) (short : length sheet ≤ 16384) (more : ℕ) (stands : Coming.Stands sheet more x) where
    opens_plays : Does sheet 0 (desk_in (before_all sheet)) (before_all sheet).handed.changes x → Plays sheet (x ∷ []) x
    unfolding call_field entries_of trace_from
    opens_plays (opens next p read scene same did) =
        let f : FloorAccepted sheet (before_all sheet).words =
        record { short = short; plan = p; next = next; read = read; accepted = ap (λ (o : Outcome). o.stop) did } in
        let h = plays_history f bytes in
        let left : (first_point f).left ≡ desk_in x = ap (λ (o : Outcome). o.left) did in
        let first : Stands h.0 [] (first_point f) =
        record {
          stands = (h.1.1.points [] (first_point f) stays).1;
          long = ap (λ (d : After Desk). length d.handed.records) left ∙ stands.placed.all;
        } in
        plays
        (record {
          short = short;
          more = more;
          stands = stands;
          opening = h.0;
          calls = [];
          lines = (first_point f).lines;
          so = stands_at h.0 [] left (elsewhere h.0 [] (first_point f) first 0 0 []);
          same = ap (λ (y : Scene). [] ++ (entries_in y ++ [])) (sym scene);
        })
    opens_plays (begins next c read scene same did) =
        let known = asked_known (before_all sheet).words (seat_at shut_floor c.worker) _ c (ap (λ (o : Outcome). o.stop) did) in
        absurd (omega (arith, known.0))
    opens_plays (turns i t) =
        let none = sym (turn_stop i (desk_in (before_all sheet))) ∙ ap (λ (o : Outcome). o.stop) t.is in
        absurd (omega (arith, (turn_accepted shut_floor (before_all sheet).words 0 i _ none).2))

  -- ---- what comes after it

  module _ (done : List (After Stage)) (s x : After Stage) (was : Played sheet done s) (more : ℕ) (stands : Coming.Stands sheet more x) where
    abbrev p : Point
    p = point_at (desk_in s) was.lines

    does_play : Does sheet (place s).end (desk_in s) s.handed.changes x → Played sheet (done ++ (x ∷ [])) x
    does_play (opens next plan read scene same did) =
        let first = later_field sheet (place s).end plan next read in
        absurd (omega (arith, first, was.stands.some))
    does_play (begins next c read scene same did) =
        let small = call_ticket sheet bytes (place s).end next c read in
        let accepted : (call_field c (desk_in s)).stop ≡ 0 = ap (λ (o : Outcome). o.stop) did in
        record {
          short = was.short;
          more = more;
          stands = stands;
          opening = was.opening;
          calls = was.calls ++ (call_of c ∷ []);
          lines = was.lines ++ (call_field c (desk_in s)).lines;
          so =
              stands_at was.opening (was.calls ++ (call_of c ∷ [])) (ap (λ (o : Outcome). o.left) did)
              (call_stands was.opening was.calls p was.so c small accepted 0 0);
          same =
              trace_call was.opening was.calls p was.so c small accepted
              ∙ was.same
              ∙ sym (append-nil (entries_of done))
              ∙ ap (λ (y : Scene). entries_of done ++ entries_in y) (sym scene)
              ∙ sym (entries_then done x);
        }
    does_play (turns i t) =
        let stop : (turn_at_desk i (desk_in s)).stop ≡ 0 = ap (λ (o : Outcome). o.stop) t.is in
        let e : Turn = record { worker = i; was = awake (record_in s.handed.records i); report = t.report } in
        record {
          short = was.short;
          more = more;
          stands = stands;
          opening = was.opening;
          calls = was.calls ++ (turn i ∷ []);
          lines = was.lines ++ (turn_at_desk i (desk_in s)).lines;
          so =
              stands_at was.opening (was.calls ++ (turn i ∷ [])) (ap (λ (o : Outcome). o.left) t.is)
              (turn_stands was.opening was.calls p was.so i stop 0 0 []);
          same =
              trace_turn was.opening was.calls p was.so i stop t.report t.answer
              ∙ ap (λ (es : List Entry). es ++ (acted e ∷ [])) was.same
              ∙ ap (λ (y : Scene). entries_of done ++ entries_in y) (sym t.scene)
              ∙ sym (entries_then done x);
        }

  -- so it is scene after scene
  goes_on :
      {done : List (After Stage)} {s : After Stage}
      → Plays sheet done s
      → (place (next_scene sheet s)).over ≡ false
      → Onward sheet s (next_scene sheet s)
      → Plays sheet (done ++ (next_scene sheet s ∷ [])) (next_scene sheet s)
  goes_on {s = s} was goes (no_more over quiet) = not_both (place (next_scene sheet s)).over goes over
  goes_on not_yet goes (onward short more stands does) = opens_plays _ short more stands does
  goes_on (plays p) goes (onward short more stands does) = plays (does_play _ _ _ p more stands does)

  pub plays_carries : Carries sheet (Plays sheet)
  plays_carries done s was goes = goes_on was goes (next_onward sheet (plays_reached was))
