-- What a record asks of the clerk, and the clerk's list after a trace with turns more at its end. Assumes nothing.
use mathlib.Core.List.{List, [], ◌∷◌, ◌++◌}
use mathlib.Core.Path.{◌≡◌, refl, ◌∙◌}
use Rattle.turn.specs.declared.Worker.{Worker}
use Rattle.turn.specs.Worker.{look_kind, insert_kind, remove_kind}
use Rattle.engine.specs.Move.{Line}
use Rattle.history.specs.Trace.{Entry, was_of, IsTurn}
use Rattle.clerk.specs.Does.{look, insert, remove, does}
use Rattle.clerk.specs.Calls.{Settles, is_settled, asks, done_by, list_from, list_after}

-- ---- what a record asks

module _ (w : Worker) where
  -- a look asks for its lot
  pub asks_look : w.kind ≡ look_kind → asks w ≡ look w.key
  asks_look kind = rw kind

  -- an insert asks that its lot be added, with its ticket
  pub asks_insert : w.kind ≡ insert_kind → asks w ≡ insert w.key w.ticket
  asks_insert kind = rw kind

  -- a remove asks that its lot be struck
  pub asks_remove : w.kind ≡ remove_kind → asks w ≡ remove w.key
  asks_remove kind = rw kind

-- ---- the list

-- the list after turns and more of them is the list after those, from the list after these
list_append : (past : List Entry) (list : List Line) (es : List Entry) → list_from list (past ++ es) ≡ list_from (list_from list past) es
list_append [] list es = refl
list_append (e ∷ past) list es = list_append past (done_by e (is_settled e) list) es

module _ (past : List Entry) (e : Entry) where
  -- the list after one turn more, by whether that turn commits or closes
  list_then : list_after (past ++ (e ∷ [])) ≡ done_by e (is_settled e) (list_after past)
  list_then = list_append past [] (e ∷ [])

  -- a turn that commits or closes is done by the clerk
  pub list_settled : IsTurn Settles e → list_after (past ++ (e ∷ [])) ≡ (does (asks (was_of e)) (list_after past)).list
  list_settled settles = list_then ∙ by (is_settled e)
    where
      by : (d : Dec (IsTurn Settles e)) → done_by e d (list_after past) ≡ (does (asks (was_of e)) (list_after past)).list
      by (yes is) = refl
      by (no isnot) = absurd (isnot settles)

  -- a turn that neither commits nor closes leaves the list
  pub list_quiet : (IsTurn Settles e → ⊥) → list_after (past ++ (e ∷ [])) ≡ list_after past
  list_quiet quiet = list_then ∙ by (is_settled e)
    where
      by : (d : Dec (IsTurn Settles e)) → done_by e d (list_after past) ≡ list_after past
      by (yes is) = absurd (quiet is)
      by (no isnot) = refl
