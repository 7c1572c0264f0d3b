-- Reports chain, on every opened board: the word that a turn finds is the one that all before it left in its bucket, a change leaves another
-- one, and whoever has the trace up to a lost swap can say what made it lose. Assumes nothing.
use Prim.Native.Nat.{ℕ, ◌+◌, ◌*◌, ◌<◌}
use mathlib.Core.List.{List, [], ◌∷◌, ◌++◌, append_assoc}
use mathlib.Core.Logic.{inl, inr}
use mathlib.Core.Path.{◌≡◌, sym, ap, ◌∙◌}
use Rattle.engine.specs.Board.{bucket_of}
use Rattle.history.specs.Trace.{Entry, acted, Loses, In, Cut}
use Rattle.history.specs.Moment.{AtTurn, AtMoment}
use Rattle.history.specs.Reports.{word_after, MadeLose, ReportsChain}
use Rattle.history.specs.History.{State, Call, workers_of, buckets_of, state, trace, inserts, removes}
use Rattle.history.specs.Cells.{mark_word_at}
use Rattle.history.proofs.View.{Walk}
use Rattle.history.proofs.States.{view}
use Rattle.history.proofs.Held.{Kept}
use Rattle.history.proofs.Good.{walk_good}
use Rattle.history.proofs.Cuts.{CutAt, cut_at}
use Rattle.history.proofs.Ready.{Ready}
use Rattle.history.proofs.Walking.{history_walk}
use Rattle.history.proofs.Beginning.{ready_good}
use Rattle.history.proofs.Words.{act_keeps, act_changes, walk_leaves}
use Rattle.history.proofs.Swaps.{won_found, lost_found, lost_by}
use Rattle.history.proofs.DemandThree.{demand_three, at_moment_lem}

-- ---- histories

module _ {first : State} (ready : Ready first) (calls : List Call) where
  abbrev n : ℕ
  n = buckets_of first

  abbrev walk : Walk n (view first) (trace first calls) (2 * inserts first calls + removes first calls) (view (state first calls))
  walk = history_walk first calls

  module _ (at : AtTurn (trace first calls)) where
    abbrev here : CutAt n (view first) at.before (acted at.turn) at.after (view (state first calls))
    here = cut_at n (acted at.turn) at.after at.before walk at.cut

    home_is : In (bucket_of at.turn.was.key n) (acted at.turn)
    home_is = rw here.act.was here.act.bucket

    finds : at.turn.report.before ≡ word_after at.turn.report.bucket (mark_word_at first at.turn.report.bucket) at.before
    finds = here.act.tells.before ∙ walk_leaves n at.turn.report.bucket here.first

    kept : Kept n here.here
    kept = (walk_good (workers_of first) n (view first).marks here.first [] 0 (ready_good ready)).kept

  -- the word that stands in a bucket at the end
  left_there : (b : ℕ) → b < n → mark_word_at (state first calls) b ≡ word_after b (mark_word_at first b) (trace first calls)
  left_there b under = walk_leaves n b walk

  lost_by_then : (at : AtMoment (trace first calls)) → Loses at.turn → Cut (MadeLose at.turn) at.between
  lost_by_then at lost = lost_by (workers_of first) n (view first).marks walk (ready_good ready) at (inr lost) lost

  -- the same turn, in all that came before the swap
  lost_named : (at : AtTurn (trace first calls)) → Loses at.turn → Cut (MadeLose at.turn) at.before
  lost_named at lost =
      let has = (demand_three ready calls).moment at (inr lost) in
      let c = lost_by_then (at_moment_lem ready calls at has) lost in
      record {
        older = has.older ++ (acted has.moment ∷ c.older);
        entry = c.entry;
        newer = c.newer;
        cut =
            has.cut
            ∙ ap (λ (es : List Entry). has.older ++ (acted has.moment ∷ es)) c.cut
            ∙ sym (append_assoc has.older (acted has.moment ∷ c.older) (c.entry ∷ c.newer));
        holds = c.holds;
      }

  -- reports chain
  pub reports_chain : ReportsChain first calls
  reports_chain =
      record {
        homes = home_is;
        chained = finds;
        stands = left_there;
        changes = λ at. act_changes (acted at.turn) (here at).act (kept at);
        keeps = λ at. act_keeps (here at).act;
        wins = λ at won. won_found (workers_of first) n (view first).marks walk (ready_good ready) at (inl won) won;
        loses = λ at lost. lost_found (workers_of first) n (view first).marks walk (ready_good ready) at (inr lost) lost;
        made_lose = lost_by_then;
        named = lost_named;
      }
