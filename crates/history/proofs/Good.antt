-- What holds on an opened board after every call and turn, and is all that demand 3 follows from. Assumes nothing.
use Prim.Native.Nat.{ℕ, ◌+◌, ◌*◌, ◌-◌, ◌≤◌, ◌<◌}
use mathlib.Core.List.{List, ◌∷◌}
use mathlib.Core.Path.{◌≡◌, subst, ◌∙◌}
use native.Mathlib.Decide.{ℕ_discrete}
use native.Mathlib.Nat.{mul-add}
use native.Mathlib.Omega.{arith}
use lib.ListN.{length, length-set}
use Rattle.turn.specs.declared.Worker.{Worker}
use Rattle.turn.specs.Effects.{Effect}
use Rattle.history.specs.Trace.{Entry, who, bucket_in, total}
use Rattle.history.specs.Counts.{lost_swaps, changes_in}
use Rattle.history.proofs.Sums.{total_set, total_others}
use Rattle.history.proofs.View.{View, worker, left, Starts, Acts, quiet_marks, Walk, stays, starts, acts, act_total, start_total}
use Rattle.history.proofs.Lawful.{changed, changed_le}
use Rattle.history.proofs.Counts.{loss_of, change_of, lost_quiet, onto}
use Rattle.history.proofs.Held.{Kept, act_kept, start_kept}
use Rattle.history.proofs.Versions.{Tells, act_tells}
use Rattle.history.proofs.Behind.{BehindIn, act_behind, start_behind}
use Rattle.history.proofs.Minds.{moves_minds}
use Rattle.history.proofs.Charges.{Pays, moves_pays, stale, stale_le, not_stale, stale_same, quiet_pays, change_fresh}

-- a floor of so many workers and n buckets, with these mark words at first; the entries so far, the newest first; calls that may make k changes
pub record Good (workers n : ℕ) (first : ℕ → ℕ) (s : View) (past : List Entry) (k : ℕ) : Type 0 where
  pub listed : length s.records ≡ workers
  pub kept : Kept n s
  pub tells : (b : ℕ) → b < n → Tells (first b) b past (s.marks b)
  -- the word of a slot's holder is behind the board's by no more than versions were moved
  pub behind : (i : ℕ) → BehindIn n past s.marks (worker s i)
  -- a change makes each of the other workers stale at most, and only a stale worker loses
  pub charge : lost_swaps past + total (stale n s.marks) s.records ≤ (workers - 1) * changes_in past
  -- a change is one that the call's start has paid for
  pub budget : changes_in past + total left s.records ≤ k

module _ (workers n : ℕ) (first : ℕ → ℕ) where
  module _
      (s : View) (e : Entry) (v : Worker) (t : View) (act : Acts n s e v t)
      (past : List Entry) (k : ℕ) (good : Good workers n first s past k) where
    abbrev w : Worker
    w = worker s (who e)

    abbrev effect : Effect
    effect = act.effect

    pays : Pays w effect v
    pays = moves_pays w effect v (s.marks (bucket_in e)) act.moves

    -- where nothing was changed, and where the mark word was
    charged :
        Dec (change_of e ≡ 0)
        → lost_swaps (e ∷ past) + total (stale n t.marks) t.records ≤ (workers - 1) * changes_in (e ∷ past)
    unfolding total
    charged (yes quiet) =
        rw (act.records, quiet)
        (omega (
          arith,
          good.charge,
          total_set (stale n s.marks) (stale n t.marks) (loss_of e) 0 v
              (stale_same n s.marks t.marks (quiet_marks act quiet)) s.records (who e) act.within
              (omega (arith, quiet_pays n s e v t good.kept act quiet (moves_minds _ _ _ _ act.moves))),
        ))
    charged (no loud) =
        let one : change_of e ≡ 1 = omega (arith, act.changes, changed_le effect) in
        let more = mul-add (workers - 1) 1 (changes_in past) in
        let long : length s.records ≡ workers = good.listed in
        let some : who e < length s.records = act.within in
        rw (act.records, one)
        (omega (
          arith,
          good.charge,
          lost_quiet e loud,
          more,
          total_others (stale n s.marks) (stale n t.marks) v (λ w. omega (arith, stale_le n t.marks w))
              (change_fresh n s e v t good.kept act loud (moves_minds _ _ _ _ act.moves)) s.records (who e) some,
        ))

    -- a turn and a retiring keep it all
    pub act_good : Good workers n first t (e ∷ past) k
    unfolding total
    act_good =
        record {
          listed = rw act.records (length-set s.records (who e) v ∙ good.listed);
          kept = act_kept n s e v t good.kept act;
          tells = λ b under. act_tells (first b) n s e v t good.kept act past b (good.tells b under);
          behind = act_behind n s e v t act past good.behind;
          charge = charged (ℕ_discrete (change_of e) 0);
          budget = omega (arith, act.changes, good.budget, act_total left (changed effect) act pays.change);
        }

  module _ (s : View) (v : Worker) (t : View) (start : Starts s v t) where
    -- so does a start, which brings its call's changes
    start_good : (past : List Entry) (k : ℕ) → Good workers n first s past k → Good workers n first t past (left v + k)
    start_good past k good =
        let stale-then = stale n s.marks in
        let stale-now = stale n t.marks in
        let fresh : stale-now v ≡ 0 = not_stale n t.marks v (λ aware. absurd (start.unaware aware)) in
        let still = start_total stale-then stale-now start (stale_same n s.marks t.marks start.marks) in
        record {
          listed = rw start.records (length-set s.records start.who v ∙ good.listed);
          kept = start_kept n s v t good.kept start;
          tells = λ b under. rw (start.marks b) (good.tells b under);
          behind = start_behind n s v t past start good.behind;
          charge = omega (arith, good.charge, still, fresh);
          budget = omega (arith, good.budget, start_total left left start (λ w. omega arith));
        }

  -- and so does every walk
  pub walk_good :
      {s u : View} {es : List Entry} {j : ℕ} → Walk n s es j u → (past : List Entry) (k : ℕ) → Good workers n first s past k
      → Good workers n first u (onto es past) (j + k)
  walk_good stays past k good = subst (Good workers n first _ past) (omega arith) good
  walk_good (starts start rest) past k good =
      subst (Good workers n first _ _) (omega arith) (walk_good rest past _ (start_good _ _ _ start past k good))
  walk_good (acts act rest) past k good = walk_good rest (_ ∷ past) k (act_good _ _ _ _ act past k good)
