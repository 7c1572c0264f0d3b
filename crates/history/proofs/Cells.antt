-- On an opened board whoever holds a slot has filled it as far as it has come, and what is valid has a lot of its bucket and a ticket.
-- Assumes nothing.
use Prim.Native.Nat.{ℕ, ◌≤◌}
use mathlib.Core.Bool.{true}
use mathlib.Core.List.{List, []}
use mathlib.Core.Logic.{◌⊎◌, inl, inr}
use mathlib.Core.Path.{◌≡◌, refl, sym, ap, ◌∙◌}
use native.Mathlib.Decide.{ℕ_discrete, dec_le}
use native.Mathlib.Omega.{arith}
use borrow.Author.Tests.{leb-true}
use Rattle.mark.specs.Word.{mark_of}
use Rattle.mark.proofs.Fields.{mark_set, mark_bump}
use Rattle.mark.proofs.Slots.{mark_past}
use Rattle.turn.specs.declared.Worker.{Worker}
use Rattle.turn.specs.declared.Stepped.{Stepped}
use Rattle.turn.specs.Worker.{insert_kind, no_slot, idle, ticket_fits}
use Rattle.turn.specs.Bucket.{mark_cell, key_cell, value_cell}
use Rattle.turn.specs.Effects.{Effect, effect_on}
use Rattle.turn.specs.Effects as Effects
use Rattle.turn.proofs.Retiring.{by_held, retires_holder}
use Rattle.turn.proofs.Outcomes.{Same, Did, reads, loses, stores_value, stores_key, claims, commits, frees, closes, AtSwap, at6, at9, at13}
use Rattle.turn.proofs.Values.{filled}
use Rattle.turn.proofs.Stays.{StaysOn, reads_place, HeldAt, key_did, valid_did}
use Rattle.history.specs.Trace.{Turn, Retiring, acted, retired}
use Rattle.history.specs.History.{State, Call, record_of, state}
use Rattle.history.specs.Values.{value_at}
use Rattle.history.specs.Cells.{cells_at, mark_at, key_at, home, Holds, Fills, Stands, Cells}
use Rattle.history.proofs.View.{retired_word, each_worker}
use Rattle.history.proofs.States.{view}
use Rattle.history.proofs.Lawful.{retired_mark, spared}
use Rattle.history.proofs.Held.{Apart, Kept, own_sure, act_kept, start_kept}
use Rattle.history.proofs.Steps.{Begins, Turns, Retires, step_of, Lasts, calls_last}
use Rattle.history.proofs.Account.{other_cells, turn_account, was_home, still_on, still_home}
use Rattle.history.proofs.Written.{turn_spares}
use Rattle.history.proofs.Ready.{Ready, holds_none}
use Rattle.history.proofs.Beginning.{ready_good}

-- ---- in the cells c of a bucket

-- a worker that stores neither ticket nor lot
abbrev Elsewhere : Worker → Type 0
Elsewhere w = (w.place ≡ 7 → ⊥) × (w.place ≡ 8 → ⊥)

swaps_elsewhere : {w : Worker} → AtSwap w → Elsewhere w
swaps_elsewhere (at6 place known) = omega arith
swaps_elsewhere (at9 place known) = omega arith
swaps_elsewhere (at13 place known) = omega arith

-- a worker that holds a slot is busy
pub holds_busy : (w : Worker) → Holds w → w ≡ idle → ⊥
holds_busy w holds is = omega (arith, holds.0, ap (λ (x : Worker). x.kind) is)

module _ (c : ℕ → ℕ) (w : Worker) (d : ℕ → ℕ) (old : Holds w → Fills c w) where
  -- where nothing is stored, it is as before
  still : (v : Worker) → Same c d → Elsewhere w → StaysOn w v → Holds v → Fills d v
  still v same other on holds =
      let held : (v.place ≡ 7 → ⊥) → Holds w = λ past. (sym on.call.kind ∙ holds.0, omega (arith, holds.1, on.held past)) in
      record {
        value = λ past. rw (on.held past, on.call.ticket) (same _ ∙ (old (held past)).value other.0);
        key = λ past later. rw (on.held past, on.call.key) (same _ ∙ (old (held past)).key other.0 other.1);
      }

  -- a worker that holds a slot after its turn has filled it as far as it has come
  did_fills : {x : Stepped} → Did c w d x → StaysOn w x.worker → Holds x.worker → Fills d x.worker
  did_fills (reads same read) on holds = still _ same (reads_place read) on holds
  did_fills (loses same swap missed) on holds = still _ same (swaps_elsewhere swap) on holds
  did_fills (stores_value stored place fills) on holds = record { value = λ past. stored.there; key = λ past later. absurd (later refl) }
  did_fills (stores_key stored place fills) on holds =
      let some : w.held ≤ 2 = fills.held in
      record {
        value = λ past. stored.others _ (omega arith) ∙ (old (fills.kind, some)).value (omega arith);
        key = λ past later. stored.there;
      }
  did_fills (claims stored met place known) on holds = record { value = λ past. absurd (past refl); key = λ past later. absurd (past refl) }
  did_fills (commits stored met place fills) on holds = absurd (omega (arith, holds.0))
  did_fills (frees stored place fills) on holds = absurd (omega (arith, holds.0))
  did_fills (closes stored met place removes) on holds = absurd (omega (arith, holds.0))

-- an insert's ticket is at least 1
pub insert_ticket : {k t : ℕ} → k ≡ insert_kind → ticket_fits k t ≡ true → 1 ≤ t
unfolding ticket_fits
insert_ticket {k} {t} kind fits = leb-true 1 t (rw kind at fits)

-- a slot with a mark is one of the three
pub marked_few : (m p : ℕ) → mark_of m p ≡ 1 → p ≤ 2
marked_few m p valid = by (dec_le p 2)
  where
    by : Dec (p ≤ 2) → p ≤ 2
    by (yes few) = few
    by (no past) = absurd (omega (arith, mark_past m p (omega arith), valid))

-- ---- a turn

-- what each call and turn keeps: whose slots are whose, and what stands in them
pub record Known (s : State) : Type 0 where
  pub kept : Kept s.floor.buckets (view s)
  pub cells : Cells s

module _ {s t : State} {e : Turn} (act : Turns s e t) (old : Known s) where
  abbrev n : ℕ
  n = s.floor.buckets

  abbrev i : ℕ
  i = e.worker

  abbrev w : Worker
  w = e.was

  abbrev x : Stepped
  x = (step_of s e).stepped

  here : e.report.bucket ≡ home n w
  here = was_home act

  -- what is known of the worker's record
  filled_was : Holds w → Fills (cells_at s (home n w)) w
  filled_was = rw act.acts.was (old.cells.filled i)

  sure_was : Holds w → mark_at s e.report.bucket w.held ≡ 2
  sure_was = rw act.acts.was (λ holds. (own_sure n (view s) (acted e) _ (view t) old.kept act.acts holds).board)

  apart_was : (j : ℕ) → (j ≡ i → ⊥) → Apart n (record_of s j) w
  apart_was j other = rw act.acts.was (old.kept.apart j i other)

  mine : Holds x.worker → Fills (cells_at t (home t.floor.buckets x.worker)) x.worker
  mine holds =
      let busy = holds_busy _ holds in
      let was : Holds w → Fills (cells_at s e.report.bucket) w = λ held. rw here (filled_was held) in
      rw (still_home act busy) (did_fills (cells_at s e.report.bucket) w (cells_at t e.report.bucket) was (turn_account act) (still_on act busy) holds)

  -- the value of a slot stays unless the worker stores its ticket there
  pub value_same : (b p : ℕ) → (b ≡ e.report.bucket → p ≡ w.held → w.place ≡ 7 → Holds w → ⊥) → value_at t b p ≡ value_at s b p
  value_same b p none =
      turn_spares act b p (λ stores same slot. none same slot stores.0 (let place = stores.0 in filled _ w act.ok (omega arith) (omega arith)))

  -- the key of a slot stays unless the worker stores its lot there
  pub key_same : (b p : ℕ) → p ≤ 2 → (b ≡ e.report.bucket → p ≡ w.held → w.place ≡ 8 → Holds w → ⊥) → key_at t b p ≡ key_at s b p
  key_same b p few none = by (ℕ_discrete b e.report.bucket)
    where
      own : b ≡ e.report.bucket → (key_at t e.report.bucket p ≡ key_at s e.report.bucket p) ⊎ HeldAt 8 w p → key_at t e.report.bucket p ≡ key_at s e.report.bucket p
      own is (inl same) = same
      own is (inr stored) = absurd (none is stored.slot stored.at (stored.holder.kind, stored.holder.held))

      by : Dec (b ≡ e.report.bucket) → key_at t b p ≡ key_at s b p
      by (no another) = other_cells act b _ another
      by (yes is) = rw is (own is (key_did _ w _ p few (turn_account act)))

  -- what another worker has put into its slot stays there
  others : (j : ℕ) → (j ≡ i → ⊥) → Holds (record_of s j) → Fills (cells_at t (home t.floor.buckets (record_of s j))) (record_of s j)
  others j other holds =
      let u = record_of s j in
      let was = old.cells.filled j holds in
      let apart : home n u ≡ e.report.bucket → u.held ≡ w.held → Holds w → ⊥ = λ same slot own. apart_was j other holds own (same ∙ here) slot in
      record {
        value = λ past. rw act.buckets (value_same (home n u) u.held (λ same slot at own. apart same slot own) ∙ was.value past);
        key = λ past later. rw act.buckets
            (key_same (home n u) u.held holds.1 (λ same slot at own. apart same slot own) ∙ was.key past later);
      }

  -- ---- valid slots

  module _ (b p : ℕ) where
    -- a valid slot is nobody's, so that it stands as it stood
    still_stands : mark_at s b p ≡ 1 → Stands t b p
    still_stands one =
        let free : b ≡ e.report.bucket → p ≡ w.held → Holds w → ⊥ =
        λ same slot own. omega (arith, sym one ∙ ap (λ (b : ℕ). mark_at s b p) same ∙ ap (mark_at s e.report.bucket) slot ∙ sure_was own) in
        let was = old.cells.valid b p one in
        record {
          lot = rw (act.buckets, key_same b p (marked_few _ p one) (λ same slot at own. free same slot own)) was.lot;
          ticket = rw (value_same b p (λ same slot at own. free same slot own)) was.ticket;
        }

    -- a slot that is committed was filled
    commits_stands : b ≡ e.report.bucket → HeldAt 9 w p → Stands t b p
    commits_stands same known =
        let own : Holds w = (known.holder.kind, known.holder.held) in
        let nine = known.at in
        let was = filled_was own in
        let value : value_at t b p ≡ w.ticket =
        value_same b p (λ b p at holds. omega arith)
        ∙ ap (λ (b : ℕ). value_at s b p) (same ∙ here)
        ∙ ap (value_at s (home n w)) known.slot
        ∙ was.value (omega arith) in
        let key : key_at t b p ≡ w.key =
        key_same b p (omega (arith, known.slot, own.1)) (λ b p at holds. omega arith)
        ∙ ap (λ (b : ℕ). key_at s b p) (same ∙ here)
        ∙ ap (key_at s (home n w)) known.slot
        ∙ was.key (omega arith) (omega arith) in
        record {
          lot = rw (key, act.buckets) (sym (same ∙ here));
          ticket = rw value (insert_ticket own.0 act.ok.sound.ticket);
        }

    valid_then : mark_at t b p ≡ 1 → Stands t b p
    valid_then one = by (ℕ_discrete b e.report.bucket)
      where
        own : b ≡ e.report.bucket → (mark_at s e.report.bucket p ≡ 1) ⊎ HeldAt 9 w p → Stands t b p
        own is (inl old) = still_stands (rw is old)
        own is (inr known) = commits_stands is known

        by : Dec (b ≡ e.report.bucket) → Stands t b p
        by (no another) = still_stands (ap (λ (m : ℕ). mark_of m p) (sym (other_cells act b mark_cell another)) ∙ one)
        by (yes is) = own is (valid_did _ w _ p act.ok.sound.slot (turn_account act) (rw is at one))

  turn_known : Known t
  turn_known =
      record {
        kept = rw act.buckets (act_kept n (view s) (acted e) _ (view t) old.kept act.acts);
        cells =
            record {
              filled =
                  each_worker (view s) (view t) i x.worker act.acts.records (λ (j : ℕ) (u : Worker). Holds u → Fills (cells_at t (home t.floor.buckets u)) u) act.acts.within mine
                  others;
              valid = valid_then;
            };
      }

-- ---- a start

start_known : {s t : State} {v : Worker} {spent : List ℕ} → Begins s v spent t → Known s → Known t
start_known {s} {t} {v} start old =
    let who = start.starts.who in
    record {
      kept = rw start.buckets (start_kept s.floor.buckets (view s) v (view t) old.kept start.starts);
      cells =
          record {
            filled =
                each_worker (view s) (view t) who v start.starts.records (λ (j : ℕ) (u : Worker). Holds u → Fills (cells_at t (home t.floor.buckets u)) u) start.starts.within
                (λ holds. absurd (omega (arith, holds.1, start.starts.held)))
                (λ j other holds.
                let was = old.cells.filled j holds in
                record {
                  value = λ past. rw (start.board, start.buckets) (was.value past);
                  key = λ past later. rw (start.board, start.buckets) (was.key past later);
                });
            valid = λ b p one.
                let was = old.cells.valid b p (rw start.board at one) in
                record { lot = rw (start.board, start.buckets) was.lot; ticket = rw start.board was.ticket };
          };
    }

-- ---- a retiring

module _ {s t : State} {r : Retiring} (act : Retires s r t) where
  abbrev stood : ℕ
  stood = (view s).marks r.bucket

  -- the mark word that is left: as it stood where no slot was held, and else with the held slot given back
  pub by_word_left :
      (P : ℕ → Type 0)
      → (r.was.held ≡ no_slot → P stood)
      → ((r.was.held ≡ no_slot → ⊥) → r.was.held ≤ 2 → P (effect_on (Effects.retire r.was.held) stood))
      → P ((view t).marks r.bucket)
  by_word_left P free given =
      rw (retired_word act.acts)
      (by_held (λ (e : Effect). P (effect_on e stood)) r.was free (λ some. given some (retires_holder _ r.was act.ok some).1))

  -- a mark that is not 0 after a retiring was there before
  pub retire_marks : (b p mark : ℕ) → (mark ≡ 0 → ⊥) → mark_at t b p ≡ mark → mark_at s b p ≡ mark
  retire_marks b p mark some is = by (ℕ_discrete b r.bucket)
    where
      by : Dec (b ≡ r.bucket) → mark_at s b p ≡ mark
      by (no other) = ap (λ (m : ℕ). mark_of m p) (sym (act.acts.there b other)) ∙ is
      by (yes same) =
          rw same
          (by_word_left (λ (m : ℕ). mark_of m p ≡ mark → mark_of stood p ≡ mark) (λ free left. left)
          (λ held few left. retired_mark r.was.held _ p mark few some left) (rw same at is))

  -- every mark but that of a slot that was held stays
  pub retire_spares :
      (b p : ℕ) → ((r.was.held ≡ no_slot → ⊥) → b ≡ r.bucket → p ≡ r.was.held → ⊥) → mark_at t b p ≡ mark_at s b p
  retire_spares b p apart = by (ℕ_discrete b r.bucket)
    where
      by : Dec (b ≡ r.bucket) → mark_at t b p ≡ mark_at s b p
      by (no other) = ap (λ (m : ℕ). mark_of m p) (act.acts.there b other)
      by (yes here) =
          rw here
          (by_word_left (λ (m : ℕ). mark_of m p ≡ mark_of stood p) (λ free. refl)
          (λ held few. spared (Effects.retire r.was.held) _ p (λ same. apart held here (sym same))))

  -- the slot that was held is empty
  pub retire_empties : (r.was.held ≡ no_slot → ⊥) → mark_at t r.bucket r.was.held ≡ 0
  retire_empties held =
      by_word_left (λ (m : ℕ). mark_of m r.was.held ≡ 0) (λ free. absurd (held free))
      (λ some few. mark_bump _ r.was.held ∙ mark_set _ r.was.held 0 (omega arith) (omega arith))

  -- keys and values stay
  pub retire_value : (b p : ℕ) → value_at t b p ≡ value_at s b p
  retire_value b p = act.cells b (value_cell p) (omega arith)

  pub retire_key : (b p : ℕ) → key_at t b p ≡ key_at s b p
  retire_key b p = act.cells b (key_cell p) (omega arith)

  retire_known : Known s → Known t
  retire_known old =
      record {
        kept = rw act.buckets (act_kept s.floor.buckets (view s) (retired r) _ (view t) old.kept act.acts);
        cells =
            record {
              filled =
                  each_worker (view s) (view t) r.worker idle act.acts.records (λ (j : ℕ) (u : Worker). Holds u → Fills (cells_at t (home t.floor.buckets u)) u) act.acts.within
                  (λ holds. absurd (omega (arith, holds.1)))
                  (λ j other holds.
                  let was = old.cells.filled j holds in
                  record {
                    value = λ past. rw act.buckets (retire_value (home s.floor.buckets (record_of s j)) (record_of s j).held ∙ was.value past);
                    key = λ past later. rw act.buckets (retire_key (home s.floor.buckets (record_of s j)) (record_of s j).held ∙ was.key past later);
                  });
              valid = λ b p one.
                  let was = old.cells.valid b p (retire_marks b p 1 (omega arith) one) in
                  record { lot = rw (retire_key b p, act.buckets) was.lot; ticket = rw (retire_value b p) was.ticket };
            };
      }

-- every accepted start, every turn done and every retiring done keep what is known of slots
pub known_lasts : Lasts (λ s past ts. Known s)
known_lasts =
    record {
      begins = λ past ts start old. start_known start old;
      turns = λ past ts act old. turn_known act old;
      retires = λ past ts act old. retire_known act old;
    }

-- ---- histories

module _ {first : State} (ready : Ready first) where
  -- where a stretch can begin every slot is as is known
  pub ready_known : Known first
  ready_known =
      record {
        kept = (ready_good ready).kept;
        cells = record { filled = λ i holds. absurd (holds_none ready i holds); valid = ready.stands };
      }

  -- after every list of calls that is known
  pub state_known : (calls : List Call) → Known (state first calls)
  state_known calls = calls_last (λ s past ts. Known s) known_lasts calls first [] [] ready_known

  -- after every list of calls held slots are filled, and valid ones have a lot of their bucket and a ticket
  pub state_cells : (calls : List Call) → Cells (state first calls)
  state_cells calls = (state_known calls).cells
