-- A worker whose call has had a turn has met a gap in which its lot was not in the list, or has its lot still ahead. Assumes nothing.
use Prim.Native.Nat.{ℕ, ◌+◌, ◌≤◌}
use mathlib.Core.List.{List, [], ◌∷◌, ◌++◌}
use mathlib.Core.Logic.{◌⊎◌, inl, inr}
use mathlib.Core.Path.{◌≡◌, refl, sym, ap, subst, ◌∙◌}
use native.Mathlib.Decide.{ℕ_discrete}
use native.Mathlib.Omega.{arith}
use lib.ListN.{length}
use Rattle.turn.specs.declared.Worker.{Worker}
use Rattle.turn.specs.Worker.{ticket_place, idle}
use Rattle.turn.specs.Bucket.{mark_cell, key_cell, value_cell}
use Rattle.turn.proofs.Stays.{StaysOn}
use Rattle.engine.specs.Board.{bucket_of}
use Rattle.history.specs.Trace.{Turn, Retiring, Entry, acted, retired, Closes}
use Rattle.history.specs.History.{State, record_of}
use Rattle.history.specs.Values.{value_at}
use Rattle.history.specs.Cells.{cells_at, key_at, mark_at, home, Holds, key_place}
use Rattle.history.proofs.Steps.{Begins, Turns, Retires, step_of}
use Rattle.history.proofs.Account.{action_is, still_on}
use Rattle.history.proofs.Cells.{Known, marked_few, key_same, retire_key}
use Rattle.walks.specs.Lists.{Each}
use Rattle.clerk.proofs.Listed.{NotOf}
use Rattle.clerk.proofs.Since.{since, since_other, since_ends, since_within, first_or_some}
use Rattle.clerk.proofs.Sometime.{Sometime, sometime_on, sometime_now, sometime_from}
use Rattle.clerk.proofs.Deals.{no_commit_closes, turn_deals, busy_slots, retiring_slots}
use Rattle.clerk.proofs.Fates.{From, old, new, Fate, stays, closed, valid_from, valid_then}
use Rattle.clerk.proofs.Knows.{HasLot, has_back, has_on, Knowing}
use Rattle.clerk.proofs.Distinct.{Distinct}
use Rattle.clerk.proofs.Won.{claim_new}
use Rattle.clerk.proofs.Listing.{Lists, none_listed}
use Rattle.clerk.proofs.Begun.{Under, Begun, first_turn, first_turn_within, busy_since, own_under}
use Rattle.clerk.proofs.Absent.{Absent, some_slot}
use Rattle.clerk.proofs.Claims.{stored_key, claimed_by}
use Rattle.clerk.proofs.Rows.{◌▹◌, among_first}
use Rattle.clerk.proofs.Ahead as table
use Rattle.clerk.proofs.Ahead.{NotHere, IsAhead, Ahead, ahead_on, ahead_did}
use Rattle.clerk.proofs.Steps.{Sized, each_turn, each_retiring, each_start, own_home, own_did, was_known, start_cells}

-- at some turn since this one a lot was not in the list
abbrev pub MissedSince : ℕ → List Entry → ℕ → Type 0
MissedSince first past lot = Sometime first past (Each (NotOf lot))

-- a worker with the record u has missed its lot at some turn since this one, or has it still ahead
abbrev Missed : ℕ → List Entry → State → ℕ → Worker → Type 0
Missed n past s first u = MissedSince first past u.key ⊎ Ahead n s u

-- every worker that has had a turn of its call has missed its lot, or has it still ahead
abbrev pub Missing : ℕ → List Entry → State → Type 0
Missing n past s = (i : ℕ) → 1 ≤ since i past → Missed n past s (since i past) (record_of s i)

-- ---- before a turn of the worker

-- what is known of a call before a turn of its worker w, which is not before turn `first`
pub data Before (n : ℕ) (past : List Entry) (s : State) (first : ℕ) (w : Worker) : Type 0 where
  missing : MissedSince first past w.key → Before n past s first w
  ahead : Ahead n s w → Before n past s first w
  nowhere : Absent n s w.key → Before n past s first w

module _
    (n : ℕ) {s : State} (past : List Entry) (i : ℕ) (w : Worker) (under : Under (since i past) w)
    (known : 1 ≤ since i past → Missed n past s (since i past) w) where
  -- as its start left it, it has every slot ahead
  at_start_lem : since i past ≡ 0 → (p : ℕ) → IsAhead n s w p
  at_start_lem none p =
      let fresh = under.fresh none in
      among_first 3 w.place (table.ahead n s w p) (omega (arith, fresh.0)) (tt ▹ tt ▹ omega (arith, fresh.1) ▹ tt)

  -- before a turn of its worker a call has missed its lot, or has it ahead, or it stands nowhere
  before_turn : Before n past s (first_turn i past) w
  before_turn = by (ℕ_discrete (since i past) 0)
    where
      had : 1 ≤ since i past → Missed n past s (since i past) w → Before n past s (first_turn i past) w
      had some (inl missed) = missing (sometime_from (sym (first_or_some (since i past) (length past + 1) some)) missed)
      had some (inr is) = ahead is

      first : since i past ≡ 0 → ((p : ℕ) × HasLot (cells_at s (home n w)) w.key p) ⊎ Absent n s w.key → Before n past s (first_turn i past) w
      first none (inl some) = ahead (record { slot = some.0; has = some.1; ahead = at_start_lem none some.0 })
      first none (inr absent) = nowhere absent

      by : Dec (since i past ≡ 0) → Before n past s (first_turn i past) w
      by (no some) = let one : 1 ≤ since i past = omega arith in had one (known one)
      by (yes none) = first none (some_slot (cells_at s (home n w)) w.key)

-- ---- a turn keeps it, and so does a start

module _
    (n : ℕ) {s t : State} {e : Turn} (past : List Entry) (sized : Sized n s) (act : Turns s e t) (known : Known s) (then : Known t)
    (knowing : Knowing n s) (distinct : Distinct s) (begun : Begun past s)
    (lists : Lists n (past ++ (acted e ∷ [])) t) (every : Missing n past s) where
  abbrev i : ℕ
  i = e.worker

  abbrev w : Worker
  w = e.was

  abbrev v : Worker
  v = (step_of s e).stepped.worker

  abbrev now : List Entry
  now = past ++ (acted e ∷ [])

  -- what is known of a call before a turn of its worker
  pub own_before : Before n past s (first_turn i past) w
  own_before =
      before_turn n past i w (was_known act (λ u. Under (since i past) u) (begun i))
      (was_known act (λ u. 1 ≤ since i past → Missed n past s (since i past) u) (every i))

  -- a lot that stands in no slot then is not in the list then
  pub absent_now : (first lot : ℕ) → first ≤ length past + 1 → Absent n t lot → MissedSince first now lot
  absent_now first lot early absent = sometime_now past (acted e) early (none_listed lists lot absent)

  -- a slot that is held then has mark 2
  held_two : (h : ℕ) → Holds (record_of t h) → (b : ℕ) → b ≡ home n (record_of t h) → mark_at t b (record_of t h).held ≡ 2
  held_two h holds b here =
      ap (λ (k : ℕ). mark_at t k (record_of t h).held) (here ∙ ap (bucket_of (record_of t h).key) (sym (act.buckets ∙ sized)))
      ∙ (then.kept.sure h holds).board

  -- the slot in which a lot stands ahead of the worker, after its turn
  own_ahead : (a : Ahead n s w) → IsAhead n t v a.slot
  own_ahead a =
      ahead_did n s w a.slot a.ahead a.has (known.cells.valid (home n w) a.slot a.has.0).ticket t
      (λ q other valid same. distinct (home n w) a.slot q other a.has.0 valid same)
      (λ h holds key. held_two h holds (home n w) (ap (λ (k : ℕ). bucket_of k n) (sym key))) (own_did act sized)

  module _ (busy : v ≡ idle → ⊥) where
    same_key : v.key ≡ w.key
    same_key = (still_on act busy).call.key

    still_has : (a : Ahead n s w) → HasLot (cells_at t (home n v)) v.key a.slot
    still_has a =
        subst (λ (lot : ℕ). HasLot (cells_at t (bucket_of lot n)) lot a.slot) (sym same_key)
        (has_on (busy_slots act known busy (home n w)) w.key a.slot a.has)

    mine_busy : Before n past s (first_turn i past) w → Missed n now t (first_turn i past) v
    mine_busy (missing missed) = inl (rw same_key (sometime_on past (acted e) missed))
    mine_busy (ahead a) = inr (record { slot = a.slot; has = still_has a; ahead = own_ahead a })
    mine_busy (nowhere absent) =
        inl (rw same_key (absent_now (first_turn i past) w.key (first_turn_within i past)
        (λ p has. absent p (has_back (busy_slots act known busy (home n w)) w.key p has))))

  mine : 1 ≤ since i now → Missed n now t (since i now) v
  mine some =
      let busy : v ≡ idle → ⊥ = λ is. let none = (own_under past act).rests (ap (λ (u : Worker). u.kind) is) in omega arith in
      subst (λ (first : ℕ). Missed n now t first v) (sym (busy_since past act busy)) (mine_busy busy own_before)

  -- another worker, with its lot ahead
  module _ (j : ℕ) (other : j ≡ i → ⊥) (a : Ahead n s (record_of s j)) where
    abbrev u : Worker
    u = record_of s j

    abbrev b : ℕ
    b = home n u

    -- a worker of the same lot is in the same bucket
    same_bucket : w.key ≡ u.key → b ≡ e.report.bucket
    same_bucket is = ap (λ (k : ℕ). bucket_of k n) (sym is) ∙ sym (own_home act sized)

    -- nobody puts its lot into a slot that has not got it: whoever holds the slot has another lot, and no claim of this lot is won
    still_not_here : u.slot ≤ 2 → NotHere n s u → NotHere n t u
    still_not_here few apart =
        record {
          key = λ is. stored is (ℕ_discrete b e.report.bucket) (ℕ_discrete u.slot w.held) (ℕ_discrete w.place key_place);
          nobody = each_turn act (λ h x. Holds x → x.key ≡ u.key → x.held ≡ u.slot → ⊥) own (λ h another. apart.nobody h);
        }
      where
        not_own : Holds w → w.key ≡ u.key → w.held ≡ u.slot → ⊥
        not_own = was_known act (λ x. Holds x → x.key ≡ u.key → x.held ≡ u.slot → ⊥) (apart.nobody i)

        kept : key_at t b u.slot ≡ u.key → (b ≡ e.report.bucket → u.slot ≡ w.held → w.place ≡ key_place → Holds w → ⊥) → ⊥
        kept is none = apart.key (sym (key_same act known b u.slot few none) ∙ is)

        stored : key_at t b u.slot ≡ u.key → Dec (b ≡ e.report.bucket) → Dec (u.slot ≡ w.held) → Dec (w.place ≡ key_place) → ⊥
        stored is (no elsewhere) slot place = kept is (λ here same at holds. elsewhere here)
        stored is (yes here) (no another) place = kept is (λ here same at holds. another same)
        stored is (yes here) (yes slot) (no past) = kept is (λ here same at holds. past at)
        stored is (yes here) (yes slot) (yes at) =
            let key : key_at t b u.slot ≡ w.key =
            ap (λ (k : ℕ). key_at t k u.slot) (here ∙ own_home act sized) ∙ ap (key_at t (home n w)) slot ∙ stored_key _ w _ (own_did act sized) at in
            kept is (λ here same place holds. not_own holds (sym key ∙ is) (sym slot))

        own : Holds v → v.key ≡ u.key → v.held ≡ u.slot → ⊥
        own holds key slot = by (ℕ_discrete v.place ticket_place)
          where
            on : StaysOn w v
            on = still_on act (λ is. omega (arith, holds.0, ap (λ (x : Worker). x.kind) is))

            same : w.key ≡ u.key
            same = sym on.call.key ∙ key

            by : Dec (v.place ≡ ticket_place) → ⊥
            by (no past) = not_own (sym on.call.kind ∙ holds.0, omega (arith, holds.1, on.held past)) same (sym (on.held past) ∙ slot)
            by (yes seven) =
                let claim = claimed_by _ w _ (own_did act sized) seven in
                claim_new n sized act known knowing claim.0 claim.2 (action_is act refl ∙ claim.1) a.slot
                (rw (same, ← same_bucket same) a.has)

    -- it has the slot still ahead
    still_ahead : value_at t b a.slot ≡ value_at s b a.slot → IsAhead n t u a.slot
    still_ahead value =
        let few = marked_few _ a.slot a.has.0 in
        ahead_on n s t u a.slot value (λ low apart. still_not_here (omega arith) apart) a.ahead

    -- where its slot was closed, its lot stands nowhere
    gone : Closes e → mark_at t b a.slot ≡ 0 → Absent n t u.key
    gone close empty q has = by (valid_from b q (turn_deals act known) has.0) (ℕ_discrete q a.slot)
      where
        by : From s e t b q → Dec (q ≡ a.slot) → ⊥
        by (new commit did here slot key value) is = no_commit_closes e commit close
        by (old was key value) (yes is) = omega (arith, sym has.0 ∙ ap (mark_at t b) is ∙ empty)
        by (old was key value) (no another) = distinct b q a.slot another was a.has.0 (sym key ∙ has.1 ∙ sym a.has.1)

    others_ahead : Missed n now t (since j past) u
    others_ahead = by (valid_then b a.slot (turn_deals act known) a.has.0)
      where
        by : Fate s e t b a.slot → Missed n now t (since j past) u
        by (stays valid key value) = inr (record { slot = a.slot; has = (valid, key ∙ a.has.1); ahead = still_ahead value })
        by (closed close did here slot empty) = inl (absent_now (since j past) u.key (omega (arith, since_within j past)) (gone close empty))

  others : (j : ℕ) → (j ≡ i → ⊥) → 1 ≤ since j now → Missed n now t (since j now) (record_of s j)
  others j other some =
      let same = since_other j past (acted e) (λ own. other (sym own)) in
      subst (λ (first : ℕ). Missed n now t first (record_of s j)) (sym same) (by (every j (omega (arith, same))))
    where
      by : Missed n past s (since j past) (record_of s j) → Missed n now t (since j past) (record_of s j)
      by (inl missed) = inl (sometime_on past (acted e) missed)
      by (inr a) = others_ahead j other a

  -- a turn leaves every worker with its lot missed or ahead
  pub turn_missing : Missing n now t
  turn_missing = each_turn act (λ j u. 1 ≤ since j now → Missed n now t (since j now) u) mine others

-- a retiring leaves every worker with its lot missed or ahead
pub retiring_missing :
    (n : ℕ) {s t : State} {r : Retiring} (past : List Entry)
    → Retires s r t
    → Known s
    → Missing n past s
    → Missing n (past ++ (retired r ∷ [])) t
retiring_missing n {s} {t} {r} past act known every =
    each_retiring act (λ j u. 1 ≤ since j now → Missed n now t (since j now) u)
    (λ some. absurd (let none = since_ends r.worker past (retired r) refl (λ goes. goes) in omega arith)) others
  where
    now : List Entry
    now = past ++ (retired r ∷ [])

    -- a worker that is retired holds no slot any more
    not_here : (x : Worker) → NotHere n s x → NotHere n t x
    not_here x apart =
        record {
          key = λ is. apart.key (sym (retire_key act (home n x) x.slot) ∙ is);
          nobody =
              each_retiring act (λ h y. Holds y → y.key ≡ x.key → y.held ≡ x.slot → ⊥)
              (λ holds key slot. omega (arith, holds.1)) (λ h another. apart.nobody h);
        }

    still : (x : Worker) (a : Ahead n s x) → Ahead n t x
    still x a =
        let same = retiring_slots act known (home n x) a.slot in
        record {
          slot = a.slot;
          has = (same.on a.has.0, same.key a.has.0 ∙ a.has.1);
          ahead = ahead_on n s t x a.slot (same.value a.has.0) (λ low apart. not_here x apart) a.ahead;
        }

    others : (j : ℕ) → (j ≡ r.worker → ⊥) → 1 ≤ since j now → Missed n now t (since j now) (record_of s j)
    others j other some =
        let same = since_other j past (retired r) (λ own. other (sym own)) in
        subst (λ (first : ℕ). Missed n now t first (record_of s j)) (sym same) (by (every j (omega (arith, same))))
      where
        by : Missed n past s (since j past) (record_of s j) → Missed n now t (since j past) (record_of s j)
        by (inl missed) = inl (sometime_on past (retired r) missed)
        by (inr a) = inr (still (record_of s j) a)

-- a start leaves every worker with its lot missed or ahead
pub start_missing :
    (n : ℕ) {s t : State} {v : Worker} {spent : List ℕ} (past : List Entry)
    → Begins s v spent t
    → Begun past s
    → Missing n past s
    → Missing n past t
start_missing n {s} {t} past start begun every =
    each_start start (λ j u. 1 ≤ since j past → Missed n past t (since j past) u)
    (λ some. absurd (let none = (begun start.starts.who).rests (ap (λ (u : Worker). u.kind) start.starts.was) in omega arith))
    (λ j other some. by j (every j some))
  where
    -- a worker that starts holds no slot
    not_here : (x : Worker) → NotHere n s x → NotHere n t x
    not_here x apart =
        record {
          key = λ is. apart.key (sym (start_cells start (home n x) (key_cell x.slot)) ∙ is);
          nobody =
              each_start start (λ h y. Holds y → y.key ≡ x.key → y.held ≡ x.slot → ⊥)
              (λ holds key slot. omega (arith, holds.1, start.starts.held)) (λ h another. apart.nobody h);
        }

    still : (x : Worker) (a : Ahead n s x) → Ahead n t x
    still x a =
        let same = start_cells start (home n x) in
        record {
          slot = a.slot;
          has = (rw (same mark_cell) a.has.0, same (key_cell a.slot) ∙ a.has.1);
          ahead = ahead_on n s t x a.slot (same (value_cell a.slot)) (λ low apart. not_here x apart) a.ahead;
        }

    by : (j : ℕ) → Missed n past s (since j past) (record_of s j) → Missed n past t (since j past) (record_of s j)
    by j (inl missed) = inl missed
    by j (inr a) = inr (still (record_of s j) a)
