-- What a remove has to go by once it has read the mark word: a slot that was valid then has a ticket for its value ever after, and so what it
-- has seen there is one. For a valid slot has a ticket, and a turn writes no value but a ticket. Assumes nothing.
use Prim.Native.Nat.{ℕ, ◌≤◌}
use mathlib.Core.List.{List}
use mathlib.Core.Logic.{◌⊎◌, inl, inr}
use mathlib.Core.Path.{◌≡◌, refl, sym, subst}
use native.Mathlib.Omega.{arith}
use Rattle.mark.specs.Word.{mark_of}
use Rattle.turn.specs.declared.Worker.{Worker}
use Rattle.turn.specs.declared.Stepped.{Stepped}
use Rattle.turn.specs.Worker.{close_place}
use Rattle.turn.specs.Bucket.{value_cell}
use Rattle.turn.proofs.Effects.{Aimed}
use Rattle.turn.proofs.Outcomes.{Found, Empty, Did, reads, loses, stores_value, stores_key, claims, commits, frees, closes}
use Rattle.turn.proofs.Outcomes as out
use Rattle.turn.proofs.Values.{filled}
use Rattle.history.specs.Trace.{Turn, Retiring, Closes}
use Rattle.history.specs.History.{State, record_of}
use Rattle.history.specs.Values.{StoresTicket, value_at}
use Rattle.history.specs.Cells.{cells_at, home}
use Rattle.history.proofs.Steps.{Begins, Turns, Retires}
use Rattle.history.proofs.Written.{turn_written}
use Rattle.history.proofs.Cells.{Known, insert_ticket, retire_value}
use Rattle.clerk.proofs.Leads.{Leads, reads_leads}
use Rattle.clerk.proofs.Leads as leads
use Rattle.clerk.proofs.Begun.{start_fresh}
use Rattle.clerk.proofs.Steps.{each_turn, each_retiring, each_start, own_did, was_known, start_cells}

-- a remove w that has read the mark word, on a board of n buckets
pub record Assured (n : ℕ) (s : State) (w : Worker) : Type 0 where
  -- a slot that was valid then has a ticket for its value now
  pub values : (p : ℕ) → mark_of w.word p ≡ 1 → 1 ≤ value_at s (home n w) p
  -- and about to close, it has seen one
  pub seen : w.place ≡ close_place → 1 ≤ w.seen

-- P, where a remove has read the mark word
abbrev Past : (Worker → Type 0) → Worker → Type 0
Past P w = 11 ≤ w.place → P w

-- every remove that has read the mark word
abbrev pub AllAssured : State → Type 0
AllAssured s = (i : ℕ) → Past (Assured s.floor.buckets s) (record_of s i)

-- so of a state whose board has k buckets
sized : {k : ℕ} {s : State} → s.floor.buckets ≡ k → ((i : ℕ) → Past (Assured k s) (record_of s i)) → AllAssured s
sized {s = s} is all = subst (λ (k : ℕ). (i : ℕ) → Past (Assured k s) (record_of s i)) (sym is) all

-- where values that are tickets stay so, it can go by them still
still : {n : ℕ} {s t : State} → ((b p : ℕ) → 1 ≤ value_at s b p → 1 ≤ value_at t b p) → (w : Worker) → Assured n s w → Assured n t w
still {n} on w assured = record { values = λ p valid. on (home n w) p (assured.values p valid); seen = assured.seen }

-- an empty search and one that has found are no remove's
not_empty : {w : Worker} {x : Stepped} → Empty w x → Past (λ v. ⊥) x.worker
not_empty (out.none kind) from = omega arith
not_empty (out.free e kind held slot mark) from = omega arith
not_empty (out.full kind held all) from = omega arith
not_empty (out.ready kind held) from = omega arith

not_found : {w : Worker} {x : Stepped} → Found w x → Past (λ v. ⊥) x.worker
not_found (out.answers kind) from = omega arith
not_found (out.refuses kind held) from = omega arith
not_found (out.gives_back kind held) from = omega arith

-- ---- a turn

module _ {s t : State} {e : Turn} (act : Turns s e t) (known : Known s) (old : AllAssured s) where
  abbrev n : ℕ
  n = s.floor.buckets

  abbrev w : Worker
  w = e.was

  abbrev c : ℕ → ℕ
  c = cells_at s (home n w)

  abbrev d : ℕ → ℕ
  d = cells_at t (home n w)

  -- a turn writes no value but its worker's ticket
  turn_valued : (b p : ℕ) → 1 ≤ value_at s b p → 1 ≤ value_at t b p
  turn_valued b p some = by (turn_written act b p)
    where
      by : (value_at t b p ≡ value_at s b p) ⊎ StoresTicket (value_at t b p) e → 1 ≤ value_at t b p
      by (inl same) = rw same some
      by (inr stored) =
          let place = stored.0.0 in
          let insert = (filled _ w act.ok (omega arith) (omega arith)).0 in
          omega (arith, stored.1, insert_ticket insert act.ok.sound.ticket)

  aimed : Aimed w
  aimed = was_known act Aimed (known.kept.aimed e.worker)

  own : Past (Assured n s) w
  own = was_known act (Past (Assured n s)) (old e.worker)

  -- a remove that closes has seen a ticket
  pub closes_ticket : Closes e → 1 ≤ w.seen
  closes_ticket close = let place = close.0 in (own (omega arith)).seen place

  own_values : 11 ≤ w.place → (p : ℕ) → mark_of w.word p ≡ 1 → 1 ≤ value_at t (home n w) p
  own_values from p valid = turn_valued (home n w) p ((own from).values p valid)

  -- a slot that is valid in the word that is read has a ticket, and so has the value that is read of it later
  by_lead : {x : Stepped} → Leads c w x → Past (Assured n t) x.worker
  by_lead (leads.begins_remove place removes) from =
      record { values = λ p valid. turn_valued (home n w) p (known.cells.valid (home n w) p valid).ticket; seen = λ at. absurd (omega arith) }
  by_lead (leads.to12 place matches) from =
      record { values = own_values (omega arith); seen = λ at. absurd (omega arith) }
  by_lead (leads.to11 place other more) from =
      record { values = own_values (omega arith); seen = λ at. absurd (omega arith) }
  by_lead (leads.to13 place) from =
      record {
        values = own_values (omega arith);
        seen = λ at. (own (omega arith)).values w.slot (aimed.at_close (omega arith) (omega arith));
      }
  by_lead (leads.empty vain rest) from = absurd (not_empty rest from)
  by_lead (leads.found place agree rest) from = absurd (not_found rest from)
  by_lead (leads.begins place kind) from = absurd (omega arith)
  by_lead (leads.to3 place) from = absurd (omega arith)
  by_lead (leads.to4 place valid) from = absurd (omega arith)
  by_lead (leads.to5 place equal) from = absurd (omega arith)
  by_lead (leads.to2 passed more) from = absurd (omega arith)
  by_lead (leads.not_there place removes other done) from = absurd (omega arith)

  mine : {x : Stepped} → Did c w d x → Past (Assured n t) x.worker
  mine (reads same read) from = by_lead (reads_leads c w read) from
  mine (loses same swap missed) from = absurd (omega arith)
  mine (stores_value stored place fills) from = absurd (omega arith)
  mine (stores_key stored place fills) from = absurd (omega arith)
  mine (claims stored met place free) from = absurd (omega arith)
  mine (commits stored met place fills) from = absurd (omega arith)
  mine (frees stored place fills) from = absurd (omega arith)
  mine (closes stored met place removes) from = absurd (omega arith)

  -- a turn keeps what removes have to go by
  pub turn_assured : AllAssured t
  turn_assured =
      sized act.buckets
      (each_turn act (λ j. Past (Assured n t)) (mine (own_did act refl)) (λ j other from. still turn_valued (record_of s j) (old j from)))

-- ---- a retiring and a start

-- a retiring keeps what removes have to go by
pub retiring_assured : {s t : State} {r : Retiring} → Retires s r t → AllAssured s → AllAssured t
retiring_assured {s} {t} act old =
    sized act.buckets
    (each_retiring act (λ j. Past (Assured s.floor.buckets t)) (λ from. absurd (omega arith))
    (λ j other from. still (λ b p some. rw (retire_value act b p) some) (record_of s j) (old j from)))

-- a start keeps what removes have to go by
pub start_assured : {s t : State} {v : Worker} {spent : List ℕ} → Begins s v spent t → AllAssured s → AllAssured t
start_assured {s} {t} start old =
    sized start.buckets
    (each_start start (λ j. Past (Assured s.floor.buckets t)) (λ from. absurd (omega (arith, (start_fresh start.kind).0)))
    (λ j other from. still (λ b p some. rw (start_cells start b (value_cell p)) some) (record_of s j) (old j from)))
