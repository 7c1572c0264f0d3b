-- Two outcomes of a turn: what place 8 stores, and what leads to place 7. Assumes nothing.
use Prim.Native.Nat.{ℕ}
use mathlib.Core.Path.{◌≡◌, refl}
use native.Mathlib.Omega.{arith}
use Rattle.turn.specs.declared.Worker.{Worker}
use Rattle.turn.specs.declared.Action.TheVariants.{Won}
use Rattle.turn.specs.declared.Stepped.{Stepped}
use Rattle.turn.specs.Worker.{insert_kind, ticket_place, claim_place}
use Rattle.turn.specs.Bucket.{key_cell}
use Rattle.turn.proofs.Outcomes.{Empty, Found, Did, reads, loses, stores_value, stores_key, claims, commits, frees, closes}
use Rattle.turn.proofs.Outcomes as out
use Rattle.turn.proofs.Stays.{reads_place}
use Rattle.history.specs.Cells.{key_place}
use Rattle.clerk.proofs.Leads.{Leads, reads_leads}
use Rattle.clerk.proofs.Leads as leads

module _ (c : ℕ → ℕ) (w : Worker) (d : ℕ → ℕ) where
  -- place 8 stores the lot into the slot that is held
  pub stored_key : {x : Stepped} → Did c w d x → w.place ≡ key_place → d (key_cell w.held) ≡ w.key
  stored_key (reads same read) place = absurd ((reads_place read).1 place)
  stored_key (loses same (out.at6 six known) missed) place = absurd (omega arith)
  stored_key (loses same (out.at9 nine known) missed) place = absurd (omega arith)
  stored_key (loses same (out.at13 thirteen known) missed) place = absurd (omega arith)
  stored_key (stores_value stored seven fills) place = absurd (omega arith)
  stored_key (stores_key stored eight fills) place = stored.there
  stored_key (claims stored met six free) place = absurd (omega arith)
  stored_key (commits stored met nine fills) place = absurd (omega arith)
  stored_key (frees stored ten fills) place = absurd (omega arith)
  stored_key (closes stored met thirteen removes) place = absurd (omega arith)

  empty_claims : {x : Stepped} → Empty w x → x.worker.place ≡ ticket_place → ⊥
  empty_claims (out.none kind) seven = omega arith
  empty_claims (out.free slot kind held few mark) seven = omega arith
  empty_claims (out.full kind held all) seven = omega arith
  empty_claims (out.ready kind held) seven = omega arith

  found_claims : {x : Stepped} → Found w x → x.worker.place ≡ ticket_place → ⊥
  found_claims (out.answers kind) seven = omega arith
  found_claims (out.refuses kind held) seven = omega arith
  found_claims (out.gives_back kind held) seven = omega arith

  read_claims : {x : Stepped} → Leads c w x → x.worker.place ≡ ticket_place → ⊥
  read_claims (leads.begins place kind) seven = omega arith
  read_claims (leads.begins_remove place removes) seven = omega arith
  read_claims (leads.to3 place) seven = omega arith
  read_claims (leads.to4 place valid) seven = omega arith
  read_claims (leads.to5 place equal) seven = omega arith
  read_claims (leads.to2 passed more) seven = omega arith
  read_claims (leads.empty vain rest) seven = empty_claims rest seven
  read_claims (leads.found place agree rest) seven = found_claims rest seven
  read_claims (leads.to12 place matches) seven = omega arith
  read_claims (leads.to11 place other more) seven = omega arith
  read_claims (leads.not_there place removes other done) seven = omega arith
  read_claims (leads.to13 place) seven = omega arith

  -- only a claim that is won leads to place 7
  pub claimed_by :
      {x : Stepped} → Did c w d x → x.worker.place ≡ ticket_place → (w.place ≡ claim_place) × (x.action ≡ Won) × (w.kind ≡ insert_kind)
  claimed_by (reads same read) seven = absurd (read_claims (reads_leads c w read) seven)
  claimed_by (loses same swap missed) seven = absurd (omega arith)
  claimed_by (stores_value stored place fills) seven = absurd (omega arith)
  claimed_by (stores_key stored place fills) seven = absurd (omega arith)
  claimed_by (claims stored met place free) seven = (place, refl, free.kind)
  claimed_by (commits stored met place fills) seven = absurd (omega arith)
  claimed_by (frees stored place fills) seven = absurd (omega arith)
  claimed_by (closes stored met place removes) seven = absurd (omega arith)
