-- A turn that ends its call without a commit or a close: at some turn of the call, the clerk would have given its answer and left the list.
-- Assumes nothing.
use Prim.Native.Nat.{ℕ, ◌≤◌}
use mathlib.Core.List.{List, [], ◌∷◌, ◌++◌}
use mathlib.Core.Logic.{inl, inr}
use mathlib.Core.Path.{◌≡◌, refl, sym, ap, ◌∙◌}
use lib.ListN.{take}
use Rattle.turn.specs.declared.Worker.{Worker}
use Rattle.turn.specs.declared.Progress.TheVariants.{Ended}
use Rattle.turn.specs.declared.Stepped.{Stepped}
use Rattle.turn.specs.Bucket.{value_cell}
use Rattle.turn.proofs.Outcomes.{Empty, Did, reads, loses, stores_value, stores_key, claims, commits, frees, closes}
use Rattle.turn.proofs.Outcomes as out
use Rattle.history.specs.Trace.{Turn, Entry, acted}
use Rattle.history.specs.History.{State}
use Rattle.history.specs.Cells.{cells_at, home}
use Rattle.history.proofs.Steps.{Turns, step_of}
use Rattle.history.proofs.Account.{action_is, progress_is}
use Rattle.history.proofs.Cells.{Known}
use Rattle.clerk.specs.Does.{line, Asked, Told, told, does}
use Rattle.clerk.specs.Calls.{asks, Settles, list_after}
use Rattle.clerk.proofs.Rows.{row_at}
use Rattle.clerk.proofs.Leads.{Leads, reads_leads}
use Rattle.clerk.proofs.Leads as leads
use Rattle.clerk.proofs.ListAfter.{asks_look, asks_insert, asks_remove}
use Rattle.clerk.proofs.Listed.{look_there, look_none, insert_there, remove_none, listed_once}
use Rattle.clerk.proofs.Enumerated.{one_answer, goes_not}
use Rattle.clerk.proofs.Sometime.{Sometime, sometime_on, sometime_then}
use Rattle.clerk.proofs.Deals.{Deals, nothing, comes, goes, turn_deals}
use Rattle.clerk.proofs.Knows.{has_back, Knowing}
use Rattle.clerk.proofs.Distinct.{Distinct}
use Rattle.clerk.proofs.Listing.{Lists}
use Rattle.clerk.proofs.Begun.{Begun, first_turn, first_turn_within}
use Rattle.clerk.proofs.Seen.{Seen}
use Rattle.clerk.proofs.Found.{reasons, HadSince, Founded, own_reasons}
use Rattle.clerk.proofs.Ahead.{Ahead, not_vain, not_last}
use Rattle.clerk.proofs.Zero.{MissedSince, Missing, Before, own_before, absent_now}
use Rattle.clerk.proofs.Zero as before
use Rattle.clerk.proofs.Steps.{Sized, own_did}

module _
    (n : ℕ) {s t : State} {e : Turn} (past : List Entry) (sized : Sized n s) (act : Turns s e t) (known : Known s) (then : Known t)
    (knowing : Knowing n s) (distinct : Distinct s) (begun : Begun past s) (seen : Seen n s) (lists : Lists n (past ++ (acted e ∷ [])) t)
    (founded : Founded n past s) (missing : Missing n past s) (unsettled : Settles e → ⊥) where
  abbrev w : Worker
  w = e.was

  abbrev c : ℕ → ℕ
  c = cells_at s (home n w)

  abbrev now : List Entry
  now = past ++ (acted e ∷ [])

  abbrev first : ℕ
  first = first_turn e.worker past

  -- at some turn of the call the clerk gives this answer
  abbrev Answered : ℕ → Type 0
  Answered a = Sometime first now (λ list. does (asks w) list ≡ told a list)

  -- what the clerk does for this worker, where its record asks this
  asked :
      {a : Asked} {told : Told}
      → asks w ≡ a
      → (m : ℕ)
      → does a (list_after (take m now)) ≡ told
      → does (asks w) (list_after (take m now)) ≡ told
  asked is m does-so = ap (λ (a : Asked). does a (list_after (take m now))) is ∙ does-so

  -- where the lot was missing or had a ticket
  missed_look : w.kind ≡ 1 → MissedSince first now w.key → Answered 0
  missed_look kind = sometime_then (λ m none. asked (asks_look w kind) m (look_none (list_after (take m now)) w.key none))

  missed_remove : w.kind ≡ 3 → MissedSince first now w.key → Answered 0
  missed_remove kind = sometime_then (λ m none. asked (asks_remove w kind) m (remove_none (list_after (take m now)) w.key none))

  had_look : w.kind ≡ 1 → (ticket : ℕ) → HadSince first now w.key ticket → Answered ticket
  had_look kind ticket =
      sometime_then (λ m there.
      asked (asks_look w kind) m (look_there (list_after (take m now)) (line w.key ticket) (listed_once (take m now)) there))

  had_insert : w.kind ≡ 2 → (ticket : ℕ) → HadSince first now w.key ticket → Answered 0
  had_insert kind ticket =
      sometime_then (λ m there.
      asked (asks_insert w kind) m (insert_there (list_after (take m now)) (line w.key ticket) w.ticket there))

  -- a worker that has not its lot ahead has missed it
  missed : (Ahead n s w → ⊥) → MissedSince first now w.key
  missed none = by (own_before n past sized act known then knowing distinct begun lists missing) (turn_deals act known)
    where
      by : Before n past s first w → Deals s e t → MissedSince first now w.key
      by (before.missing some) deals = sometime_on past (acted e) some
      by (before.ahead a) deals = absurd (none a)
      by (before.nowhere absent) (nothing quiet slots) =
          absent_now n past sized act known then knowing distinct begun lists missing first w.key (first_turn_within e.worker past)
          (λ p has. absent p (has_back (slots (home n w)) w.key p has))
      by (before.nowhere absent) (comes commit did) = absurd (unsettled (inl commit))
      by (before.nowhere absent) (goes close did) = absurd (unsettled (inr close))

  valued : (a : Ahead n s w) → 1 ≤ c (value_cell a.slot)
  valued a = (known.cells.valid (home n w) a.slot a.has.0).ticket

  -- what the worker had when it found its lot
  had : (k : ℕ) → w.place ≡ k → row_at (reasons (HadSince first past w.key) c w) k
  had k is = rw (← is) (own_reasons n past sized act known seen begun lists founded)

  -- ---- by how the turn came out

  by_empty : (a : ℕ) {x : Stepped} → leads.Vain c w → Empty w x → x.progress ≡ Ended a → Answered a
  by_empty a vain (out.none kind) is =
      rw (← one_answer 0 a is) (missed_look kind (missed (λ ahead. not_vain n s w ahead.slot ahead.ahead ahead.has (valued ahead) vain)))
  by_empty a vain (out.free slot kind held few mark) is = goes_not is
  by_empty a vain (out.full kind held all) is = goes_not is
  by_empty a vain (out.ready kind held) is = goes_not is

  by_read : (a : ℕ) {x : Stepped} → Leads c w x → x.progress ≡ Ended a → Answered a
  by_read a (leads.begins place kind) is = goes_not is
  by_read a (leads.begins_remove place removes) is = goes_not is
  by_read a (leads.to3 place) is = goes_not is
  by_read a (leads.to4 place valid) is = goes_not is
  by_read a (leads.to5 place equal) is = goes_not is
  by_read a (leads.to2 passed more) is = goes_not is
  by_read a (leads.empty vain rest) is = by_empty a vain rest is
  by_read a (leads.found place agree (out.answers kind)) is =
      rw (← one_answer w.seen a is) (had_look kind w.seen (sometime_on past (acted e) (had 5 place agree.0)))
  by_read a (leads.found place agree (out.refuses kind held)) is =
      rw (← one_answer 0 a is) (had_insert kind w.seen (sometime_on past (acted e) (had 5 place agree.0)))
  by_read a (leads.found place agree (out.gives_back kind held)) is = goes_not is
  by_read a (leads.to12 place matches) is = goes_not is
  by_read a (leads.to11 place other more) is = goes_not is
  by_read a (leads.not_there place removes other done) is =
      rw (← one_answer 0 a is)
      (missed_remove removes.kind (missed (λ ahead. not_last n s w ahead.slot ahead.ahead ahead.has (valued ahead) place other done)))
  by_read a (leads.to13 place) is = goes_not is

  by_did : (a : ℕ) {x : Stepped} → (step_of s e).stepped ≡ x → Did c w (cells_at t (home n w)) x → x.progress ≡ Ended a → Answered a
  by_did a same (reads kept read) is = by_read a (reads_leads c w read) is
  by_did a same (loses kept swap lost) is = goes_not is
  by_did a same (stores_value stored place fills) is = goes_not is
  by_did a same (stores_key stored place fills) is = goes_not is
  by_did a same (claims stored met place free) is = goes_not is
  by_did a same (commits stored met place fills) is = absurd (unsettled (inl (place, action_is act same)))
  by_did a same (frees stored place fills) is =
      let found = had 10 place in rw (← one_answer 0 a is) (had_insert fills.kind found.0 (sometime_on past (acted e) found.1))
  by_did a same (closes stored met place removes) is = absurd (unsettled (inr (place, action_is act same)))

  -- a turn that ends its call without a commit or a close gives an answer that was the clerk's at some turn of the call
  pub turn_answers : (a : ℕ) → e.report.progress ≡ Ended a → Answered a
  turn_answers a is = by_did a refl (own_did act sized) (sym (progress_is act refl) ∙ is)
