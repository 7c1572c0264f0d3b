-- However many inserts there were, an answer tells whether its call has changed the list: that of an insert is 1 exactly if it committed, and
-- that of a remove is a ticket exactly if it closed. And every lot in the list has a ticket. Assumes nothing.
use Prim.Native.Nat.{ℕ, ◌≤◌}
use mathlib.Core.Bool.{Bool, true, false, cond}
use mathlib.Core.List.{List, [], ◌∷◌, ◌++◌}
use mathlib.Core.Logic.{inl, inr, ◌↔◌}
use mathlib.Core.Path.{◌≡◌, refl, sym, subst, ◌∙◌}
use native.Mathlib.Omega.{arith}
use Rattle.turn.specs.declared.Worker.{Worker}
use Rattle.turn.specs.declared.Progress.TheVariants.{Ended}
use Rattle.turn.specs.declared.Stepped.{Stepped}
use Rattle.turn.proofs.Outcomes.{Empty, Did, reads, loses, stores_value, stores_key, claims, commits, frees, closes}
use Rattle.turn.proofs.Outcomes as out
use Rattle.engine.specs.Move.{Line}
use Rattle.history.specs.Trace.{Turn, Entry, acted, retired}
use Rattle.history.specs.History.{State}
use Rattle.history.specs.Moves.{Step, state_through, trace_through}
use Rattle.history.proofs.Steps.{Turns, Lasts, step_of}
use Rattle.history.proofs.Account.{turn_account, action_is, progress_is}
use Rattle.history.proofs.Cells.{Known, insert_ticket, known_lasts, ready_known}
use Rattle.history.proofs.Ready.{Ready, rests}
use Rattle.history.proofs.Through.{Stretch, stretch_first, stretch_on, by_move, call_keeps, steps_last}
use Rattle.walks.specs.Lists.{Each, In}
use Rattle.walks.proofs.Lists.{each_append, each_right, each_in}
use Rattle.clerk.specs.Does.{Asked, line, insert, is_in, told, does, TellsChange}
use Rattle.clerk.specs.Calls.{EndedCall, IsCallOf, Settles, asks, list_after}
use Rattle.clerk.proofs.Leads.{Leads, reads_leads}
use Rattle.clerk.proofs.Leads as leads
use Rattle.clerk.proofs.ListAfter.{asks_look, asks_insert, asks_remove, list_settled, list_quiet}
use Rattle.clerk.proofs.Listed.{without_each}
use Rattle.clerk.proofs.Enumerated.{one_answer, goes_not, cut_at_end}
use Rattle.clerk.proofs.Deals.{Deals, nothing, comes, goes, turn_deals}
use Rattle.clerk.proofs.Assured.{AllAssured, closes_ticket, turn_assured, retiring_assured, start_assured}

-- ---- a turn that settles nothing

module _ {s t : State} {e : Turn} (act : Turns s e t) (unsettled : Settles e → ⊥) (a : ℕ) where
  abbrev w : Worker
  w = e.was

  -- no answer of a look tells of a change, nor does the answer 0 of an insert or a remove
  look_quiet : w.kind ≡ 1 → TellsChange (asks w) a → ⊥
  look_quiet kind changes = subst (λ (x : Asked). TellsChange x a) (asks_look w kind) changes

  insert_quiet : w.kind ≡ 2 → Ended 0 ≡ Ended a → TellsChange (asks w) a → ⊥
  insert_quiet kind is changes =
      let one : a ≡ 1 = subst (λ (x : Asked). TellsChange x a) (asks_insert w kind) changes in omega (arith, one_answer 0 a is, one)

  remove_quiet : w.kind ≡ 3 → Ended 0 ≡ Ended a → TellsChange (asks w) a → ⊥
  remove_quiet kind is changes =
      let some : 1 ≤ a = subst (λ (x : Asked). TellsChange x a) (asks_remove w kind) changes in omega (arith, one_answer 0 a is, some)

  quiet_empty : {x : Stepped} → Empty w x → x.progress ≡ Ended a → TellsChange (asks w) a → ⊥
  quiet_empty (out.none kind) is = look_quiet kind
  quiet_empty (out.free slot kind held few mark) is = goes_not is
  quiet_empty (out.full kind held all) is = goes_not is
  quiet_empty (out.ready kind held) is = goes_not is

  quiet_read : {c : ℕ → ℕ} {x : Stepped} → Leads c w x → x.progress ≡ Ended a → TellsChange (asks w) a → ⊥
  quiet_read (leads.begins place kind) is = goes_not is
  quiet_read (leads.begins_remove place removes) is = goes_not is
  quiet_read (leads.to3 place) is = goes_not is
  quiet_read (leads.to4 place valid) is = goes_not is
  quiet_read (leads.to5 place equal) is = goes_not is
  quiet_read (leads.to2 passed more) is = goes_not is
  quiet_read (leads.empty vain rest) is = quiet_empty rest is
  quiet_read (leads.found place agree (out.answers kind)) is = look_quiet kind
  quiet_read (leads.found place agree (out.refuses kind held)) is = insert_quiet kind is
  quiet_read (leads.found place agree (out.gives_back kind held)) is = goes_not is
  quiet_read (leads.to12 place matches) is = goes_not is
  quiet_read (leads.to11 place other more) is = goes_not is
  quiet_read (leads.not_there place removes other done) is = remove_quiet removes.kind is
  quiet_read (leads.to13 place) is = goes_not is

  quiet_did : {c d : ℕ → ℕ} {x : Stepped} → (step_of s e).stepped ≡ x → Did c w d x → x.progress ≡ Ended a → TellsChange (asks w) a → ⊥
  quiet_did same (reads kept read) is = quiet_read (reads_leads _ w read) is
  quiet_did same (loses kept swap lost) is = goes_not is
  quiet_did same (stores_value stored place fills) is = goes_not is
  quiet_did same (stores_key stored place fills) is = goes_not is
  quiet_did same (claims stored met place free) is = goes_not is
  quiet_did same (commits stored met place fills) is = absurd (unsettled (inl (place, action_is act same)))
  quiet_did same (frees stored place fills) is = insert_quiet fills.kind is
  quiet_did same (closes stored met place removes) is = absurd (unsettled (inr (place, action_is act same)))

  -- a turn that ends its call without a commit or a close tells of no change: what it answers is 0, or it is a look's
  quiet_tells : e.report.progress ≡ Ended a → TellsChange (asks w) a → ⊥
  quiet_tells is = quiet_did refl (turn_account act) (sym (progress_is act refl) ∙ is)

-- ---- every turn that ends its call

-- where a turn ends its call, its answer tells whether it has changed the list
abbrev Tells : Turn → Type 0
Tells e = (a : ℕ) → e.report.progress ≡ Ended a → Settles e ↔ TellsChange (asks e.was) a

-- so of an entry; a retiring gives no answer
abbrev WasTold : Entry → Type 0
WasTold (acted e) = Tells e
WasTold (retired r) = Unit {0}

-- a commit answers 1, and a close what its worker has seen, which is a ticket
turn_tells : {s t : State} {e : Turn} → Turns s e t → Known s → AllAssured s → Tells e
turn_tells {s} {t} {e} act known assured a is = by (turn_deals act known)
  where
    by : Deals s e t → Settles e ↔ TellsChange (asks e.was) a
    by (nothing unsettled slots) = (λ settles. absurd (unsettled settles), λ changes. absurd (quiet_tells act unsettled a is changes))
    by (comes commit did) = (
      λ settles. subst (λ (x : Asked). TellsChange x a) (sym (asks_insert e.was did.holder.kind)) (one_answer a 1 (sym is ∙ did.ends)),
      λ changes. inl commit,
    )
    by (goes close did) = (
      λ settles.
          subst (λ (x : Asked). TellsChange x a) (sym (asks_remove e.was did.remover.kind))
          (omega (arith, one_answer a e.was.seen (sym is ∙ did.ends), closes_ticket act known assured close)),
      λ changes. inr close,
    )

-- ---- the tickets in the list

-- a line with a ticket
abbrev Ticketed : Line → Type 0
Ticketed l = 1 ≤ l.ticket

-- a lot that is added with a ticket leaves every line with one
added_ticketed : (lot ticket : ℕ) → 1 ≤ ticket → (list : List Line) → Each Ticketed list → Each Ticketed (does (insert lot ticket) list).list
added_ticketed lot ticket some list each = by (is_in lot list)
  where
    by : (t : Bool) → Each Ticketed (cond t (told 0 list) (told 1 (line lot ticket ∷ list))).list
    by true = each
    by false = (some, each)

-- only a commit adds a line, with the ticket of an insert
turn_ticketed :
    {s t : State} {e : Turn}
    → Turns s e t
    → Known s
    → (past : List Entry)
    → Each Ticketed (list_after past)
    → Each Ticketed (list_after (past ++ (acted e ∷ [])))
turn_ticketed {s} {t} {e} act known past each = by (turn_deals act known)
  where
    by : Deals s e t → Each Ticketed (list_after (past ++ (acted e ∷ [])))
    by (nothing unsettled slots) = rw (list_quiet past (acted e) unsettled) each
    by (comes commit did) =
        let kind = did.holder.kind in
        rw (list_settled past (acted e) (inl commit), asks_insert e.was kind)
        (added_ticketed e.was.key e.was.ticket (insert_ticket kind act.ok.sound.ticket) (list_after past) each)
    by (goes close did) =
        rw (list_settled past (acted e) (inr close), asks_remove e.was did.remover.kind) (without_each e.was.key Ticketed (list_after past) each)

-- ---- any number of them, and moves

-- what holds all the time, of a state and of what was done until then
record Telling (s : State) (past : List Entry) : Type 0 where
  pub known : Known s
  pub assured : AllAssured s
  pub tells : Each WasTold past
  pub ticketed : Each Ticketed (list_after past)

-- every accepted start, every turn done and every retiring done keep it
telling_lasts : Lasts (λ s past ts. Telling s past)
telling_lasts =
    record {
      begins = λ past ts start old.
          record {
            known = known_lasts.begins past ts start old.known;
            assured = start_assured start old.assured;
            tells = old.tells;
            ticketed = old.ticketed;
          };
      turns = λ {e = e} past ts act old.
          record {
            known = known_lasts.turns past ts act old.known;
            assured = turn_assured act old.known old.assured;
            tells = each_append WasTold past (acted e ∷ []) old.tells (turn_tells act old.known old.assured, tt);
            ticketed = turn_ticketed act old.known past old.ticketed;
          };
      retires = λ {r = r} past ts act old.
          record {
            known = known_lasts.retires past ts act old.known;
            assured = retiring_assured act old.assured;
            tells = each_append WasTold past (retired r ∷ []) old.tells (tt, tt);
            ticketed = rw (list_quiet past (retired r) (λ turn. turn)) old.ticketed;
          };
    }

-- where a stretch begins every worker rests, so that nothing has to be known of a remove
ready_telling : {s : State} → Ready s → (past : List Entry) → Each WasTold past → Each Ticketed (list_after past) → Telling s past
ready_telling ready past tells ticketed =
    record {
      known = ready_known ready;
      assured = λ i from. absurd (omega (arith, from, (rests ready i).place));
      tells = tells;
      ticketed = ticketed;
    }

module _ {first : State} (ready : Ready first) (steps : List Step) where
  -- a move leaves every worker at rest, and the list as it was
  telling_through : Stretch (state_through first steps) × Telling (state_through first steps) (trace_through first steps)
  telling_through =
      steps_last (λ s past. Stretch s × Telling s past)
      (λ s c past at. (stretch_on c at.0, call_keeps Telling telling_lasts s c past at.1))
      (λ s m past at.
      by_move at.0 m (λ (t : State). Stretch t × Telling t past)
      (λ t moved. (stretch_first moved.ready, ready_telling moved.ready past at.1.tells at.1.ticketed)) at)
      steps first [] (stretch_first ready, ready_telling ready [] tt tt)

  -- the answer of a call tells whether it ended by a commit or a close
  pub calls_told :
      (c : EndedCall) (is : IsCallOf (trace_through first steps) c) → Settles is.at.turn ↔ TellsChange c.asked c.answer
  calls_told c is =
      let turns = subst (Each WasTold) (cut_at_end (trace_through first steps) is.at) telling_through.1.tells in
      rw is.asked ((each_right WasTold (is.at.before ++ is.at.between) (acted is.at.turn ∷ is.at.after) turns).0 c.answer is.answer)

  -- a lot in the list has a ticket
  pub lots_ticketed : (l : Line) → In l (list_after (trace_through first steps)) → 1 ≤ l.ticket
  lots_ticketed l inside = each_in Ticketed l (list_after (trace_through first steps)) telling_through.1.ticketed inside
