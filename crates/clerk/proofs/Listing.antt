-- The clerk's list is what stands in the valid slots: a commit adds its lot to both, a close strikes it from both, and no other turn touches
-- either. So a commit and a close give the clerk's answer, and the list grows by a commit and shrinks by a close. Assumes nothing.
use Prim.Native.Nat.{ℕ, ◌+◌}
use mathlib.Core.List.{List, [], ◌∷◌, ◌++◌}
use mathlib.Core.Logic.{inl, inr}
use mathlib.Core.Path.{◌≡◌, sym, ap, subst, ◌∙◌}
use native.Mathlib.Decide.{ℕ_discrete}
use native.Mathlib.Omega.{arith}
use lib.ListN.{length}
use Rattle.turn.specs.declared.Worker.{Worker}
use Rattle.turn.specs.declared.Progress.TheVariants.{Ended}
use Rattle.engine.specs.Board.{bucket_of}
use Rattle.engine.specs.Move.{Line}
use Rattle.history.specs.Trace.{Turn, Retiring, Entry, acted, retired, Commits, Closes, IsTurn}
use Rattle.history.specs.Counts.{commits_in, closes_in, is_commit, is_close}
use Rattle.history.specs.History.{State}
use Rattle.history.specs.Values.{value_at}
use Rattle.history.specs.Cells.{cells_at, mark_at, key_at}
use Rattle.history.proofs.Steps.{Begins, Turns, Retires}
use Rattle.history.proofs.Cells.{Known}
use Rattle.clerk.specs.Does.{line, Asked, Told, told, does, without}
use Rattle.clerk.specs.Calls.{asks, Settles, list_after}
use Rattle.walks.specs.Lists.{Each, In}
use Rattle.clerk.proofs.Counts.{count_more, count_same}
use Rattle.clerk.proofs.ListAfter.{asks_insert, asks_remove, list_settled, list_quiet}
use Rattle.clerk.proofs.Listed.{NotOf, not_in_lot, insert_none, remove_there, without_has, without_was, without_length, listed_once}
use Rattle.clerk.proofs.Deals.{SameSlot, same_slots, same_back, Commit, Close, no_commit_closes, Deals, nothing, comes, goes, turn_deals, retiring_slots}
use Rattle.clerk.proofs.Fates.{From, old, new, Fate, stays, closed, valid_from, valid_then}
use Rattle.clerk.proofs.Knows.{HasLot, has_on, Knowing}
use Rattle.clerk.proofs.Distinct.{Distinct}
use Rattle.clerk.proofs.Won.{commit_new, close_finds}
use Rattle.clerk.proofs.Steps.{Sized, own_home, start_cells}

-- a line stands in a valid slot of its lot's bucket
pub record Shows (n : ℕ) (s : State) (l : Line) : Type 0 where
  pub slot : ℕ
  pub has : HasLot (cells_at s (bucket_of l.lot n)) l.lot slot
  pub value : value_at s (bucket_of l.lot n) slot ≡ l.ticket

-- where the valid slots of its bucket stay, it stands still
shows_on :
    {n : ℕ} {s t : State} (l : Line)
    → ((p : ℕ) → SameSlot (cells_at s (bucket_of l.lot n)) (cells_at t (bucket_of l.lot n)) p)
    → Shows n s l
    → Shows n t l
shows_on l same shows =
    let slot = same shows.slot in
    record { slot = shows.slot; has = has_on same l.lot shows.slot shows.has; value = slot.value shows.has.0 ∙ shows.value }

-- the list after these turns is what stands in the valid slots
pub record Lists (n : ℕ) (past : List Entry) (s : State) : Type 0 where
  pub there : (l : Line) → In l (list_after past) → Shows n s l
  pub all : (l : Line) → Shows n s l → In l (list_after past)

-- the list after past has as many lines as there were lots where newer began, with the commits of newer and without its closes
abbrev pub Long : ℕ → List Entry → List Entry → Type 0
Long lots past newer = length (list_after past) + closes_in newer ≡ lots + commits_in newer

-- where no slot has a lot, no line of the list has it
pub none_listed :
    {n : ℕ} {past : List Entry} {s : State}
    → Lists n past s
    → (lot : ℕ)
    → ((p : ℕ) → HasLot (cells_at s (bucket_of lot n)) lot p → ⊥)
    → Each (NotOf lot) (list_after past)
none_listed {past = past} lists lot none =
    not_in_lot lot (list_after past) (λ ticket inside. let l = lists.there (line lot ticket) inside in none l.slot l.has)

-- what neither commits nor closes, and leaves all valid slots, keeps the list what stands there
quiet_lists :
    (n : ℕ) {s t : State} (past : List Entry) (e : Entry)
    → Lists n past s
    → (IsTurn Settles e → ⊥)
    → ((b p : ℕ) → SameSlot (cells_at s b) (cells_at t b) p)
    → Lists n (past ++ (e ∷ [])) t
quiet_lists n past e lists quiet slots =
    let same = list_quiet past e quiet in
    record {
      there = λ l inside. shows_on l (slots (bucket_of l.lot n)) (lists.there l (subst (In l) same inside));
      all = λ l shows. subst (In l) (sym same) (lists.all l (shows_on l (λ p. same_back (slots (bucket_of l.lot n) p)) shows));
    }

-- and leaves it as long as it was
quiet_long :
    (lots : ℕ) (past newer : List Entry) (e : Entry)
    → Long lots past newer
    → (IsTurn Settles e → ⊥)
    → (IsTurn Commits e → ⊥)
    → (IsTurn Closes e → ⊥)
    → Long lots (past ++ (e ∷ [])) (newer ++ (e ∷ []))
quiet_long lots past newer e long quiet uncommitted unclosed =
    rw (list_quiet past e quiet) (omega (arith, long, count_same is_commit newer e uncommitted, count_same is_close newer e unclosed))

-- ---- a turn

module _
    (n : ℕ) {s t : State} {e : Turn} (past : List Entry) (sized : Sized n s) (act : Turns s e t) (known : Known s)
    (knowing : Knowing n s) (distinct : Distinct s) (lists : Lists n past s) where
  abbrev w : Worker
  w = e.was

  abbrev now : List Entry
  now = past ++ (acted e ∷ [])

  abbrev list : List Line
  list = list_after past

  here : e.report.bucket ≡ bucket_of w.key n
  here = own_home act sized

  deals : Deals s e t
  deals = turn_deals act known

  -- a line that stands and whose slot stays valid stands still
  still :
      (l : Line) (shows : Shows n s l)
      → Fate s e t (bucket_of l.lot n) shows.slot
      → (Closes e → bucket_of l.lot n ≡ e.report.bucket → shows.slot ≡ w.slot → ⊥)
      → Shows n t l
  still l shows (stays valid key value) apart =
      record { slot = shows.slot; has = (valid, key ∙ shows.has.1); value = value ∙ shows.value }
  still l shows (closed close did bucket slot gone) apart = absurd (apart close bucket slot)

  -- a line whose slot was valid as it is stood there
  abbrev stood :
      (l : Line) (shows : Shows n t l)
      → let b = bucket_of l.lot n in
      mark_at s b shows.slot ≡ 1
      → key_at t b shows.slot ≡ key_at s b shows.slot
      → value_at t b shows.slot ≡ value_at s b shows.slot
      → Shows n s l
  stood l shows was key value = record { slot = shows.slot; has = (was, sym key ∙ shows.has.1); value = sym value ∙ shows.value }

  fate : (l : Line) (shows : Shows n s l) → Fate s e t (bucket_of l.lot n) shows.slot
  fate l shows = valid_then (bucket_of l.lot n) shows.slot deals shows.has.0

  from : (l : Line) (shows : Shows n t l) → From s e t (bucket_of l.lot n) shows.slot
  from l shows = valid_from (bucket_of l.lot n) shows.slot deals shows.has.0

  -- ---- a commit

  module _ (commit : Commits e) (did : Commit s e t) where
    abbrev added : Line
    added = line w.key w.ticket

    unlisted : Each (NotOf w.key) list
    unlisted =
        none_listed lists w.key (λ p has.
        commit_new n sized act known knowing commit did p (subst (λ (b : ℕ). HasLot (cells_at s b) w.key p) (sym here) has))

    -- the clerk adds the lot and answers 1
    commit_told : does (asks w) list ≡ told 1 (added ∷ list)
    commit_told = ap (λ (x : Asked). does x list) (asks_insert w did.holder.kind) ∙ insert_none list w.key w.ticket unlisted

    -- a commit ends with the clerk's answer
    pub commit_answers : e.report.progress ≡ Ended (does (asks w) list).answer
    commit_answers = did.ends ∙ ap (λ (x : Told). Ended x.answer) (sym commit_told)

    commit_list : list_after now ≡ added ∷ list
    commit_list = list_settled past (acted e) (inl commit) ∙ ap (λ (x : Told). x.list) commit_told

    commit_lists : Lists n now t
    commit_lists =
        record {
          there = λ l inside. shows_then l (subst (In l) commit_list inside);
          all = λ l shows. subst (In l) (sym commit_list) (listed_then l shows (from l shows));
        }
      where
        shows_then : (l : Line) → In l (added ∷ list) → Shows n t l
        shows_then l (inl is) =
            subst (Shows n t) is
            (record {
              slot = w.held;
              has = subst (λ (b : ℕ). HasLot (cells_at t b) w.key w.held) here (did.valid, did.key);
              value = rw (← here) did.value;
            })
        shows_then l (inr inside) = let shows = lists.there l inside in still l shows (fate l shows) (λ close bucket slot. no_commit_closes e commit close)

        listed_then : (l : Line) (shows : Shows n t l) → From s e t (bucket_of l.lot n) shows.slot → In l (added ∷ list)
        listed_then l shows (old was key value) = inr (lists.all l (stood l shows was key value))
        listed_then l shows (new again then bucket slot key value) =
            inl (λ i. record { lot = (sym key ∙ shows.has.1) i; ticket = (sym value ∙ shows.value) i })

  -- ---- a close

  module _ (close : Closes e) (did : Close s e t) where
    abbrev struck : Line
    struck = line w.key w.seen

    found : HasLot (cells_at s (bucket_of w.key n)) w.key w.slot × (w.seen ≡ value_at s (bucket_of w.key n) w.slot)
    found =
        subst (λ (b : ℕ). HasLot (cells_at s b) w.key w.slot × (w.seen ≡ value_at s b w.slot)) here
        (close_finds n sized act known knowing close did)

    listed : In struck list
    listed = lists.all struck (record { slot = w.slot; has = found.0; value = sym found.1 })

    -- the clerk strikes the lot and answers its ticket
    close_told : does (asks w) list ≡ told w.seen (without w.key list)
    close_told = ap (λ (x : Asked). does x list) (asks_remove w did.remover.kind) ∙ remove_there list struck (listed_once past) listed

    -- a close ends with the clerk's answer
    pub close_answers : e.report.progress ≡ Ended (does (asks w) list).answer
    close_answers = did.ends ∙ ap (λ (x : Told). Ended x.answer) (sym close_told)

    close_list : list_after now ≡ without w.key list
    close_list = list_settled past (acted e) (inr close) ∙ ap (λ (x : Told). x.list) close_told

    -- the slot that is closed is the only one with its lot
    only : (l : Line) (shows : Shows n s l) → l.lot ≡ w.key → shows.slot ≡ w.slot
    only l shows is = by (ℕ_discrete shows.slot w.slot)
      where
        has : HasLot (cells_at s (bucket_of w.key n)) w.key shows.slot
        has = subst (λ (lot : ℕ). HasLot (cells_at s (bucket_of lot n)) lot shows.slot) is shows.has

        by : Dec (shows.slot ≡ w.slot) → shows.slot ≡ w.slot
        by (yes same) = same
        by (no other) = absurd (distinct (bucket_of w.key n) shows.slot w.slot other has.0 found.0.0 (has.1 ∙ sym found.0.1))

    close_lists : Lists n now t
    close_lists =
        record {
          there = λ l inside.
              let left = without_was w.key l list (subst (In l) close_list inside) in
              let shows = lists.there l left.0 in
              still l shows (fate l shows) (λ closes bucket slot. left.1 (lot_of l shows bucket slot));
          all = λ l shows. subst (In l) (sym close_list) (listed_then l shows (from l shows));
        }
      where
        -- a line in the slot that is closed is of the lot that is struck
        lot_of : (l : Line) (shows : Shows n s l) → bucket_of l.lot n ≡ e.report.bucket → shows.slot ≡ w.slot → l.lot ≡ w.key
        lot_of l shows bucket slot =
            sym shows.has.1 ∙ ap (λ (b : ℕ). key_at s b shows.slot) (bucket ∙ here) ∙ ap (key_at s (bucket_of w.key n)) slot ∙ found.0.1

        gone : (l : Line) (shows : Shows n t l) → l.lot ≡ w.key → shows.slot ≡ w.slot → ⊥
        gone l shows is slot =
            omega (
              arith,
              sym shows.has.0
                  ∙ ap (λ (lot : ℕ). mark_at t (bucket_of lot n) shows.slot) is
                  ∙ ap (λ (b : ℕ). mark_at t b shows.slot) (sym here)
                  ∙ ap (mark_at t e.report.bucket) slot
                  ∙ did.gone,
            )

        listed_then : (l : Line) (shows : Shows n t l) → From s e t (bucket_of l.lot n) shows.slot → In l (without w.key list)
        listed_then l shows (old was key value) =
            let before = stood l shows was key value in without_has w.key l (λ is. gone l shows is (only l before is)) list (lists.all l before)
        listed_then l shows (new commit again bucket slot key value) = absurd (no_commit_closes e commit close)

  -- a turn keeps the list what stands in the valid slots
  pub turn_lists : Lists n now t
  turn_lists = by deals
    where
      by : Deals s e t → Lists n now t
      by (nothing unsettled slots) = quiet_lists n past (acted e) lists unsettled slots
      by (comes commit did) = commit_lists commit did
      by (goes close did) = close_lists close did

  -- a turn keeps the length of the list what was counted
  pub turn_long : (lots : ℕ) (newer : List Entry) → Long lots past newer → Long lots now (newer ++ (acted e ∷ []))
  turn_long lots newer long = by deals
    where
      by : Deals s e t → Long lots now (newer ++ (acted e ∷ []))
      by (nothing unsettled slots) =
          quiet_long lots past newer (acted e) long unsettled (λ commit. unsettled (inl commit)) (λ close. unsettled (inr close))
      by (comes commit did) =
          rw (commit_list commit did)
          (omega (arith, long, count_more is_commit newer (acted e) commit, count_same is_close newer (acted e) (no_commit_closes e commit)))
      by (goes close did) =
          rw (close_list close did)
          (omega (
            arith,
            long,
            without_length (struck close did) list (listed_once past) (listed close did),
            count_more is_close newer (acted e) close,
            count_same is_commit newer (acted e) (λ commit. no_commit_closes e commit close),
          ))

-- a retiring leaves the list and the slots
pub retiring_lists :
    (n : ℕ) {s t : State} {r : Retiring} (past : List Entry)
    → Retires s r t
    → Known s
    → Lists n past s
    → Lists n (past ++ (retired r ∷ [])) t
retiring_lists n {r = r} past act known lists =
    quiet_lists n past (retired r) lists (λ turn. turn) (retiring_slots act known)

-- and the list is as long as it was
pub retiring_long :
    (lots : ℕ) (past newer : List Entry) (r : Retiring)
    → Long lots past newer
    → Long lots (past ++ (retired r ∷ [])) (newer ++ (retired r ∷ []))
retiring_long lots past newer r long = quiet_long lots past newer (retired r) long (λ turn. turn) (λ turn. turn) (λ turn. turn)

-- a start leaves the list and the slots
pub start_lists :
    (n : ℕ) {s t : State} {v : Worker} {spent : List ℕ} (past : List Entry)
    → Begins s v spent t
    → Lists n past s
    → Lists n past t
start_lists n past start lists =
    record {
      there = λ l inside. shows_on l (same_slots (start_cells start (bucket_of l.lot n))) (lists.there l inside);
      all = λ l shows. lists.all l (shows_on l (λ p. same_back (same_slots (start_cells start (bucket_of l.lot n)) p)) shows);
    }
