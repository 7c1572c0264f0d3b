-- The mark word that a worker has in mind, beside the one on the board: how far the version has moved between the two, by commits and by
-- retirings. While its version and its valid slots are still the board's, nobody has committed or closed there: the version is moved fewer
-- than 2^32 times, so that it tells each of them, and what was closed comes back by a commit alone. Assumes nothing.
use Prim.Native.Nat.{ℕ, ◌^◌, ◌<◌}
use mathlib.Core.List.{List, [], ◌∷◌, ◌++◌}
use mathlib.Core.Path.{◌≡◌, sym, ap, ◌∙◌}
use native.Mathlib.Decide.{ℕ_discrete}
use native.Mathlib.Omega.{arith}
use Rattle.mark.specs.Word.{version, mark_of}
use Rattle.mark.proofs.Fields.{version_lt}
use Rattle.turn.specs.declared.Worker.{Worker}
use Rattle.turn.specs.Effects.{Effect, effect_on}
use Rattle.engine.specs.Board.{bucket_of}
use Rattle.history.specs.Trace.{Turn, Retiring, Entry, acted, retired, Commits}
use Rattle.history.specs.Counts.{is_commit}
use Rattle.history.specs.History.{State, record_of}
use Rattle.history.specs.Cells.{cells_at, mark_word_at, home}
use Rattle.history.proofs.View.{View, Aware, Acts, act_version}
use Rattle.history.proofs.Behind.{Behind, not_behind, behind_on, not_moved}
use Rattle.history.proofs.Minds.{Minds, renews, keeps, forgets}
use Rattle.history.proofs.Remembers.{act_minds}
use Rattle.history.proofs.Counts.{bump_of, in_bucket, in_bucket_lem, in_bucket_most, one_yes}
use Rattle.history.proofs.Cells.{retire_marks}
use Rattle.history.proofs.Steps.{Begins, Turns, Retires, step_of}
use Rattle.clerk.proofs.Counts.{bumps_in, bumps_then}
use Rattle.clerk.proofs.Deals.{SameSlot, Close, Deals, nothing, comes, goes}
use Rattle.clerk.proofs.Fates.{valid_before}
use Rattle.clerk.proofs.Steps.{Sized, each_turn, each_retiring, each_start, start_cells}

-- ---- the word in mind, beside the mark word m

-- a word that was read tells nothing of the future: it is behind the board's version, and where it is not the board has no valid slot more
pub record Recalls (moves m word : ℕ) : Type 0 where
  pub behind : Behind moves m word
  pub old : behind.since ≡ 0 → (p : ℕ) → mark_of m p ≡ 1 → mark_of word p ≡ 1

-- a word is still the board's, as far as the version and the valid slots go
pub record Current (m word : ℕ) : Type 0 where
  pub same : version m ≡ version word
  pub valid : (p : ℕ) → mark_of word p ≡ 1 → mark_of m p ≡ 1

-- a word that is the mark word itself is still the board's
pub current_met : {m word : ℕ} → m ≡ word → Current m word
current_met met = record { same = ap version met; valid = λ p valid. rw met valid }

-- what a worker recalls that has read the mark word in its round
abbrev RecallsNow : ℕ → List Entry → State → Worker → Type 0
RecallsNow n past s u = Aware u → Recalls (bumps_in past) (mark_word_at s (home n u)) u.word

-- every worker recalls so the word that it has read
abbrev pub Recalled : ℕ → List Entry → State → Type 0
Recalled n past s = (i : ℕ) → RecallsNow n past s (record_of s i)

-- ---- over an entry

-- any entry, on a board of k buckets, and a word that is kept over it
module _
    {k : ℕ} {s t : View} {e : Entry} {v : Worker} (past : List Entry) (act : Acts k s e v t) (word b : ℕ)
    (known : Recalls (bumps_in past) (s.marks b) word) where
  abbrev after_it : List Entry
  after_it = past ++ (e ∷ [])

  -- how often it moved the version there
  abbrev moves : ℕ
  moves = in_bucket b bump_of e

  -- as much further is the board than the word
  abbrev further : Behind (bumps_in after_it) (t.marks b) word
  further =
      behind_on (bumps_in past) moves (bumps_in after_it) (s.marks b) (t.marks b) word (act_version act b)
      (omega (arith, bumps_then past e, in_bucket_most b bump_of e)) known.behind

  -- a worker recalls what it did, if no slot becomes valid there without a move of the version
  recalls_then : (moves ≡ 0 → (p : ℕ) → mark_of (t.marks b) p ≡ 1 → mark_of (s.marks b) p ≡ 1) → Recalls (bumps_in after_it) (t.marks b) word
  recalls_then back =
      record { behind = further; old = λ none p valid. known.old (omega (arith, none)) p (back (omega (arith, none)) p valid) }

  -- where a word is still the board's after it, the version was not moved there, nor was it since the word was read
  unmoved : bumps_in after_it < 2 ^ 32 → Current (t.marks b) word → (moves ≡ 0) × (known.behind.since ≡ 0)
  unmoved few current =
      let none = not_moved (bumps_in after_it) (t.marks b) word further few current.same in (omega (arith, none), omega (arith, none))

  -- and so the word was the board's before it, if the slots that are valid there were so
  current_then :
      bumps_in after_it < 2 ^ 32
      → Current (t.marks b) word
      → ((p : ℕ) → mark_of (t.marks b) p ≡ 1 → mark_of (s.marks b) p ≡ 1)
      → Current (s.marks b) word
  current_then few current back =
      let none = (unmoved few current).1 in
      record { same = omega (arith, known.behind.moved, none, version_lt word); valid = λ p valid. back p (current.valid p valid) }

-- ---- another worker's turn

module _
    {s t : State} {e : Turn} (past : List Entry) (act : Turns s e t) (deals : Deals s e t) (word b : ℕ)
    (known : Recalls (bumps_in past) (mark_word_at s b) word) where
  abbrev now : List Entry
  now = past ++ (acted e ∷ [])

  -- a commit there moves the version
  commit_moves : Commits e → b ≡ e.report.bucket → in_bucket b bump_of (acted e) ≡ 1
  commit_moves commit here = in_bucket_lem b bump_of (acted e) (sym here) ∙ one_yes (is_commit (acted e)) commit

  -- a worker that has no turn recalls what it did
  recalls_on : Recalls (bumps_in now) (mark_word_at t b) word
  recalls_on =
      recalls_then past act.acts word b known (λ quiet p valid.
      valid_before b p deals (λ commit here. omega (arith, quiet, commit_moves commit here)) valid)

  module _ (few : bumps_in now < 2 ^ 32) (current : Current (mark_word_at t b) word) where
    -- the word was the board's before the turn, and the turn left all valid slots there
    abbrev WasCurrent : Type 0
    WasCurrent = Current (mark_word_at s b) word × ((p : ℕ) → SameSlot (cells_at s b) (cells_at t b) p)

    still : ((p : ℕ) → SameSlot (cells_at s b) (cells_at t b) p) → WasCurrent
    still slots = (current_then past act.acts word b known few current (λ p valid. (slots p).back valid), slots)

    -- a close there has taken a mark that the word has, since no commit can have brought it
    not_close : Close s e t → b ≡ e.report.bucket → ⊥
    not_close did here =
        let was : mark_of (mark_word_at s b) e.was.slot ≡ 1 = rw here did.was in
        let gone : mark_of (mark_word_at t b) e.was.slot ≡ 0 = rw here did.gone in
        omega (arith, gone, current.valid _ (known.old (unmoved past act.acts word b known few current).1 _ was))

    -- where a word is still the board's after a turn, it was so before, and the turn left all valid slots there
    pub current_before : WasCurrent
    current_before = by deals (ℕ_discrete b e.report.bucket)
      where
        by : Deals s e t → Dec (b ≡ e.report.bucket) → WasCurrent
        by (nothing unsettled slots) bucket = still (slots b)
        by (comes commit did) (no elsewhere) = still (λ p. did.others b p (λ here same. elsewhere here))
        by (comes commit did) (yes here) =
            absurd (omega (arith, (unmoved past act.acts word b known few current).0, commit_moves commit here))
        by (goes close did) (no elsewhere) = still (λ p. did.others b p (λ here same. elsewhere here))
        by (goes close did) (yes here) = absurd (not_close did here)

-- ---- the worker's own turn, and a start

module _
    (n : ℕ) {s t : State} {e : Turn} (past : List Entry) (sized : Sized n s) (act : Turns s e t) (deals : Deals s e t)
    (old : Recalled n past s) where
  abbrev v : Worker
  v = (step_of s e).stepped.worker

  abbrev b : ℕ
  b = e.report.bucket

  -- a record of the same lot is in the bucket of the turn
  there : v.key ≡ (record_of s e.worker).key → home n v ≡ b
  there key = ap (λ (k : ℕ). bucket_of k n) key ∙ ap (bucket_of (record_of s e.worker).key) (sym sized) ∙ sym act.acts.bucket

  mine : Minds (mark_word_at s b) (record_of s e.worker) act.acts.effect v → RecallsNow n (past ++ (acted e ∷ [])) t v
  mine (renews how key word) aware =
      let same : v.word ≡ mark_word_at t (home n v) = word ∙ sym act.acts.here ∙ ap (mark_word_at t) (sym (there key)) in
      record { behind = not_behind _ _ _ same; old = λ none p valid. rw same valid }
  mine (keeps quiet call word from to) aware =
      let known = old e.worker (record { other = rw (← call.kind) aware.other; from = from }) in
      let here : home n (record_of s e.worker) ≡ b = sym (ap (λ (k : ℕ). bucket_of k n) call.key) ∙ there call.key in
      let mark : mark_word_at t b ≡ mark_word_at s b = act.acts.here ∙ ap (λ (f : Effect). effect_on f (mark_word_at s b)) quiet in
      rw (there call.key, word)
      (recalls_then past act.acts _ b (rw here at known) (λ none p valid. rw (← mark) valid))
  mine (forgets unaware) aware = absurd (unaware aware)

  -- a turn keeps what each worker recalls
  pub turn_recalled : Recalled n (past ++ (acted e ∷ [])) t
  turn_recalled =
      each_turn act (λ j u. RecallsNow n (past ++ (acted e ∷ [])) t u) (mine (act_minds act.acts))
      (λ j other aware. recalls_on past act deals (record_of s j).word (home n (record_of s j)) (old j aware))

-- ---- a retiring

-- where a word is still the board's after a retiring, it was so before
pub current_until :
    {s t : State} {r : Retiring} (past : List Entry)
    → Retires s r t
    → (word b : ℕ)
    → Recalls (bumps_in past) (mark_word_at s b) word
    → bumps_in (past ++ (retired r ∷ [])) < 2 ^ 32
    → Current (mark_word_at t b) word
    → Current (mark_word_at s b) word
current_until past act word b known few current =
    current_then past act.acts word b known few current (λ p valid. retire_marks act b p 1 (omega arith) valid)

-- a retiring keeps what each other worker recalls
pub retiring_recalled :
    (n : ℕ) {s t : State} {r : Retiring} (past : List Entry)
    → Retires s r t
    → Recalled n past s
    → Recalled n (past ++ (retired r ∷ [])) t
retiring_recalled n {s} {t} {r} past act old =
    each_retiring act (λ j u. RecallsNow n (past ++ (retired r ∷ [])) t u) (λ aware. absurd (omega (arith, aware.from)))
    (λ j other aware.
    recalls_then past act.acts (record_of s j).word (home n (record_of s j)) (old j aware) (λ quiet p valid.
    retire_marks act (home n (record_of s j)) p 1 (omega arith) valid))

-- a start keeps what each worker recalls
pub start_recalled :
    (n : ℕ) {s t : State} {v : Worker} {spent : List ℕ} (past : List Entry)
    → Begins s v spent t
    → Recalled n past s
    → Recalled n past t
start_recalled n {s} {t} past start old =
    each_start start (λ j u. RecallsNow n past t u) (λ aware. absurd (start.starts.unaware aware))
    (λ j other aware. rw (start_cells start (home n (record_of s j)) 0) (old j aware))
