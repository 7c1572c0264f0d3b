-- On an opened board each lost swap is charged to a change, and each change to an accepted start. Assumes nothing.
use Prim.Native.Nat.{ℕ, ◌+◌, ◌≤◌}
use mathlib.Core.Bool.{cond}
use mathlib.Core.Path.{◌≡◌, refl, sym, ap, ◌∙◌}
use native.Mathlib.Omega.{arith}
use lib.Dec.{eqb, leb}
use borrow.Author.Tests.{eq-eqb, ne_eqb, le-leb, eqb-false, leb-true}
use Rattle.mark.proofs.Choices.{by_cases}
use Rattle.turn.specs.declared.Worker.{Worker}
use Rattle.turn.specs.declared.Action.{Action}
use Rattle.turn.specs.declared.Action.TheVariants.{Read, Store, Won, Lost}
use Rattle.turn.specs.Worker.{idle}
use Rattle.turn.specs.Effects.{Effect, effect_on}
use Rattle.turn.proofs.Effects.{SameCall, Moves, reads, goes, again, answers, claims, commits, frees, closes, retires, Went}
use Rattle.engine.specs.Board.{bucket_of}
use Rattle.history.specs.Trace.{Turn, Entry, acted, retired, who, bucket_in}
use Rattle.history.specs.Counts.{lost?, one_if}
use Rattle.history.specs.Cells.{home}
use Rattle.history.proofs.View.{View, worker, inserting, left, Aware, swapper_aware, Acts, quiet_marks}
use Rattle.history.proofs.Lawful.{changed, bumped}
use Rattle.history.proofs.Counts.{loss_of, change_of}
use Rattle.history.proofs.Held.{Kept}
use Rattle.history.proofs.Minds.{Minds, renews, keeps, forgets, act_expects}

-- ---- a call's changes are paid for by its start

-- what has effect e pays for its change from what its call had left, and for moving the version from its ticket
pub record Pays (w : Worker) (e : Effect) (v : Worker) : Type 0 where
  pub change : changed e + left v ≤ left w
  pub bump : bumped e + inserting v ≤ inserting w

module _ (w : Worker) (e : Effect) (v : Worker) where
  -- a call that goes on as it was
  goes_on : changed e ≡ 0 → bumped e ≡ 0 → SameCall w v → v.held ≡ w.held → Pays w e v
  goes_on quiet silent call held = record { change = rw (quiet, call.kind, held) (omega arith); bump = rw (silent, call.kind) (omega arith) }

  -- a call that is over
  over : v ≡ idle → changed e ≤ left w → bumped e ≤ inserting w → Pays w e v
  over is change bump = rw is (record { change = omega (arith, change); bump = omega (arith, bump) })

  -- every turn does
  pub moves_pays : (m : ℕ) → Moves m w e v → Pays w e v
  moves_pays m (reads is place call word held) = goes_on (rw is) (rw is) call held
  moves_pays m (goes is place call word held from) = goes_on (rw is) (rw is) call held
  moves_pays m (again is call word held from) = goes_on (rw is) (rw is) call held
  moves_pays m (answers is ends) = over ends (rw is (omega arith)) (rw is (omega arith))
  moves_pays m (claims is kind held slot empty call own word) =
      record {
        change = rw (is, call.kind, kind, held, own, ne_eqb w.slot 3 (omega arith)) (omega arith);
        bump = rw (is, call.kind, kind) (omega arith);
      }
  moves_pays m (commits is kind held ends) = over ends (rw (is, kind, ne_eqb w.held 3 (omega arith)) (omega arith)) (rw (is, kind) (omega arith))
  moves_pays m (frees is kind held ends) = over ends (rw (is, kind, ne_eqb w.held 3 (omega arith)) (omega arith)) (rw (is, kind) (omega arith))
  moves_pays m (closes is kind slot valid ends) = over ends (rw (is, kind) (omega arith)) (rw (is, kind) (omega arith))
  moves_pays m (retires is kind held ends) = over ends (rw (is, kind, ne_eqb w.held 3 (omega arith)) (omega arith)) (rw (is, kind) (omega arith))

-- ---- a worker whose word is stale is due to lose a swap

module _ (n : ℕ) (marks : ℕ → ℕ) where
  -- 1 for a worker that has in mind another word than its bucket's mark word
  abbrev pub stale : Worker → ℕ
  stale w = cond (eqb w.kind 1) 0 (cond (leb 2 w.place) (cond (eqb w.word (marks (home n w))) 0 1) 0)

  -- one at most
  pub stale_le : (w : Worker) → stale w ≤ 1
  stale_le w =
      by_cases (λ (x : ℕ). x ≤ 1) (eqb w.kind 1) _ _ (λ look. omega arith)
      (λ other. by_cases (λ (x : ℕ). x ≤ 1) (leb 2 w.place) _ _
      (λ past. by_cases (λ (x : ℕ). x ≤ 1) (eqb w.word (marks (home n w))) _ _ (λ same. omega arith) (λ differs. omega arith))
      (λ first. omega arith))

  -- not one that has nothing in mind, or just that word
  pub not_stale : (w : Worker) → (Aware w → w.word ≡ marks (home n w)) → stale w ≡ 0
  not_stale w fresh =
      by_cases (λ (x : ℕ). x ≡ 0) (eqb w.kind 1) _ _ (λ look. refl)
      (λ other. by_cases (λ (x : ℕ). x ≡ 0) (leb 2 w.place) _ _
      (λ past.
      let aware : Aware w = record { other = eqb-false _ 1 other; from = leb-true 2 _ past } in
      rw (eq-eqb _ _ (fresh aware)))
      (λ first. refl))

  -- but one that has another word in mind
  is_stale : (w : Worker) → Aware w → (w.word ≡ marks (home n w) → ⊥) → stale w ≡ 1
  is_stale w aware differs = rw (ne_eqb w.kind 1 aware.other, le-leb 2 w.place aware.from, ne_eqb _ _ differs)

-- marks that are the same make the same workers stale
pub stale_same : (n : ℕ) (marks marks' : ℕ → ℕ) → ((c : ℕ) → marks' c ≡ marks c) → (w : Worker) → stale n marks' w ≤ stale n marks w
stale_same n marks marks' alike w = rw (alike (home n w)) (omega arith)

-- ---- a lost swap

module _ (n : ℕ) (s : View) (e : Turn) (v : Worker) (t : View) (kept : Kept n s) (act : Acts n s (acted e) v t) where
  abbrev loser : Worker
  loser = worker s e.worker

  was_stale : (a : Action) → Went (s.marks e.report.bucket) loser v a → one_if (lost? a) ≤ stale n s.marks loser
  was_stale Read went = omega arith
  was_stale Store went = omega arith
  was_stale Won went = omega arith
  was_stale Lost went =
      let known = went.lost refl in
      let swapper = known.0 in
      let word = act_expects n s (acted e) v t kept act swapper in
      let differs : loser.word ≡ s.marks (home n loser) → ⊥ = λ same. known.1 (word ∙ same ∙ ap s.marks (sym act.bucket)) in
      omega (arith, is_stale n s.marks loser (swapper_aware loser swapper) differs)

  goes_back : (a : Action) → Went (s.marks e.report.bucket) loser v a → 2 ≤ v.place → one_if (lost? a) ≡ 0
  goes_back Read went past = refl
  goes_back Store went past = refl
  goes_back Won went past = refl
  goes_back Lost went past = absurd (omega (arith, (went.lost refl).2))

-- the worker of a lost swap was stale
lost_stale : (n : ℕ) (s : View) (e : Entry) (v : Worker) (t : View) → Kept n s → Acts n s e v t → loss_of e ≤ stale n s.marks (worker s (who e))
lost_stale n s (acted e) v t kept act = was_stale n s e v t kept act e.report.action act.tells.went
lost_stale n s (retired r) v t kept act = omega arith

-- a lost swap leaves its worker at place 1
lost_again : (n : ℕ) (s : View) (e : Entry) (v : Worker) (t : View) → Kept n s → Acts n s e v t → 2 ≤ v.place → loss_of e ≡ 0
lost_again n s (acted e) v t kept act past = goes_back n s e v t kept act e.report.action act.tells.went past
lost_again n s (retired r) v t kept act past = refl

-- ---- what is paid

module _ (n : ℕ) (s : View) (e : Entry) (v : Worker) (t : View) (kept : Kept n s) (act : Acts n s e v t) where
  abbrev w : Worker
  w = worker s (who e)

  abbrev effect : Effect
  effect = act.effect

  fresh_word : v.key ≡ w.key → v.word ≡ effect_on effect (s.marks (bucket_in e)) → v.word ≡ t.marks (home n v)
  fresh_word key word = word ∙ sym act.here ∙ ap t.marks (act.bucket ∙ ap (λ (k : ℕ). bucket_of k n) (sym key))

  -- what changed nothing pays for its lost swap by being stale no more
  pub quiet_pays : change_of e ≡ 0 → Minds (s.marks (bucket_in e)) w effect v → loss_of e + stale n t.marks v ≤ stale n s.marks w
  quiet_pays quiet (renews how key word) =
      omega (arith, lost_stale n s e v t kept act, not_stale n t.marks v (λ aware. fresh_word key word))
  quiet_pays quiet (keeps is call word from to) =
      let same : stale n t.marks v ≤ stale n s.marks w =
      rw (call.kind, call.key, word, le-leb 2 v.place to, le-leb 2 w.place from, quiet_marks act quiet (home n w)) (omega arith) in
      omega (arith, lost_again n s e v t kept act to)
  quiet_pays quiet (forgets unaware) =
      omega (arith, lost_stale n s e v t kept act, not_stale n t.marks v (λ aware. absurd (unaware aware)))

  -- after a change of its own a worker is not stale
  pub change_fresh : (change_of e ≡ 0 → ⊥) → Minds (s.marks (bucket_in e)) w effect v → stale n t.marks v ≡ 0
  change_fresh loud (renews how key word) = not_stale n t.marks v (λ aware. fresh_word key word)
  change_fresh loud (keeps is call word from to) = absurd (loud (act.changes ∙ rw is))
  change_fresh loud (forgets unaware) = not_stale n t.marks v (λ aware. absurd (unaware aware))
