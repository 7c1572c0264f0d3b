-- On an opened board a held slot has mark 2, on the board and in the word that its worker read; two workers of one bucket hold
-- different slots; every swap aims at a slot of the mark that it found. So every effect is lawful. Assumes nothing.
use Prim.Native.Nat.{ℕ, ◌≤◌, ◌<◌}
use mathlib.Core.Path.{◌≡◌, refl, sym, ap, subst, ◌∙◌}
use mathlib.Core.Logic.{◌⊎◌, inl, inr}
use native.Mathlib.Decide.{ℕ_discrete}
use native.Mathlib.Omega.{arith}
use lib.ListN.{length, set}
use Rattle.mark.specs.Word.{mark_of}
use Rattle.mark.proofs.Fields.{mark_set}
use Rattle.turn.specs.declared.Worker.{Worker}
use Rattle.turn.specs.Worker.{idle}
use Rattle.turn.specs.Effects.{Effect, none, effect_on}
use Rattle.turn.proofs.Effects.{Aimed, SameCall, Moves, reads, goes, again, answers, claims, commits, frees, closes, retires}
use Rattle.engine.specs.Board.{bucket_of}
use Rattle.history.specs.Trace.{Entry, who, bucket_in}
use Rattle.history.specs.Cells.{home, Holds}
use Rattle.history.proofs.View.{View, worker, Starts, Acts, each_worker}
use Rattle.history.proofs.Lawful.{Lawful, Spares, spared}

-- its slot has mark 2 in its bucket's mark word m, and past place 1 in its own word
pub record Sure (m : ℕ) (w : Worker) : Type 0 where
  pub board : mark_of m w.held ≡ 2
  pub word : 2 ≤ w.place → mark_of w.word w.held ≡ 2

module _ (n : ℕ) where
  -- two workers that hold a slot of one bucket each hold different ones
  abbrev pub Apart : Worker → Worker → Type 0
  Apart w v = Holds w → Holds v → home n w ≡ home n v → (w.held ≡ v.held → ⊥)

  -- what holds of every worker's slot, word and aim
  pub record Kept (s : View) : Type 0 where
    pub aimed : (i : ℕ) → Aimed (worker s i)
    pub sure : (i : ℕ) → Holds (worker s i) → Sure (s.marks (home n (worker s i))) (worker s i)
    pub apart : (i j : ℕ) → (i ≡ j → ⊥) → Apart (worker s i) (worker s j)

-- ---- the worker whose turn it is

-- two slots with different marks are not the same
unlike : (m s h mark : ℕ) → mark_of m s ≡ mark → mark_of m h ≡ 2 → (mark ≡ 2 → ⊥) → s ≡ h → ⊥
unlike m s h mark first second differ same = differ (sym first ∙ ap (mark_of m) same ∙ second)

-- a worker w that turns to v, and holds a slot then: its slot has mark 2, and it is one that it held, or one that was empty
record HoldsOn (n m : ℕ) (w : Worker) (after : ℕ) (v : Worker) : Type 0 where
  home_same : home n v ≡ home n w
  sure : Sure after v
  from : (Holds w × (v.held ≡ w.held)) ⊎ (mark_of m v.held ≡ 0)

module _ (m : ℕ) (w : Worker) (e : Effect) (v : Worker) where
  -- its effect is lawful
  moves_lawful : Moves m w e v → Aimed w → (Holds w → Sure m w) → Lawful e m
  moves_lawful (reads is place call word held) aimed sure = rw is tt
  moves_lawful (goes is place call word held from) aimed sure = rw is tt
  moves_lawful (again is call word held from) aimed sure = rw is tt
  moves_lawful (answers is ends) aimed sure = rw is tt
  moves_lawful (claims is kind held slot empty call own word) aimed sure = rw is (slot, empty aimed)
  moves_lawful (commits is kind held ends) aimed sure = rw is (held, (sure (kind, held)).board)
  moves_lawful (frees is kind held ends) aimed sure = rw is (held, (sure (kind, held)).board)
  moves_lawful (closes is kind slot valid ends) aimed sure = rw is (slot, valid aimed)
  moves_lawful (retires is kind held ends) aimed sure = rw is (held, (sure (kind, held)).board)

  -- it spares a slot that has mark 2 and is not the worker's own
  moves_spares : (h : ℕ) → Moves m w e v → Aimed w → mark_of m h ≡ 2 → (Holds w → w.held ≡ h → ⊥) → Spares h e
  moves_spares h (reads is place call word held) aimed two other = rw is tt
  moves_spares h (goes is place call word held from) aimed two other = rw is tt
  moves_spares h (again is call word held from) aimed two other = rw is tt
  moves_spares h (answers is ends) aimed two other = rw is tt
  moves_spares h (claims is kind held slot empty call own word) aimed two other = rw is (unlike m _ h 0 (empty aimed) two (omega arith))
  moves_spares h (commits is kind held ends) aimed two other = rw is (other (kind, held))
  moves_spares h (frees is kind held ends) aimed two other = rw is (other (kind, held))
  moves_spares h (closes is kind slot valid ends) aimed two other = rw is (unlike m _ h 1 (valid aimed) two (omega arith))
  moves_spares h (retires is kind held ends) aimed two other = rw is (other (kind, held))

  module _ (n : ℕ) where
    -- nothing happened to the mark word, and the slot is held on
    holds_on :
        e ≡ none
        → SameCall w v
        → v.held ≡ w.held
        → (Sure m w → 2 ≤ v.place → mark_of v.word w.held ≡ 2)
        → (Holds w → Sure m w)
        → Holds v
        → HoldsOn n m w (effect_on e m) v
    holds_on is call held word sure holds =
        let old : Holds w = (sym call.kind ∙ holds.0, omega (arith, holds.1)) in
        record {
          home_same = ap (λ (k : ℕ). bucket_of k n) call.key;
          sure = record { board = rw (is, held) (sure old).board; word = λ past. rw held (word (sure old) past) };
          from = inl (old, held);
        }

    idle_free : {A : Type 0} → v ≡ idle → Holds v → A
    idle_free is holds = absurd (let none : v.kind ≡ 0 = ap (λ (x : Worker). x.kind) is in omega (arith, holds.0))

    -- what it holds then
    moves_holds : Moves m w e v → Aimed w → (Holds w → Sure m w) → Holds v → HoldsOn n m w (effect_on e m) v
    moves_holds (reads is place call word held) aimed =
        holds_on is call held (λ old past. rw word old.board)
    moves_holds (goes is place call word held from) aimed =
        holds_on is call held (λ old past. rw word (old.word place))
    moves_holds (again is call word held from) aimed = holds_on is call held (λ old past. absurd (omega arith))
    moves_holds (answers is ends) aimed = λ sure holds. idle_free ends holds
    moves_holds (claims is kind held slot empty call own word) aimed = λ sure holds.
        let two = mark_set m w.slot 2 (omega arith) (omega arith) in
        record {
          home_same = ap (λ (k : ℕ). bucket_of k n) call.key;
          sure = record { board = rw (is, own) two; word = λ past. rw (word, own) two };
          from = inr (rw own (empty aimed));
        }
    moves_holds (commits is kind held ends) aimed = λ sure holds. idle_free ends holds
    moves_holds (frees is kind held ends) aimed = λ sure holds. idle_free ends holds
    moves_holds (closes is kind slot valid ends) aimed = λ sure holds. idle_free ends holds
    moves_holds (retires is kind held ends) aimed = λ sure holds. idle_free ends holds

-- ---- one record more or less

module _ (n : ℕ) (s t : View) (i : ℕ) (v : Worker) (within : i < length s.records) (records : t.records ≡ set s.records i v) where
  apart_set :
      ((j : ℕ) → (j ≡ i → ⊥) → Apart n v (worker s j)) → ((i j : ℕ) → (i ≡ j → ⊥) → Apart n (worker s i) (worker s j))
      → (k j : ℕ) → (k ≡ j → ⊥) → Apart n (worker t k) (worker t j)
  apart_set mine old =
      each_worker s t i v records (λ (k : ℕ) (w : Worker). (j : ℕ) → (k ≡ j → ⊥) → Apart n w (worker t j)) within
      (each_worker s t i v records (λ (j : ℕ) (w : Worker). (i ≡ j → ⊥) → Apart n v w) within
      (λ same. absurd (same refl)) (λ j other differ. mine j other))
      (λ k other. each_worker s t i v records (λ (j : ℕ) (w : Worker). (k ≡ j → ⊥) → Apart n (worker s k) w) within
      (λ differ theirs own same equal. mine k other own theirs (sym same) (sym equal)) (λ j another differ. old k j differ))

  -- what holds of the new record, of the others beside it, and of all before, holds of all
  kept_set :
      Kept n s
      → Aimed v
      → (Holds v → Sure (t.marks (home n v)) v)
      → ((j : ℕ) → (j ≡ i → ⊥) → Holds (worker s j) → Sure (t.marks (home n (worker s j))) (worker s j))
      → ((j : ℕ) → (j ≡ i → ⊥) → Apart n v (worker s j))
      → Kept n t
  kept_set kept aimed mine others apart =
      record {
        aimed = each_worker s t i v records (λ (j : ℕ) (w : Worker). Aimed w) within aimed (λ j other. kept.aimed j);
        sure = each_worker s t i v records (λ (j : ℕ) (w : Worker). Holds w → Sure (t.marks (home n w)) w) within mine others;
        apart = apart_set apart kept.apart;
      }

-- ---- a turn and a retiring keep it all, and so does a start

module _ (n : ℕ) (s : View) (e : Entry) (v : Worker) (t : View) (kept : Kept n s) (act : Acts n s e v t) where
  abbrev i : ℕ
  i = who e

  abbrev effect : Effect
  effect = act.effect

  abbrev m : ℕ
  m = s.marks (bucket_in e)

  -- a slot that the worker held has mark 2, on the board and in its word
  pub own_sure : Holds (worker s i) → Sure m (worker s i)
  own_sure holds = subst (λ (b : ℕ). Sure (s.marks b) (worker s i)) (sym act.bucket) (kept.sure i holds)

  -- the effect is lawful
  pub act_lawful : Lawful effect m
  act_lawful = moves_lawful m (worker s i) effect v act.moves (kept.aimed i) own_sure

  mine : Holds v → HoldsOn n m (worker s i) (effect_on effect m) v
  mine = moves_holds m (worker s i) effect v n act.moves (kept.aimed i) own_sure

  mine_sure : Holds v → Sure (t.marks (home n v)) v
  mine_sure holds = rw ((mine holds).home_same, ← act.bucket, act.here) (mine holds).sure

  module _ (j : ℕ) (other : j ≡ i → ⊥) (holds : Holds (worker s j)) where
    abbrev slot : ℕ
    slot = (worker s j).held

    -- the mark of a slot that another worker holds, in this bucket and elsewhere
    others_mark : Dec (home n (worker s j) ≡ bucket_in e) → mark_of (t.marks (home n (worker s j))) slot ≡ 2
    others_mark (no elsewhere) = rw (act.there _ elsewhere) (kept.sure j holds).board
    others_mark (yes here) =
        let two : mark_of m slot ≡ 2 = subst (λ (b : ℕ). mark_of (s.marks b) slot ≡ 2) here (kept.sure j holds).board in
        let apart : Holds (worker s i) → (worker s i).held ≡ slot → ⊥ =
        λ own same. kept.apart j i other holds own (here ∙ act.bucket) (sym same) in
        let spares = moves_spares m (worker s i) effect v slot act.moves (kept.aimed i) two apart in
        rw (here, act.here) (spared effect m slot spares ∙ two)

    others_sure : Sure (t.marks (home n (worker s j))) (worker s j)
    others_sure = record { board = others_mark (ℕ_discrete _ _); word = (kept.sure j holds).word }

    mine_apart : Holds v → home n v ≡ home n (worker s j) → (v.held ≡ slot → ⊥)
    mine_apart own same equal = by (mine own).from
      where
        homes : home n (worker s i) ≡ home n (worker s j)
        homes = sym (mine own).home_same ∙ same

        two : mark_of m slot ≡ 2
        two = subst (λ (b : ℕ). mark_of (s.marks b) slot ≡ 2) (sym (act.bucket ∙ homes)) (kept.sure j holds).board

        by : (Holds (worker s i) × (v.held ≡ (worker s i).held)) ⊎ (mark_of m v.held ≡ 0) → ⊥
        by (inl old) = kept.apart i j (λ is. other (sym is)) old.0 holds homes (sym old.1 ∙ equal)
        by (inr empty) = unlike m v.held slot 0 empty two (omega arith) equal

  -- a turn and a retiring keep it all
  pub act_kept : Kept n t
  act_kept =
      kept_set n s t i v act.within act.records kept (act.aims (kept.aimed i)) mine_sure
      (λ j other holds. others_sure j other holds) (λ j other own holds. mine_apart j other holds own)

-- and so does a start
pub start_kept : (n : ℕ) (s : View) (v : Worker) (t : View) → Kept n s → Starts s v t → Kept n t
start_kept n s v t kept start =
    let free : Holds v → ⊥ = λ holds. omega (arith, holds.1, start.held) in
    kept_set n s t start.who v start.within start.records kept start.aimed
    (λ holds. absurd (free holds))
    (λ j other holds. rw (start.marks (home n (worker s j))) (kept.sure j holds))
    (λ j other holds. absurd (free holds))
