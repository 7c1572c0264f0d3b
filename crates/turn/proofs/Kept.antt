-- An accepted turn leaves a bucket and a record that are not broken, and a start leaves such a record. Assumes nothing.
use Prim.Native.Nat.{ℕ, ◌≤◌}
use mathlib.Core.Bool.{Bool, true, false, and-eq-true_iff}
use mathlib.Core.Path.{◌≡◌, refl, ap, ◌∙◌}
use mathlib.Core.List.{List}
use mathlib.Core.Logic.{◌⊎◌, inl, inr}
use native.Mathlib.Omega.{arith}
use lib.Dec.{eqb}
use borrow.Author.Tests.{eqb-true, ne_eqb, le-leb}
use Rattle.mark.specs.Word.{mark_of, byte7, set_mark, well_formed}
use Rattle.mark.proofs.Choices.{by_cases, not_both}
use Rattle.mark.proofs.WellFormed.{well_formed_set, well_formed_bump}
use Rattle.turn.specs.declared.Worker.{Worker}
use Rattle.turn.specs.declared.Progress.{Progress}
use Rattle.turn.specs.declared.Progress.TheVariants.{GoesOn, Ended}
use Rattle.turn.specs.declared.Stepped.{Stepped}
use Rattle.turn.specs.Worker.{idle, look_for, insert_of, remove_of, is_idle, ticket_fits, word_fits, broken}
use Rattle.turn.specs.Bucket.{cell, mark_cell, spare_cell}
use Rattle.turn.specs.Places.{turn}
use Rattle.turn.proofs.Sound.{Sound, Whole, Accepted, sound_busy, sound_not_broken}
use Rattle.turn.proofs.Works.{Works, looking, inserting, filling, beginning, works_stands, works_held, works_within}
use Rattle.turn.proofs.Lands.{Lands, reads, goes, loses, answers, claims, commits, frees, closes}
use Rattle.turn.proofs.Landing.{turn_lands}
use Rattle.turn.proofs.Cells.{turn_long}
use Rattle.turn.proofs.Values.{turn_beside, filled}

-- ---- idle records

fields_idle :
    (k p l t s m h v n : ℕ)
    → k ≡ 0
    → p ≡ 0
    → l ≡ 0
    → t ≡ 0
    → s ≡ 0
    → m ≡ 0
    → h ≡ 3
    → v ≡ 0
    → n ≡ 0
    → ◌≡◌ {A = Worker} (record { kind = k; place = p; key = l; ticket = t; slot = s; word = m; held = h; seen = v; asleep = n }) idle
fields_idle k p l t s m h v n e1 e2 e3 e4 e5 e6 e7 e8 e9 = cc

-- the test of idle says that the record is the idle one
pub idle_is : (w : Worker) → is_idle w ≡ true → w ≡ idle
unfolding is_idle
idle_is w is =
    let a = (and-eq-true_iff (eqb w.kind 0) _).0 is in
    let b = (and-eq-true_iff (eqb w.place 0) _).0 a.1 in
    let c = (and-eq-true_iff (eqb w.key 0) _).0 b.1 in
    let d = (and-eq-true_iff (eqb w.ticket 0) _).0 c.1 in
    let e = (and-eq-true_iff (eqb w.slot 0) _).0 d.1 in
    let f = (and-eq-true_iff (eqb w.word 0) _).0 e.1 in
    let g = (and-eq-true_iff (eqb w.held 3) _).0 f.1 in
    let h = (and-eq-true_iff (eqb w.seen 0) (eqb w.asleep 0)).0 g.1 in
    let zero : (n : ℕ) → eqb n 0 ≡ true → n ≡ 0 = λ n is. eqb-true n 0 is in
    fields_idle _ _ _ _ _ _ _ _ _ (zero _ a.0) (zero _ b.0) (zero _ c.0) (zero _ d.0) (zero _ e.0) (zero _ f.0)
    (eqb-true _ 3 g.0) (zero _ h.0) (zero _ h.1)

-- a record that is not the idle one does not pass for it
pub not_idle : (w : Worker) → (w ≡ idle → ⊥) → is_idle w ≡ false
not_idle w busy = by (is_idle w) refl
  where
    by : (t : Bool) → is_idle w ≡ t → t ≡ false
    by true is = absurd (busy (idle_is w is))
    by false is = refl

-- a record at a place is busy
pub busy : (w : Worker) → (w.place ≡ 0 → ⊥) → is_idle w ≡ false
busy w some = not_idle w (λ is. some (ap (λ (x : Worker). x.place) is))

-- the idle record passes it
pub is_idle_lem : is_idle idle ≡ true
unfolding is_idle
is_idle_lem = refl

-- so that a sound one is another
pub sound_some : (w : Worker) → Sound w → w ≡ idle → ⊥
sound_some w s is = not_both _ (sound_busy w s) (rw is is_idle_lem)

-- it is not broken
pub idle_kept : broken idle ≡ false
unfolding broken is_idle
idle_kept = refl

-- ---- sound records

-- a record is sound where kind, place and held go together and the rest fits
pub sound_of :
    (w : Worker)
    → Works w.kind w.place w.held
    → ticket_fits w.kind w.ticket ≡ true
    → w.slot ≤ 2
    → word_fits w.kind w.word ≡ true
    → Sound w
sound_of w fits ticket slot word =
    record { stands = works_stands _ _ _ fits; ticket = ticket; held = works_held _ _ _ fits; slot = slot; word = word }

blank_fits : (k : ℕ) → word_fits k 0 ≡ true
unfolding word_fits well_formed mark_of byte7
blank_fits k = by_cases (λ (t : Bool). t ≡ true) (eqb k 1) _ _ (λ is. refl) (λ isnot. refl)

-- ---- the three records that a start leaves are not broken

pub look_kept : (lot : ℕ) → broken (look_for lot) ≡ false
unfolding ticket_fits
look_kept lot =
    sound_not_broken _ (sound_of (look_for lot) (looking refl (omega arith) (omega arith) refl) refl (omega arith) (blank_fits _))

pub insert_kept : (lot t : ℕ) → 1 ≤ t → broken (insert_of lot t) ≡ false
unfolding ticket_fits
insert_kept lot t some =
    sound_not_broken _
    (sound_of (insert_of lot t) (inserting refl (omega arith) (omega arith) (omega arith)) (le-leb 1 t some) (omega arith) (blank_fits _))

pub remove_kept : (lot : ℕ) → broken (remove_of lot) ≡ false
unfolding ticket_fits
remove_kept lot = sound_not_broken _ (sound_of (remove_of lot) (beginning refl refl refl) refl (omega arith) (blank_fits _))

-- ---- an accepted turn

-- §4.3: a call that has ended leaves its worker idle, and while it goes on the worker is busy
abbrev pub Idles : Progress → Worker → Type 0
Idles GoesOn v = is_idle v ≡ false
Idles (Ended answer) v = v ≡ idle

module _ (b : List ℕ) (w : Worker) (ok : Accepted b w) where
  read_formed : (w.kind ≡ 1 → ⊥) → well_formed w.word ≡ true
  unfolding word_fits
  read_formed other = rw (ne_eqb w.kind 1 other) at ok.sound.word

  marked : (i m : ℕ) → (w.kind ≡ 1 → ⊥) → m ≤ 2 → well_formed (set_mark w.word i m) ≡ true
  marked i m other known = well_formed_set w.word (read_formed other) i m known

  abbrev m : ℕ
  m = cell b mark_cell

  lands_formed : {n : ℕ} {x : Stepped} → Lands m n w x → well_formed n ≡ true
  lands_formed (reads p same place other fits away aims) = rw same ok.whole.formed
  lands_formed (goes a full p s v same swap none from fits away slot aims) = rw same ok.whole.formed
  lands_formed (loses same swapper missed fits) = rw same ok.whole.formed
  lands_formed (answers answer same) = rw same ok.whole.formed
  lands_formed (claims left kind place held is) = rw left (marked w.slot 2 (omega arith) (omega arith))
  lands_formed (commits left kind place held is) =
      rw (left, well_formed_bump) (well_formed_set _ (marked w.held 2 (omega arith) (omega arith)) w.held 1 (omega arith))
  lands_formed (frees left kind place held) = rw left (well_formed_set _ ok.whole.formed w.held 0 (omega arith))
  lands_formed (closes left kind place held is) = rw left (marked w.slot 0 (omega arith) (omega arith))

  -- the bucket that a turn leaves is not broken
  pub turn_whole : Whole (turn b w).bucket
  turn_whole =
      let spare = turn_beside b w ok spare_cell (omega arith) (λ place. let held = (filled b w ok (omega arith) (omega arith)).1 in omega arith) in
      record { eight = turn_long b w ∙ ok.whole.eight; formed = lands_formed (turn_lands b w ok); spare = spare ∙ ok.whole.spare }

  lands_idles : {n : ℕ} {x : Stepped} → Lands m n w x → Idles x.progress x.worker
  lands_idles (reads p same place other fits away aims) = busy _ (omega (arith, works_within _ _ _ fits))
  lands_idles (goes a full p s v same swap none from fits away slot aims) = busy _ (omega (arith, works_within _ _ _ fits))
  lands_idles (loses same swapper missed fits) = busy _ (omega arith)
  lands_idles (answers answer same) = refl
  lands_idles (claims left kind place held is) = busy _ (omega arith)
  lands_idles (commits left kind place held is) = refl
  lands_idles (frees left kind place held) = refl
  lands_idles (closes left kind place held is) = refl

  -- the record that a turn leaves is idle just where it ends its call
  pub turn_idles : Idles (turn b w).stepped.progress (turn b w).stepped.worker
  turn_idles = lands_idles (turn_lands b w ok)

  lands_kept : {n : ℕ} {x : Stepped} → Lands m n w x → Sound x.worker ⊎ (x.worker ≡ idle)
  unfolding word_fits
  lands_kept (reads p same place other fits away aims) =
      inl (sound_of _ fits ok.sound.ticket (omega arith) (rw (ne_eqb w.kind 1 other) ok.whole.formed))
  lands_kept (goes a full p s v same swap none from fits away slot aims) = inl (sound_of _ fits ok.sound.ticket slot ok.sound.word)
  lands_kept (loses same swapper missed fits) = inl (sound_of _ fits ok.sound.ticket ok.sound.slot ok.sound.word)
  lands_kept (answers answer same) = inr refl
  lands_kept (claims left kind place held is) =
      let few = ok.sound.slot in
      let other : w.kind ≡ 1 → ⊥ = omega arith in
      inl (sound_of _ (filling kind (omega arith) (omega arith) few) ok.sound.ticket few
      (rw (ne_eqb w.kind 1 other) (marked w.slot 2 other (omega arith))))
  lands_kept (commits left kind place held is) = inr refl
  lands_kept (frees left kind place held) = inr refl
  lands_kept (closes left kind place held is) = inr refl

  -- the record that a turn leaves is sound, or the idle one
  pub turn_kept : Sound (turn b w).stepped.worker ⊎ ((turn b w).stepped.worker ≡ idle)
  turn_kept = lands_kept (turn_lands b w ok)

  -- and so not broken
  pub turn_sound : broken (turn b w).stepped.worker ≡ false
  turn_sound = kept _ turn_kept
    where
      kept : (w : Worker) → Sound w ⊎ (w ≡ idle) → broken w ≡ false
      kept w (inl s) = sound_not_broken w s
      kept w (inr is) = rw is idle_kept
