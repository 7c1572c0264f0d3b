-- The mark words along a walk: what each entry finds and leaves, and what is left of it all in a bucket. Assumes nothing.
use Prim.Native.Nat.{ℕ}
use mathlib.Core.Bool.{cond}
use mathlib.Core.List.{List}
use mathlib.Core.Path.{◌≡◌, refl, sym, ap, ◌∙◌}
use native.Mathlib.Decide.{ℕ_discrete}
use lib.Dec.{eqb}
use borrow.Author.Tests.{eq-eqb, ne_eqb}
use Rattle.turn.specs.declared.Worker.{Worker}
use Rattle.turn.specs.Effects.{effect_on}
use Rattle.history.specs.Trace.{Turn, Entry, acted, retired, bucket_in, Changes, In, None}
use Rattle.history.specs.Counts.{is_change}
use Rattle.history.specs.Reports.{left_by, word_after, Differs}
use Rattle.history.proofs.View.{View, Acts, quiet_marks, retired_word, Walk, stays, starts, acts}
use Rattle.history.proofs.Lawful.{change_effect}
use Rattle.history.proofs.Held.{Kept, act_lawful}
use Rattle.history.proofs.Counts.{one_yes, one_no}
use Rattle.history.proofs.Cuts.{some_as, cut_at}

-- ---- one entry

-- a turn that is no change finds and leaves the same word
pub act_keeps :
    {n : ℕ} {s : View} {e : Turn} {v : Worker} {t : View}
    → Acts n s (acted e) v t
    → (Changes (acted e) → ⊥)
    → e.report.after ≡ e.report.before
act_keeps {e = e} act none =
    act.tells.after ∙ quiet_marks act (one_no (is_change (acted e)) none) e.report.bucket ∙ sym act.tells.before

-- what changes leaves another word than it found
act_differs :
    {n : ℕ} {s : View} {e : Entry} {v : Worker} {t : View}
    → (act : Acts n s e v t)
    → Kept n s
    → Changes e
    → effect_on act.effect (s.marks (bucket_in e)) ≡ s.marks (bucket_in e)
    → ⊥
act_differs {n} {s} {e} {v} {t} act kept change =
    change_effect act.effect (s.marks (bucket_in e)) (act_lawful n s e v t kept act) (sym act.changes ∙ one_yes (is_change e) change)

-- and so it is told
pub act_changes : {n : ℕ} {s : View} (e : Entry) {v : Worker} {t : View} → Acts n s e v t → Kept n s → Changes e → Differs e
act_changes (acted e) act kept change = λ same.
    act_differs act kept change (sym act.here ∙ sym act.tells.after ∙ same ∙ act.tells.before)
act_changes (retired r) act kept change = change

-- what differs has changed
differs_change : {n : ℕ} {s : View} (e : Entry) {v : Worker} {t : View} → Acts n s e v t → (Changes e → ⊥) → Differs e → ⊥
differs_change (acted e) act none differs = differs (act_keeps act none)
differs_change (retired r) act none differs = none differs

-- in a bucket that nobody changes nothing differs
pub none_differs :
    {n : ℕ} {s u : View} {es : List Entry} {k : ℕ} (b : ℕ)
    → Walk n s es k u
    → None (λ e. In b e × Changes e) es
    → None (λ e. In b e × Differs e) es
none_differs {n} {es = es} b walk none some =
    let c = cut_at n some.entry some.newer some.older walk some.cut in
    differs_change some.entry c.act (λ change. none (some_as _ _ es some (some.holds.0, change))) some.holds.1

-- ---- the words along a walk

-- the word that an entry leaves in its bucket
left_there : {n : ℕ} {s : View} (e : Entry) {v : Worker} {t : View} → Acts n s e v t → left_by e (s.marks (bucket_in e)) ≡ t.marks (bucket_in e)
left_there (acted e) act = act.tells.after
left_there (retired r) act = sym (retired_word act)

module _ (n b : ℕ) where
  -- and in any other
  act_leaves : {s : View} {e : Entry} {v : Worker} {t : View} → Acts n s e v t → cond (eqb (bucket_in e) b) (left_by e (s.marks b)) (s.marks b) ≡ t.marks b
  act_leaves {s} {e} {v} {t} act = by (ℕ_discrete (bucket_in e) b)
    where
      by : Dec (In b e) → cond (eqb (bucket_in e) b) (left_by e (s.marks b)) (s.marks b) ≡ t.marks b
      by (yes here) = rw (eq-eqb (bucket_in e) b here) (ap (λ (c : ℕ). left_by e (s.marks c)) (sym here) ∙ left_there e act ∙ ap t.marks here)
      by (no other) = rw (ne_eqb (bucket_in e) b other) (sym (act.there b (λ same. other (sym same))))

  -- what a walk leaves in a bucket is told by its entries
  pub walk_leaves : {s u : View} {es : List Entry} {k : ℕ} → Walk n s es k u → u.marks b ≡ word_after b (s.marks b) es
  unfolding word_after
  walk_leaves stays = refl
  walk_leaves (starts {es = es} start rest) = walk_leaves rest ∙ ap (λ (m : ℕ). word_after b m es) (start.marks b)
  walk_leaves (acts {es = es} act rest) = walk_leaves rest ∙ ap (λ (m : ℕ). word_after b m es) (sym (act_leaves act))
