-- What demand 3 goes by: the mark words of the board, and the records; and what can happen to them: an accepted start, and a turn or a
-- retiring that is done. Assumes nothing.
use Prim.Native.Nat.{ℕ, ◌+◌, ◌%◌, ◌^◌, ◌≤◌, ◌<◌}
use mathlib.Core.Bool.{cond}
use mathlib.Core.List.{List, [], ◌∷◌}
use mathlib.Core.Path.{◌≡◌, refl, sym, ap, ◌∙◌}
use native.Mathlib.Decide.{ℕ_discrete}
use native.Mathlib.Omega.{arith}
use lib.Dec.{eqb}
use lib.ListN.{length, set}
use lib.Seq.{get_or-set_same, get_or-set_other}
use Rattle.mark.specs.Word.{version}
use Rattle.mark.proofs.Fields.{version_lt}
use Rattle.turn.specs.declared.Worker.{Worker}
use Rattle.turn.specs.Worker.{look_kind, insert_kind, remove_kind, no_slot, idle}
use Rattle.turn.specs.Effects.{Effect, effect_on, effect_of_retiring}
use Rattle.turn.proofs.Effects.{Aimed, Moves, Swapper, Went}
use Rattle.turn.proofs.Kept.{Idles}
use Rattle.engine.specs.Board.{bucket_of}
use Rattle.engine.specs.Calls.{record_in, blank}
use Rattle.history.specs.Trace.{Turn, Retiring, Entry, acted, retired, who, was_of, bucket_in, total}
use Rattle.history.proofs.Sums.{total_set}
use Rattle.history.proofs.Lawful.{committed, closed, changed, bumped, version_effect, quiet_effect}
use Rattle.history.proofs.Counts.{change_of, commit_of, close_of, bump_of, in_bucket, in_bucket_lem, out_of_bucket}

-- the mark word of each bucket, and the records
pub record View : Type 0 where
  pub marks : ℕ → ℕ
  pub records : List Worker

-- a worker's record
abbrev pub worker : View → ℕ → Worker
worker s i = record_in s.records i

-- ---- numbers that a record counts for

-- 1 for an insert, which may commit
abbrev pub inserting : Worker → ℕ
inserting w = cond (eqb w.kind insert_kind) 1 0

-- the changes that a call can still make: an insert two, or one when it holds a slot; a remove one
abbrev pub left : Worker → ℕ
left w = cond (eqb w.kind insert_kind) (cond (eqb w.held no_slot) 2 1) (cond (eqb w.kind remove_kind) 1 0)

-- an insert or a remove that has read the mark word in its round
pub record Aware (w : Worker) : Type 0 where
  pub other : w.kind ≡ look_kind → ⊥
  pub from : 2 ≤ w.place

-- as one is whose turn is a swap
pub swapper_aware : (w : Worker) → Swapper w → Aware w
swapper_aware w swapper = record { other = swapper.other; from = swapper.from }

-- ---- what can happen

-- an accepted start: a worker's record becomes v
pub record Starts (s : View) (v : Worker) (t : View) : Type 0 where
  pub who : ℕ
  pub within : who < length s.records
  pub was : worker s who ≡ idle
  pub records : t.records ≡ set s.records who v
  pub marks : (c : ℕ) → t.marks c ≡ s.marks c
  -- it holds nothing, has read nothing and aims at nothing
  pub held : v.held ≡ 3
  pub unaware : Aware v → ⊥
  pub aimed : Aimed v

-- what a turn that is done tells beside: it leaves v
pub record Told (s : View) (e : Turn) (v : Worker) (t : View) : Type 0 where
  -- the mark word that it found in its bucket, and the one that it left
  pub before : e.report.before ≡ s.marks e.report.bucket
  pub after : e.report.after ≡ t.marks e.report.bucket
  pub went : Went (s.marks e.report.bucket) (worker s e.worker) v e.report.action
  pub idles : Idles e.report.progress v

-- a retiring tells nothing, and leaves the worker idle, with this effect
pub record Silent (r : Retiring) (effect : Effect) (v : Worker) : Type 0 where
  pub effect_is : effect ≡ effect_of_retiring r.was
  pub idles : v ≡ idle

-- what an entry with this effect tells
abbrev pub Tells : View → Entry → Effect → Worker → View → Type 0
Tells s (acted e) effect v t = Told s e v t
Tells s (retired r) effect v t = Silent r effect v

-- what is done to a worker, on a board of n buckets: its record becomes v, and the mark word of its bucket what the effect makes of it
pub record Acts (n : ℕ) (s : View) (e : Entry) (v : Worker) (t : View) : Type 0 where
  pub effect : Effect
  pub within : who e < length s.records
  pub records : t.records ≡ set s.records (who e) v
  pub bucket : bucket_in e ≡ bucket_of (worker s (who e)).key n
  pub was : was_of e ≡ worker s (who e)
  -- what the entry counts for is what the effect does
  pub commits : commit_of e ≡ committed effect
  pub closes : close_of e ≡ closed effect
  pub changes : change_of e ≡ changed effect
  pub bumps : bump_of e ≡ bumped effect
  pub here : t.marks (bucket_in e) ≡ effect_on effect (s.marks (bucket_in e))
  pub there : (c : ℕ) → (c ≡ bucket_in e → ⊥) → t.marks c ≡ s.marks c
  pub moves : Moves (s.marks (bucket_in e)) (worker s (who e)) effect v
  pub aims : Aimed (worker s (who e)) → Aimed v
  pub tells : Tells s e effect v t

-- one after another: these entries, and calls that may make so many changes
pub data Walk (n : ℕ) : View → List Entry → ℕ → View → Type 0 where
  stays : {s : View} → Walk n s [] 0 s
  starts : {s t u : View} {v : Worker} {es : List Entry} {k : ℕ} → Starts s v t → Walk n t es k u → Walk n s es (left v + k) u
  acts : {s t u : View} {e : Entry} {v : Worker} {es : List Entry} {k : ℕ} → Acts n s e v t → Walk n t es k u → Walk n s (e ∷ es) k u

-- ---- the mark word of each bucket then

-- what changed nothing leaves them all
pub quiet_marks : {n : ℕ} {s : View} {e : Entry} {v : Worker} {t : View} → Acts n s e v t → change_of e ≡ 0 → (c : ℕ) → t.marks c ≡ s.marks c
quiet_marks {n} {s} {e} {v} {t} act quiet c = by (ℕ_discrete c (bucket_in e))
  where
    by : Dec (c ≡ bucket_in e) → t.marks c ≡ s.marks c
    by (yes is) = rw is (act.here ∙ quiet_effect act.effect (s.marks (bucket_in e)) (sym act.changes ∙ quiet))
    by (no other) = act.there c other

-- a retiring leaves what its effect makes of the mark word of its bucket
pub retired_word :
    {n : ℕ} {s : View} {r : Retiring} {v : Worker} {t : View}
    → Acts n s (retired r) v t
    → t.marks r.bucket ≡ effect_on (effect_of_retiring r.was) (s.marks r.bucket)
retired_word {s = s} {r = r} act = act.here ∙ ap (λ (e : Effect). effect_on e (s.marks r.bucket)) act.tells.effect_is

-- the version of a bucket is as much further as what was done moved it there
pub act_version :
    {n : ℕ} {s : View} {e : Entry} {v : Worker} {t : View}
    → Acts n s e v t
    → (b : ℕ)
    → version (t.marks b) ≡ (version (s.marks b) + in_bucket b bump_of e) % 2 ^ 32
act_version {n} {s} {e} {v} {t} act b = by (ℕ_discrete b (bucket_in e))
  where
    by : Dec (b ≡ bucket_in e) → version (t.marks b) ≡ (version (s.marks b) + in_bucket b bump_of e) % 2 ^ 32
    by (yes here) =
        rw here
        (omega (arith, ap version act.here, version_effect act.effect (s.marks (bucket_in e)), in_bucket_lem (bucket_in e) bump_of e refl, act.bumps))
    by (no other) = omega (arith, ap version (act.there b other), out_of_bucket b bump_of e (λ is. other (sym is)), version_lt (s.marks b))

-- ---- the record of each worker then

module _ (s t : View) (i : ℕ) (v : Worker) (records : t.records ≡ set s.records i v) where
  -- the worker's own
  pub new_record : i < length s.records → worker t i ≡ v
  new_record within = rw records (get_or-set_same s.records i v blank within)

  -- another's
  pub old_record : (j : ℕ) → (j ≡ i → ⊥) → worker t j ≡ worker s j
  old_record j other = rw records (get_or-set_other s.records i j v blank other)

  -- what holds of the new record and of the others holds of each
  pub each_worker :
      (P : ℕ → Worker → Type 0)
      → i < length s.records
      → P i v
      → ((j : ℕ) → (j ≡ i → ⊥) → P j (worker s j))
      → (j : ℕ)
      → P j (worker t j)
  each_worker P within mine others j = by j (ℕ_discrete j i)
    where
      by : (j : ℕ) → Dec (j ≡ i) → P j (worker t j)
      by j (yes is) = rw (is, new_record within) mine
      by j (no other) = rw (old_record j other) (others j other)

-- ---- what the records count for then

-- what is done pays for so much from what its worker's record counted for
pub act_total :
    {n : ℕ} {s : View} {e : Entry} {v : Worker} {t : View} (f : Worker → ℕ) (c : ℕ)
    → Acts n s e v t
    → c + f v ≤ f (worker s (who e))
    → c + total f t.records ≤ total f s.records
act_total {s = s} {e} {v} f c act pays =
    let more = total_set f f c 0 v (λ w. omega arith) s.records (who e) act.within (omega (arith, pays)) in
    rw act.records (omega (arith, more))

-- a start brings no more than its own record counts for
pub start_total :
    {s : View} {v : Worker} {t : View} (f g : Worker → ℕ)
    → Starts s v t
    → ((w : Worker) → g w ≤ f w)
    → total g t.records ≤ total f s.records + g v
start_total {s} {v} f g start less =
    let more = total_set f g 0 (g v) v less s.records start.who start.within (omega arith) in
    rw start.records (omega (arith, more))
