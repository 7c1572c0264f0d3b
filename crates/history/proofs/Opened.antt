-- What an accepted opening leaves: empty buckets and idle workers, so that a stretch can begin there; and that there is one for any number of
-- workers and buckets in range. Assumes nothing.
use Prim.Native.Nat.{ℕ, zero, suc, ◌*◌, ◌^◌, ◌≤◌, ◌<◌}
use mathlib.Core.Bool.{false}
use mathlib.Core.List.{List, []}
use mathlib.Core.Logic.{◌⊎◌, inl, inr}
use mathlib.Core.Path.{◌≡◌, refl, sym, ap, subst, ◌∙◌}
use native.Mathlib.Decide.{dec_le}
use native.Mathlib.Omega.{arith}
use lib.ListN.{length, replicate, drop_of_length-le, length-replicate, get_or-replicate, get_or-eq_default}
use borrow.Author.Tests.{eq-eqb}
use Rattle.mark.specs.Word.{byte7, mark_of, count_marks}
use Rattle.mark.proofs.Choices.{passes}
use Rattle.mark.proofs.Fields.{mark_none}
use Rattle.mark.proofs.WellFormed.{well_formed_lem}
use Rattle.turn.specs.Worker.{idle}
use Rattle.turn.specs.Bucket.{cell, mark_cell, value_cell, broken_bucket}
use Rattle.turn.proofs.Sound.{whole_not_broken}
use Rattle.turn.proofs.Kept.{idle_kept}
use Rattle.engine.specs.declared.Plan.{Plan}
use Rattle.engine.specs.Board.{bucket_at, empty_bucket, opened_board, lots_on}
use Rattle.engine.specs.Refusals.{wrong_sizes, open_number}
use Rattle.engine.specs.Calls.{planned, blank}
use Rattle.hall.specs.Index.{index_words, total_in}
use Rattle.hall.specs.Refusals.{hall_open_number}
use Rattle.hall.specs.Calls.{hall_open}
use Rattle.engine.specs.Room.{Right}
use Rattle.engine.proofs.Buckets.{length_opened, opened_bucket}
use Rattle.engine.proofs.Sizes.{right_sizes, right_listed, opens_right}
use Rattle.hall.proofs.Reading.{reads_nothing}
use Rattle.hall.proofs.Plain.{open_none, five_open}
use Rattle.history.specs.History.{State, Opening, opened, workers_of, buckets_of}
use Rattle.history.specs.Values.{value_at}
use Rattle.history.specs.Cells.{mark_word_at, mark_at}
use Rattle.history.specs.Unbroken.{Unbroken}
use Rattle.history.proofs.Ready.{Ready}

-- ---- the state that it leaves

module _ (o : Opening) where
  -- empty buckets at the plan's version, the plan's floor, idle workers, and five zeros
  pub opened_is :
      opened o
      ≡ record {
        board = opened_board o.plan.buckets o.plan.version;
        floor = planned o.plan;
        records = replicate (length o.lent.records) idle;
        index = replicate index_words 0;
      }
  unfolding hall_open
  opened_is = rw (eq-eqb _ 0 o.accepted)

  right_sized : wrong_sizes (planned o.plan) o.lent.board (length o.lent.records) ≡ false
  unfolding open_number
  right_sized = (passes _ 0 0 (open_none (planned o.plan) o.lent.board o.lent.index (length o.lent.records) o.accepted).1).0

  -- the plan's numbers of workers and buckets are in range, and the board fits them
  pub opened_right : Right (planned o.plan) o.lent.board
  opened_right = right_sizes _ _ _ right_sized

  -- there is a record for each worker
  opened_listed : length o.lent.records ≡ o.plan.workers
  opened_listed = right_listed (planned o.plan) o.lent.board (length o.lent.records) right_sized

  -- W is the plan's
  pub opened_workers : workers_of (opened o) ≡ o.plan.workers
  opened_workers = ap workers_of opened_is

  -- N is the plan's
  pub opened_buckets : buckets_of (opened o) ≡ o.plan.buckets
  opened_buckets = ap buckets_of opened_is

  -- no ticket is spent yet
  pub opened_last : (opened o).floor.last ≡ 0
  opened_last = ap (λ (s : State). s.floor.last) opened_is

  -- §2.1: and the floor has 0 to spare
  pub opened_spare : (opened o).floor.spare ≡ 0
  opened_spare = ap (λ (s : State). s.floor.spare) opened_is

-- a bucket of an opened board is the empty one, or past the last one it has no word
pub opened_or_none : (n v b : ℕ) → (bucket_at (opened_board n v) b ≡ empty_bucket v) ⊎ (bucket_at (opened_board n v) b ≡ [])
opened_or_none n v b = by (dec_le n b)
  where
    by : Dec (n ≤ b) → (bucket_at (opened_board n v) b ≡ empty_bucket v) ⊎ (bucket_at (opened_board n v) b ≡ [])
    by (yes past) = inr (rw (drop_of_length-le (opened_board n v) {i = 8 * b} (omega (arith, length_opened v n))))
    by (no under) = inl (opened_bucket v n b (omega arith))

-- ---- empty buckets

-- an empty bucket at a version of 32 bits is not broken
empty_unbroken : (v : ℕ) → v < 2 ^ 32 → broken_bucket (empty_bucket v) ≡ false
unfolding byte7
empty_unbroken v fits =
    whole_not_broken (empty_bucket v)
    (record { eight = refl; formed = well_formed_lem v (λ i slot. omega (arith, mark_none v fits i)) (omega arith); spare = refl })

-- nothing is valid in it
nothing_valid : (v : ℕ) → v < 2 ^ 32 → count_marks 1 v ≡ 0
unfolding count_marks
nothing_valid v fits = rw (mark_none v fits 0, mark_none v fits 1, mark_none v fits 2)

-- and it has no value
empty_value : (v p : ℕ) → cell (empty_bucket v) (value_cell p) ≡ 0
empty_value v zero = refl
empty_value v (suc zero) = refl
empty_value v (suc (suc zero)) = refl
empty_value v (suc (suc (suc zero))) = refl
empty_value v (suc (suc (suc (suc p)))) = get_or-eq_default (empty_bucket v) 0 {n = value_cell (suc (suc (suc (suc p))))} (omega arith)

-- ---- a stretch can begin there

module _ (o : Opening) where
  abbrev n : ℕ
  n = o.plan.buckets

  abbrev v : ℕ
  v = o.plan.version

  -- what holds of the empty bucket and of none holds of each
  each_bucket : (P : List ℕ → Type 0) → P (empty_bucket v) → P [] → (b : ℕ) → P (bucket_at (opened o).board b)
  each_bucket P empty none b = subst (λ (s : State). P (bucket_at s.board b)) (sym (opened_is o)) (by (opened_or_none n v b))
    where
      by : (bucket_at (opened_board n v) b ≡ empty_bucket v) ⊎ (bucket_at (opened_board n v) b ≡ []) → P (bucket_at (opened_board n v) b)
      by (inl is) = rw is empty
      by (inr is) = rw is none

  -- no slot of an opened board has a mark
  pub opened_mark : (b p : ℕ) → mark_at (opened o) b p ≡ 0
  opened_mark b p = each_bucket (λ (l : List ℕ). mark_of (cell l mark_cell) p ≡ 0) (mark_none v o.version_fits p) (mark_none 0 (omega arith) p) b

  -- an opening leaves 0 as every value
  pub opened_value : (b p : ℕ) → value_at (opened o) b p ≡ 0
  opened_value b p = each_bucket (λ (l : List ℕ). cell l (value_cell p) ≡ 0) (empty_value v p) refl b

  -- §2.10: the mark word of each bucket is that of an empty one at the plan's version
  pub opened_word : (b : ℕ) → b < n → mark_word_at (opened o) b ≡ cell (empty_bucket v) mark_cell
  opened_word b under = ap (λ (s : State). mark_word_at s b) (opened_is o) ∙ ap (λ (l : List ℕ). cell l mark_cell) (opened_bucket v n b under)

  -- an opening leaves nothing broken, whatever it was lent
  opened_unbroken : Unbroken (opened o)
  unfolding wrong_sizes
  opened_unbroken =
      let listed = length o.lent.records in
      let sized : wrong_sizes (planned o.plan) o.lent.board listed ≡ false = right_sized o in
      rw (opened_is o)
      (record {
        sized = rw (length-replicate listed idle, length_opened v n) (rw (opened_right o).words at sized);
        records = λ i under. rw (get_or-replicate listed i idle blank (omega (arith, opened_listed o))) idle_kept;
        buckets = λ b under. rw (opened_bucket v n b under) (empty_unbroken v o.version_fits);
        reads =
            reads_nothing (opened_board n v) n (opened_right o).buckets
            (λ b under. rw (opened_bucket v n b under) (nothing_valid v o.version_fits));
      })

  -- no lot is on an opened board
  pub opened_lots : lots_on (opened o).board (buckets_of (opened o)) ≡ 0
  opened_lots = sym opened_unbroken.reads.total ∙ ap (λ (s : State). total_in s.index) (opened_is o)

  -- an opening leaves a state in which a stretch can begin
  pub opening_ready : Ready (opened o)
  opening_ready =
      record {
        unbroken = opened_unbroken;
        idle = rw (opened_is o) (ap (λ (n : ℕ). replicate n idle) (opened_listed o));
        version_fits = rw (opened_is o) o.version_fits;
        unheld = λ b p two. omega (arith, two, opened_mark b p);
        stands = λ b p one. absurd (omega (arith, one, opened_mark b p));
        values = λ b p. omega (arith, opened_value b p);
      }

-- ---- the plans that have one

-- a board of zeros and blank records, of the plan's sizes, are accepted
blank_accepted :
    (p : Plan)
    → 1 ≤ p.workers
    → p.workers ≤ 64
    → 1 ≤ p.buckets
    → p.buckets ≤ 256
    → hall_open_number (planned p) (replicate (8 * p.buckets) 0) (replicate index_words 0) (length (replicate p.workers blank)) ≡ 0
blank_accepted p some_worker workers some_bucket buckets =
    five_open (planned p) _ _ _ refl
    ∙ opens_right (planned p) _ _
    (record {
      some_worker = some_worker;
      workers = workers;
      some_bucket = some_bucket;
      buckets = buckets;
      words = length-replicate {A = ℕ} (8 * p.buckets) 0;
    })
    (length-replicate p.workers blank)

-- an opening of any number of workers and buckets in range, at any version of 32 bits
pub any_opening :
    (workers buckets version : ℕ)
    → 1 ≤ workers
    → workers ≤ 64
    → 1 ≤ buckets
    → buckets ≤ 256
    → version < 2 ^ 32
    → (o : Opening) × (o.plan ≡ record { workers = workers; buckets = buckets; version = version })
any_opening w n v some_worker workers some_bucket buckets fits =
    let plan : Plan = record { workers = w; buckets = n; version = v } in (
      record {
        lent = record { board = replicate (8 * n) 0; floor = planned plan; records = replicate w blank; index = replicate index_words 0 };
        plan = plan;
        accepted = blank_accepted plan some_worker workers some_bucket buckets;
        version_fits = fits;
      },
      refl,
    )
