-- What a move that is accepted leaves (§22.3): a second board with the lots of the first, on which a stretch can begin. Assumes nothing.
use Prim.Native.Nat.{ℕ, ◌^◌, ◌≤◌, ◌<◌}
use mathlib.Core.Bool.{false, cond, not}
use mathlib.Core.List.{List, [], ◌∷◌}
use mathlib.Core.Logic.{◌⊎◌, inl, inr}
use mathlib.Core.Path.{◌≡◌, refl, sym, ap, ap₂, subst, ◌∙◌}
use native.Mathlib.Decide.{ℕ_discrete, dec_le}
use native.Mathlib.Nat.{mod-lt}
use native.Mathlib.Omega.{arith}
use lib.Dec.{eqb}
use lib.ListN.{length, get_or, replicate, get_or-eq_default}
use borrow.Author.Tests.{eq-eqb, ne_eqb, eqb-true, not-false}
use Rattle.mark.specs.Word.{version}
use Rattle.mark.proofs.Choices.{by_cases, passes, not_both}
use Rattle.mark.proofs.Fields.{mark_none}
use Rattle.turn.specs.declared.Worker.{Worker}
use Rattle.turn.specs.Worker.{idle, is_idle, broken}
use Rattle.turn.proofs.Kept.{idle_is}
use Rattle.engine.specs.Board.{bucket_of, bucket_at, lots_on}
use Rattle.engine.specs.Room.{Right}
use Rattle.engine.specs.Refusals.{wrong_sizes, any_record}
use Rattle.engine.specs.Move.{Line, line_at, lines_on, lines_for, moved_board, moved_floor, rest_number, any_unsettled, crowded, wrong_move, move_number}
use Rattle.engine.proofs.Sizes.{both_fail, right, right_listed, fits_still, sizes_right}
use Rattle.engine.proofs.Among.{no_line, among_at, place_of, board_has, board_from, StandsOn, for_from, for_has, apart_for, apart_at, board_apart}
use Rattle.engine.proofs.Seating.{any_over_none}
use Rattle.engine.proofs.Placing.{Lined, moved_long, moved_none, moved_lined, moved_lots}
use Rattle.hall.specs.Refusals.{wrong_index, hall_move_number}
use Rattle.hall.specs.Calls.{hall_move, fresh_index}
use Rattle.hall.proofs.Fresh.{fresh_reads}
use Rattle.history.specs.History.{State, Call, workers_of, buckets_of, state}
use Rattle.history.specs.Values.{value_at}
use Rattle.history.specs.Cells.{mark_word_at, mark_at, key_at, Stands, Cells}
use Rattle.history.specs.Unbroken.{Unbroken}
use Rattle.history.specs.Moves.{Lent, move_number_of}
use Rattle.history.specs.Moved.{ValidIn, ValidOn, AllIdle, moved_to}
use Rattle.history.proofs.Ready.{Ready}
use Rattle.history.proofs.SameSizes.{state_version}
use Rattle.history.proofs.Unbroken.{state_unbroken}
use Rattle.history.proofs.Cells.{state_cells}
use Rattle.history.proofs.NoValueComesBack.{values_most}

-- ---- a state of a stretch, and a move that is accepted

-- what is known of every state of a stretch, as far as a move goes by it
pub record InStretch (s : State) : Type 0 where
  pub unbroken : Unbroken s
  pub cells : Cells s
  pub values : (b p : ℕ) → value_at s b p ≤ s.floor.last
  pub version_fits : s.floor.version < 2 ^ 32

-- no two valid slots of a bucket have the same lot
abbrev pub LotsOnce : State → Type 0
LotsOnce s = (b p q : ℕ) → (p ≡ q → ⊥) → mark_at s b p ≡ 1 → mark_at s b q ≡ 1 → key_at s b p ≡ key_at s b q → ⊥

-- §22: a move that is done, from s to t
pub record Moves (s t : State) : Type 0 where
  -- §22.6: a stretch can begin there
  pub ready : Ready t
  -- every worker was idle, and is
  pub rested : AllIdle s
  pub records : t.records ≡ s.records
  pub workers : workers_of t ≡ workers_of s
  pub last : t.floor.last ≡ s.floor.last
  pub version_same : t.floor.version ≡ s.floor.version
  -- §22.1: what is valid stands in its bucket of the new ones, with the same lot and ticket
  pub goes :
      (b p : ℕ) → b < buckets_of s → mark_at s b p ≡ 1 → ValidIn t (bucket_of (key_at s b p) (buckets_of t)) (key_at s b p) (value_at s b p)
  -- and nothing else does
  pub comes : (c q : ℕ) → mark_at t c q ≡ 1 → ValidOn s (key_at t c q) (value_at t c q)
  -- where no bucket had a lot twice none has
  pub distinct : LotsOnce s → LotsOnce t
  pub lots : lots_on t.board (buckets_of t) ≡ lots_on s.board (buckets_of s)
  -- §22.3: each bucket has the floor's version, and zeros where nothing is valid
  pub versions : (c : ℕ) → c < buckets_of t → version (mark_word_at t c) ≡ t.floor.version
  pub empty :
      (c q : ℕ)
      → c < buckets_of t
      → q < 3
      → (mark_at t c q ≡ 1 → ⊥)
      → (mark_at t c q ≡ 0) × (key_at t c q ≡ 0) × (value_at t c q ≡ 0)

-- records that are all idle
pub all_idle_lem : (ws : List Worker) → any_record (λ w. not (is_idle w)) ws ≡ false → ws ≡ replicate (length ws) idle
unfolding any_record
all_idle_lem [] none = refl
all_idle_lem (w ∷ ws) none =
    let both = both_fail _ _ none in
    ap₂ (λ (x : Worker) (xs : List Worker). x ∷ xs) (idle_is w (not-false _ both.0)) (all_idle_lem ws both.1)

-- what it says that a move has no number of refusal
pub record Allowed (s : State) (m : Lent) : Type 0 where
  pub fits : Right (moved_floor s.floor m.buckets) m.words
  pub rested : s.records ≡ replicate (length s.records) idle
  pub settled : any_unsettled s.board (buckets_of s) ≡ false
  pub room : crowded m.buckets (lines_on s.board (buckets_of s)) ≡ false

pub allowed : (s : State) (m : Lent) → move_number_of s m ≡ 0 → Allowed s m
unfolding hall_move_number move_number
allowed s m none =
    let first = passes (wrong_index (length s.index)) 0 _ none in
    let second = passes (wrong_move s.floor s.board (length s.records) m.buckets m.words) 0 _ first.1 in
    let third = rests (rest_number s.records) _ second.1 in
    let idles = passes (any_record broken s.records) 2 _ third.0 in
    let busy = passes (any_record (λ w. not (is_idle w)) s.records) 11 0 idles.1 in
    let fourth = passes (any_unsettled s.board (buckets_of s)) 6 _ third.1 in
    let fifth = passes (crowded m.buckets (lines_on s.board (buckets_of s))) 12 0 fourth.1 in
    record {
      fits = right _ _ (both_fail (wrong_sizes s.floor s.board (length s.records)) _ second.0).1;
      rested = all_idle_lem s.records busy.0;
      settled = fourth.0;
      room = fifth.0;
    }
  where
    rests : (rest k : ℕ) → cond (eqb rest 0) k rest ≡ 0 → (rest ≡ 0) × (k ≡ 0)
    rests rest k =
        by_cases (λ (x : ℕ). x ≡ 0 → (rest ≡ 0) × (k ≡ 0)) (eqb rest 0) k rest (λ is none. (eqb-true rest 0 is, none))
        (λ isnot none. not_both _ isnot (eq-eqb rest 0 none))

-- the state that a move leaves where it is accepted
abbrev done_as : State → ℕ → State
done_as s n =
    record {
      board = moved_board s.board s.floor n;
      floor = moved_floor s.floor n;
      records = s.records;
      index = fresh_index (moved_board s.board s.floor n) n;
    }

done_is : (s : State) (m : Lent) → move_number_of s m ≡ 0 → moved_to s m ≡ done_as s m.buckets
unfolding hall_move
done_is s m none = rw (eq-eqb (move_number_of s m) 0 none)

-- N is the one asked for
pub moved_buckets : (s : State) (m : Lent) → move_number_of s m ≡ 0 → buckets_of (moved_to s m) ≡ m.buckets
moved_buckets s m none = ap buckets_of (done_is s m none)

-- a move that is refused leaves everything as it was
pub moves_refused : (s : State) (m : Lent) → (move_number_of s m ≡ 0 → ⊥) → moved_to s m ≡ s
unfolding hall_move
moves_refused s m some = rw (ne_eqb (move_number_of s m) 0 some, ne_eqb (move_number_of s m) 0 some)

-- §2.1: done or refused, on whatever board, a move hands on what the floor has to spare
pub move_spare : (s : State) (m : Lent) → (moved_to s m).floor.spare ≡ s.floor.spare
move_spare s m = by (ℕ_discrete (move_number_of s m) 0)
  where
    by : Dec (move_number_of s m ≡ 0) → (moved_to s m).floor.spare ≡ s.floor.spare
    by (yes accepted) = ap (λ (t : State). t.floor.spare) (done_is s m accepted)
    by (no refused) = ap (λ (t : State). t.floor.spare) (moves_refused s m refused)

-- ---- the second board

module _ (s : State) (known : InStretch s) (n : ℕ) (some : 0 < n) (few : n ≤ 256) (room : crowded n (lines_on s.board (buckets_of s)) ≡ false) where
  abbrev t : State
  t = done_as s n

  -- the lines of the first board, and those for a bucket of the second
  abbrev lines : List Line
  lines = lines_on s.board (buckets_of s)

  abbrev own : ℕ → List Line
  own b = lines_for n b lines

  own_few : (b : ℕ) → b < n → length (own b) ≤ 3
  own_few = any_over_none (λ b. length (own b)) n room

  lined : (b : ℕ) → b < n → Lined s.floor.version (own b) (bucket_at t.board b)
  lined = moved_lined s.board s.floor n some known.version_fits room

  no_bucket : (b : ℕ) → n ≤ b → bucket_at t.board b ≡ []
  no_bucket = moved_none s.board s.floor n some

  -- a slot is valid exactly if it has a line
  line_key : (b p : ℕ) → b < n → p < 3 → key_at t b p ≡ (get_or (own b) p no_line).lot
  line_key b p under slot = ap (λ (l : Line). l.lot) ((lined b under).line p slot)

  line_value : (b p : ℕ) → b < n → p < 3 → value_at t b p ≡ (get_or (own b) p no_line).ticket
  line_value b p under slot = ap (λ (l : Line). l.ticket) ((lined b under).line p slot)

  mark_of_lem : (b p : ℕ) → ((b < n) × (p < length (own b)) × (mark_at t b p ≡ 1)) ⊎ (mark_at t b p ≡ 0)
  mark_of_lem b p = by (dec_le n b) (dec_le (length (own b)) p)
    where
      by : Dec (n ≤ b) → Dec (length (own b) ≤ p) → ((b < n) × (p < length (own b)) × (mark_at t b p ≡ 1)) ⊎ (mark_at t b p ≡ 0)
      by (yes past) line = inr (rw (no_bucket b past) (mark_none 0 (omega arith) p))
      by (no under) (yes over) = inr ((lined b (omega arith)).empty p over)
      by (no under) (no before) = inl (omega arith, omega arith, (lined b (omega arith)).valid p (omega arith))

  valid_has : (b p : ℕ) → mark_at t b p ≡ 1 → (b < n) × (p < length (own b))
  valid_has b p one = by (mark_of_lem b p)
    where
      by : ((b < n) × (p < length (own b)) × (mark_at t b p ≡ 1)) ⊎ (mark_at t b p ≡ 0) → (b < n) × (p < length (own b))
      by (inl has) = (has.0, has.1)
      by (inr none) = absurd (omega (arith, one, none))

  -- each line of a bucket of the second board stood on the first
  line_from : (b p : ℕ) → b < n → p < length (own b) → StandsOn s.board (buckets_of s) (get_or (own b) p no_line)
  line_from b p under has = board_from s.board (buckets_of s) _ (for_from n b _ lines (among_at (own b) p has)).0

  -- and each line of the first one stands in its bucket of the second
  goes : (b p : ℕ) → b < buckets_of s → mark_at s b p ≡ 1 → ValidIn t (bucket_of (key_at s b p) n) (key_at s b p) (value_at s b p)
  goes b p under one =
      let l : Line = line_at (bucket_at s.board b) p in
      let c : ℕ = bucket_of l.lot n in
      let below : c < n = mod-lt l.lot some in
      let place = place_of l (own c) (for_has n c l lines (board_has s.board (buckets_of s) b p under one) refl) in
      let slot : place.at < 3 = omega (arith, place.under, own_few c below) in
      record {
        slot = place.at;
        valid = (lined c below).valid place.at place.under;
        key = line_key c place.at below slot ∙ ap (λ (x : Line). x.lot) place.is;
        value = line_value c place.at below slot ∙ ap (λ (x : Line). x.ticket) place.is;
      }

  comes : (c q : ℕ) → mark_at t c q ≡ 1 → ValidOn s (key_at t c q) (value_at t c q)
  comes c q one =
      let has = valid_has c q one in
      let slot : q < 3 = omega (arith, has.1, own_few c has.0) in
      let found = line_from c q has.0 has.1 in
      record {
        bucket = found.bucket;
        under = found.under;
        there =
            record {
              slot = found.there.slot;
              valid = found.there.valid;
              key = ap (λ (x : Line). x.lot) found.there.line ∙ sym (line_key c q has.0 slot);
              value = ap (λ (x : Line). x.ticket) found.there.line ∙ sym (line_value c q has.0 slot);
            };
      }

  -- what is valid there has a lot of its bucket and a ticket
  stands : (c q : ℕ) → mark_at t c q ≡ 1 → Stands t c q
  stands c q one =
      let has = valid_has c q one in
      let slot : q < 3 = omega (arith, has.1, own_few c has.0) in
      let from = comes c q one in
      record {
        lot = ap (λ (lot : ℕ). bucket_of lot n) (line_key c q has.0 slot) ∙ (for_from n c _ lines (among_at (own c) q has.1)).1;
        ticket = subst (λ (v : ℕ). 1 ≤ v) from.there.value (known.cells.valid from.bucket from.there.slot from.there.valid).ticket;
      }

  -- a slot that is not valid is empty, with zeros
  empty : (c q : ℕ) → c < n → q < 3 → (mark_at t c q ≡ 1 → ⊥) → (mark_at t c q ≡ 0) × (key_at t c q ≡ 0) × (value_at t c q ≡ 0)
  empty c q under slot other = by (dec_le (length (own c)) q)
    where
      by : Dec (length (own c) ≤ q) → (mark_at t c q ≡ 0) × (key_at t c q ≡ 0) × (value_at t c q ≡ 0)
      by (no before) = absurd (other ((lined c under).valid q (omega arith)))
      by (yes over) =
          let none = get_or-eq_default (own c) no_line {n = q} over in (
            (lined c under).empty q over,
            line_key c q under slot ∙ ap (λ (l : Line). l.lot) none,
            line_value c q under slot ∙ ap (λ (l : Line). l.ticket) none,
          )

  -- no value is above the last ticket
  values : (c q : ℕ) → value_at t c q ≤ s.floor.last
  values c q = by (dec_le n c) (dec_le 3 q) (mark_of_lem c q)
    where
      by :
          Dec (n ≤ c)
          → Dec (3 ≤ q)
          → ((c < n) × (q < length (own c)) × (mark_at t c q ≡ 1)) ⊎ (mark_at t c q ≡ 0)
          → value_at t c q ≤ s.floor.last
      by (yes past) slot mark = rw (no_bucket c past) (omega arith)
      by (no under) (yes over) mark = omega (arith, (lined c (omega arith)).past q over)
      by (no under) (no slot) (inl has) =
          let from = comes c q has.2 in
          subst (λ (v : ℕ). v ≤ s.floor.last) from.there.value (known.values from.bucket from.there.slot)
      by (no under) (no slot) (inr none) = omega (arith, (empty c q (omega arith) (omega arith) (λ one. omega (arith, one, none))).2)

  -- where no bucket had a lot twice none has
  distinct : LotsOnce s → LotsOnce t
  distinct once c p q other one two same =
      let first = valid_has c p one in
      let second = valid_has c q two in
      let few-lines = own_few c first.0 in
      let apart = board_apart s.board (buckets_of s) (buckets_of s) (λ b p under valid. (known.cells.valid b p valid).lot) (λ b under. once b) in
      apart_at (own c) (apart_for n c lines apart) p q first.1 second.1 other
      (sym (line_key c p first.0 (omega (arith, first.1, few-lines))) ∙ same ∙ line_key c q first.0 (omega (arith, second.1, few-lines)))

  -- a stretch can begin there
  ready : Right (moved_floor s.floor n) t.board → AllIdle s → Ready t
  ready fits idles =
      let listed = right_listed s.floor s.board _ known.unbroken.sized in
      record {
        unbroken =
            record {
              sized = sizes_right (moved_floor s.floor n) t.board _ fits listed;
              records = known.unbroken.records;
              buckets = λ b under. (lined b under).whole;
              reads = fresh_reads t.board n few;
            };
        idle = idles;
        version_fits = known.version_fits;
        unheld = λ b p two. no_two (mark_of_lem b p) two;
        stands = stands;
        values = values;
      }
    where
      no_two : {b p : ℕ} → ((b < n) × (p < length (own b)) × (mark_at t b p ≡ 1)) ⊎ (mark_at t b p ≡ 0) → mark_at t b p ≡ 2 → ⊥
      no_two (inl has) two = omega (arith, has.2, two)
      no_two (inr none) two = omega (arith, none, two)

-- §22.6: a move that is accepted is done, and begins a stretch
pub move_done : (s : State) (m : Lent) → InStretch s → move_number_of s m ≡ 0 → Moves s (moved_to s m)
move_done s m known none =
    let ok = allowed s m none in
    let n : ℕ = m.buckets in
    let some : 0 < n = omega (arith, ok.fits.some_bucket) in
    let few : n ≤ 256 = ok.fits.buckets in
    let long : length (moved_board s.board s.floor n) ≡ length m.words = moved_long s.board s.floor n some ∙ sym ok.fits.words in
    let idles : AllIdle s = ok.rested ∙ ap (λ (k : ℕ). replicate k idle) (right_listed s.floor s.board _ known.unbroken.sized) in
    rw (done_is s m none)
    (record {
      ready = ready s known n some few ok.room (fits_still _ m.words _ ok.fits long) idles;
      rested = idles;
      records = refl;
      workers = refl;
      last = refl;
      version_same = refl;
      goes = goes s known n some few ok.room;
      comes = comes s known n some few ok.room;
      distinct = distinct s known n some few ok.room;
      lots = moved_lots s.board s.floor n some known.version_fits ok.room;
      versions = λ c under. (lined s known n some few ok.room c under).version_is;
      empty = empty s known n some few ok.room;
    })

-- after every list of calls a state is such that a move can be done from it
pub state_in_stretch : {first : State} (ready : Ready first) (calls : List Call) → InStretch (state first calls)
state_in_stretch {first} ready calls =
    record {
      unbroken = state_unbroken ready calls;
      cells = state_cells ready calls;
      values = values_most ready calls;
      version_fits = omega (arith, state_version first calls, ready.version_fits);
    }
