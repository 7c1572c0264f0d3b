-- Field after field: where a sheet stands, and that the buffer always has room. Assumes nothing.
use Prim.Native.Nat.{ℕ, zero, suc, ◌+◌, ◌-◌, ◌*◌, ◌≤◌, ◌<◌}
use mathlib.Core.Bool.{true, false}
use mathlib.Core.Path.{◌≡◌, refl, sym, ap, ◌∙◌}
use mathlib.Core.List.{List, [], ◌++◌, append_assoc}
use native.Mathlib.Nat.{not-suc-le-zero}
use native.Mathlib.Omega.{arith}
use lib.Dec.{eqb}
use lib.ListN.{length, take, length-set, length-append, length-take, length-drop, length-replicate}
use borrow.Author.Tests.{eq-eqb, ne_eqb, lt-ltb, le-ltb}
use Rattle.mark.proofs.Choices.{by_cases}
use Rattle.turn.specs.Turn.{After, after}
use Rattle.std.specs.Prelude.{Result}
use Rattle.turn.specs.declared.refusal.Refusal.{Refusal}
use Rattle.turn.specs.declared.refusal.Refusal.TheVariants.{WrongSizes, NoWorker, BrokenRecord, BusyWorker, SpentTicket, IdleWorker, BrokenBucket, Malformed, TooLong, NoSmallClass, UntrueIndex, NotAtRest, CrowdedBucket}
use Rattle.turn.specs.Number.{number as number_of}
use Rattle.engine.specs.declared.Plan.{Plan}
use Rattle.engine.specs.declared.Totals.{Totals}
use Rattle.engine.specs.Calls.{Opened, planned, open_call}
use Rattle.engine.specs.Refusals.{open_number}
use Rattle.engine.specs.Room.{Few}
use Rattle.engine.proofs.Few.{few_le}
use Rattle.pen.specs.declared.Pen.{Pen}
use Rattle.pen.specs.Written.{Writes}
use Rattle.pen.proofs.Decimal.{decimal_long}
use Rattle.pen.proofs.Putting.{writes_none, writes_puts, puts_all}
use Rattle.sheet.specs.declared.Call.{Call}
use Rattle.sheet.specs.declared.Field.{Field}
use Rattle.sheet.specs.declared.Span.{Span}
use Rattle.sheet.specs.declared.Field.TheVariants.{Opening, Calling, Turning}
use Rattle.sheet.specs.Fields.{Whole, Refused, read_field}
use Rattle.sheet.specs.Line.{totals_line, refusal_line}
use Rattle.sheet.specs.Play.{Desk, shut_desk, Outcome, seat_of, record_of, asked, call_field, opened, open_field, turns_in, turns_done, field_done}
use Rattle.sheet.specs.Listing.{Told, told, Ending, listed_first, told_refusal, refused, told_totals, over, after_field, one_field, fields_from, played}
use Rattle.sheet.specs.Room.{longest, due, Ready}
use Rattle.sheet.specs.declared.Played.{Played}
use Rattle.sheet.specs.declared.Stopped.{Stopped}
use Rattle.sheet.specs.Promises.{Does, Stands, floor_of, records_of, written_of, stop_of, Leaves}
use Rattle.sheet.proofs.Busy.{busy_none, busy_set_le}
use Rattle.sheet.proofs.Fielding.{whole_next, whole_call, whole_turns}
use Rattle.sheet.proofs.OneTurn.{ready_le, turns_ready, turns_pay}
use Rattle.sheet.proofs.Seats.{asked_known, asked_workers}
use Rattle.sheet.proofs.Sleeping.{idle_opened, idle_set}
use Rattle.pen.proofs.Putting.{writes_then}

-- ---- what is left

-- the field at a place, and then the others
fields_here :
    (more : ℕ) (sheet : List ℕ) (at : ℕ) (s : After Desk)
    → 1 ≤ more
    → fields_from more sheet at s ≡ one_field (fields_from (more - 1) sheet) sheet at s (read_field sheet at)
unfolding fields_from
fields_here zero sheet at s some = absurd (not-suc-le-zero some)
fields_here (suc more) sheet at s some = let back : suc more - 1 ≡ more = omega arith in rw back

-- lines before lines
first_first : (l m : List ℕ) (e : Ending) → listed_first l (listed_first m e) ≡ listed_first (l ++ m) e
first_first l m e =
    let t = e.handed in
    ap (λ (lines : List ℕ). after e.words (told lines t.desk t.stop)) (sym (append_assoc l m t.lines))

-- ---- what a field leaves

-- a call makes 37 bytes of listing due at most, and takes 13 of the sheet at least, however long the sheet is
module _ (sheet : List ℕ) (at next : ℕ) (board : List ℕ) (d : Desk) (c : Call) (is : read_field sheet at ≡ Whole (Calling c) next) where
  call_pays : (written : ℕ) → 13 * due (call_field c (after board d)).left.handed written + 37 * at ≤ 13 * due d written + 37 * next
  unfolding call_field
  call_pays written =
      let long = whole_call sheet at c next is in
      let more = busy_set_le d.records c.worker (asked board (seat_of d c.worker) (record_of d c.worker) c).worker in
      omega (arith, long, more)

  -- where 13 bytes of what is due are at most 37 of the sheet, so they are after it
  pub room_called : (written : ℕ) → 13 * due d written ≤ 37 * at → 13 * due (call_field c (after board d)).left.handed written ≤ 37 * next
  room_called written room = let pay = call_pays written in omega (arith, pay, room)

-- the turns of a field lie within it
turns_inside :
    (sheet : List ℕ) (at next : ℕ) (span : Span) → read_field sheet at ≡ Whole (Turning span) next → length (turns_in sheet span) ≤ next - at
turns_inside sheet at next span is =
    let w = whole_turns sheet at span next is in
    simp (length-take, length-drop) (omega (arith, w.0, w.1, w.2))

module _ (sheet : List ℕ) (at next : ℕ) (board : List ℕ) (d : Desk) (was : Ready at d) (short : length sheet ≤ 16384) where
  -- it is ready for the next, and 37 bytes of listing are paid by 13 of the sheet, which is the least that a call takes
  record Left (o : Outcome) : Type 0 where
    ready : o.stop ≡ 0 → Ready next o.left.handed
    pays : 13 * due o.left.handed (length o.lines) + 37 * at ≤ 13 * due d 0 + 37 * next

  opened_left : (p : Plan) → read_field sheet at ≡ Whole (Opening p) next → Left (open_field p (after board d))
  unfolding open_field open_call
  opened_left p is =
      let n = whole_next sheet at (Opening p) next is in
      let idle = busy_none (length d.records) in
      by_cases (λ (x : After Opened). Left (opened x.words x.handed d.totals)) (eqb (open_number (planned p) board p.workers) 0) _ _
      (λ done.
      record {
        ready = λ none.
            record {
              few = few_le at next _ (omega (arith, n.0)) was.few;
              all = length-replicate _ _ ∙ was.all;
              past = rw was.all (idle_opened p.workers);
            };
        pays = omega (arith, n.0, idle);
      })
      (λ some. record { ready = λ none. ready_le at next d (omega (arith, n.0)) was; pays = omega (arith, n.0) })

  called_left : (c : Call) → read_field sheet at ≡ Whole (Calling c) next → Left (call_field c (after board d))
  unfolding call_field
  called_left c is =
      let n = whole_next sheet at (Calling c) next is in
      record {
        ready = λ none.
            let known = asked_known board (seat_of d c.worker) (record_of d c.worker) c none in
            record {
              few = few_le at next _ (omega (arith, n.0)) was.few;
              all = simp length-set was.all;
              past = rw (asked_workers board (seat_of d c.worker) (record_of d c.worker) c) (idle_set _ _ _ _ known.0 was.past);
            };
        pays = call_pays sheet at next board d c is 0;
      }

  turned_left : (span : Span) → read_field sheet at ≡ Whole (Turning span) next → Left (field_done sheet (Turning span) (after board d))
  turned_left span is =
      let n = whole_next sheet at (Turning span) next is in
      let long = turns_inside sheet at next span is in
      let pay = turns_pay (turns_in sheet span) board d at was (omega (arith, long, n.0, n.1, short)) in
      record {
        ready = λ none. ready_le _ next _ (omega (arith, long, n.0)) (turns_ready (turns_in sheet span) board d at was);
        pays = omega (arith, pay, n.0);
      }

  field_left : (f : Field) → read_field sheet at ≡ Whole f next → Left (field_done sheet f (after board d))
  field_left (Opening p) is = opened_left p is
  field_left (Calling c) is = called_left c is
  field_left (Turning span) is = turned_left span is

-- ---- the last line

-- a number of refusal is small
pub number_small : (why : Refusal) → number_of why < 256
number_small WrongSizes = omega arith
number_small NoWorker = omega arith
number_small BrokenRecord = omega arith
number_small BusyWorker = omega arith
number_small SpentTicket = omega arith
number_small IdleWorker = omega arith
number_small BrokenBucket = omega arith
number_small Malformed = omega arith
number_small TooLong = omega arith
number_small NoSmallClass = omega arith
number_small UntrueIndex = omega arith
number_small NotAtRest = omega arith
number_small CrowdedBucket = omega arith

-- a refusal's is short
refusal_long : (number offset : ℕ) → number < 256 → offset ≤ 16384 → length (refusal_line number offset) ≤ 26
refusal_long number offset few short =
    let a = decimal_long 3 number (omega arith) (omega arith) in
    let b = decimal_long 5 offset (omega arith) (omega arith) in
    simp length-append (omega (arith, a, b))

-- and that of the totals
totals_long : (t : Totals) → Few 16384 t → length (totals_line t) ≤ 26
totals_long t few =
    let a = decimal_long 5 t.turns (omega arith) (omega (arith, few.turns)) in
    let b = decimal_long 5 t.changes (omega arith) (omega (arith, few.changes)) in
    let c = decimal_long 5 t.lost (omega arith) (omega (arith, few.lost)) in
    let d = decimal_long 5 t.full (omega arith) (omega (arith, few.full)) in
    simp length-append (omega (arith, a, b, c, d))

-- with it the listing is written whole, and there is room for it
pub sheet_left :
    (e : Ending) (pen mid last : Pen) (board : List ℕ) (t : Told) (r : Result Played Stopped)
    → Stands e pen mid board t
    → Writes mid t.lines last
    → pen.at ≡ 0
    → length pen.out.now ≡ longest
    → written_of r ≡ last.at
    → floor_of r ≡ t.desk.floor
    → records_of r ≡ t.desk.records
    → stop_of r ≡ t.stop
    → Leaves e pen.out.now board last.out.now r × (written_of r ≤ longest)
sheet_left e pen mid last board t r g tells first long at floor records stop =
    let all = writes_puts (writes_then g.lines tells) in
    let fits : length (g.so_far ++ t.lines) ≤ longest = rw length-append g.room in
    let w = puts_all (rw first at all) (omega (arith, fits, long)) in (
      rw (← g.same)
          (record {
            left = refl;
            tells = record { lines = rw at w; floor = floor; records = records; stop = stop };
          }),
      omega (arith, at, w.place, fits),
    )

-- ---- where a sheet stands

-- `total` being what all of it comes to: a field is to be read at a place
pub record Standing (sheet : List ℕ) (total : Ending) (pen : Pen) (board : List ℕ) (d : Desk) (now : Pen) (at : ℕ) : Type 0 where
  pub more : ℕ
  pub so_far : List ℕ
  pub lines : Writes pen so_far now
  pub same : listed_first so_far (fields_from more sheet at (after board d)) ≡ total
  pub enough : length sheet < at + more
  pub ready : Ready at d
  pub room : 13 * due d (length so_far) ≤ 37 * at
  pub inside : at ≤ length sheet
  pub short : length sheet ≤ 16384

-- a sheet that is too long
pub too_long_stands :
    (sheet board : List ℕ) (pen : Pen) → 16384 < length sheet → Stands (played sheet board) pen pen board (told_refusal 9 0)
unfolding played
too_long_stands sheet board pen more =
    let long = refusal_long 9 0 (omega arith) (omega arith) in
    record { so_far = []; lines = writes_none pen; same = rw (lt-ltb 16384 (length sheet) more) refl; room = omega (arith, long) }

-- no field is done yet
pub standing_starts :
    (sheet board : List ℕ) (pen : Pen) → length sheet ≤ 16384 → Standing sheet (played sheet board) pen board shut_desk pen 0
unfolding played
standing_starts sheet board pen short =
    let none = busy_none 64 in
    record {
      more = suc (length sheet);
      so_far = [];
      lines = writes_none pen;
      same = rw (le-ltb 16384 (length sheet) short) refl;
      enough = omega arith;
      ready =
          record {
            few = record { turns = omega arith; changes = omega arith; lost = omega arith; full = omega arith };
            all = refl;
            past = idle_opened 0;
          };
      room = omega (arith, none);
      inside = omega arith;
      short = short;
    }

module _
    (sheet : List ℕ) (total : Ending) (pen : Pen) (board : List ℕ) (d : Desk) (now : Pen) (at : ℕ)
    (g : Standing sheet total pen board d now at)
  where
    abbrev rest : ℕ → After Desk → Ending
    rest = fields_from (g.more - 1) sheet

    here : listed_first g.so_far (one_field rest sheet at (after board d) (read_field sheet at)) ≡ total
    here =
        let some : 1 ≤ g.more = omega (arith, g.enough, g.inside) in
        ap (listed_first g.so_far) (sym (fields_here g.more sheet at (after board d) some)) ∙ g.same

    -- between two turns of a field, too, 13 bytes of what is due are at most 37 of the sheet, of what stands before the field
    pub room_within :
        (span : Span) (next turns : ℕ)
        → read_field sheet at ≡ Whole (Turning span) next
        → let o = turns_done (take turns (turns_in sheet span)) (after board d) in
        13 * due o.left.handed (length (g.so_far ++ o.lines)) ≤ 37 * at
    room_within span next turns is =
        let n = whole_next sheet at (Turning span) next is in
        let long = turns_inside sheet at next span is in
        let some = take turns (turns_in sheet span) in
        let fewer : length some ≤ length (turns_in sheet span) = simp length-take (omega arith) in
        let pay = turns_pay some board d at g.ready (omega (arith, fewer, long, n.0, n.1, g.short)) in
        rw length-append (omega (arith, pay, g.room))

    -- it cannot be read
    pub malformed : read_field sheet at ≡ Refused at → Stands total pen now board (told_refusal 8 at)
    malformed is =
        let long = refusal_long 8 at (omega arith) (omega (arith, g.inside, g.short)) in
        record {
          so_far = g.so_far;
          lines = g.lines;
          same = rw is at here;
          room = omega (arith, long, g.room, g.inside, g.short);
        }

    -- it is this one, and came to this
    module _
        (f : Field) (next : ℕ) (is : read_field sheet at ≡ Whole f next) (later : Pen) (left : List ℕ) (x : Desk) (number : ℕ)
        (did : Does (field_done sheet f (after board d)) now later left x number)
      where
        abbrev o : Outcome
        o = field_done sheet f (after board d)

        left_so : Left sheet at next board d g.ready g.short o
        left_so = field_left sheet at next board d g.ready g.short f is

        there : listed_first g.so_far (after_field rest (length sheet) at next o) ≡ total
        there = rw is at here

        then_lines : Writes pen (g.so_far ++ o.lines) later
        then_lines = writes_then g.lines did.lines

        -- 37 bytes of listing for 13 of the sheet
        pub room_next : 13 * due o.left.handed (length (g.so_far ++ o.lines)) ≤ 37 * next
        room_next = rw length-append (omega (arith, left_so.pays, g.room))

        -- it was refused
        pub field_refused : (number ≡ 0 → ⊥) → number < 256 → Stands total pen later left (told_refusal number at)
        field_refused some few =
            let n = whole_next sheet at f next is in
            let isnot : eqb o.stop 0 ≡ false = ne_eqb o.stop 0 (λ none. some (did.comes.stop ∙ none)) in
            let long = refusal_long number at few (omega (arith, g.inside, g.short)) in
            let room = room_next in
            record {
              so_far = g.so_far ++ o.lines;
              lines = then_lines;
              same =
                  rw (did.comes.words, did.comes.stop)
                  (sym (first_first g.so_far o.lines (refused o.stop at o.left)) ∙ (rw isnot at there));
              room = omega (arith, long, room, n.1, g.short);
            }

        -- it was done
        module _ (none : number ≡ 0) where
          done : eqb o.stop 0 ≡ true
          done = eq-eqb o.stop 0 (sym did.comes.stop ∙ none)

          same_left : after left x ≡ o.left
          same_left = λ i. record { words = did.comes.words i; handed = did.comes.desk i }

          next_ready : Ready next x
          next_ready = rw did.comes.desk (left_so.ready (sym did.comes.stop ∙ none))

          -- and the sheet is over
          pub sheet_over : next ≡ length sheet → Stands total pen later left (told_totals x)
          sheet_over last =
              let ready = next_ready in
              let long = totals_long x.totals (few_le next 16384 _ (omega (arith, last, g.short)) ready.few) in
              let room = room_next in
              record {
                so_far = g.so_far ++ o.lines;
                lines = then_lines;
                same =
                    ap (λ (s : After Desk). listed_first (g.so_far ++ o.lines) (over s)) same_left
                    ∙ sym (first_first g.so_far o.lines (over o.left))
                    ∙ (rw (done, eq-eqb next (length sheet) last) at there);
                room = omega (arith, long, room, last, g.short);
              }

          -- and there is another
          pub field_next : (next ≡ length sheet → ⊥) → Standing sheet total pen left x later next
          field_next other =
              let n = whole_next sheet at f next is in
              let room = room_next in
              record {
                more = g.more - 1;
                so_far = g.so_far ++ o.lines;
                lines = then_lines;
                same =
                    ap (λ (s : After Desk). listed_first (g.so_far ++ o.lines) (rest next s)) same_left
                    ∙ sym (first_first g.so_far o.lines (rest next o.left))
                    ∙ (rw (done, ne_eqb next (length sheet) other) at there);
                enough = (let e = g.enough in omega (arith, n.0));
                ready = next_ready;
                room = rw did.comes.desk room;
                inside = n.1;
                short = g.short;
              }
