-- Each arm of the match is the row of its place. Assumes nothing.
use Rattle.std.proofs.Common.{set, ap, ◌∙◌, arith}
use Rattle.turn.specs.Places.{leaves, held_key, held_value, after2, after12}
use Rattle.turn.proofs.Rows.{at_row, past_rows}
use Rattle.turn.proofs.place.step.Goals as goal

pub swap-requires : goal.swap-requires
swap-requires c = omega (arith, c.requires.eight)

pub bounds-bucket-held_value : goal.bounds-bucket-held_value
bounds-bucket-held_value c = omega (arith, c.requires.eight, c.requires.holds (omega arith) (omega arith))

pub bounds-bucket-held_key : goal.bounds-bucket-held_key
bounds-bucket-held_key c = omega (arith, c.requires.eight, c.requires.holds (omega arith) (omega arith))

pub swap-requires-in-9 : goal.swap-requires-in-9
swap-requires-in-9 c = omega (arith, c.requires.eight)

pub swap-requires-in-13 : goal.swap-requires-in-13
swap-requires-in-13 c = omega (arith, c.requires.eight)

pub returns-in-0 : goal.returns-in-0
returns-in-0 c = at_row 0 c.requires c.in-0.is (ap (leaves _) c.goes_on.ensures)

pub returns-in-1 : goal.returns-in-1
returns-in-1 c = at_row 1 c.requires c.in-1.is (ap (leaves _) c.after_1.ensures)

pub returns-in-2 : goal.returns-in-2
unfolding after2
returns-in-2 c = at_row 2 c.requires c.in-2.is (ap (leaves _) c.read_seen.ensures)

pub returns-in-3 : goal.returns-in-3
returns-in-3 c = at_row 3 c.requires c.in-3.is (ap (leaves _) c.after_3.ensures)

pub returns-in-4 : goal.returns-in-4
returns-in-4 c = at_row 4 c.requires c.in-4.is (ap (leaves _) c.after_4.ensures)

pub returns-in-5 : goal.returns-in-5
returns-in-5 c = at_row 5 c.requires c.in-5.is (ap (leaves _) c.after_5.ensures)

pub returns-in-6 : goal.returns-in-6
returns-in-6 c = at_row 6 c.requires c.in-6.is (c.swap.ensures ∙ simp (c.claimed.ensures, c.lost.ensures, c.with_mark-new.ensures))

pub returns-in-7 : goal.returns-in-7
returns-in-7 c = at_row 7 c.requires c.in-7.is (ap (leaves (set c.args.bucket.now (held_value c.args.w) c.args.w.ticket)) c.goes_to.ensures)

pub returns-in-8 : goal.returns-in-8
returns-in-8 c = at_row 8 c.requires c.in-8.is (ap (leaves (set c.args.bucket.now (held_key c.args.w) c.args.w.key)) c.goes_to-in-8.ensures)

pub returns-in-9 : goal.returns-in-9
returns-in-9 c =
    at_row 9 c.requires c.in-9.is
    (c.swap-in-9.ensures
    ∙ simp (c.ends.ensures, c.lost-in-9.ensures, c.with_next_version-new.ensures, c.with_mark.ensures, c.with_mark-filled.ensures))

pub returns-in-10 : goal.returns-in-10
returns-in-10 c = at_row 10 c.requires c.in-10.is (simp (c.ends-in-10.ensures, c.with_mark-in-10.ensures))

pub returns-in-11 : goal.returns-in-11
returns-in-11 c = at_row 11 c.requires c.in-11.is (ap (leaves _) c.after_11.ensures)

pub returns-in-12 : goal.returns-in-12
unfolding after12
returns-in-12 c = at_row 12 c.requires c.in-12.is (ap (leaves _) c.read_seen-in-12.ensures)

pub returns-in-13 : goal.returns-in-13
returns-in-13 c =
    at_row 13 c.requires c.in-13.is
    (c.swap-in-13.ensures ∙ simp (c.ends-in-13.ensures, c.lost-in-13.ensures, c.with_mark-new-in-13.ensures))

pub returns-in-14-to-255 : goal.returns-in-14-to-255
returns-in-14-to-255 c = past_rows c.requires (omega arith) (ap (leaves _) c.goes_on-in-14-to-255.ensures)
