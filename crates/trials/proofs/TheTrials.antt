-- The trials P1 to P11, by one statement about one list (§12.6). The engine's own calls are computed, turn by turn.
use mathlib.Core.Path.{refl}
use Rattle.mark.specs.Word as Word
use Rattle.turn.specs.Worker as Record
use Rattle.turn.specs.Asleep as Asleep
use Rattle.turn.specs.Bucket as Bucket
use Rattle.turn.specs.Places as Places
use Rattle.turn.specs.Turn as Turn
use Rattle.engine.specs.Board as Board
use Rattle.engine.specs.Refusals as Refusals
use Rattle.engine.specs.Calls as Calls
use Rattle.trials.specs.Trial.{AllHold, played_from, more_turns}
use Rattle.trials.specs.Trials.{trials}

-- §12.6: P1 to P11 hold: what comes of each, line by line, is what it says
pub the_trials_hold : AllHold trials
unfolding
    played_from more_turns
    Calls.open_call Calls.start_call Calls.turned Calls.turn_call
    Refusals.wrong_floor Refusals.wrong_sizes Refusals.open_number Refusals.start_number Refusals.each_number Refusals.turn_number
    Turn.turn_refusal Record.broken Record.is_idle Record.sound Record.fits Record.may_stand Record.ticket_fits Record.held_fits Record.word_fits Asleep.slept
    Bucket.broken_bucket Places.turn Places.look_found Places.look_empty Places.find_slot Places.next_slot Places.next_key
    Places.after1 Places.after2 Places.after3 Places.after4 Places.after5 Places.after11 Places.after12
    Board.opened_board Word.version Word.mark_of Word.byte7 Word.set_mark Word.bump Word.first_empty Word.well_formed
the_trials_hold = (refl, (refl, (refl, (refl, (refl, (refl, (refl, (refl, (refl, (refl, (refl, tt)))))))))))
