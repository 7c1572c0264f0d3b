-- Figures that customers gave later, by one statement about one list. What comes of all orders is computed from the definitions themselves: the
-- list of orders is made, and the engine runs each of them.
use mathlib.Core.Path.{refl}
use mathlib.Core.List.{flat_map}
use Rattle.mark.specs.Word as Word
use Rattle.turn.specs.Worker as Record
use Rattle.turn.specs.Asleep as Asleep
use Rattle.turn.specs.Bucket as Bucket
use Rattle.turn.specs.Places as Places
use Rattle.turn.specs.Turn as Turn
use Rattle.engine.specs.Board as Board
use Rattle.engine.specs.Refusals as Refusals
use Rattle.engine.specs.Calls as Calls
use Rattle.walks.specs.Orders as Orders
use Rattle.walks.specs.Calls as Walks
use Rattle.trials.specs.Trial.{AllHold, played_from, more_turns}
use Rattle.trials.specs.Figures.{figures}

-- §18.6, §20.4: they hold
pub the_figures_hold : AllHold figures
unfolding
    played_from more_turns flat_map
    Walks.orders_call Walks.orders_number Refusals.any_record Orders.counted Orders.orders Orders.all_idle Orders.busy_from
    Calls.open_call Calls.start_call Calls.turned Calls.turn_call Calls.run_from Calls.run_call
    Refusals.wrong_floor Refusals.wrong_sizes Refusals.open_number Refusals.start_number Refusals.each_number Refusals.turn_number Refusals.run_number
    Turn.turn_refusal Record.broken Record.is_idle Record.sound Record.fits Record.may_stand Record.ticket_fits Record.held_fits Record.word_fits Asleep.slept
    Bucket.broken_bucket Places.turn Places.look_found Places.look_empty Places.find_slot Places.next_slot Places.next_key
    Places.after1 Places.after2 Places.after3 Places.after4 Places.after5 Places.after11 Places.after12
    Board.opened_board Word.version Word.mark_of Word.byte7 Word.set_mark Word.bump Word.first_empty Word.well_formed
the_figures_hold = (refl, (refl, (refl, (refl, (refl, (refl, tt))))))
