-- A worker's record, and names for the kinds and places that other rules speak of.
use Rattle.std.specs.Prelude.{ℕ, Bool, false, cond, ◌&&◌, ◌||◌, not, eqb, leb}
use Rattle.mark.specs.Word.{well_formed}
use Rattle.turn.specs.declared.Worker.{Worker}

-- ---- the kinds of call; an idle worker has kind 0

-- §3.2: a look
abbrev pub look_kind : ℕ
look_kind = 1

-- §3.2: an insert
abbrev pub insert_kind : ℕ
insert_kind = 2

-- §3.2: a remove
abbrev pub remove_kind : ℕ
remove_kind = 3

-- ---- the places that read the mark word whole or change it, and the one that stores a ticket

-- §5.1: the mark word is read whole
abbrev pub read_place : ℕ
read_place = 1

-- §5.6: an insert claims a slot
abbrev pub claim_place : ℕ
claim_place = 6

-- §5.7: an insert stores its ticket
abbrev pub ticket_place : ℕ
ticket_place = 7

-- §5.9: an insert commits
abbrev pub commit_place : ℕ
commit_place = 9

-- §5.10: an insert gives its slot back
abbrev pub free_place : ℕ
free_place = 10

-- §5.13: a remove closes a lot
abbrev pub close_place : ℕ
close_place = 13

-- ---- records

-- §3.2: what stands in held where no slot is held
abbrev pub no_slot : ℕ
no_slot = 3

-- §3.3: the idle record
abbrev pub idle : Worker
idle = record { kind = 0; place = 0; key = 0; ticket = 0; slot = 0; word = 0; held = no_slot; seen = 0; asleep = 0 }

-- ---- the record that a start leaves

-- §3.4: a start of this kind, at this place, with this lot and this ticket
abbrev pub started : ℕ → ℕ → ℕ → ℕ → Worker
started k p lot t = record { kind = k; place = p; key = lot; ticket = t; slot = 0; word = 0; held = no_slot; seen = 0; asleep = 0 }

-- §3.4: a look, which reads no mark word whole
abbrev pub look_for : ℕ → Worker
look_for lot = started look_kind 2 lot 0

-- §3.4: an insert, with its ticket
abbrev pub insert_of : ℕ → ℕ → Worker
insert_of lot t = started insert_kind read_place lot t

-- §3.4: a remove, which has no ticket
abbrev pub remove_of : ℕ → Worker
remove_of lot = started remove_kind read_place lot 0

-- ---- a record with some fields changed

-- §4.2: at another place
abbrev pub go_to : ℕ → Worker → Worker
go_to p w = record { kind = w.kind; place = p; key = w.key; ticket = w.ticket; slot = w.slot; word = w.word; held = w.held; seen = w.seen; asleep = w.asleep }

-- §4.2: at another place and slot
abbrev pub at_slot : ℕ → ℕ → Worker → Worker
at_slot p s w = record { kind = w.kind; place = p; key = w.key; ticket = w.ticket; slot = s; word = w.word; held = w.held; seen = w.seen; asleep = w.asleep }

-- §4.2: at another place, with the value that it saw
abbrev pub saw : ℕ → ℕ → Worker → Worker
saw p v w = record { kind = w.kind; place = p; key = w.key; ticket = w.ticket; slot = w.slot; word = w.word; held = w.held; seen = v; asleep = w.asleep }

-- §4.2: at another place and slot 0, with the mark word that it read
abbrev pub read_word : ℕ → ℕ → Worker → Worker
read_word p m w = record { kind = w.kind; place = p; key = w.key; ticket = w.ticket; slot = 0; word = m; held = w.held; seen = w.seen; asleep = w.asleep }

-- §4.2, §5.6: it holds its slot, and has the word that it swapped in
abbrev pub claimed : ℕ → Worker → Worker
claimed m w = record { kind = w.kind; place = ticket_place; key = w.key; ticket = w.ticket; slot = w.slot; word = m; held = w.slot; seen = w.seen; asleep = w.asleep }

-- ---- idle and broken records

-- §3.3: every field is the idle record's
unfoldable pub is_idle : Worker → Bool
is_idle w =
    eqb w.kind 0
    && (eqb w.place 0
    && (eqb w.key 0
    && (eqb w.ticket 0
    && (eqb w.slot 0
    && (eqb w.word 0
    && (eqb w.held 3
    && (eqb w.seen 0
    && eqb w.asleep 0)))))))

-- from lo to hi, both included
abbrev pub within : ℕ → ℕ → ℕ → Bool
within lo hi n = leb lo n && leb n hi

-- §3.7: where each kind of call may stand
unfoldable pub may_stand : ℕ → ℕ → Bool
may_stand kind place =
    cond (eqb kind look_kind) (within 2 5 place)
    (cond (eqb kind insert_kind) (within 1 10 place)
    (cond (eqb kind remove_kind) (eqb place 1 || within 11 13 place) false))

-- §3.7: an insert has a ticket, and no other call has one
unfoldable pub ticket_fits : ℕ → ℕ → Bool
ticket_fits kind ticket = cond (eqb kind insert_kind) (leb 1 ticket) (eqb ticket 0)

-- §3.7: only an insert holds a slot: from its claim on, and while it searches again; never when it is about to claim one
unfoldable pub held_fits : ℕ → ℕ → ℕ → Bool
held_fits kind place held =
    cond (eqb kind insert_kind) (cond (eqb place 6) (eqb held no_slot) (cond (leb 7 place) (leb held 2) (leb held no_slot))) (eqb held no_slot)

-- §3.7: a look has no word, and that of another call is well formed
unfoldable pub word_fits : ℕ → ℕ → Bool
word_fits kind word = cond (eqb kind look_kind) (eqb word 0) (well_formed word)

-- §3.7: what a busy record's kind asks of its place, ticket, held and word
unfoldable pub fits : ℕ → ℕ → ℕ → ℕ → ℕ → Bool
fits kind place ticket held word =
    may_stand kind place && (ticket_fits kind ticket && (held_fits kind place held && word_fits kind word))

-- §3.7: a busy record is sound: at one of the three slots, and as its kind asks
unfoldable pub sound : Worker → Bool
sound w = leb w.slot 2 && fits w.kind w.place w.ticket w.held w.word

-- §3.7: a record is broken that is neither idle nor sound
unfoldable pub broken : Worker → Bool
broken w = not (is_idle w || sound w)
