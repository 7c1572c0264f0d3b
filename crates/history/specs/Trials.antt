-- Trials P6 and P11, the longest calls, and a container that is retired, as the calls of a history (decision 78); and the mark words that P6
-- reports.
use Rattle.std.specs.Prelude.{ℕ, List, [], ◌∷◌, ◌++◌, replicate}
use Rattle.engine.specs.declared.Plan.{Plan}
use Rattle.history.specs.HowLong.{look_least, look_most, remove_most, insert_most}
use Rattle.history.specs.History.{Call, look, insert, remove, retire, run, ticket}

-- one bucket and version 0, as the trials have it, and so many workers
abbrev pub plan_for : ℕ → Plan
plan_for workers = record { workers = workers; buckets = 1; version = 0 }

-- so many turns of one worker
abbrev pub turns_of : ℕ → ℕ → Call
turns_of i n = run (replicate n i)

-- the worker that P11 calls A
abbrev pub A : ℕ
A = 0

-- the worker that P11 calls B
abbrev pub B : ℕ
B = 1

-- the worker that P11 calls C
abbrev pub C : ℕ
C = 2

-- §10.6: worker 1 pauses before its swap; worker 0 closes the lot and puts it up again on another ticket; worker 1 goes on
abbrev pub sleeper : List Call
sleeper =
    insert 0 7 (ticket 1)
    ∷ turns_of 0 11
    ∷ remove 1 7
    ∷ turns_of 1 3
    ∷ remove 0 7
    ∷ turns_of 0 4
    ∷ insert 0 7 (ticket 2)
    ∷ turns_of 0 11
    ∷ turns_of 1 5
    ∷ []

-- §4.12, §10.6: the mark words that the sleeper's 34 turns find and leave, by their reports: six of them are changes
abbrev pub sleeper_words : List (ℕ × ℕ)
sleeper_words =
    replicate 7 (0, 0)
    ++ ((0, 8589934592) ∷ replicate 2 (8589934592, 8589934592))
    ++ ((8589934592, 4294967297) ∷ replicate 6 (4294967297, 4294967297))
    ++ ((4294967297, 1) ∷ replicate 7 (1, 1))
    ++ ((1, 8589934593) ∷ replicate 2 (8589934593, 8589934593))
    ++ ((8589934593, 4294967298) ∷ replicate 4 (4294967298, 4294967298))
    ++ ((4294967298, 2) ∷ [])

-- §10.11: B has claimed a slot for a lot that C has put up meanwhile; A starts
abbrev pub before_reading : List Call
before_reading = insert B 7 (ticket 1) ∷ turns_of B 8 ∷ insert C 7 (ticket 2) ∷ turns_of C 11 ∷ turns_of B 10 ∷ insert A 8 (ticket 3) ∷ []

-- §10.11: after A has read the mark word B gives its slot back, and C claims the same slot
abbrev pub since_reading : List Call
since_reading = turns_of A 8 ∷ turns_of B 1 ∷ insert C 9 (ticket 4) ∷ turns_of C 9 ∷ []

abbrev pub word_repeats : List Call
word_repeats = before_reading ++ since_reading

-- §10.11: and then A's swap
abbrev pub repeated_word : List Call
repeated_word = word_repeats ++ turns_of A 1 ∷ []

-- §6.2, §10.7: a ticket that was taken before, and a worker whose number is the number of workers
abbrev pub refused_starts : List Call
refused_starts = insert 0 7 (ticket 1) ∷ insert 1 8 (ticket 1) ∷ remove 2 7 ∷ []

-- ---- a container that does not come back

-- §19.2: worker 0 claims a slot, fills it, and is retired before its commit
abbrev pub retired_holder : List Call
retired_holder = insert 0 7 (ticket 1) ∷ turns_of 0 10 ∷ retire 0 ∷ []

-- §19.5: then worker 1 claims the same slot
abbrev pub claimed_again : List Call
claimed_again = retired_holder ++ (insert 1 8 (ticket 2) ∷ turns_of 1 8 ∷ [])

-- ---- calls that take just as many turns as a call of their kind can, or as few

-- two lots come into one bucket, by one worker
abbrev pub two_lots : List Call
two_lots = insert 0 7 (ticket 1) ∷ turns_of 0 11 ∷ insert 0 8 (ticket 2) ∷ turns_of 0 12 ∷ []

-- §15.3: three lots come into one bucket, and the third finds the last slot alone empty
abbrev pub three_lots : List Call
three_lots = two_lots ++ (insert 0 9 (ticket 3) ∷ turns_of 0 insert_most ∷ [])

-- §15.1: a look for the lot in the last of three slots
abbrev pub longest_look : List Call
longest_look = three_lots ++ (look 0 9 ∷ turns_of 0 look_most ∷ [])

-- §15.1: a look for the lot in the first of three slots
abbrev pub shortest_look : List Call
shortest_look = three_lots ++ (look 0 7 ∷ turns_of 0 look_least ∷ [])

-- §15.2: a remove of the lot in the last of three slots
abbrev pub longest_remove : List Call
longest_remove = three_lots ++ (remove 0 9 ∷ turns_of 0 remove_most ∷ [])
