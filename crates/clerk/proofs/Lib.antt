-- the statement, and what is computed of it
pub mod TheClerk
pub mod TheAccounts
pub mod Played
-- what holds all the time, and that every step keeps it: the clauses
pub mod Told
pub mod Assured
pub mod Standing
pub mod Stood
pub mod Recalls
pub mod Knows
pub mod Distinct
pub mod Listing
pub mod Tickets
pub mod Seen
pub mod Begun
pub mod Found
pub mod Ahead
pub mod Zero
pub mod Answers
pub mod Marked
pub mod Shown
-- a turn, as the clauses meet it
pub mod Deals
pub mod Fates
pub mod Won
pub mod Leads
pub mod Rows
pub mod Steps
pub mod Absent
pub mod Claims
pub mod Sometime
-- calls and the starts that began them
pub mod Starting
pub mod Started
pub mod Accounted
pub mod Paired
pub mod Rests
-- by lists alone: the calls of a trace, their moments, one by one
pub mod Since
pub mod Enumerated
pub mod Moments
pub mod Sorted
pub mod Arranged
pub mod OneByOne
-- the list, and tools
pub mod ListAfter
pub mod Listed
pub mod Counts
