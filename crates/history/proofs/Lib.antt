-- the statements
pub mod DemandThree
pub mod Reports
pub mod Openings
pub mod Moved
pub mod Through
pub mod Ledger
pub mod MoveTells
pub mod NoValueComesBack
pub mod Unbroken
pub mod Unrefused
pub mod Lots
pub mod Display
pub mod AllOrders
pub mod SameSizes
pub mod Retirings
pub mod HowLong
pub mod Sleepers
pub mod Figures
pub mod Reached
pub mod ValuesReached
pub mod MovesReached
pub mod Round
pub mod RoundReached
-- what a history is
pub mod Library
pub mod Listed
pub mod Ready
pub mod Opened
pub mod Runs
pub mod Histories
pub mod Singly
-- a history as a walk, seen through the mark words, the records and the last ticket
pub mod View
pub mod States
pub mod Starting
pub mod Acting
pub mod Retiring
pub mod Walking
-- what holds along every walk
pub mod Good
pub mod Held
pub mod Versions
pub mod Behind
pub mod Charges
pub mod Beginning
-- a worker's word, and its moment
pub mod Minds
pub mod Paid
pub mod Remembers
pub mod Swaps
pub mod Words
-- tickets and values
pub mod Steps
pub mod Account
pub mod Spent
pub mod Written
pub mod Later
-- how long a call takes
pub mod Looking
pub mod Numbered
pub mod InCalls
pub mod Looks
pub mod Alone
pub mod Removing
pub mod Searching
pub mod Inserting
pub mod Circling
-- a version that comes round
pub mod RoundTurns
pub mod RoundPlaces
-- cells of held and of valid slots
pub mod Cells
-- tools
pub mod Lawful
pub mod Counts
pub mod Sums
pub mod Cuts
pub mod Found
