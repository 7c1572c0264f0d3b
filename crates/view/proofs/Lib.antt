-- the statements
pub mod Listed
pub mod Pages
pub mod LastChange
pub mod Numbered
pub mod Determined
-- what the next scene comes to
pub mod Coming
pub mod Next
-- and each of a sheet's scenes
pub mod Walking
-- the functions
pub mod Onward
pub mod Playing
pub mod OwnBoard
-- the words
pub mod Choosing
pub mod Everyone
pub mod Length
pub mod Room
