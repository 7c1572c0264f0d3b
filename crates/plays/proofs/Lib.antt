-- the statements
pub mod Plays
pub mod Listings
pub mod OwnBoard
pub mod NoRefusal
pub mod Sleeper
pub mod Named
-- a point stands as the calls so far leave an opened board
pub mod Points
pub mod Standing
pub mod Turning
pub mod Calling
pub mod Asked
pub mod Lines
-- its inserts are few
pub mod Few
-- a play comes to its end, and to its listing
pub mod Ending
pub mod Readings
-- the scenes of a sheet have the turns of its history
pub mod Scenes
