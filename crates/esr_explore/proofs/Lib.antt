-- Every interleaving is enumerated and a random one is an interleaving; the outcome of a run follows from its turns, and
-- its summary describes the history of the run.

pub mod Every
pub mod Drawn
pub mod Turning
pub mod Telling
pub mod Searching
pub mod Begun
pub mod Greatest
pub mod Ascending
pub mod Texts
