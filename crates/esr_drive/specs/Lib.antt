-- The permitted output of a drive, given the file that it read, and the results of its threads and its engine.

pub mod Drive
pub mod Runs
pub mod Driven
pub mod Faults
pub mod Pieces
