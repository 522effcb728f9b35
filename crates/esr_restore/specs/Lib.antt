-- The history that a run of a history's script leads to.
pub mod Restores
pub mod WorkedExamples
