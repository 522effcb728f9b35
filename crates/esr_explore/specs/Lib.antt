-- Interleavings of blocks, the run of one of them, and the summary of a run.
pub mod Orders
pub mod Turns
pub mod Summaries
pub mod Searches
pub mod Queries
pub mod Severity
pub mod Columns
pub mod Report
pub mod WorkedExamples
