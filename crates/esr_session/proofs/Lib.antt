-- Receipts that are all good match the history, and are complete. Drives and benchmarks may use `Good`.

pub mod Calls
pub mod MappedLists
pub mod Counts
pub mod Good
mod WorkedExamples
