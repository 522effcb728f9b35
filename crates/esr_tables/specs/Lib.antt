-- The rows of a ledger, from a history, and their text in CSV.

pub mod Rows
pub mod Entries
pub mod Spans
pub mod Csv
pub mod Written
