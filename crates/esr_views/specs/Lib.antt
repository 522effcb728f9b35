-- A script's reply about a query, and the final state of the script.

pub mod State
pub mod QueryAnswers
