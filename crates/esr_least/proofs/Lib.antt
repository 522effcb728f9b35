-- The audit of a committed query equals the summary of a finding of it, and remains correct in every extension of the history.

pub mod SummarizesFinding
pub mod Stable
