-- The contract of an audit: the problem that represents a query, and the contents of a finding.

pub mod Problems
pub mod Findings
pub mod Existence
pub mod Reads
pub mod Ranges
pub mod WorkedExamples
