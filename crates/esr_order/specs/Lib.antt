-- Placements of a query and the order that they respect. Audits are based on `Placements`, `Relevant` and `Statements`; the
-- other modules describe intermediate results of scanning a log.

pub mod Placements
pub mod Least
pub mod Statements
pub mod Scans
pub mod ReadValues
pub mod AccessRows
pub mod Index
pub mod UpdateOperations
pub mod ConflictPairs
pub mod Conflicts
pub mod Batches
pub mod Later
pub mod BackwardSearch
pub mod Chains
pub mod Orders
pub mod Relevant
pub mod WorkedExamples
