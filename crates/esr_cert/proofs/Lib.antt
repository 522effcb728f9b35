-- A certificate proves the least cost (`Least`, `Cut`), and the tests of lists agree with the definitions. Solver,
-- audits and bundles use `Sound`, `Least` and `Certified`.

mod WorkedExamples
pub mod Sound
pub mod Flows
pub mod Cut
pub mod Least
pub mod Matched
pub mod Certified
pub mod Steps
pub mod Search
pub mod Distinct
pub mod ResidualArcsLaws
pub mod AdjacencyLaws
pub mod IsAdjacencyUpTo
pub mod ArcsLaws
pub mod ChainArcsLaws
mod ChainStartsLaws
pub mod FlowConservation
mod Within
pub mod Worth
