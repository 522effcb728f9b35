-- The problem that is gathered represents its query (`ProblemOfOrder`, `BuiltProblem`), and its solution is the audit's
-- result, also in longer histories (`Found`, `Stays`). Each committed query has a finding (`HasFinding`).

pub mod Values
pub mod Places
pub mod Costs
pub mod Smallest
pub mod Positions
pub mod Found
pub mod Stays
pub mod Gathered
pub mod Versions
pub mod ProblemOfOrder
pub mod Shape
pub mod ProblemRanges
pub mod ItemReads
pub mod BuiltProblem
pub mod HasOrder
pub mod CertificateValues
pub mod HasFinding
pub mod Committed
pub mod SummaryLaws
pub mod SameSet
pub mod RangeLaws
