-- Phases of shortest augmentations end, within the bound, at a maximum flow, and the nodes that the source then reaches
-- are the smallest set of least cost, so that each problem has a certificate. `SolveLaws`, `MaximumLaws`,
-- `CertificateLaws` and `Existence` are the results; the other modules are lemmas about the search, its labels and its
-- entries.

pub mod Count
pub mod Distance
pub mod Labels
pub mod Phases
pub mod FlowLaws
pub mod Keeps
pub mod Smallest
pub mod SolveLaws
pub mod SearchLaws
pub mod ScanLaws
pub mod PathLaws
pub mod LabelLaws
pub mod MaximumLaws
pub mod WalkLaws
pub mod PhaseLaws
pub mod EntriesLaws
pub mod FillLaws
pub mod GraphLaws
pub mod SumLaws
pub mod ReachLaws
pub mod PassLaws
pub mod CertificateLaws
pub mod Reachable
pub mod Existence
