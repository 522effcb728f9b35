-- Problems, networks, flows and cuts in the textbook's terms, and the conditions on a certificate. `Views` and
-- `ProblemDrafts` map the vectors of the code to lists. `Adjacency`, `ChainStarts` and `ChainArcs` define the arrays of
-- the network.

pub mod Problem
pub mod Network
pub mod Flow
pub mod Cut
pub mod Certificate
pub mod Views
pub mod ProblemDrafts
pub mod ResidualArcs
pub mod PackedArcs
pub mod Adjacency
pub mod ChainStarts
pub mod ChainArcs
pub mod FlowConservation
pub mod Faults
pub mod Capacities
