-- The terms of a solver: residual networks, augmentations, and the graph of a problem with its entries. `Maximum`
-- states the conditions on a network; the solver knows nothing else of the problem.

pub mod Types
pub mod Residual
pub mod Augmentation
pub mod Graphs
pub mod ResidualGraph
pub mod ShortEntry
pub mod Search
pub mod Reached
pub mod Maximum
pub mod Members
pub mod Existence
