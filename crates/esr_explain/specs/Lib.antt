-- The explanation of a committed query, and the output of explaining one of a script.

pub mod Explain
pub mod Output
