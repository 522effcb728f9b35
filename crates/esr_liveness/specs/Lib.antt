-- Which events the machine blocks, and when it stops blocking them.
pub mod Liveness
pub mod WorkedExamples
