-- A renewal that carries the active transactions over: the statements of its laws, with a worked example.

pub mod Types
pub mod Carry
pub mod WorkedExamples
