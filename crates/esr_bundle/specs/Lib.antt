-- The meaning of the bytes of a bundle, by their JSON tree, and the verdict on them.

pub mod Fields
pub mod Bundle
pub mod Members
pub mod Drafts
pub mod Reading
pub mod Judge
pub mod WorkedExamples
