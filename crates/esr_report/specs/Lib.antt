-- Tables of names, and the bytes of each line of a report.

pub mod Names
pub mod Lines
pub mod Subjects
pub mod Keys
pub mod Keyed
pub mod Stored
