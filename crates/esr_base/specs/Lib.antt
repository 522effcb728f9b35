-- Readers and writers that remember a failure, as contracts see them.

pub mod Watch
