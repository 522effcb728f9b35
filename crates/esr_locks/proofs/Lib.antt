-- The effect of changes of rows on the whole table. The machine uses `Least`.

pub mod Least
pub mod Shorts
pub mod Suffixes
pub mod Tables
