-- How bytes are cut into lines, and the one text of each command.

pub mod Lines
pub mod Command
pub mod Classes
pub mod Digits
pub mod Stops
