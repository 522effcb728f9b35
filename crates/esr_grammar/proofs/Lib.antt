-- A command's text is parsed as that command, and a search for the next line feed finds it. The crates that read
-- lines use them.

pub mod Prefix
pub mod Cutting
pub mod Spaces
pub mod Laws
pub mod Bytes
pub mod Classes
pub mod Lanes
pub mod Eights
pub mod Lasts
pub mod Fronts
pub mod Feeds
pub mod Spelling
pub mod Stops
pub mod Halves
