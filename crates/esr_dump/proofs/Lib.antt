-- The script's lines are parsed as the history's entries: names by numbers, a line for each entry, and the run over
-- all of them.

pub mod Numbers
pub mod Tables
pub mod Texts
pub mod Feeds
pub mod RoundTrip
pub mod Names
