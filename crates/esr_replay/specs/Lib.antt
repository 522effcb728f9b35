-- The prefixes of a history, and the progress of a replay.

pub mod Replays
