-- The steps of a replay, from prefix to prefix of its history.

pub mod Replaying
