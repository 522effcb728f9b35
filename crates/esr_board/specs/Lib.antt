-- A board and its seats as callers see them, the effect of each step of a seat (`Claims`), and the order of findings by
-- their jobs.

pub mod Claims
pub mod Boards
pub mod Shares
