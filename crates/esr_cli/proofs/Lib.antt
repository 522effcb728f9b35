-- Arguments that form a job have no fault and request it, whatever the operands are. `WalksTo` walks over known words
-- and unknown operands; the other modules start from it.

mod Entered
mod Faultless
mod WalksTo
mod Readings
mod Requested
mod Rows
mod ParsedWords
mod Stops
