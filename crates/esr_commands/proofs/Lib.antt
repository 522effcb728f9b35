-- When two problems are the same, and the claim of a bundle about them.

mod Claimed
mod Sameness
