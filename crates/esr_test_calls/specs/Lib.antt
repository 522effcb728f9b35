-- A metric that counts changes.

pub mod Changes
