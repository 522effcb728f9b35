-- One pass over the log finds every row's columns, and the text is that of just these rows.

pub mod Exported
pub mod Places
pub mod Rowed
pub mod Sent
pub mod Tallied
pub mod Texts
