-- Reading the text of a bundle returns its problem and certificate, and each verdict is the one that its bytes deserve.

pub mod Wide
pub mod Exits
pub mod Judged
pub mod Puts
pub mod Trees
pub mod Verdicts
