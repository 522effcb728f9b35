-- A file that is read line by line leads to its plan, and the text is that of the plan's history.

pub mod Cuts
pub mod Placing
pub mod Adding
pub mod Noting
pub mod Rendered
pub mod Rows
