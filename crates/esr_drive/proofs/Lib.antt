-- Each block's session makes the calls of its block in turn, and the text is that of the engine's one history.

pub mod Calling
pub mod Parted
pub mod Pieced
pub mod Tasks
pub mod Texts
pub mod WorkedExamples
