-- The permitted output of each subcommand that reads a script, given its bytes alone: `Text` for a run, and a module
-- for each of the others. The definition of lines is re-exported from `esr_grammar`, since the two are read together.

pub use Rattle.esr_grammar.specs.Lines
pub use Rattle.esr_grammar.specs.Command
pub mod Text
pub mod Run
pub mod Ends
pub mod Certify
pub mod QueryAnswers
pub mod Audit
pub mod TeeReader
pub mod ScriptView
pub mod Replays
pub mod Items
pub mod Stages
pub mod Parts
pub mod ReaderToWriter
pub mod WorkedExamples
pub mod Echoes
pub mod Placed
