-- Lower bounds on the costs of closed sets, from one amount for each version of an item.

pub mod Amounts
pub mod WorkedExamples
