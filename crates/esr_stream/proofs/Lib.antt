-- Why the passes show the least distance of a query and its smallest set.

pub mod ValueLists
pub mod RowLaws
pub mod StepLaws
pub mod PassLaws
pub mod MarkLaws
pub mod ClosingLaws
pub mod CostLaws
pub mod MemberLaws
