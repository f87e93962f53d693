pub mod Released
pub mod FromEventReplies
pub mod FromSystemParts
