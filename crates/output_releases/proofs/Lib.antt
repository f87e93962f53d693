pub mod OutputLists
pub mod ForgottenOutputs
pub mod ReleasedLists
pub mod Answering
pub mod QuietEvents
pub mod FromRecoveryLaws
pub mod FromSystemParts
