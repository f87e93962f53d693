pub mod Parts
pub mod Views
pub mod SystemStanding
pub mod Performing
pub mod Resting
pub mod FromEventReplies
pub mod FromMasterCore
pub mod FromReplayGuide
