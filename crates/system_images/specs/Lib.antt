pub mod Judging
pub mod Building
pub mod FromCrashRecovery
