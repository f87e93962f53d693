pub mod Running
pub mod FromRecoveryCore
