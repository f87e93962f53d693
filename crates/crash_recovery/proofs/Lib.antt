pub mod CrashLemmas
pub mod RecoveryLinks
pub mod RecoveryCounts
pub mod EarlierStamps
pub mod RecoverySent
pub mod RecoveryHeld
pub mod RecoveryWorlds
