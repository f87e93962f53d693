pub mod EarlyWorlds
pub mod EarlyRuns
