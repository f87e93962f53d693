pub mod Hands
pub mod Played
pub mod Playing
pub mod Reading
pub mod ScheduleText
pub mod Schedules
