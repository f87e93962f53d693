pub mod RestingWorlds
pub mod HandSteps
pub mod HandEnds
pub mod Resuming
pub mod ImageTexts
pub mod FromRunCommand
